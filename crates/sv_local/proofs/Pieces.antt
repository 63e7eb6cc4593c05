-- What is made of the parts of an expression, where those are alike on two lists of open names.
use Rattle.std.proofs.Common.{◌≡◌, ℕ, refl, sym, subst, Bool, true, false, List, [], ◌∷◌, ◌++◌, map, Option, Some, None}
use Rattle.sv_ast.specs.declared.operators.Op.{Op}
use Rattle.sv_ast.specs.declared.operators.Op.TheVariants as op
use Rattle.sv_base.specs.declared.span.Span.{Span}
use Rattle.sv_code.specs.declared.known.BuiltIn.{BuiltIn}
use Rattle.sv_code.specs.declared.known.BuiltIn.TheVariants as built
use Rattle.sv_code.specs.declared.known.Known.{Known}
use Rattle.sv_code.specs.declared.known.Known.TheVariants as known
use Rattle.sv_code.specs.declared.known.Method.{Method}
use Rattle.sv_code.specs.declared.known.Method.TheVariants as method
use Rattle.sv_local.proofs.Lists.{Pairs}
use Rattle.sv_local.proofs.Outcomes.{Alike, then_alike, done_alike, failed_alike, either_alike, counted_alike, doing_alike, answered_alike}
use Rattle.sv_meaning.specs.Calls.{is_of_math, of_math, log}
use Rattle.sv_meaning.specs.Env.{Env}
use Rattle.sv_meaning.specs.Outcome.{Meaning, Deed, and_then, given, doing, answered}
use Rattle.sv_meaning.specs.Values.{Puts, Link, Callee, Plain, Lives, Stores, Derives, Converts, On, Ratio, Expr, plain, all_after, all_values, with_args, texts_after, template_step, parts_after, linked, chained, chain, dividing, last_division, rounds, divide, math_call, ratio_or, divided_or, built_call, named_call, callee_of}
use Rattle.sv_ops.specs.Answer.{spelled}
use Rattle.sv_ops.specs.Numbers.{quotient}
use Rattle.sv_ops.specs.Operators.{binary, stops}
use Rattle.sv_ops.specs.Texts.{between}
use Rattle.sv_ops.specs.declared.faults.FaultKind.TheVariants.{NoMember, NotText}
use Rattle.sv_value.specs.Value.{Val, undefined}
use Rattle.sv_value.specs.Words.{text_of}

module _ (E : Env → Env → Type 0) where
  abbrev pub PutsAlike : {A : Type 0} → Puts A → Puts A → Type 0
  PutsAlike {A = A} p p' = (s : Span) (made : List A) → Alike E (p s made) (p' s made)

  abbrev pub CalleeAlike : Callee → Callee → Type 0
  CalleeAlike Plain c' = c' ≡ Plain
  CalleeAlike (Lives l) c' = c' ≡ Lives l
  CalleeAlike Stores c' = c' ≡ Stores
  CalleeAlike Derives c' = c' ≡ Derives
  CalleeAlike (Converts b) c' = c' ≡ Converts b
  CalleeAlike (On b m p) c' = (m' : Meaning Val) × Alike E m m' × (c' ≡ On b m' p)

  pub record RatioAlike (r r' : Ratio) : Type 0 where
    pub top : Alike E r.top r'.top
    pub bottom : Alike E r.bottom r'.bottom

  abbrev pub RatiosAlike : Option Ratio → Option Ratio → Type 0
  RatiosAlike None o = o ≡ None
  RatiosAlike (Some r) o = (r' : Ratio) × RatioAlike r r' × (o ≡ Some r')

  pub record ExprAlike (e e' : Expr) : Type 0 where
    pub span : e.span ≡ e'.span
    pub means : Alike E e.means e'.means
    pub callee : CalleeAlike e.callee e'.callee
    pub built : e'.built ≡ e.built
    pub ratio : RatiosAlike e.ratio e'.ratio

  pub record LinkAlike (l l' : Link) : Type 0 where
    pub op : l.op ≡ l'.op
    pub right : Alike E l.right l'.right

module _ (E : Env → Env → Type 0) where
  pub pairs_means : (es es' : List Expr) → Pairs (ExprAlike E) es es' → Pairs (Alike E) (map (λ e. e.means) es) (map (λ e. e.means) es')
  pairs_means [] [] h = tt
  pairs_means (e ∷ es) (e' ∷ es') h = (h.0.means, pairs_means es es' h.1)
  pairs_means [] (e' ∷ es') h = absurd h
  pairs_means (e ∷ es) [] h = absurd h

  pub callee_same : (x : Known) → CalleeAlike E (callee_of x) (callee_of x)
  callee_same (known.Local x) = refl
  callee_same (known.Cell n) = refl
  callee_same (known.Constant n) = refl
  callee_same (known.Export file n) = refl
  callee_same (known.Life l) = refl
  callee_same known.Writable = refl
  callee_same known.Derived = refl
  callee_same (known.BuiltIn built.String) = refl
  callee_same (known.BuiltIn built.Boolean) = refl
  callee_same (known.BuiltIn built.Math) = refl
  callee_same (known.BuiltIn built.Console) = refl

module _ {E : Env → Env → Type 0} where
  -- ---- parts

  pub all_after_alike : (vs : List Val) (ms ms' : List (Meaning Val)) → Pairs (Alike E) ms ms' → Alike E (all_after vs ms) (all_after vs ms')
  all_after_alike vs [] [] h = done_alike vs
  all_after_alike vs (m ∷ ms) (m' ∷ ms') h = then_alike h.0 (λ v. all_after_alike (vs ++ v ∷ []) ms ms' h.1)
  all_after_alike vs [] (m' ∷ ms') h = absurd h
  all_after_alike vs (m ∷ ms) [] h = absurd h

  pub all_alike : (es es' : List Expr) → Pairs (ExprAlike E) es es' → Alike E (all_values es) (all_values es')
  all_alike es es' h = all_after_alike [] (map (λ e. e.means) es) (map (λ e. e.means) es') (pairs_means E es es' h)

  pub args_alike : (args args' : List Expr) (go : List Val → Deed Val) → Pairs (ExprAlike E) args args' → Alike E (with_args args go) (with_args args' go)
  args_alike args args' go h = then_alike (all_alike args args' h) (λ vs. doing_alike (go vs))

  pub texts_after_alike : (s : Span) (ts : List (List ℕ)) (ms ms' : List (Meaning Val)) → Pairs (Alike E) ms ms' → Alike E (texts_after s ts ms) (texts_after s ts ms')
  texts_after_alike s ts [] [] h = done_alike ts
  texts_after_alike s ts (m ∷ ms) (m' ∷ ms') h = then_alike h.0 (λ v. then_alike (doing_alike (given NotText s (text_of v))) (λ t. texts_after_alike s (ts ++ t ∷ []) ms ms' h.1))
  texts_after_alike s ts [] (m' ∷ ms') h = absurd h
  texts_after_alike s ts (m ∷ ms) [] h = absurd h

  pub template_alike : (s : Span) (es es' : List Expr) → Pairs (ExprAlike E) es es' → Alike E (template_step s es) (template_step s es')
  template_alike s es es' h = then_alike (texts_after_alike s [] (map (λ e. e.means) es) (map (λ e. e.means) es') (pairs_means E es es' h)) (λ ts. answered_alike s (spelled 0 (between [] ts)))

  pub parts_alike : {A : Type 0} (s : Span) (made : List A) (ps ps' : List (Puts A)) → Pairs (PutsAlike E) ps ps' → Alike E (parts_after s made ps) (parts_after s made ps')
  parts_alike s made [] [] h = done_alike made
  parts_alike s made (p ∷ ps) (p' ∷ ps') h = then_alike (h.0 s made) (λ made'. parts_alike s made' ps ps' h.1)
  parts_alike s made [] (p' ∷ ps') h = absurd h
  parts_alike s made (p ∷ ps) [] h = absurd h

  -- ---- chains

  pub linked_alike : (b : Bool) (l l' : Link) (s : Span) (v : Val) → LinkAlike E l l' → Alike E (linked b l s v) (linked b l' s v)
  linked_alike true l l' s v h = done_alike v
  linked_alike false l l' s v h =
      subst (λ o. Alike E (linked false l s v) (λ env w. and_then (l'.right env w) (λ u. doing (answered s (binary o v u))))) h.op (then_alike h.right (λ u. answered_alike s (binary l.op v u)))

  pub chained_alike : (s : Span) (v : Val) (ls ls' : List Link) → Pairs (LinkAlike E) ls ls' → Alike E (chained s v ls) (chained s v ls')
  chained_alike s v [] [] h = done_alike v
  chained_alike s v (l ∷ ls) (l' ∷ ls') h =
      then_alike (subst (λ o. Alike E (linked (stops l.op v) l s v) (linked (stops o v) l' s v)) h.0.op (linked_alike (stops l.op v) l l' s v h.0)) (λ u. chained_alike s u ls ls' h.1)
  chained_alike s v [] (l' ∷ ls') h = absurd h
  chained_alike s v (l ∷ ls) [] h = absurd h

  pub chain_alike : (s : Span) {m m' : Meaning Val} (ls ls' : List Link) → Alike E m m' → Pairs (LinkAlike E) ls ls' → Alike E (chain s m ls) (chain s m' ls')
  chain_alike s ls ls' k h = then_alike k (λ v. chained_alike s v ls ls' h)

  pub pairs_more : (ls ls' : List Link) (l l' : Link) → Pairs (LinkAlike E) ls ls' → LinkAlike E l l' → Pairs (LinkAlike E) (ls ++ l ∷ []) (ls' ++ l' ∷ [])
  pairs_more [] [] l l' h k = (k, tt)
  pairs_more (j ∷ ls) (j' ∷ ls') l l' h k = (h.0, pairs_more ls ls' l l' h.1 k)
  pairs_more [] (j' ∷ ls') l l' h k = absurd h
  pairs_more (j ∷ ls) [] l l' h k = absurd h

  pub dividing_alike : (o : Op) (r r' : Ratio) → RatioAlike E r r' → RatiosAlike E (dividing o r) (dividing o r')
  dividing_alike op.Div r r' h = (r', h, refl)
  dividing_alike _ r r' h = refl

  pub division_alike : (s : Span) (m m' : Meaning Val) (before before' ls ls' : List Link) → Alike E m m' → Pairs (LinkAlike E) before before' → Pairs (LinkAlike E) ls ls' → RatiosAlike E (last_division s m before ls) (last_division s m' before' ls')
  division_alike s m m' before before' [] [] k b h = refl
  division_alike s m m' before before' (l ∷ []) (l' ∷ []) k b h =
      subst (λ o. RatiosAlike E (last_division s m before (l ∷ [])) (dividing o (record { top = chain s m' before'; bottom = l'.right }))) h.0.op
      (dividing_alike l.op (record { top = chain s m before; bottom = l.right }) (record { top = chain s m' before'; bottom = l'.right }) (record { top = chain_alike s before before' k b; bottom = h.0.right }))
  division_alike s m m' before before' (l ∷ (j ∷ ls)) (l' ∷ (j' ∷ ls')) k b h = division_alike s m m' (before ++ l ∷ []) (before' ++ l' ∷ []) (j ∷ ls) (j' ∷ ls') k (pairs_more before before' l l' b h.0) h.1
  division_alike s m m' before before' [] (l' ∷ ls') k b h = absurd h
  division_alike s m m' before before' (l ∷ ls) [] k b h = absurd h
  division_alike s m m' before before' (l ∷ []) (l' ∷ (j' ∷ ls')) k b h = absurd h.1
  division_alike s m m' before before' (l ∷ (j ∷ ls)) (l' ∷ []) k b h = absurd h.1

  -- ---- calls of `Math` and `console`

  pub divide_alike : (truncates : Bool) (s at : Span) (r r' : Ratio) → RatioAlike E r r' → Alike E (divide truncates s at r) (divide truncates s at r')
  divide_alike truncates s at r r' h = counted_alike at (then_alike h.top (λ a. then_alike h.bottom (λ b. answered_alike s (quotient truncates a b))))

  pub math_alike : (m : Option Method) (s at : Span) (args args' : List Expr) → Pairs (ExprAlike E) args args' → Alike E (math_call m s at args) (math_call m s at args')
  math_alike (Some m) s at args args' h = either_alike (is_of_math m) (args_alike args args' (λ vs. answered s (of_math m vs)) h) (failed_alike NoMember at)
  math_alike None s at args args' h = failed_alike NoMember at

  pub ratio_alike : (o o' : Option Ratio) (truncates : Bool) (s at : Span) {other other' : Meaning Val} → RatiosAlike E o o' → Alike E other other' → Alike E (ratio_or o truncates s at other) (ratio_or o' truncates s at other')
  ratio_alike (Some r) o' truncates s at {other' = other'} h k = subst (λ z. Alike E (divide truncates s at r) (ratio_or z truncates s at other')) (sym h.2) (divide_alike truncates s at r h.0 h.1)
  ratio_alike None o' truncates s at {other = other} {other' = other'} h k = subst (λ z. Alike E other (ratio_or z truncates s at other')) (sym h) k

  pub divided_alike : (o : Option Bool) (m : Option Method) (s at : Span) (args args' : List Expr) → Pairs (ExprAlike E) args args' → Alike E (divided_or o m s at args) (divided_or o m s at args')
  divided_alike (Some truncates) m s at (e ∷ []) (e' ∷ []) h =
      subst (λ z. Alike E (divided_or (Some truncates) m s at (e ∷ [])) (ratio_or e'.ratio truncates s z (math_call m s at (e' ∷ [])))) h.0.span
      (ratio_alike e.ratio e'.ratio truncates s e.span h.0.ratio (math_alike m s at (e ∷ []) (e' ∷ []) h))
  divided_alike (Some truncates) m s at [] [] h = math_alike m s at [] [] h
  divided_alike (Some truncates) m s at (e ∷ (f ∷ es)) (e' ∷ (f' ∷ es')) h = math_alike m s at (e ∷ (f ∷ es)) (e' ∷ (f' ∷ es')) h
  divided_alike (Some truncates) m s at [] (e' ∷ es') h = absurd h
  divided_alike (Some truncates) m s at (e ∷ es) [] h = absurd h
  divided_alike (Some truncates) m s at (e ∷ []) (e' ∷ (f' ∷ es')) h = absurd h.1
  divided_alike (Some truncates) m s at (e ∷ (f ∷ es)) (e' ∷ []) h = absurd h.1
  divided_alike None m s at args args' h = math_alike m s at args args' h

  pub log_alike : (m : Option Method) (s at : Span) (args args' : List Expr) → Pairs (ExprAlike E) args args' → Alike E (built_call built.Console m s at args) (built_call built.Console m s at args')
  log_alike (Some method.Log) s at args args' h = args_alike args args' (log s) h
  log_alike None s at args args' h = failed_alike NoMember at
  log_alike (Some _) s at args args' h = failed_alike NoMember at

  pub built_alike : (b : BuiltIn) (m : Option Method) (s at : Span) (args args' : List Expr) → Pairs (ExprAlike E) args args' → Alike E (built_call b m s at args) (built_call b m s at args')
  built_alike built.Math m s at args args' h = divided_alike (rounds m) m s at args args' h
  built_alike built.Console m s at args args' h = log_alike m s at args args' h
  built_alike built.String m s at args args' h = failed_alike NoMember at
  built_alike built.Boolean m s at args args' h = failed_alike NoMember at

  pub named_alike : (o : Option Method) (args args' : List Expr) (go : Method → List Val → Deed Val) → Pairs (ExprAlike E) args args' → Alike E (named_call o args go) (named_call o args' go)
  named_alike None args args' go h = done_alike undefined
  named_alike (Some m) args args' go h = args_alike args args' (go m) h

  pub plain_alike : (s : Span) {m m' : Meaning Val} → Alike E m m' → ExprAlike E (plain s m) (plain s m')
  plain_alike s k = record { span = refl; means = k; callee = refl; built = refl; ratio = refl }
