-- What the forms of expressions do where their parts give the same: a name that is read or assigned keeps the names that are open.
use Rattle.std.specs.Prelude.{not, ◌&&◌}
use Rattle.std.proofs.Common.{◌≡◌, ℕ, refl, sym, ap, subst, subst₂, Bool, List, [], Option, Some, None, is_some, if◌then◌else◌}
use Rattle.sv_ast.specs.declared.operators.AssignOp.{AssignOp}
use Rattle.sv_ast.specs.declared.operators.AssignOp.TheVariants as assign
use Rattle.sv_base.specs.declared.span.Span.{Span}
use Rattle.sv_code.specs.declared.functions.TheConstants.{WRITABLE}
use Rattle.sv_code.specs.declared.known.BuiltIn.{BuiltIn}
use Rattle.sv_code.specs.declared.known.Known.{Known}
use Rattle.sv_code.specs.declared.known.Known.TheVariants as known
use Rattle.sv_code.specs.declared.known.Property.{Property}
use Rattle.sv_local.proofs.Lists.{Pairs}
use Rattle.sv_local.proofs.Names.{Fits}
use Rattle.sv_local.proofs.Outcomes.{Same, Alike, then_alike, done_alike, failed_alike, either_alike, counted_alike, kept_alike, doing_alike, answered_alike}
use Rattle.sv_local.proofs.Pieces.{CalleeAlike, ExprAlike, args_alike, built_alike, named_alike}
use Rattle.sv_meaning.specs.Calls.{Caller, call_value, first, is_on_list, is_on_text, is_on_store, on_list, on_text, on_store, make_store, make_derived}
use Rattle.sv_meaning.specs.Env.{Env, look, given_value}
use Rattle.sv_meaning.specs.Outcome.{Ends, Meaning, and_then, then_do, either, given}
use Rattle.sv_meaning.specs.Outcome.{answered}
use Rattle.sv_meaning.specs.Settling.{settled}
use Rattle.sv_meaning.specs.Sight.{Ground, cell_seen, may_change, read, local_set, cell_assigned, cell_put, put, set}
use Rattle.sv_meaning.specs.Values.{Callee, Plain, Lives, Stores, Derives, Converts, On, Expr, word_of, member_of, updated, assign_step, bump_step, life_call, convert, is_one, field_call, value_call, named_call, method_call, call_step}
use Rattle.sv_ops.specs.Answer.{function_made}
use Rattle.sv_ops.specs.Members.{or_undefined}
use Rattle.sv_ops.specs.Numbers.{bumped}
use Rattle.sv_ops.specs.Operators.{assigned}
use Rattle.sv_ops.specs.declared.faults.FaultKind.TheVariants.{NoMember, UseBeforeInit}
use Rattle.sv_states.specs.States.{is_derived}
use Rattle.sv_value.specs.Object.{get}
use Rattle.sv_value.specs.Value.{Val, undefined, null, boolean, number, text, list, object, function, store, items}
use Rattle.sv_world.specs.declared.world.World.{World}

module _ (E : Env → Env → Type 0) (fits : (x : ℕ) → Fits E x) (g : Ground) (call : Caller) (owner : ℕ) where
  -- ---- names

  pub read_alike : (x : Known) (s : Span) → Alike E (read g owner x s) (read g owner x s)
  read_alike (known.Local x) s = kept_alike (λ env env' w e. ap (λ o. given UseBeforeInit s o w) (sym ((fits x.0).looks env env' e)))
  read_alike (known.Cell n) s = kept_alike (λ env env' w e. refl)
  read_alike (known.Constant n) s = kept_alike (λ env env' w e. refl)
  read_alike (known.Export file n) s = kept_alike (λ env env' w e. refl)
  read_alike known.Writable s = answered_alike s (function_made WRITABLE 0 [])
  read_alike known.Derived s = done_alike undefined
  read_alike (known.Life l) s = done_alike undefined
  read_alike (known.BuiltIn b) s = done_alike undefined

  local_same : (o : Option Val) (x : ℕ) (u : Val) (s : Span) (env env' : Env) (w : World) → E env env' → look x env ≡ o → Same E (local_set o x u s env w) (local_set o x u s env' w)
  local_same None x u s env env' w e q = refl
  local_same (Some old) x u s env env' w e q = (given_value x u env', (fits x).sets env env' u old e q, refl)

  cell_same : (o : Option Val) (n : ℕ) (u : Val) (s : Span) → Alike E (cell_put o g owner n u s) (cell_put o g owner n u s)
  cell_same None n u s = failed_alike UseBeforeInit s
  cell_same (Some old) n u s = doing_alike (cell_assigned g.sight owner n u s)

  put_alike : (x : Known) (u : Val) (s : Span) → Alike E (put g owner x u s) (put g owner x u s)
  put_alike (known.Local x) u s =
      record { both = λ env env' w e. subst (λ o. Same E (local_set (look x.0 env) x.0 u s env w) (local_set o x.0 u s env' w)) ((fits x.0).looks env env' e) (local_same (look x.0 env) x.0 u s env env' w e refl) }
  put_alike (known.Cell n) u s = record { both = λ env env' w e. (cell_same (cell_seen g.sight g.is_own owner n w) n u s).both env env' w e }
  put_alike (known.Constant n) u s = done_alike u
  put_alike (known.Export file n) u s = done_alike u
  put_alike known.Writable u s = done_alike u
  put_alike known.Derived u s = done_alike u
  put_alike (known.Life l) u s = done_alike u
  put_alike (known.BuiltIn b) u s = done_alike u

  set_alike : (x : Known) (u : Val) (s : Span) → Alike E (set g call owner x u s) (set g call owner x u s)
  set_alike x u s = then_alike (put_alike x u s) (λ t. doing_alike (λ w'. then_do (if may_change g.sight x then settled call.derives w' else Ends tt w') (λ z. Ends t)))

  -- ---- assignments

  updated_alike : (x : Known) (at : Span) (o : AssignOp) (s : Span) (a : Val) {m m' : Meaning Val} → Alike E m m' → Alike E (updated g call owner x at o s a m) (updated g call owner x at o s a m')
  updated_alike x at o s a k = then_alike k (λ b. then_alike (answered_alike s (assigned o a b)) (λ u. set_alike x u at))

  changing_alike : (x : Known) (at : Span) (o : AssignOp) (s : Span) {m m' : Meaning Val} → Alike E m m'
      → Alike E (λ env w. and_then (read g owner x at env w) (λ a. updated g call owner x at o s a m)) (λ env w. and_then (read g owner x at env w) (λ a. updated g call owner x at o s a m'))
  changing_alike x at o s k = then_alike (read_alike x at) (λ a. updated_alike x at o s a k)

  pub assign_alike : (o : AssignOp) (x : Known) (at s : Span) {m m' : Meaning Val} → Alike E m m' → Alike E (assign_step o g call owner x at s m) (assign_step o g call owner x at s m')
  assign_alike assign.Set x at s k = then_alike k (λ u. set_alike x u at)
  assign_alike o x at s k = changing_alike x at o s k

  pub bump_alike : (x : Known) (at : Span) (up prefix : Bool) (s : Span) → Alike E (bump_step g call owner x at up prefix s) (bump_step g call owner x at up prefix s)
  bump_alike x at up prefix s =
      then_alike (read_alike x at) (λ a. then_alike (answered_alike s (bumped up a)) (λ u. then_alike (set_alike x u at) (λ t. done_alike (if prefix then u else a))))

  -- ---- calls

  value_call_alike : (u : Val) (q : Property) (s at : Span) (args args' : List Expr) → Pairs (ExprAlike E) args args' → Alike E (value_call g call u q s at args) (value_call g call u q s at args')
  value_call_alike u q s at args args' h = then_alike (answered_alike at (member_of q.method u (word_of g q))) (λ f. args_alike args args' (call_value call s f) h)

  method_alike : (q : Property) (s at : Span) (args args' : List Expr) → Pairs (ExprAlike E) args args' → (u : Val) → Alike E (method_call g call q s at args u) (method_call g call q s at args' u)
  method_alike q s at args args' h (object fs) = args_alike args args' (field_call (is_some g.sight) call s (or_undefined (get fs (word_of g q)))) h
  method_alike q s at args args' h (list vs) = either_alike (is_one is_on_list q.method) (named_alike q.method args args' (λ m. on_list m call s (items vs)) h) (value_call_alike (list vs) q s at args args' h)
  method_alike q s at args args' h (text t) = either_alike (is_one is_on_text q.method) (named_alike q.method args args' (λ m us. answered s (on_text m t us)) h) (value_call_alike (text t) q s at args args' h)
  method_alike q s at args args' h (store id) = record { both = λ env env' w e. (store_alike (is_one is_on_store q.method && not (is_derived w.states id))).both env env' w e } where
    store_alike : (b : Bool) → Alike E (either b (named_call q.method args (λ m. on_store m call s id)) (value_call g call (store id) q s at args)) (either b (named_call q.method args' (λ m. on_store m call s id)) (value_call g call (store id) q s at args'))
    store_alike b = either_alike b (named_alike q.method args args' (λ m. on_store m call s id) h) (value_call_alike (store id) q s at args args' h)
  method_alike q s at args args' h undefined = failed_alike NoMember at
  method_alike q s at args args' h null = failed_alike NoMember at
  method_alike q s at args args' h (boolean b) = failed_alike NoMember at
  method_alike q s at args args' h (number n) = failed_alike NoMember at
  method_alike q s at args args' h (function c o held) = failed_alike NoMember at

  -- what is called stands at the same place
  member_call_alike : (b : Option BuiltIn) (q : Property) (s at : Span) (m m' : Meaning Val) (of of' : Expr) (args args' : List Expr) → of.span ≡ at → of'.span ≡ at → Alike E m m' → Pairs (ExprAlike E) args args'
      → Alike E (call_step (On b m q) g call owner of args s) (call_step (On b m' q) g call owner of' args' s)
  member_call_alike (Some b) q s at m m' of of' args args' e e' k h =
      subst₂ (λ z z'. Alike E (call_step (On (Some b) m q) g call owner (record of { span = z }) args s) (call_step (On (Some b) m' q) g call owner (record of' { span = z' }) args' s)) (sym e) (sym e')
      (counted_alike at (then_alike k (λ u. built_alike b q.method s at args args' h)))
  member_call_alike None q s at m m' of of' args args' e e' k h =
      subst₂ (λ z z'. Alike E (call_step (On None m q) g call owner (record of { span = z }) args s) (call_step (On None m' q) g call owner (record of' { span = z' }) args' s)) (sym e) (sym e')
      (counted_alike at (then_alike k (method_alike q s at args args' h)))

  pub called_alike : (c c' : Callee) (of of' : Expr) (args args' : List Expr) (s : Span) → CalleeAlike E c c' → ExprAlike E of of' → Pairs (ExprAlike E) args args'
      → Alike E (call_step c g call owner of args s) (call_step c' g call owner of' args' s)
  called_alike Plain c' of of' args args' s c k h =
      subst (λ z. Alike E (call_step Plain g call owner of args s) (call_step z g call owner of' args' s)) (sym c) (then_alike k.means (λ f. args_alike args args' (call_value call s f) h))
  called_alike (Lives l) c' of of' args args' s c k h =
      subst (λ z. Alike E (call_step (Lives l) g call owner of args s) (call_step z g call owner of' args' s)) (sym c)
      (subst (λ z. Alike E (call_step (Lives l) g call owner of args s) (call_step (Lives l) g call owner (record of' { span = z }) args' s)) k.span (counted_alike of.span (args_alike args args' (life_call l owner s) h)))
  called_alike Stores c' of of' args args' s c k h =
      subst (λ z. Alike E (call_step Stores g call owner of args s) (call_step z g call owner of' args' s)) (sym c)
      (subst (λ z. Alike E (call_step Stores g call owner of args s) (call_step Stores g call owner (record of' { span = z }) args' s)) k.span (counted_alike of.span (args_alike args args' (λ vs. make_store (first vs)) h)))
  called_alike Derives c' of of' args args' s c k h =
      subst (λ z. Alike E (call_step Derives g call owner of args s) (call_step z g call owner of' args' s)) (sym c)
      (subst (λ z. Alike E (call_step Derives g call owner of args s) (call_step Derives g call owner (record of' { span = z }) args' s)) k.span (counted_alike of.span (args_alike args args' (make_derived g.program call owner s) h)))
  called_alike (Converts b) c' of of' args args' s c k h =
      subst (λ z. Alike E (call_step (Converts b) g call owner of args s) (call_step z g call owner of' args' s)) (sym c)
      (subst (λ z. Alike E (call_step (Converts b) g call owner of args s) (call_step (Converts b) g call owner (record of' { span = z }) args' s)) k.span
      (counted_alike of.span (args_alike args args' (λ vs. answered s (convert b (first vs))) h)))
  called_alike (On b m q) c' of of' args args' s c k h =
      subst (λ z. Alike E (call_step (On b m q) g call owner of args s) (call_step z g call owner of' args' s)) (sym c.2) (member_call_alike b q s of.span m c.0 of of' args args' refl (sym k.span) c.1 h)
