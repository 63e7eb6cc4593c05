-- What stays true of the states while expressions are evaluated.
use Rattle.std.proofs.Common.{◌≡◌, ℕ, refl, sym, subst, Bool, true, false, List, [], ◌∷◌, ◌++◌, map, length, Option, Some, None, is_some, slice_get, if◌then◌else◌}
use Rattle.std.specs.Prelude.{not, ◌&&◌}
use Rattle.sv_ast.specs.declared.operators.AssignOp.{AssignOp}
use Rattle.sv_ast.specs.declared.operators.AssignOp.TheVariants as assign
use Rattle.sv_ast.specs.declared.operators.Op.{Op}
use Rattle.sv_ast.specs.declared.operators.Op.TheVariants as op
use Rattle.sv_base.specs.declared.span.Span.{Span}
use Rattle.sv_code.specs.declared.code.Code.{Code, Code-F, roll-Code, map-Code, fold-roll-Code, ind-Code}
use Rattle.sv_code.specs.declared.code.CodeField.{CodeField, CodeField-F, roll-CodeField, map-CodeField, fold-roll-CodeField}
use Rattle.sv_code.specs.declared.code.CodeItem.{CodeItem, CodeItem-F, roll-CodeItem, map-CodeItem, fold-roll-CodeItem}
use Rattle.sv_code.specs.declared.code.CodeKind.{CodeKind, CodeKind-F, roll-CodeKind, map-CodeKind, fold-roll-CodeKind}
use Rattle.sv_code.specs.declared.code.CodeLink.{CodeLink, CodeLink-F, roll-CodeLink, map-CodeLink, fold-roll-CodeLink}
use Rattle.sv_code.specs.declared.known.BuiltIn.{BuiltIn}
use Rattle.sv_code.specs.declared.known.BuiltIn.TheVariants as built
use Rattle.sv_code.specs.declared.known.Known.{Known}
use Rattle.sv_code.specs.declared.known.Known.TheVariants as known
use Rattle.sv_code.specs.declared.known.Life.{Life}
use Rattle.sv_code.specs.declared.known.Life.TheVariants as life
use Rattle.sv_code.specs.declared.known.Method.{Method}
use Rattle.sv_code.specs.declared.known.Method.TheVariants as method
use Rattle.sv_code.specs.declared.known.Property.{Property}
use Rattle.sv_code.specs.declared.program.Program.{Program}
use Rattle.sv_frame.proofs.Calls.{CallerKeeps, read_keeps, set_keeps, value_leaves, on_list_leaves, on_store_leaves, derived_leaves, make_leaves, log_leaves}
use Rattle.sv_frame.proofs.Outcomes.{Fact, Stays, Keeps, Leaves, if_left, then_keeps, done_keeps, failed_keeps, either_keeps, counted_keeps, ends_leaves, fails_leaves, given_leaves, spent_leaves, answered_leaves, doing_keeps, kept_keeps, answered_keeps}
use Rattle.sv_instance.specs.Callbacks.{with_callback}
use Rattle.sv_instance.specs.declared.callbacks.When.{When}
use Rattle.sv_instance.specs.declared.callbacks.When.TheVariants as when
use Rattle.sv_meaning.specs.Calls.{Caller, first, second, is_function, is_on_list, is_on_text, is_on_store, is_of_math, on_text, on_store, of_math}
use Rattle.sv_meaning.specs.Outcome.{Fails, Meaning, Deed, and_then, either}
use Rattle.sv_meaning.specs.Sight.{Ground, read}
use Rattle.sv_meaning.specs.Values.{Puts, Link, Callee, Plain, Lives, Stores, Derives, Converts, On, Ratio, Expr, plain, all_after, all_values, with_args, texts_after, template_step, word_of, member_of, put_all, put_one, item_step, field_step, parts_after, link_step, linked, chained, chain, dividing, last_division, arrow, updated, assign_step, bump_step, call_at, keyed, life_call, convert, rounds, is_one, divide, math_call, ratio_or, divided_or, built_call, field_call, value_call, named_call, method_call, call_step, callee_of, kind_step, code_step, expr_of, kind_of, item_of, field_of, link_of, value}
use Rattle.sv_ops.specs.Answer.{spelled, text_made, list_made, object_made, function_made}
use Rattle.sv_ops.specs.Members.{Spread, Takes, TakesNone, spread, spread_fields, or_undefined, index}
use Rattle.sv_ops.specs.Numbers.{bumped, negated, quotient}
use Rattle.sv_ops.specs.Operators.{binary, stops, assigned}
use Rattle.sv_ops.specs.Texts.{between}
use Rattle.sv_ops.specs.declared.faults.FaultKind.TheVariants.{NotAFunction, NoMember, NotText, BadKey}
use Rattle.sv_states.specs.States.{is_derived}
use Rattle.sv_value.specs.Change.{truthy}
use Rattle.sv_value.specs.Key.{key_of}
use Rattle.sv_value.specs.Object.{get}
use Rattle.sv_value.specs.Value.{Val, undefined, null, boolean, number, text, list, object, function, store, items}
use Rattle.sv_value.specs.Words.{text_of}
use Rattle.sv_value.specs.declared.key.Key.{Key}

-- a fact of each of some things
abbrev pub Each : {A : Type 0} → (A → Type 0) → List A → Type 0
Each Q [] = Unit {0}
Each Q (x ∷ xs) = Q x × Each Q xs

-- what is known of trees in a layer is known of what is made of them
pub each_made : {T M : Type 0} (made : T → M) (Q : M → Type 0) (xs : List ((x : T) × Q (made x))) → Each Q (map made (map (λ p. p.0) xs))
each_made made Q [] = tt
each_made made Q (x ∷ xs) = (x.1, each_made made Q xs)

-- a fact of what may be absent
abbrev pub Maybe : {A : Type 0} → (A → Type 0) → Option A → Type 0
Maybe Q None = Unit {0}
Maybe Q (Some x) = Q x

module _ (P : Fact) where
  abbrev pub PutsKeep : {A : Type 0} → Puts A → Type 0
  PutsKeep {A = A} p = (s : Span) (made : List A) → Keeps P (p s made)

  abbrev pub CalleeKeeps : Callee → Type 0
  CalleeKeeps (On b m p) = Keeps P m
  CalleeKeeps _ = Unit {0}

  abbrev pub RatioKeeps : Ratio → Type 0
  RatioKeeps r = Keeps P r.top × Keeps P r.bottom

  pub record ExprKeeps (e : Expr) : Type 0 where
    pub means : Keeps P e.means
    pub callee : CalleeKeeps e.callee
    pub ratio : Maybe RatioKeeps e.ratio

  abbrev pub LinkKeeps : Link → Type 0
  LinkKeeps l = Keeps P l.right

module _ {p : Program} {P : Fact} (stays : Stays p P) where
  -- ---- parts

  all_after_keep : (vs : List Val) (ms : List (Meaning Val)) → Each (Keeps P) ms → Keeps P (all_after vs ms)
  all_after_keep vs [] h = done_keeps vs
  all_after_keep vs (m ∷ ms) h = then_keeps h.0 (λ v. all_after_keep (vs ++ v ∷ []) ms h.1)

  each_means : (es : List Expr) → Each (ExprKeeps P) es → Each (Keeps P) (map (λ e. e.means) es)
  each_means [] h = tt
  each_means (e ∷ es) h = (h.0.means, each_means es h.1)

  all_keep : (es : List Expr) → Each (ExprKeeps P) es → Keeps P (all_values es)
  all_keep es h = all_after_keep [] (map (λ e. e.means) es) (each_means es h)

  args_keep : (args : List Expr) {go : List Val → Deed Val} → Each (ExprKeeps P) args → ((vs : List Val) → Leaves P (go vs)) → Keeps P (with_args args go)
  args_keep args h k = then_keeps (all_keep args h) (λ vs. doing_keeps (k vs))

  texts_after_keep : (s : Span) (ts : List (List ℕ)) (ms : List (Meaning Val)) → Each (Keeps P) ms → Keeps P (texts_after s ts ms)
  texts_after_keep s ts [] h = done_keeps ts
  texts_after_keep s ts (m ∷ ms) h = then_keeps h.0 (λ v. then_keeps (doing_keeps (given_leaves NotText s (text_of v))) (λ t. texts_after_keep s (ts ++ t ∷ []) ms h.1))

  template_keeps : (s : Span) (es : List Expr) → Each (ExprKeeps P) es → Keeps P (template_step s es)
  template_keeps s es h = then_keeps (texts_after_keep s [] (map (λ e. e.means) es) (each_means es h)) (λ ts. answered_keeps s (spelled 0 (between [] ts)))

  put_all_leaves : {A : Type 0} (x : Spread A) (s : Span) (made : List A) → Leaves P (put_all x s made)
  put_all_leaves (Takes xs) s made = spent_leaves (length xs) s (ends_leaves (made ++ xs))
  put_all_leaves (TakesNone k) s made = fails_leaves k s

  put_one_leaves : {A : Type 0} (s : Span) (made : List A) (x : A) → Leaves P (put_one s made x)
  put_one_leaves s made x = spent_leaves 1 s (ends_leaves (made ++ x ∷ []))

  parts_keep : {A : Type 0} (s : Span) (made : List A) (ps : List (Puts A)) → Each (PutsKeep P) ps → Keeps P (parts_after s made ps)
  parts_keep s made [] h = done_keeps made
  parts_keep s made (p ∷ ps) h = then_keeps (h.0 s made) (λ made'. parts_keep s made' ps h.1)

  -- ---- chains

  linked_keeps : (b : Bool) (l : Link) (s : Span) (v : Val) → LinkKeeps P l → Keeps P (linked b l s v)
  linked_keeps true l s v h = done_keeps v
  linked_keeps false l s v h = then_keeps h (λ u. answered_keeps s (binary l.op v u))

  chained_keeps : (s : Span) (v : Val) (ls : List Link) → Each (LinkKeeps P) ls → Keeps P (chained s v ls)
  chained_keeps s v [] h = done_keeps v
  chained_keeps s v (l ∷ ls) h = then_keeps (linked_keeps (stops l.op v) l s v h.0) (λ u. chained_keeps s u ls h.1)

  chain_keeps : (s : Span) {m : Meaning Val} (ls : List Link) → Keeps P m → Each (LinkKeeps P) ls → Keeps P (chain s m ls)
  chain_keeps s ls k h = then_keeps k (λ v. chained_keeps s v ls h)

  each_more : {A : Type 0} (Q : A → Type 0) (xs : List A) (x : A) → Each Q xs → Q x → Each Q (xs ++ x ∷ [])
  each_more Q [] x h k = (k, tt)
  each_more Q (y ∷ xs) x h k = (h.0, each_more Q xs x h.1 k)

  dividing_keeps : (o : Op) (r : Ratio) → RatioKeeps P r → Maybe (RatioKeeps P) (dividing o r)
  dividing_keeps op.Div r h = h
  dividing_keeps _ r h = tt

  division_keeps : (s : Span) (m : Meaning Val) (before ls : List Link) → Keeps P m → Each (LinkKeeps P) before → Each (LinkKeeps P) ls → Maybe (RatioKeeps P) (last_division s m before ls)
  division_keeps s m before [] k b h = tt
  division_keeps s m before (l ∷ []) k b h = dividing_keeps l.op (record { top = chain s m before; bottom = l.right }) (chain_keeps s before k b, h.0)
  division_keeps s m before (l ∷ (j ∷ ls)) k b h = division_keeps s m (before ++ l ∷ []) (j ∷ ls) k (each_more (LinkKeeps P) before l b h.0) h.1

  -- ---- assignments

  module _ (g : Ground) (call : Caller) (calls : CallerKeeps p P call) where
    updated_keeps : (owner : ℕ) (x : Known) (at : Span) (o : AssignOp) (s : Span) (a : Val) {m : Meaning Val} → Keeps P m → Keeps P (updated g call owner x at o s a m)
    updated_keeps owner x at o s a k = then_keeps k (λ b. then_keeps (answered_keeps s (assigned o a b)) (λ v. set_keeps stays call calls g owner x v at))

    changing_keeps : (owner : ℕ) (x : Known) (at : Span) (o : AssignOp) (s : Span) {m : Meaning Val} → Keeps P m → Keeps P (λ env w. and_then (read g owner x at env w) (λ a. updated g call owner x at o s a m))
    changing_keeps owner x at o s k = then_keeps (read_keeps stays g owner x at) (λ a. updated_keeps owner x at o s a k)

    assign_keeps : (o : AssignOp) (owner : ℕ) (x : Known) (at s : Span) {m : Meaning Val} → Keeps P m → Keeps P (assign_step o g call owner x at s m)
    assign_keeps assign.Set owner x at s k = then_keeps k (λ v. set_keeps stays call calls g owner x v at)
    assign_keeps o owner x at s k = changing_keeps owner x at o s k

    bump_keeps : (owner : ℕ) (x : Known) (at : Span) (up prefix : Bool) (s : Span) → Keeps P (bump_step g call owner x at up prefix s)
    bump_keeps owner x at up prefix s =
        then_keeps (read_keeps stays g owner x at) (λ a. then_keeps (answered_keeps s (bumped up a)) (λ v. then_keeps (set_keeps stays call calls g owner x v at) (λ u. done_keeps (if prefix then v else a))))

  -- ---- what `svelte` gives

  at_leaves : (at : When) (owner : ℕ) (s : Span) (f : Val) → Leaves P (call_at at owner s f)
  at_leaves at owner s f = record { held = λ w h. if_left P (is_function f) _ (Fails NotAFunction s w) (stays.left w.modules w.states (λ u. record u { callbacks = with_callback at f u.callbacks }) owner (λ u. refl) h) (P.weaker w.modules w.states h) }

  keyed_leaves : (o : Option Key) (s : Span) {go : Key → Deed Val} → ((k : Key) → Leaves P (go k)) → Leaves P (keyed o s go)
  keyed_leaves None s k = fails_leaves BadKey s
  keyed_leaves (Some x) s k = k x

  life_leaves : (l : Life) (owner : ℕ) (s : Span) (args : List Val) → Leaves P (life_call l owner s args)
  life_leaves life.OnMount owner s args = at_leaves when.Mount owner s (first args)
  life_leaves life.BeforeUpdate owner s args = at_leaves when.Before owner s (first args)
  life_leaves life.AfterUpdate owner s args = at_leaves when.After owner s (first args)
  life_leaves life.OnDestroy owner s args = at_leaves when.Destroy owner s (first args)
  life_leaves life.SetContext owner s args = keyed_leaves (key_of (first args)) s (λ k. record { held = λ w h. stays.left w.modules w.states (λ u. record u { contexts = record { key = k; value = second args } ∷ u.contexts }) owner (λ u. refl) h })
  life_leaves life.GetContext owner s args = keyed_leaves (key_of (first args)) s (λ k. record { held = λ w h. h })
  life_leaves life.CreateEventDispatcher owner s args = ends_leaves undefined

  -- ---- calls of members

  divide_keeps : (truncates : Bool) (s at : Span) (r : Ratio) → RatioKeeps P r → Keeps P (divide truncates s at r)
  divide_keeps truncates s at r h = counted_keeps at (then_keeps h.0 (λ a. then_keeps h.1 (λ b. answered_keeps s (quotient truncates a b))))

  math_keeps : (m : Option Method) (s at : Span) (args : List Expr) → Each (ExprKeeps P) args → Keeps P (math_call m s at args)
  math_keeps (Some m) s at args h = either_keeps (is_of_math m) (args_keep args h (λ vs. answered_leaves s (of_math m vs))) (failed_keeps NoMember at)
  math_keeps None s at args h = failed_keeps NoMember at

  ratio_keeps : (o : Option Ratio) (truncates : Bool) (s at : Span) {other : Meaning Val} → Maybe (RatioKeeps P) o → Keeps P other → Keeps P (ratio_or o truncates s at other)
  ratio_keeps (Some r) truncates s at h k = divide_keeps truncates s at r h
  ratio_keeps None truncates s at h k = k

  divided_keeps : (o : Option Bool) (m : Option Method) (s at : Span) (args : List Expr) → Each (ExprKeeps P) args → Keeps P (divided_or o m s at args)
  divided_keeps (Some truncates) m s at (e ∷ []) h = ratio_keeps e.ratio truncates s e.span h.0.ratio (math_keeps m s at (e ∷ []) h)
  divided_keeps (Some truncates) m s at [] h = math_keeps m s at [] h
  divided_keeps (Some truncates) m s at (e ∷ (f ∷ es)) h = math_keeps m s at (e ∷ (f ∷ es)) h
  divided_keeps None m s at args h = math_keeps m s at args h

  log_keeps : (m : Option Method) (s at : Span) (args : List Expr) → Each (ExprKeeps P) args → Keeps P (built_call built.Console m s at args)
  log_keeps (Some method.Log) s at args h = args_keep args h (log_leaves stays s)
  log_keeps None s at args h = failed_keeps NoMember at
  log_keeps (Some _) s at args h = failed_keeps NoMember at

  built_keeps : (b : BuiltIn) (m : Option Method) (s at : Span) (args : List Expr) → Each (ExprKeeps P) args → Keeps P (built_call b m s at args)
  built_keeps built.Math m s at args h = divided_keeps (rounds m) m s at args h
  built_keeps built.Console m s at args h = log_keeps m s at args h
  built_keeps built.String m s at args h = failed_keeps NoMember at
  built_keeps built.Boolean m s at args h = failed_keeps NoMember at

  named_keeps : (o : Option Method) (args : List Expr) {go : Method → List Val → Deed Val} → Each (ExprKeeps P) args → ((m : Method) (vs : List Val) → Leaves P (go m vs)) → Keeps P (named_call o args go)
  named_keeps None args h k = done_keeps undefined
  named_keeps (Some m) args h k = args_keep args h (k m)

  module _ (g : Ground) (call : Caller) (calls : CallerKeeps p P call) where
    field_leaves : (b : Bool) (s : Span) (f : Val) (vs : List Val) → Leaves P (field_call b call s f vs)
    field_leaves true s f vs = fails_leaves NotAFunction s
    field_leaves false s f vs = value_leaves stays call calls s f vs

    value_call_keeps : (v : Val) (p : Property) (s at : Span) (args : List Expr) → Each (ExprKeeps P) args → Keeps P (value_call g call v p s at args)
    value_call_keeps v p s at args h = then_keeps (answered_keeps at (member_of p.method v (word_of g p))) (λ f. args_keep args h (value_leaves stays call calls s f))

    method_keeps : (p : Property) (s at : Span) (args : List Expr) → Each (ExprKeeps P) args → (v : Val) → Keeps P (method_call g call p s at args v)
    method_keeps p s at args h (object fs) = args_keep args h (field_leaves (is_some g.sight) s (or_undefined (get fs (word_of g p))))
    method_keeps p s at args h (list vs) = either_keeps (is_one is_on_list p.method) (named_keeps p.method args h (λ m. on_list_leaves stays call calls m s (items vs))) (value_call_keeps (list vs) p s at args h)
    method_keeps p s at args h (text t) = either_keeps (is_one is_on_text p.method) (named_keeps p.method args h (λ m us. answered_leaves s (on_text m t us))) (value_call_keeps (text t) p s at args h)
    method_keeps p s at args h (store id) = record { held = λ env w k. (store_keeps (is_one is_on_store p.method && not (is_derived w.states id))).held env w k } where
      store_keeps : (b : Bool) → Keeps P (either b (named_call p.method args (λ m. on_store m call s id)) (value_call g call (store id) p s at args))
      store_keeps b = either_keeps b (named_keeps p.method args h (λ m. on_store_leaves stays call calls m s id)) (value_call_keeps (store id) p s at args h)
    method_keeps p s at args h undefined = failed_keeps NoMember at
    method_keeps p s at args h null = failed_keeps NoMember at
    method_keeps p s at args h (boolean b) = failed_keeps NoMember at
    method_keeps p s at args h (number n) = failed_keeps NoMember at
    method_keeps p s at args h (function c o held) = failed_keeps NoMember at

    called_keeps : (c : Callee) (owner : ℕ) (of : Expr) (args : List Expr) (s : Span) → CalleeKeeps P c → ExprKeeps P of → Each (ExprKeeps P) args → Keeps P (call_step c g call owner of args s)
    called_keeps Plain owner of args s c k h = then_keeps k.means (λ f. args_keep args h (value_leaves stays call calls s f))
    called_keeps (Lives l) owner of args s c k h = counted_keeps of.span (args_keep args h (life_leaves l owner s))
    called_keeps Stores owner of args s c k h = counted_keeps of.span (args_keep args h (λ vs. make_leaves stays (first vs)))
    called_keeps Derives owner of args s c k h = counted_keeps of.span (args_keep args h (derived_leaves stays call calls g.program owner s))
    called_keeps (Converts b) owner of args s c k h = counted_keeps of.span (args_keep args h (λ vs. answered_leaves s (convert b (first vs))))
    called_keeps (On (Some b) m p) owner of args s c k h = counted_keeps of.span (then_keeps c (λ v. built_keeps b p.method s of.span args h))
    called_keeps (On None m p) owner of args s c k h = counted_keeps of.span (then_keeps c (method_keeps p s of.span args h))

    -- ---- each form

    callee_keeps : (x : Known) → CalleeKeeps P (callee_of x)
    callee_keeps (known.Local x) = tt
    callee_keeps (known.Cell n) = tt
    callee_keeps (known.Constant n) = tt
    callee_keeps (known.Export file n) = tt
    callee_keeps (known.Life l) = tt
    callee_keeps known.Writable = tt
    callee_keeps known.Derived = tt
    callee_keeps (known.BuiltIn built.String) = tt
    callee_keeps (known.BuiltIn built.Boolean) = tt
    callee_keeps (known.BuiltIn built.Math) = tt
    callee_keeps (known.BuiltIn built.Console) = tt

    plain_keeps : (s : Span) {m : Meaning Val} → Keeps P m → ExprKeeps P (plain s m)
    plain_keeps s k = record { means = k; callee = tt; ratio = tt }

    module _ (owner : ℕ) where
      -- ---- trees, with what is known of each

      abbrev CodeKeeps : Code → Type 0
      CodeKeeps x = ExprKeeps P (expr_of g call owner x)

      abbrev KnownCode : Type 0
      KnownCode = (x : Code) × CodeKeeps x

      abbrev KindKeeps : CodeKind → Type 0
      KindKeeps x = (s : Span) → ExprKeeps P (kind_of g call owner x s)

      abbrev KnownKind : Type 0
      KnownKind = (x : CodeKind) × KindKeeps x

      abbrev ItemKeeps : CodeItem → Type 0
      ItemKeeps x = PutsKeep P (item_of g call owner x)

      abbrev KnownItem : Type 0
      KnownItem = (x : CodeItem) × ItemKeeps x

      abbrev FieldKeeps : CodeField → Type 0
      FieldKeeps x = PutsKeep P (field_of g call owner x)

      abbrev KnownField : Type 0
      KnownField = (x : CodeField) × FieldKeeps x

      abbrev RightKeeps : CodeLink → Type 0
      RightKeeps x = LinkKeeps P (link_of g call owner x)

      abbrev KnownLink : Type 0
      KnownLink = (x : CodeLink) × RightKeeps x

      abbrev Fields : Type 0
      Fields = Puts (List ℕ × Val)

      abbrev Items : Type 0
      Items = Puts Val

      abbrev Kinds : Type 0
      Kinds = Span → Expr

      -- ---- a layer of a tree

      abbrev bare_kind : CodeKind-F KnownField KnownItem KnownKind KnownCode KnownLink → CodeKind-F CodeField CodeItem CodeKind Code CodeLink
      bare_kind = map-CodeKind KnownField KnownItem KnownKind KnownCode KnownLink CodeField CodeItem CodeKind Code CodeLink (λ p. p.0) (λ p. p.0) (λ p. p.0) (λ p. p.0) (λ p. p.0)

      abbrev made_kind : CodeKind-F CodeField CodeItem CodeKind Code CodeLink → CodeKind-F Fields Items Kinds Expr Link
      made_kind = map-CodeKind CodeField CodeItem CodeKind Code CodeLink Fields Items Kinds Expr Link (field_of g call owner) (item_of g call owner) (kind_of g call owner) (expr_of g call owner) (link_of g call owner)

      abbrev bare_code : Code-F KnownField KnownItem KnownKind KnownCode KnownLink → Code-F CodeField CodeItem CodeKind Code CodeLink
      bare_code = map-Code KnownField KnownItem KnownKind KnownCode KnownLink CodeField CodeItem CodeKind Code CodeLink (λ p. p.0) (λ p. p.0) (λ p. p.0) (λ p. p.0) (λ p. p.0)

      abbrev made_code : Code-F CodeField CodeItem CodeKind Code CodeLink → Code-F Fields Items Kinds Expr Link
      made_code = map-Code CodeField CodeItem CodeKind Code CodeLink Fields Items Kinds Expr Link (field_of g call owner) (item_of g call owner) (kind_of g call owner) (expr_of g call owner) (link_of g call owner)

      abbrev bare_item : CodeItem-F KnownField KnownItem KnownKind KnownCode KnownLink → CodeItem-F CodeField CodeItem CodeKind Code CodeLink
      bare_item = map-CodeItem KnownField KnownItem KnownKind KnownCode KnownLink CodeField CodeItem CodeKind Code CodeLink (λ p. p.0) (λ p. p.0) (λ p. p.0) (λ p. p.0) (λ p. p.0)

      abbrev made_item : CodeItem-F CodeField CodeItem CodeKind Code CodeLink → CodeItem-F Fields Items Kinds Expr Link
      made_item = map-CodeItem CodeField CodeItem CodeKind Code CodeLink Fields Items Kinds Expr Link (field_of g call owner) (item_of g call owner) (kind_of g call owner) (expr_of g call owner) (link_of g call owner)

      abbrev bare_field : CodeField-F KnownField KnownItem KnownKind KnownCode KnownLink → CodeField-F CodeField CodeItem CodeKind Code CodeLink
      bare_field = map-CodeField KnownField KnownItem KnownKind KnownCode KnownLink CodeField CodeItem CodeKind Code CodeLink (λ p. p.0) (λ p. p.0) (λ p. p.0) (λ p. p.0) (λ p. p.0)

      abbrev made_field : CodeField-F CodeField CodeItem CodeKind Code CodeLink → CodeField-F Fields Items Kinds Expr Link
      made_field = map-CodeField CodeField CodeItem CodeKind Code CodeLink Fields Items Kinds Expr Link (field_of g call owner) (item_of g call owner) (kind_of g call owner) (expr_of g call owner) (link_of g call owner)

      abbrev bare_link : CodeLink-F KnownField KnownItem KnownKind KnownCode KnownLink → CodeLink-F CodeField CodeItem CodeKind Code CodeLink
      bare_link = map-CodeLink KnownField KnownItem KnownKind KnownCode KnownLink CodeField CodeItem CodeKind Code CodeLink (λ p. p.0) (λ p. p.0) (λ p. p.0) (λ p. p.0) (λ p. p.0)

      abbrev made_link : CodeLink-F CodeField CodeItem CodeKind Code CodeLink → CodeLink-F Fields Items Kinds Expr Link
      made_link = map-CodeLink CodeField CodeItem CodeKind Code CodeLink Fields Items Kinds Expr Link (field_of g call owner) (item_of g call owner) (kind_of g call owner) (expr_of g call owner) (link_of g call owner)

      kind_keeps : (y : CodeKind-F KnownField KnownItem KnownKind KnownCode KnownLink) (s : Span) → ExprKeeps P (kind_step g call owner (made_kind (bare_kind y)) s)
      kind_keeps CodeKind-F.Undefined s = plain_keeps s (done_keeps undefined)
      kind_keeps CodeKind-F.Null s = plain_keeps s (done_keeps null)
      kind_keeps (CodeKind-F.Bool b) s = plain_keeps s (done_keeps (boolean b))
      kind_keeps (CodeKind-F.Num n) s = plain_keeps s (done_keeps (number n))
      kind_keeps (CodeKind-F.Text t) s = plain_keeps s (answered_keeps s (text_made t))
      kind_keeps (CodeKind-F.Read x) s = record { means = read_keeps stays g owner x s; callee = callee_keeps x; ratio = tt }
      kind_keeps (CodeKind-F.List ps) s = plain_keeps s (then_keeps (parts_keep s [] _ (each_made (item_of g call owner) (PutsKeep P) ps)) (λ vs. answered_keeps s (list_made vs)))
      kind_keeps (CodeKind-F.Object ps) s = plain_keeps s (then_keeps (parts_keep s [] _ (each_made (field_of g call owner) (PutsKeep P) ps)) (λ es. answered_keeps s (object_made es)))
      kind_keeps (CodeKind-F.Template es) s = plain_keeps s (template_keeps s _ (each_made (expr_of g call owner) (ExprKeeps P) es))
      kind_keeps (CodeKind-F.Arrow c) s = plain_keeps s (kept_keeps (λ env. answered_leaves s (arrow (slice_get g.program.functions c) c owner env)))
      kind_keeps (CodeKind-F.Assign x at o e) s = plain_keeps s (assign_keeps g call calls o owner x at s e.1.means)
      kind_keeps (CodeKind-F.Bump x at up prefix) s = plain_keeps s (bump_keeps g call calls owner x at up prefix s)
      kind_keeps (CodeKind-F.Chain e ls) s =
          let h : Each (LinkKeeps P) (map (link_of g call owner) (map (λ p. p.0) ls)) = each_made (link_of g call owner) (LinkKeeps P) ls in
          record { means = chain_keeps s _ e.1.means h; callee = tt; ratio = division_keeps s _ [] _ e.1.means tt h }
      kind_keeps (CodeKind-F.Not e) s = plain_keeps s (then_keeps e.1.means (λ v. done_keeps _))
      kind_keeps (CodeKind-F.Minus e) s = plain_keeps s (then_keeps e.1.means (λ v. answered_keeps s (negated v)))
      kind_keeps (CodeKind-F.Choose test first second) s = plain_keeps s (then_keeps test.1.means (λ v. either_keeps (truthy v) first.1.means second.1.means))
      kind_keeps (CodeKind-F.Member e p) s = record { means = then_keeps e.1.means (λ v. answered_keeps s (member_of p.method v (word_of g p))); callee = e.1.means; ratio = tt }
      kind_keeps (CodeKind-F.Index e at) s = plain_keeps s (then_keeps e.1.means (λ v. then_keeps at.1.means (λ k. answered_keeps s (index v k))))
      kind_keeps (CodeKind-F.Call e args) s = plain_keeps s (called_keeps _ owner _ _ s e.1.callee e.1 (each_made (expr_of g call owner) (ExprKeeps P) args))
      kind_keeps (CodeKind-F.Dispatcher c at args) s = plain_keeps s (counted_keeps at (args_keep _ (each_made (expr_of g call owner) (ExprKeeps P) args) (λ vs. answered_leaves s (function_made c owner []))))

      code_keeps : (y : Code-F KnownField KnownItem KnownKind KnownCode KnownLink) → ExprKeeps P (code_step g call owner (made_code (bare_code y)))
      code_keeps y = let k : ExprKeeps P (kind_of g call owner y.kind.0 y.span) = y.kind.1 y.span in record { means = counted_keeps y.span k.means; callee = k.callee; ratio = k.ratio }

      item_keeps : (y : CodeItem-F KnownField KnownItem KnownKind KnownCode KnownLink) → PutsKeep P (item_step (made_item (bare_item y)))
      item_keeps (CodeItem-F.One e) s made = then_keeps e.1.means (λ v. doing_keeps (put_one_leaves s made v))
      item_keeps (CodeItem-F.«CodeItem::Spread» e) s made = then_keeps e.1.means (λ v. doing_keeps (put_all_leaves (spread v) _ made))

      field_keeps : (y : CodeField-F KnownField KnownItem KnownKind KnownCode KnownLink) → PutsKeep P (field_step (made_field (bare_field y)))
      field_keeps (CodeField-F.Pair key e) s made = then_keeps e.1.means (λ v. doing_keeps (put_one_leaves s made (key, v)))
      field_keeps (CodeField-F.«CodeField::Spread» e) s made = then_keeps e.1.means (λ v. doing_keeps (put_all_leaves (spread_fields v) _ made))

      link_keeps : (y : CodeLink-F KnownField KnownItem KnownKind KnownCode KnownLink) → LinkKeeps P (link_step (made_link (bare_link y)))
      link_keeps y = y.right.1.means

      -- ---- whole trees

      field_whole : (x : CodeField-F CodeField CodeItem CodeKind Code CodeLink) (y : CodeField-F KnownField KnownItem KnownKind KnownCode KnownLink) → bare_field y ≡ x → FieldKeeps (roll-CodeField x)
      field_whole x y e = subst (λ m. PutsKeep P m) (sym (fold-roll-CodeField Fields Items Kinds Expr Link field_step item_step (kind_step g call owner) (code_step g call owner) link_step x)) (subst (λ z. PutsKeep P (field_step (made_field z))) e (field_keeps y))

      item_whole : (x : CodeItem-F CodeField CodeItem CodeKind Code CodeLink) (y : CodeItem-F KnownField KnownItem KnownKind KnownCode KnownLink) → bare_item y ≡ x → ItemKeeps (roll-CodeItem x)
      item_whole x y e = subst (λ m. PutsKeep P m) (sym (fold-roll-CodeItem Fields Items Kinds Expr Link field_step item_step (kind_step g call owner) (code_step g call owner) link_step x)) (subst (λ z. PutsKeep P (item_step (made_item z))) e (item_keeps y))

      kind_whole : (x : CodeKind-F CodeField CodeItem CodeKind Code CodeLink) (y : CodeKind-F KnownField KnownItem KnownKind KnownCode KnownLink) → bare_kind y ≡ x → KindKeeps (roll-CodeKind x)
      kind_whole x y e = subst (λ m. (s : Span) → ExprKeeps P (m s)) (sym (fold-roll-CodeKind Fields Items Kinds Expr Link field_step item_step (kind_step g call owner) (code_step g call owner) link_step x)) (subst (λ z. (s : Span) → ExprKeeps P (kind_step g call owner (made_kind z) s)) e (kind_keeps y))

      code_whole : (x : Code-F CodeField CodeItem CodeKind Code CodeLink) (y : Code-F KnownField KnownItem KnownKind KnownCode KnownLink) → bare_code y ≡ x → CodeKeeps (roll-Code x)
      code_whole x y e = subst (ExprKeeps P) (sym (fold-roll-Code Fields Items Kinds Expr Link field_step item_step (kind_step g call owner) (code_step g call owner) link_step x)) (subst (λ z. ExprKeeps P (code_step g call owner (made_code z))) e (code_keeps y))

      link_whole : (x : CodeLink-F CodeField CodeItem CodeKind Code CodeLink) (y : CodeLink-F KnownField KnownItem KnownKind KnownCode KnownLink) → bare_link y ≡ x → RightKeeps (roll-CodeLink x)
      link_whole x y e = subst (LinkKeeps P) (sym (fold-roll-CodeLink Fields Items Kinds Expr Link field_step item_step (kind_step g call owner) (code_step g call owner) link_step x)) (subst (λ z. LinkKeeps P (link_step (made_link z))) e (link_keeps y))

      -- an expression keeps it true
      pub expr_keeps : (c : Code) → Keeps P (value g call owner c)
      expr_keeps c = (ind-Code FieldKeeps ItemKeeps KindKeeps CodeKeeps RightKeeps field_whole item_whole kind_whole code_whole link_whole c).means
