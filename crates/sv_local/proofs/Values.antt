-- What expressions give on two views that are alike at the names that they read.
use Rattle.std.specs.Prelude.{not, ◌&&◌}
use Rattle.std.proofs.Common.{◌≡◌, ℕ, refl, sym, ap, ap₂, subst, subst₂, Bool, List, [], ◌∷◌, ◌++◌, map, Option, Some, None, is_some, option_and_then, nat_eq, slice_get, if◌then◌else◌}
use mathlib.Core.Path.{fun_ext}
use Rattle.sv_ast.specs.declared.operators.AssignOp.{AssignOp}
use Rattle.sv_ast.specs.declared.operators.AssignOp.TheVariants as assign
use Rattle.sv_base.specs.declared.names.Name.{Name}
use Rattle.sv_base.specs.declared.span.Span.{Span}
use Rattle.sv_code.specs.declared.code.Code.{Code, Code-F, roll-Code, map-Code, fold-roll-Code, ind-Code}
use Rattle.sv_code.specs.declared.code.CodeField.{CodeField, CodeField-F, roll-CodeField, map-CodeField, fold-roll-CodeField}
use Rattle.sv_code.specs.declared.code.CodeItem.{CodeItem, CodeItem-F, roll-CodeItem, map-CodeItem, fold-roll-CodeItem}
use Rattle.sv_code.specs.declared.code.CodeKind.{CodeKind, CodeKind-F, roll-CodeKind, map-CodeKind, fold-roll-CodeKind}
use Rattle.sv_code.specs.declared.code.CodeLink.{CodeLink, CodeLink-F, roll-CodeLink, map-CodeLink, fold-roll-CodeLink}
use Rattle.sv_code.specs.declared.functions.Function.{Function}
use Rattle.sv_code.specs.declared.functions.TheConstants.{WRITABLE}
use Rattle.sv_code.specs.declared.known.BuiltIn.{BuiltIn}
use Rattle.sv_code.specs.declared.known.Known.{Known}
use Rattle.sv_code.specs.declared.known.Known.TheVariants as known
use Rattle.sv_code.specs.declared.known.Property.{Property}
use Rattle.sv_code.specs.declared.parts.Arrows.{Arrows}
use Rattle.sv_code.specs.declared.program.Program.{Program}
use Rattle.sv_local.proofs.Lists.{Pairs, pairs_made}
use Rattle.sv_local.proofs.Names.{Fits}
use Rattle.sv_local.proofs.Outcomes.{Same, Alike, then_alike, done_alike, failed_alike, either_alike, counted_alike, kept_alike, doing_alike, answered_alike}
use Rattle.sv_local.proofs.Pieces.{PutsAlike, CalleeAlike, ExprAlike, LinkAlike, callee_same, args_alike, template_alike, parts_alike, chain_alike, division_alike, built_alike, named_alike, plain_alike}
use Rattle.sv_code.proofs.Each.{each_front, each_back}
use Rattle.sv_code.specs.Names.{Each, joined, taken_in, kind_names, code_names, link_names, item_names, field_names, of_code, of_kind, of_item, of_field, of_link}
use Rattle.sv_meaning.specs.Calls.{Caller, call_value, first, is_on_list, is_on_text, is_on_store, on_list, on_text, on_store, make_store, make_derived}
use Rattle.sv_meaning.specs.Env.{Env, look, given_value}
use Rattle.sv_meaning.specs.Outcome.{Ends, Meaning, and_then, either, given, doing, answered}
use Rattle.sv_meaning.specs.Sight.{Ground, view_cell, read, local_set, cell_put, put, set}
use Rattle.sv_meaning.specs.Values.{Puts, Link, Callee, Plain, Lives, Stores, Derives, Converts, On, Expr, word_of, member_of, put_all, put_one, item_step, field_step, link_step, captured_after, holding, arrow, updated, assign_step, bump_step, life_call, convert, is_one, field_call, value_call, named_call, method_call, call_step, kind_step, code_step, expr_of, kind_of, item_of, field_of, link_of, value}
use Rattle.sv_ops.specs.Answer.{text_made, list_made, object_made, function_made}
use Rattle.sv_ops.specs.Members.{spread, spread_fields, or_undefined, index}
use Rattle.sv_ops.specs.Numbers.{bumped, negated}
use Rattle.sv_ops.specs.Operators.{assigned}
use Rattle.sv_ops.specs.declared.faults.FaultKind.TheVariants.{NoMember, UseBeforeInit}
use Rattle.sv_states.specs.States.{is_derived}
use Rattle.sv_value.specs.Change.{truthy}
use Rattle.sv_value.specs.Object.{get}
use Rattle.sv_value.specs.Value.{Val, undefined, null, boolean, number, text, list, object, function, store, items}
use Rattle.sv_view.specs.Constants.{constant_at, module_constant_at}
use Rattle.sv_view.specs.Level.{View}
use Rattle.sv_world.specs.declared.world.World.{World}

module _ (E : Env → Env → Type 0) (own : Bool) (v v' : View) where
  -- a name that both views, and the open names, have alike
  abbrev pub Fine : Known → Type 0
  Fine (known.Cell n) = view_cell own v n ≡ view_cell own v' n
  Fine (known.Local x) = Fits E x.0
  Fine _ = Unit {0}

module _ (E : Env → Env → Type 0) (p : Program) (arrows : Arrows) (own : Bool) (v v' : View) (constants : v.own.constants ≡ v'.own.constants) (modules : v.modules ≡ v'.modules) (call : Caller) (owner : ℕ) where
  abbrev g : Ground
  g = record { program = p; sight = Some v; arrows = arrows; is_own = own }

  abbrev g' : Ground
  g' = record { program = p; sight = Some v'; arrows = arrows; is_own = own }

  abbrev IsFine : Known → Type 0
  IsFine x = Fine E own v v' x

  -- ---- names

  read_alike : (x : Known) (s : Span) → IsFine x → Alike E (read g owner x s) (read g' owner x s)
  read_alike (known.Local x) s f = kept_alike (λ env env' w e. ap (λ o. given UseBeforeInit s o w) (sym (f.looks env env' e)))
  read_alike (known.Cell n) s f = kept_alike (λ env env' w e. ap (λ o. given UseBeforeInit s o w) (sym f))
  read_alike (known.Constant n) s f =
      kept_alike (λ env env' w e. ap₂ (λ ms cs. given UseBeforeInit s (if nat_eq owner 0 then module_constant_at ms s.file n else constant_at cs n) w) (sym modules) (sym constants))
  read_alike (known.Export file n) s f = kept_alike (λ env env' w e. ap (λ ms. given UseBeforeInit s (module_constant_at ms file n) w) (sym modules))
  read_alike known.Writable s f = answered_alike s (function_made WRITABLE 0 [])
  read_alike known.Derived s f = done_alike undefined
  read_alike (known.Life l) s f = done_alike undefined
  read_alike (known.BuiltIn b) s f = done_alike undefined

  local_same : (o : Option Val) (x : ℕ) (u : Val) (s : Span) (env env' : Env) (w : World) → Fits E x → E env env' → look x env ≡ o → Same E (local_set o x u s env w) (local_set o x u s env' w)
  local_same None x u s env env' w f e q = refl
  local_same (Some old) x u s env env' w f e q = (given_value x u env', f.sets env env' u old e q, refl)

  cell_same : (o : Option Val) (n : ℕ) (u : Val) (s : Span) (env env' : Env) (w : World) → E env env' → Same E (cell_put o g owner n u s env w) (cell_put o g' owner n u s env' w)
  cell_same None n u s env env' w e = refl
  cell_same (Some old) n u s env env' w e = (env', e, refl)

  put_alike : (x : Known) (u : Val) (s : Span) → IsFine x → Alike E (put g owner x u s) (put g' owner x u s)
  put_alike (known.Local x) u s f =
      record { both = λ env env' w e. subst (λ o. Same E (local_set (look x.0 env) x.0 u s env w) (local_set o x.0 u s env' w)) (f.looks env env' e) (local_same (look x.0 env) x.0 u s env env' w f e refl) }
  put_alike (known.Cell n) u s f =
      record { both = λ env env' w e. subst (λ o. Same E (cell_put (view_cell own v n) g owner n u s env w) (cell_put o g' owner n u s env' w)) f (cell_same (view_cell own v n) n u s env env' w e) }
  put_alike (known.Constant n) u s f = done_alike u
  put_alike (known.Export file n) u s f = done_alike u
  put_alike known.Writable u s f = done_alike u
  put_alike known.Derived u s f = done_alike u
  put_alike (known.Life l) u s f = done_alike u
  put_alike (known.BuiltIn b) u s f = done_alike u

  -- no store settles behind it
  set_alike : (x : Known) (u : Val) (s : Span) → IsFine x → Alike E (set g call owner x u s) (set g' call owner x u s)
  set_alike x u s f = then_alike (put_alike x u s f) (λ t. doing_alike (Ends t))

  -- ---- arrows

  captured_same : (vs : List Val) (xs : List Name) (env env' : Env) → Each IsFine (map known.Local xs) → E env env' → captured_after vs xs env' ≡ captured_after vs xs env
  captured_same vs [] env env' h e = refl
  captured_same vs (x ∷ xs) env env' h e =
      ap₂ (λ f o. option_and_then f o) (fun_ext (λ u. captured_same (vs ++ u ∷ []) xs env env' h.1 e)) (sym (h.0.looks env env' e))

  arrow_same : (o : Option Function) (c : ℕ) (env env' : Env) → Each IsFine (taken_in o) → E env env' → arrow o c owner env' ≡ arrow o c owner env
  arrow_same None c env env' h e = refl
  arrow_same (Some f) c env env' h e = ap (holding c owner) (captured_same [] f.captured env env' h e)

  -- ---- assignments

  updated_alike : (x : Known) (at : Span) (o : AssignOp) (s : Span) (a : Val) {m m' : Meaning Val} → IsFine x → Alike E m m' → Alike E (updated g call owner x at o s a m) (updated g' call owner x at o s a m')
  updated_alike x at o s a f k = then_alike k (λ b. then_alike (answered_alike s (assigned o a b)) (λ u. set_alike x u at f))

  changing_alike : (x : Known) (at : Span) (o : AssignOp) (s : Span) {m m' : Meaning Val} → IsFine x → Alike E m m'
      → Alike E (λ env w. and_then (read g owner x at env w) (λ a. updated g call owner x at o s a m)) (λ env w. and_then (read g' owner x at env w) (λ a. updated g' call owner x at o s a m'))
  changing_alike x at o s f k = then_alike (read_alike x at f) (λ a. updated_alike x at o s a f k)

  assign_alike : (o : AssignOp) (x : Known) (at s : Span) {m m' : Meaning Val} → IsFine x → Alike E m m' → Alike E (assign_step o g call owner x at s m) (assign_step o g' call owner x at s m')
  assign_alike assign.Set x at s f k = then_alike k (λ u. set_alike x u at f)
  assign_alike o x at s f k = changing_alike x at o s f k

  bump_alike : (x : Known) (at : Span) (up prefix : Bool) (s : Span) → IsFine x → Alike E (bump_step g call owner x at up prefix s) (bump_step g' call owner x at up prefix s)
  bump_alike x at up prefix s f =
      then_alike (read_alike x at f) (λ a. then_alike (answered_alike s (bumped up a)) (λ u. then_alike (set_alike x u at f) (λ t. done_alike (if prefix then u else a))))

  -- ---- calls

  value_call_alike : (u : Val) (q : Property) (s at : Span) (args args' : List Expr) → Pairs (ExprAlike E) args args' → Alike E (value_call g call u q s at args) (value_call g' call u q s at args')
  value_call_alike u q s at args args' h = then_alike (answered_alike at (member_of q.method u (word_of g q))) (λ f. args_alike args args' (call_value call s f) h)

  method_alike : (q : Property) (s at : Span) (args args' : List Expr) → Pairs (ExprAlike E) args args' → (u : Val) → Alike E (method_call g call q s at args u) (method_call g' call q s at args' u)
  method_alike q s at args args' h (object fs) = args_alike args args' (field_call (is_some g.sight) call s (or_undefined (get fs (word_of g q)))) h
  method_alike q s at args args' h (list vs) = either_alike (is_one is_on_list q.method) (named_alike q.method args args' (λ m. on_list m call s (items vs)) h) (value_call_alike (list vs) q s at args args' h)
  method_alike q s at args args' h (text t) = either_alike (is_one is_on_text q.method) (named_alike q.method args args' (λ m us. answered s (on_text m t us)) h) (value_call_alike (text t) q s at args args' h)
  method_alike q s at args args' h (store id) = record { both = λ env env' w e. (store_alike (is_one is_on_store q.method && not (is_derived w.states id))).both env env' w e } where
    store_alike : (b : Bool) → Alike E (either b (named_call q.method args (λ m. on_store m call s id)) (value_call g call (store id) q s at args)) (either b (named_call q.method args' (λ m. on_store m call s id)) (value_call g' call (store id) q s at args'))
    store_alike b = either_alike b (named_alike q.method args args' (λ m. on_store m call s id) h) (value_call_alike (store id) q s at args args' h)
  method_alike q s at args args' h undefined = failed_alike NoMember at
  method_alike q s at args args' h null = failed_alike NoMember at
  method_alike q s at args args' h (boolean b) = failed_alike NoMember at
  method_alike q s at args args' h (number n) = failed_alike NoMember at
  method_alike q s at args args' h (function c o held) = failed_alike NoMember at

  -- what is called stands at the same place
  member_call_alike : (b : Option BuiltIn) (q : Property) (s at : Span) (m m' : Meaning Val) (of of' : Expr) (args args' : List Expr) → of.span ≡ at → of'.span ≡ at → Alike E m m' → Pairs (ExprAlike E) args args'
      → Alike E (call_step (On b m q) g call owner of args s) (call_step (On b m' q) g' call owner of' args' s)
  member_call_alike (Some b) q s at m m' of of' args args' e e' k h =
      subst₂ (λ z z'. Alike E (call_step (On (Some b) m q) g call owner (record of { span = z }) args s) (call_step (On (Some b) m' q) g' call owner (record of' { span = z' }) args' s)) (sym e) (sym e')
      (counted_alike at (then_alike k (λ u. built_alike b q.method s at args args' h)))
  member_call_alike None q s at m m' of of' args args' e e' k h =
      subst₂ (λ z z'. Alike E (call_step (On None m q) g call owner (record of { span = z }) args s) (call_step (On None m' q) g' call owner (record of' { span = z' }) args' s)) (sym e) (sym e')
      (counted_alike at (then_alike k (method_alike q s at args args' h)))

  called_alike : (c c' : Callee) (of of' : Expr) (args args' : List Expr) (s : Span) → CalleeAlike E c c' → ExprAlike E of of' → Pairs (ExprAlike E) args args'
      → Alike E (call_step c g call owner of args s) (call_step c' g' call owner of' args' s)
  called_alike Plain c' of of' args args' s c k h =
      subst (λ z. Alike E (call_step Plain g call owner of args s) (call_step z g' call owner of' args' s)) (sym c) (then_alike k.means (λ f. args_alike args args' (call_value call s f) h))
  called_alike (Lives l) c' of of' args args' s c k h =
      subst (λ z. Alike E (call_step (Lives l) g call owner of args s) (call_step z g' call owner of' args' s)) (sym c)
      (subst (λ z. Alike E (call_step (Lives l) g call owner of args s) (call_step (Lives l) g' call owner (record of' { span = z }) args' s)) k.span (counted_alike of.span (args_alike args args' (life_call l owner s) h)))
  called_alike Stores c' of of' args args' s c k h =
      subst (λ z. Alike E (call_step Stores g call owner of args s) (call_step z g' call owner of' args' s)) (sym c)
      (subst (λ z. Alike E (call_step Stores g call owner of args s) (call_step Stores g' call owner (record of' { span = z }) args' s)) k.span (counted_alike of.span (args_alike args args' (λ vs. make_store (first vs)) h)))
  called_alike Derives c' of of' args args' s c k h =
      subst (λ z. Alike E (call_step Derives g call owner of args s) (call_step z g' call owner of' args' s)) (sym c)
      (subst (λ z. Alike E (call_step Derives g call owner of args s) (call_step Derives g' call owner (record of' { span = z }) args' s)) k.span (counted_alike of.span (args_alike args args' (make_derived p call owner s) h)))
  called_alike (Converts b) c' of of' args args' s c k h =
      subst (λ z. Alike E (call_step (Converts b) g call owner of args s) (call_step z g' call owner of' args' s)) (sym c)
      (subst (λ z. Alike E (call_step (Converts b) g call owner of args s) (call_step (Converts b) g' call owner (record of' { span = z }) args' s)) k.span
      (counted_alike of.span (args_alike args args' (λ vs. answered s (convert b (first vs))) h)))
  called_alike (On b m q) c' of of' args args' s c k h =
      subst (λ z. Alike E (call_step (On b m q) g call owner of args s) (call_step z g' call owner of' args' s)) (sym c.2) (member_call_alike b q s of.span m c.0 of of' args args' refl (sym k.span) c.1 h)

  -- ---- trees, with what is claimed of each

  abbrev fs : List Function
  fs = p.functions

  abbrev Fields : Type 0
  Fields = Puts (List ℕ × Val)

  abbrev Items : Type 0
  Items = Puts Val

  abbrev Kinds : Type 0
  Kinds = Span → Expr

  abbrev Names : Type 0
  Names = List Known

  abbrev ClaimCodeField : CodeField → Type 0
  ClaimCodeField x = Each IsFine (of_field fs x) → PutsAlike E (field_of g call owner x) (field_of g' call owner x)

  abbrev KnownField : Type 0
  KnownField = (x : CodeField) × ClaimCodeField x

  abbrev ClaimCodeItem : CodeItem → Type 0
  ClaimCodeItem x = Each IsFine (of_item fs x) → PutsAlike E (item_of g call owner x) (item_of g' call owner x)

  abbrev KnownItem : Type 0
  KnownItem = (x : CodeItem) × ClaimCodeItem x

  abbrev ClaimCodeKind : CodeKind → Type 0
  ClaimCodeKind x = (s : Span) → Each IsFine (of_kind fs x) → ExprAlike E (kind_of g call owner x s) (kind_of g' call owner x s)

  abbrev KnownKind : Type 0
  KnownKind = (x : CodeKind) × ClaimCodeKind x

  abbrev ClaimCode : Code → Type 0
  ClaimCode x = Each IsFine (of_code fs x) → ExprAlike E (expr_of g call owner x) (expr_of g' call owner x)

  abbrev KnownCode : Type 0
  KnownCode = (x : Code) × ClaimCode x

  abbrev ClaimCodeLink : CodeLink → Type 0
  ClaimCodeLink x = Each IsFine (of_link fs x) → LinkAlike E (link_of g call owner x) (link_of g' call owner x)

  abbrev KnownLink : Type 0
  KnownLink = (x : CodeLink) × ClaimCodeLink x

  -- ---- a layer of a tree

  abbrev bare_field : CodeField-F KnownField KnownItem KnownKind KnownCode KnownLink → CodeField-F CodeField CodeItem CodeKind Code CodeLink
  bare_field = map-CodeField KnownField KnownItem KnownKind KnownCode KnownLink CodeField CodeItem CodeKind Code CodeLink (λ p. p.0) (λ p. p.0) (λ p. p.0) (λ p. p.0) (λ p. p.0)

  abbrev made_field : CodeField-F CodeField CodeItem CodeKind Code CodeLink → CodeField-F Fields Items Kinds Expr Link
  made_field = map-CodeField CodeField CodeItem CodeKind Code CodeLink Fields Items Kinds Expr Link (field_of g call owner) (item_of g call owner) (kind_of g call owner) (expr_of g call owner) (link_of g call owner)

  abbrev made_field' : CodeField-F CodeField CodeItem CodeKind Code CodeLink → CodeField-F Fields Items Kinds Expr Link
  made_field' = map-CodeField CodeField CodeItem CodeKind Code CodeLink Fields Items Kinds Expr Link (field_of g' call owner) (item_of g' call owner) (kind_of g' call owner) (expr_of g' call owner) (link_of g' call owner)

  abbrev names_field : CodeField-F CodeField CodeItem CodeKind Code CodeLink → CodeField-F Names Names Names Names Names
  names_field = map-CodeField CodeField CodeItem CodeKind Code CodeLink Names Names Names Names Names (of_field fs) (of_item fs) (of_kind fs) (of_code fs) (of_link fs)

  abbrev bare_item : CodeItem-F KnownField KnownItem KnownKind KnownCode KnownLink → CodeItem-F CodeField CodeItem CodeKind Code CodeLink
  bare_item = map-CodeItem KnownField KnownItem KnownKind KnownCode KnownLink CodeField CodeItem CodeKind Code CodeLink (λ p. p.0) (λ p. p.0) (λ p. p.0) (λ p. p.0) (λ p. p.0)

  abbrev made_item : CodeItem-F CodeField CodeItem CodeKind Code CodeLink → CodeItem-F Fields Items Kinds Expr Link
  made_item = map-CodeItem CodeField CodeItem CodeKind Code CodeLink Fields Items Kinds Expr Link (field_of g call owner) (item_of g call owner) (kind_of g call owner) (expr_of g call owner) (link_of g call owner)

  abbrev made_item' : CodeItem-F CodeField CodeItem CodeKind Code CodeLink → CodeItem-F Fields Items Kinds Expr Link
  made_item' = map-CodeItem CodeField CodeItem CodeKind Code CodeLink Fields Items Kinds Expr Link (field_of g' call owner) (item_of g' call owner) (kind_of g' call owner) (expr_of g' call owner) (link_of g' call owner)

  abbrev names_item : CodeItem-F CodeField CodeItem CodeKind Code CodeLink → CodeItem-F Names Names Names Names Names
  names_item = map-CodeItem CodeField CodeItem CodeKind Code CodeLink Names Names Names Names Names (of_field fs) (of_item fs) (of_kind fs) (of_code fs) (of_link fs)

  abbrev bare_kind : CodeKind-F KnownField KnownItem KnownKind KnownCode KnownLink → CodeKind-F CodeField CodeItem CodeKind Code CodeLink
  bare_kind = map-CodeKind KnownField KnownItem KnownKind KnownCode KnownLink CodeField CodeItem CodeKind Code CodeLink (λ p. p.0) (λ p. p.0) (λ p. p.0) (λ p. p.0) (λ p. p.0)

  abbrev made_kind : CodeKind-F CodeField CodeItem CodeKind Code CodeLink → CodeKind-F Fields Items Kinds Expr Link
  made_kind = map-CodeKind CodeField CodeItem CodeKind Code CodeLink Fields Items Kinds Expr Link (field_of g call owner) (item_of g call owner) (kind_of g call owner) (expr_of g call owner) (link_of g call owner)

  abbrev made_kind' : CodeKind-F CodeField CodeItem CodeKind Code CodeLink → CodeKind-F Fields Items Kinds Expr Link
  made_kind' = map-CodeKind CodeField CodeItem CodeKind Code CodeLink Fields Items Kinds Expr Link (field_of g' call owner) (item_of g' call owner) (kind_of g' call owner) (expr_of g' call owner) (link_of g' call owner)

  abbrev names_kind : CodeKind-F CodeField CodeItem CodeKind Code CodeLink → CodeKind-F Names Names Names Names Names
  names_kind = map-CodeKind CodeField CodeItem CodeKind Code CodeLink Names Names Names Names Names (of_field fs) (of_item fs) (of_kind fs) (of_code fs) (of_link fs)

  abbrev bare_code : Code-F KnownField KnownItem KnownKind KnownCode KnownLink → Code-F CodeField CodeItem CodeKind Code CodeLink
  bare_code = map-Code KnownField KnownItem KnownKind KnownCode KnownLink CodeField CodeItem CodeKind Code CodeLink (λ p. p.0) (λ p. p.0) (λ p. p.0) (λ p. p.0) (λ p. p.0)

  abbrev made_code : Code-F CodeField CodeItem CodeKind Code CodeLink → Code-F Fields Items Kinds Expr Link
  made_code = map-Code CodeField CodeItem CodeKind Code CodeLink Fields Items Kinds Expr Link (field_of g call owner) (item_of g call owner) (kind_of g call owner) (expr_of g call owner) (link_of g call owner)

  abbrev made_code' : Code-F CodeField CodeItem CodeKind Code CodeLink → Code-F Fields Items Kinds Expr Link
  made_code' = map-Code CodeField CodeItem CodeKind Code CodeLink Fields Items Kinds Expr Link (field_of g' call owner) (item_of g' call owner) (kind_of g' call owner) (expr_of g' call owner) (link_of g' call owner)

  abbrev names_code : Code-F CodeField CodeItem CodeKind Code CodeLink → Code-F Names Names Names Names Names
  names_code = map-Code CodeField CodeItem CodeKind Code CodeLink Names Names Names Names Names (of_field fs) (of_item fs) (of_kind fs) (of_code fs) (of_link fs)

  abbrev bare_link : CodeLink-F KnownField KnownItem KnownKind KnownCode KnownLink → CodeLink-F CodeField CodeItem CodeKind Code CodeLink
  bare_link = map-CodeLink KnownField KnownItem KnownKind KnownCode KnownLink CodeField CodeItem CodeKind Code CodeLink (λ p. p.0) (λ p. p.0) (λ p. p.0) (λ p. p.0) (λ p. p.0)

  abbrev made_link : CodeLink-F CodeField CodeItem CodeKind Code CodeLink → CodeLink-F Fields Items Kinds Expr Link
  made_link = map-CodeLink CodeField CodeItem CodeKind Code CodeLink Fields Items Kinds Expr Link (field_of g call owner) (item_of g call owner) (kind_of g call owner) (expr_of g call owner) (link_of g call owner)

  abbrev made_link' : CodeLink-F CodeField CodeItem CodeKind Code CodeLink → CodeLink-F Fields Items Kinds Expr Link
  made_link' = map-CodeLink CodeField CodeItem CodeKind Code CodeLink Fields Items Kinds Expr Link (field_of g' call owner) (item_of g' call owner) (kind_of g' call owner) (expr_of g' call owner) (link_of g' call owner)

  abbrev names_link : CodeLink-F CodeField CodeItem CodeKind Code CodeLink → CodeLink-F Names Names Names Names Names
  names_link = map-CodeLink CodeField CodeItem CodeKind Code CodeLink Names Names Names Names Names (of_field fs) (of_item fs) (of_kind fs) (of_code fs) (of_link fs)

  exprs_alike : (es : List KnownCode) → Each IsFine (joined (map (of_code fs) (map (λ p. p.0) es))) → Pairs (ExprAlike E) (map (expr_of g call owner) (map (λ p. p.0) es)) (map (expr_of g' call owner) (map (λ p. p.0) es))
  exprs_alike es h = pairs_made (expr_of g call owner) (expr_of g' call owner) (of_code fs) IsFine (ExprAlike E) es h

  kind_alike : (y : CodeKind-F KnownField KnownItem KnownKind KnownCode KnownLink) (s : Span) → Each IsFine (kind_names fs (names_kind (bare_kind y)))
      → ExprAlike E (kind_step g call owner (made_kind (bare_kind y)) s) (kind_step g' call owner (made_kind' (bare_kind y)) s)
  kind_alike CodeKind-F.Undefined s h = plain_alike s (done_alike undefined)
  kind_alike CodeKind-F.Null s h = plain_alike s (done_alike null)
  kind_alike (CodeKind-F.Bool b) s h = plain_alike s (done_alike (boolean b))
  kind_alike (CodeKind-F.Num n) s h = plain_alike s (done_alike (number n))
  kind_alike (CodeKind-F.Text t) s h = plain_alike s (answered_alike s (text_made t))
  kind_alike (CodeKind-F.Read x) s h = record { span = refl; means = read_alike x s h.0; callee = callee_same E x; built = refl; ratio = refl }
  kind_alike (CodeKind-F.List ps) s h = plain_alike s (then_alike (parts_alike s [] _ _ (pairs_made (item_of g call owner) (item_of g' call owner) (of_item fs) IsFine (PutsAlike E) ps h)) (λ vs. answered_alike s (list_made vs)))
  kind_alike (CodeKind-F.Object ps) s h = plain_alike s (then_alike (parts_alike s [] _ _ (pairs_made (field_of g call owner) (field_of g' call owner) (of_field fs) IsFine (PutsAlike E) ps h)) (λ es. answered_alike s (object_made es)))
  kind_alike (CodeKind-F.Template es) s h = plain_alike s (template_alike s _ _ (exprs_alike es h))
  kind_alike (CodeKind-F.Arrow c) s h = plain_alike s (kept_alike (λ env env' w e. ap (λ a. answered s a w) (arrow_same (slice_get fs c) c env env' h e)))
  kind_alike (CodeKind-F.Assign x at o e) s h = plain_alike s (assign_alike o x at s h.0 (e.1 h.1).means)
  kind_alike (CodeKind-F.Bump x at up prefix) s h = plain_alike s (bump_alike x at up prefix s h.0)
  kind_alike (CodeKind-F.Chain e ls) s h =
      let k : ExprAlike E (expr_of g call owner e.0) (expr_of g' call owner e.0) = e.1 (each_front IsFine (of_code fs e.0) (joined (map (of_link fs) (map (λ p. p.0) ls))) h) in
      let l : Pairs (LinkAlike E) (map (link_of g call owner) (map (λ p. p.0) ls)) (map (link_of g' call owner) (map (λ p. p.0) ls)) =
      pairs_made (link_of g call owner) (link_of g' call owner) (of_link fs) IsFine (LinkAlike E) ls (each_back IsFine (of_code fs e.0) (joined (map (of_link fs) (map (λ p. p.0) ls))) h) in
      record { span = refl; means = chain_alike s _ _ k.means l; callee = refl; built = refl; ratio = division_alike s _ _ [] [] _ _ k.means tt l }
  kind_alike (CodeKind-F.Not e) s h = plain_alike s (then_alike (e.1 h).means (λ u. done_alike _))
  kind_alike (CodeKind-F.Minus e) s h = plain_alike s (then_alike (e.1 h).means (λ u. answered_alike s (negated u)))
  kind_alike (CodeKind-F.Choose test one two) s h =
      let hs : Each IsFine (of_code fs one.0 ++ of_code fs two.0) = each_back IsFine (of_code fs test.0) (of_code fs one.0 ++ of_code fs two.0) h in
      plain_alike s (then_alike (test.1 (each_front IsFine (of_code fs test.0) (of_code fs one.0 ++ of_code fs two.0) h)).means
      (λ u. either_alike (truthy u) (one.1 (each_front IsFine (of_code fs one.0) (of_code fs two.0) hs)).means (two.1 (each_back IsFine (of_code fs one.0) (of_code fs two.0) hs)).means))
  kind_alike (CodeKind-F.Member e q) s h =
      let k : ExprAlike E (expr_of g call owner e.0) (expr_of g' call owner e.0) = e.1 h in
      record { span = refl; means = then_alike k.means (λ u. answered_alike s (member_of q.method u (word_of g q))); callee = (_, k.means, ap (λ b. On b (expr_of g' call owner e.0).means q) k.built); built = refl; ratio = refl }
  kind_alike (CodeKind-F.Index e i) s h =
      plain_alike s (then_alike (e.1 (each_front IsFine (of_code fs e.0) (of_code fs i.0) h)).means (λ u. then_alike (i.1 (each_back IsFine (of_code fs e.0) (of_code fs i.0) h)).means (λ k. answered_alike s (index u k))))
  kind_alike (CodeKind-F.Call e args) s h =
      let k : ExprAlike E (expr_of g call owner e.0) (expr_of g' call owner e.0) = e.1 (each_front IsFine (of_code fs e.0) (joined (map (of_code fs) (map (λ p. p.0) args))) h) in
      plain_alike s (called_alike _ _ _ _ _ _ s k.callee k (exprs_alike args (each_back IsFine (of_code fs e.0) (joined (map (of_code fs) (map (λ p. p.0) args))) h)))
  kind_alike (CodeKind-F.Dispatcher c at args) s h = plain_alike s (counted_alike at (args_alike _ _ (λ vs. answered s (function_made c owner [])) (exprs_alike args h)))

  code_alike : (y : Code-F KnownField KnownItem KnownKind KnownCode KnownLink) → Each IsFine (code_names fs (names_code (bare_code y))) → ExprAlike E (code_step g call owner (made_code (bare_code y))) (code_step g' call owner (made_code' (bare_code y)))
  code_alike y h =
      let k : ExprAlike E (kind_of g call owner y.kind.0 y.span) (kind_of g' call owner y.kind.0 y.span) = y.kind.1 y.span h in
      record { span = refl; means = counted_alike y.span k.means; callee = k.callee; built = k.built; ratio = k.ratio }

  item_alike : (y : CodeItem-F KnownField KnownItem KnownKind KnownCode KnownLink) → Each IsFine (item_names fs (names_item (bare_item y))) → PutsAlike E (item_step (made_item (bare_item y))) (item_step (made_item' (bare_item y)))
  item_alike (CodeItem-F.One e) h s made = then_alike (e.1 h).means (λ u. doing_alike (put_one s made u))
  item_alike (CodeItem-F.«CodeItem::Spread» e) h s made =
      let k : ExprAlike E (expr_of g call owner e.0) (expr_of g' call owner e.0) = e.1 h in
      then_alike k.means (λ u. subst (λ z. Alike E (doing (put_all (spread u) (expr_of g call owner e.0).span made)) (doing (put_all (spread u) z made))) k.span (doing_alike (put_all (spread u) (expr_of g call owner e.0).span made)))

  field_alike : (y : CodeField-F KnownField KnownItem KnownKind KnownCode KnownLink) → Each IsFine (field_names fs (names_field (bare_field y))) → PutsAlike E (field_step (made_field (bare_field y))) (field_step (made_field' (bare_field y)))
  field_alike (CodeField-F.Pair key e) h s made = then_alike (e.1 h).means (λ u. doing_alike (put_one s made (key, u)))
  field_alike (CodeField-F.«CodeField::Spread» e) h s made =
      let k : ExprAlike E (expr_of g call owner e.0) (expr_of g' call owner e.0) = e.1 h in
      then_alike k.means (λ u. subst (λ z. Alike E (doing (put_all (spread_fields u) (expr_of g call owner e.0).span made)) (doing (put_all (spread_fields u) z made))) k.span (doing_alike (put_all (spread_fields u) (expr_of g call owner e.0).span made)))

  link_alike : (y : CodeLink-F KnownField KnownItem KnownKind KnownCode KnownLink) → Each IsFine (link_names fs (names_link (bare_link y))) → LinkAlike E (link_step (made_link (bare_link y))) (link_step (made_link' (bare_link y)))
  link_alike y h = record { op = refl; right = (y.right.1 h).means }

  -- ---- whole trees

  field_whole : (x : CodeField-F CodeField CodeItem CodeKind Code CodeLink) (y : CodeField-F KnownField KnownItem KnownKind KnownCode KnownLink) → bare_field y ≡ x → ClaimCodeField (roll-CodeField x)
  field_whole x y e h =
      subst₂ (λ m m'. PutsAlike E m m') (sym (fold-roll-CodeField Fields Items Kinds Expr Link field_step item_step (kind_step g call owner) (code_step g call owner) link_step x)) (sym (fold-roll-CodeField Fields Items Kinds Expr Link field_step item_step (kind_step g' call owner) (code_step g' call owner) link_step x))
      (subst (λ z. Each IsFine (field_names fs (names_field z)) → PutsAlike E (field_step (made_field z)) (field_step (made_field' z))) e (field_alike y)
      (subst (Each IsFine) (fold-roll-CodeField Names Names Names Names Names (field_names fs) (item_names fs) (kind_names fs) (code_names fs) (link_names fs) x) h))

  item_whole : (x : CodeItem-F CodeField CodeItem CodeKind Code CodeLink) (y : CodeItem-F KnownField KnownItem KnownKind KnownCode KnownLink) → bare_item y ≡ x → ClaimCodeItem (roll-CodeItem x)
  item_whole x y e h =
      subst₂ (λ m m'. PutsAlike E m m') (sym (fold-roll-CodeItem Fields Items Kinds Expr Link field_step item_step (kind_step g call owner) (code_step g call owner) link_step x)) (sym (fold-roll-CodeItem Fields Items Kinds Expr Link field_step item_step (kind_step g' call owner) (code_step g' call owner) link_step x))
      (subst (λ z. Each IsFine (item_names fs (names_item z)) → PutsAlike E (item_step (made_item z)) (item_step (made_item' z))) e (item_alike y)
      (subst (Each IsFine) (fold-roll-CodeItem Names Names Names Names Names (field_names fs) (item_names fs) (kind_names fs) (code_names fs) (link_names fs) x) h))

  kind_whole : (x : CodeKind-F CodeField CodeItem CodeKind Code CodeLink) (y : CodeKind-F KnownField KnownItem KnownKind KnownCode KnownLink) → bare_kind y ≡ x → ClaimCodeKind (roll-CodeKind x)
  kind_whole x y e s h =
      subst₂ (λ m m'. ExprAlike E (m s) (m' s)) (sym (fold-roll-CodeKind Fields Items Kinds Expr Link field_step item_step (kind_step g call owner) (code_step g call owner) link_step x)) (sym (fold-roll-CodeKind Fields Items Kinds Expr Link field_step item_step (kind_step g' call owner) (code_step g' call owner) link_step x))
      (subst (λ z. Each IsFine (kind_names fs (names_kind z)) → ExprAlike E ((kind_step g call owner) (made_kind z) s) ((kind_step g' call owner) (made_kind' z) s)) e (kind_alike y s)
      (subst (Each IsFine) (fold-roll-CodeKind Names Names Names Names Names (field_names fs) (item_names fs) (kind_names fs) (code_names fs) (link_names fs) x) h))

  code_whole : (x : Code-F CodeField CodeItem CodeKind Code CodeLink) (y : Code-F KnownField KnownItem KnownKind KnownCode KnownLink) → bare_code y ≡ x → ClaimCode (roll-Code x)
  code_whole x y e h =
      subst₂ (λ m m'. ExprAlike E m m') (sym (fold-roll-Code Fields Items Kinds Expr Link field_step item_step (kind_step g call owner) (code_step g call owner) link_step x)) (sym (fold-roll-Code Fields Items Kinds Expr Link field_step item_step (kind_step g' call owner) (code_step g' call owner) link_step x))
      (subst (λ z. Each IsFine (code_names fs (names_code z)) → ExprAlike E ((code_step g call owner) (made_code z)) ((code_step g' call owner) (made_code' z))) e (code_alike y)
      (subst (Each IsFine) (fold-roll-Code Names Names Names Names Names (field_names fs) (item_names fs) (kind_names fs) (code_names fs) (link_names fs) x) h))

  link_whole : (x : CodeLink-F CodeField CodeItem CodeKind Code CodeLink) (y : CodeLink-F KnownField KnownItem KnownKind KnownCode KnownLink) → bare_link y ≡ x → ClaimCodeLink (roll-CodeLink x)
  link_whole x y e h =
      subst₂ (λ m m'. LinkAlike E m m') (sym (fold-roll-CodeLink Fields Items Kinds Expr Link field_step item_step (kind_step g call owner) (code_step g call owner) link_step x)) (sym (fold-roll-CodeLink Fields Items Kinds Expr Link field_step item_step (kind_step g' call owner) (code_step g' call owner) link_step x))
      (subst (λ z. Each IsFine (link_names fs (names_link z)) → LinkAlike E (link_step (made_link z)) (link_step (made_link' z))) e (link_alike y)
      (subst (Each IsFine) (fold-roll-CodeLink Names Names Names Names Names (field_names fs) (item_names fs) (kind_names fs) (code_names fs) (link_names fs) x) h))

  -- an expression gives the same on both views
  pub expr_alike : (c : Code) → Each IsFine (of_code fs c) → Alike E (value g call owner c) (value g' call owner c)
  expr_alike c h = (ind-Code ClaimCodeField ClaimCodeItem ClaimCodeKind ClaimCode ClaimCodeLink field_whole item_whole kind_whole code_whole link_whole c h).means
