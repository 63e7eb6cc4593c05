-- Each form of code does what the form of the tree does, where its parts do.
use Rattle.std.proofs.Common.{◌≡◌, ℕ, ℤ, Bool, false, List, [], ◌∷◌, map, refl, sym, ap, ap₂, subst, ◌∙◌, slice_get, if◌then◌else◌}
use Rattle.sv_ast.specs.declared.names.Ref.{Ref}
use Rattle.sv_ast.specs.declared.operators.AssignOp.{AssignOp}
use Rattle.sv_ast.specs.declared.operators.Op.{Op}
use Rattle.sv_base.specs.declared.span.Span.{Span}
use Rattle.sv_code.specs.declared.code.Code.{Code, fold-roll-Code}
use Rattle.sv_code.specs.declared.code.CodeField
use Rattle.sv_code.specs.declared.code.CodeField.{CodeField as AnyField, CodeField-F, fold-roll-CodeField}
use Rattle.sv_code.specs.declared.code.CodeField.TheVariants as field_code
use Rattle.sv_code.specs.declared.code.CodeItem
use Rattle.sv_code.specs.declared.code.CodeItem.{CodeItem as AnyItem, CodeItem-F, fold-roll-CodeItem}
use Rattle.sv_code.specs.declared.code.CodeItem.TheVariants as item_code
use Rattle.sv_code.specs.declared.code.CodeKind
use Rattle.sv_code.specs.declared.code.CodeKind.{CodeKind as AnyKind, CodeKind-F, roll-CodeKind, map-CodeKind, fold-roll-CodeKind, out-CodeKind, out-roll-CodeKind}
use Rattle.sv_code.specs.declared.code.CodeKind.TheVariants as code
use Rattle.sv_code.specs.declared.code.CodeLink.{CodeLink as AnyOperator, fold-roll-CodeLink}
use Rattle.sv_code.specs.declared.functions.Function.{Function}
use Rattle.sv_code.specs.declared.known.Known.{Known}
use Rattle.sv_code.specs.declared.known.Known.TheVariants.{Local}
use Rattle.sv_code.specs.declared.known.Property.{Property}
use Rattle.sv_local.proofs.Lists.{Pairs}
use Rattle.sv_local.proofs.Outcomes.{Alike, then_alike, done_alike, either_alike, counted_alike, kept_alike, doing_alike, answered_alike}
use Rattle.sv_local.proofs.Pieces.{PutsAlike, ExprAlike, LinkAlike, callee_same, args_alike, template_alike, parts_alike, chain_alike, division_alike, plain_alike}
use Rattle.sv_lower.specs.Lower.{reads_dispatcher, dispatches}
use Rattle.sv_lower.specs.Tops.{Tops, known_in, known_or, known_at}
use Rattle.sv_meaning.specs.Calls.{Caller}
use Rattle.sv_meaning.specs.Env.{Env}
use Rattle.sv_meaning.specs.Outcome.{doing, answered, counted}
use Rattle.sv_meaning.specs.Sight.{Ground}
use Rattle.sv_meaning.specs.Values.{Puts, Link, Expr, On, captured_after, holding, arrow, put_one, put_all, word_of, member_of, item_step, field_step, link_step, kind_step, code_step, expr_of, kind_of, item_of, field_of, link_of}
use Rattle.sv_names.specs.Distinct.{has}
use Rattle.sv_names.specs.Locals.{name_of}
use Rattle.sv_ops.specs.Answer.{text_made, list_made, object_made, function_made}
use Rattle.sv_ops.specs.Members.{spread, spread_fields, index}
use Rattle.sv_ops.specs.Numbers.{negated}
use Rattle.sv_value.specs.Change.{truthy}
use Rattle.sv_value.specs.Value.{Val, undefined, null, boolean, number}
use Rattle.sv_source.specs.Functions.{Acts, Fun}
use Rattle.sv_source.specs.Open.{heads, is_among, stands}
use Rattle.sv_source.specs.Script.{Seen, does, at, Layer, form, form_at, arrow_form, dispatcher_form, call_form, step_at}
use Rattle.sv_source.proofs.Alike.{Always, NumberAlike, KindAlike, SeenAlike, ItemAlike, FieldAlike, OperatorAlike}
use Rattle.sv_source.proofs.Scopes.{In, fits_in, late}
use Rattle.sv_source.proofs.Steps.{read_alike, assign_alike, bump_alike, called_alike}
use Rattle.sv_source.proofs.Tables.{Beside}

pub pairs_of : {A B C : Type 0} (R : A → B → Type 0) (Q : C → C → Type 0) (f : A → C) (h : B → C) → ((a : A) (b : B) → R a b → Q (f a) (h b)) → (xs : List A) (ys : List B) → Beside R xs ys → Pairs Q (map f xs) (map h ys)
pairs_of R Q f h k [] [] r = tt
pairs_of R Q f h k (x ∷ xs) (y ∷ ys) r = (k x y r.0, pairs_of R Q f h k xs ys r.1)
pairs_of R Q f h k [] (y ∷ ys) r = absurd r
pairs_of R Q f h k (x ∷ xs) [] r = absurd r

-- what a name stands for where it is written is what it is where it is read
pub stands_same : (tops : Tops) (locals : List Ref) (xs : List ℕ) (name : Ref) → is_among xs name ≡ has name locals → (env : Env) → heads env ≡ xs → known_at tops locals name ≡ stands tops env name
stands_same tops locals xs name h env k = ap (λ b. if b then Local (name_of name) else known_or (known_in tops.known name) name) (sym (ap (λ z. is_among z name) k ∙ h))

abbrev AnyLayer : Type 0
AnyLayer = CodeKind-F AnyField AnyItem AnyKind Code AnyOperator

module _ (all : List Function) (xs : List ℕ) where
  abbrev E : Env → Env → Type 0
  E = In xs

  abbrev Ee : Expr → Expr → Type 0
  Ee = ExprAlike (In xs)

  abbrev mapped : Ground → Caller → ℕ → AnyLayer → Layer
  mapped g call owner = map-CodeKind AnyField AnyItem AnyKind Code AnyOperator (Puts (List ℕ × Val)) (Puts Val) (Span → Expr) Expr Link (field_of g call owner) (item_of g call owner) (kind_of g call owner) (expr_of g call owner) (link_of g call owner)

  exprs_pairs : (cs : List Code) (es : List Seen) → Beside (SeenAlike all xs) cs es → (g : Ground) (call : Caller) (owner : ℕ) → g.program.functions ≡ all → (env : Env) → heads env ≡ xs
      → Pairs Ee (map (expr_of g call owner) cs) (map (λ e. at env (e.sees g call owner)) es)
  exprs_pairs cs es h g call owner p env k = pairs_of (SeenAlike all xs) Ee (expr_of g call owner) (λ e. at env (e.sees g call owner)) (λ c e r. r.alike g call owner p env k) cs es h

  module _ (s : Span) where
    form_alike : (layer : AnyLayer) (source : Acts (Env → Layer)) → reads_dispatcher layer ≡ false
        → Always all (λ g call owner. (env : Env) → heads env ≡ xs → Ee (kind_step g call owner (mapped g call owner layer) s) (kind_step g call owner (source g call owner env) s)) → KindAlike all xs s (roll-CodeKind layer) (form s source)
    form_alike layer source f h = record {
      alike = λ g call owner p env k. subst (λ z. Ee (z s) (kind_step g call owner (source g call owner env) s))
          (sym (fold-roll-CodeKind (Puts (List ℕ × Val)) (Puts Val) (Span → Expr) Expr Link field_step item_step (kind_step g call owner) (code_step g call owner) link_step layer)) (h g call owner p env k);
      tells = ap (λ (z : AnyLayer). reads_dispatcher z) (out-roll-CodeKind layer) ∙ f;
    }

    pub undefined_alike : KindAlike all xs s code.Undefined (form s (λ g call owner env. CodeKind-F.Undefined))
    unfolding CodeKind.roll-CodeKind denote.Hole.Carrier.roll
    undefined_alike = form_alike CodeKind-F.Undefined (λ g call owner env. CodeKind-F.Undefined) refl (λ g call owner p env k. plain_alike s (done_alike undefined))

    pub null_alike : KindAlike all xs s code.Null (form s (λ g call owner env. CodeKind-F.Null))
    unfolding CodeKind.roll-CodeKind denote.Hole.Carrier.roll
    null_alike = form_alike CodeKind-F.Null (λ g call owner env. CodeKind-F.Null) refl (λ g call owner p env k. plain_alike s (done_alike null))

    pub bool_alike : (b : Bool) → KindAlike all xs s (code.Bool b) (form s (λ g call owner env. CodeKind-F.Bool b))
    unfolding CodeKind.roll-CodeKind denote.Hole.Carrier.roll
    bool_alike b = form_alike (CodeKind-F.Bool b) (λ g call owner env. CodeKind-F.Bool b) refl (λ g call owner p env k. plain_alike s (done_alike (boolean b)))

    pub num_alike : (n : ℤ) → KindAlike all xs s (code.Num n) (form s (λ g call owner env. CodeKind-F.Num n))
    unfolding CodeKind.roll-CodeKind denote.Hole.Carrier.roll
    num_alike n = form_alike (CodeKind-F.Num n) (λ g call owner env. CodeKind-F.Num n) refl (λ g call owner p env k. plain_alike s (done_alike (number n)))

    pub text_alike : (t : List ℕ) → KindAlike all xs s (code.Text t) (form s (λ g call owner env. CodeKind-F.Text t))
    unfolding CodeKind.roll-CodeKind denote.Hole.Carrier.roll
    text_alike t = form_alike (CodeKind-F.Text t) (λ g call owner env. CodeKind-F.Text t) refl (λ g call owner p env k. plain_alike s (answered_alike s (text_made t)))

    pub name_alike : (x : Known) (m : Env → Known) → ((env : Env) → heads env ≡ xs → x ≡ m env) → KindAlike all xs s (code.Read x) (record { sees = form_at s (λ g call owner env. CodeKind-F.Read (m env)); is_teller = dispatches x })
    unfolding CodeKind.roll-CodeKind denote.Hole.Carrier.roll
    name_alike x m h = record {
      alike = λ g call owner p env k. subst (λ z. Ee (z s) (kind_step g call owner (CodeKind-F.Read (m env)) s))
          (sym (fold-roll-CodeKind (Puts (List ℕ × Val)) (Puts Val) (Span → Expr) Expr Link field_step item_step (kind_step g call owner) (code_step g call owner) link_step (CodeKind-F.Read x)))
          (subst (λ y. Ee (kind_step g call owner (CodeKind-F.Read x) s) (kind_step g call owner (CodeKind-F.Read y) s)) (h env k)
          (record { span = refl; means = read_alike E (fits_in xs) g call owner x s; callee = callee_same E x; built = refl; ratio = refl }));
      tells = ap (λ (z : AnyLayer). reads_dispatcher z) (out-roll-CodeKind (CodeKind-F.Read x));
    }

    pub list_alike : (cs : List AnyItem) (ps : List (Acts (Puts Val))) → Beside (ItemAlike all xs) cs ps → KindAlike all xs s (code.List cs) (form s (λ g call owner env. CodeKind-F.List (map (λ p. p g call owner) ps)))
    unfolding CodeKind.roll-CodeKind denote.Hole.Carrier.roll
    list_alike cs ps h = form_alike (CodeKind-F.List cs) (λ g call owner env. CodeKind-F.List (map (λ p. p g call owner) ps)) refl (λ g call owner p env k.
        plain_alike s (then_alike (parts_alike s [] _ _ (pairs_of (ItemAlike all xs) (PutsAlike E) (item_of g call owner) (λ p. p g call owner) (λ c q r. r.alike g call owner p) cs ps h)) (λ vs. answered_alike s (list_made vs))))

    pub object_alike : (cs : List AnyField) (ps : List (Acts (Puts (List ℕ × Val)))) → Beside (FieldAlike all xs) cs ps → KindAlike all xs s (code.Object cs) (form s (λ g call owner env. CodeKind-F.Object (map (λ p. p g call owner) ps)))
    unfolding CodeKind.roll-CodeKind denote.Hole.Carrier.roll
    object_alike cs ps h = form_alike (CodeKind-F.Object cs) (λ g call owner env. CodeKind-F.Object (map (λ p. p g call owner) ps)) refl (λ g call owner p env k.
        plain_alike s (then_alike (parts_alike s [] _ _ (pairs_of (FieldAlike all xs) (PutsAlike E) (field_of g call owner) (λ p. p g call owner) (λ c q r. r.alike g call owner p) cs ps h)) (λ es. answered_alike s (object_made es))))

    pub texts_alike : (cs : List Code) (es : List Seen) → Beside (SeenAlike all xs) cs es → KindAlike all xs s (code.Template cs) (form s (λ g call owner env. CodeKind-F.Template (map (λ e. at env (e.sees g call owner)) es)))
    unfolding CodeKind.roll-CodeKind denote.Hole.Carrier.roll
    texts_alike cs es h = form_alike (CodeKind-F.Template cs) (λ g call owner env. CodeKind-F.Template (map (λ e. at env (e.sees g call owner)) es)) refl (λ g call owner p env k.
        plain_alike s (template_alike s _ _ (exprs_pairs cs es h g call owner p env k)))

    pub arrow_alike : (n : ℕ) (f : ℕ × Fun) → NumberAlike all n f → KindAlike all xs s (code.Arrow n) (arrow_form s f)
    unfolding CodeKind.roll-CodeKind denote.Hole.Carrier.roll
    arrow_alike n f h = record {
      alike = λ g call owner p env k. subst (λ z. Ee (z s) ((arrow_form s f).sees g call owner env))
          (sym (fold-roll-CodeKind (Puts (List ℕ × Val)) (Puts Val) (Span → Expr) Expr Link field_step item_step (kind_step g call owner) (code_step g call owner) link_step (CodeKind-F.Arrow n)))
          (plain_alike s (kept_alike (λ env env' w e. ap (λ a. answered s a w) (same g owner p env env' e.0))));
      tells = ap (λ (z : AnyLayer). reads_dispatcher z) (out-roll-CodeKind (CodeKind-F.Arrow n));
    }
      where
        same : (g : Ground) (owner : ℕ) → g.program.functions ≡ all → (env env' : Env) → env' ≡ env → holding f.0 owner (captured_after [] f.1.takes env') ≡ arrow (slice_get g.program.functions n) n owner env
        same g owner p env env' e =
            ap₂ (λ m z. holding m owner (captured_after [] f.1.takes z)) (sym h.number) e ∙ ap (λ ts. holding n owner (captured_after [] ts env)) (sym h.takes)
            ∙ ap (λ o. arrow o n owner env) (sym (ap (λ fs. slice_get fs n) p ∙ h.there))

    pub set_alike : (x : Known) (m : Env → Known) (place : Span) (op : AssignOp) → ((env : Env) → heads env ≡ xs → x ≡ m env) → (c : Code) (e : Seen) → SeenAlike all xs c e
        → KindAlike all xs s (code.Assign x place op c) (form s (λ g call owner env. CodeKind-F.Assign (m env) place op (at env (e.sees g call owner))))
    unfolding CodeKind.roll-CodeKind denote.Hole.Carrier.roll
    set_alike x m place op h c e r = form_alike (CodeKind-F.Assign x place op c) (λ g call owner env. CodeKind-F.Assign (m env) place op (at env (e.sees g call owner))) refl (λ g call owner p env k.
        subst (λ y. Ee (kind_step g call owner (CodeKind-F.Assign x place op (expr_of g call owner c)) s) (kind_step g call owner (CodeKind-F.Assign y place op (at env (e.sees g call owner))) s)) (h env k)
        (plain_alike s (assign_alike E (fits_in xs) g call owner op x place s (r.alike g call owner p env k).means)))

    pub bumped_alike : (x : Known) (m : Env → Known) (place : Span) (up prefix : Bool) → ((env : Env) → heads env ≡ xs → x ≡ m env) → KindAlike all xs s (code.Bump x place up prefix) (form s (λ g call owner env. CodeKind-F.Bump (m env) place up prefix))
    unfolding CodeKind.roll-CodeKind denote.Hole.Carrier.roll
    bumped_alike x m place up prefix h = form_alike (CodeKind-F.Bump x place up prefix) (λ g call owner env. CodeKind-F.Bump (m env) place up prefix) refl (λ g call owner p env k.
        subst (λ y. Ee (kind_step g call owner (CodeKind-F.Bump x place up prefix) s) (kind_step g call owner (CodeKind-F.Bump y place up prefix) s)) (h env k)
        (plain_alike s (bump_alike E (fits_in xs) g call owner x place up prefix s)))

    pub chained_alike : (c : Code) (e : Seen) (cs : List AnyOperator) (ls : List (Acts Link)) → SeenAlike all xs c e → Beside (OperatorAlike all xs) cs ls
        → KindAlike all xs s (code.Chain c cs) (form s (λ g call owner env. CodeKind-F.Chain (at env (e.sees g call owner)) (map (λ l. l g call owner) ls)))
    unfolding CodeKind.roll-CodeKind denote.Hole.Carrier.roll
    chained_alike c e cs ls r h = form_alike (CodeKind-F.Chain c cs) (λ g call owner env. CodeKind-F.Chain (at env (e.sees g call owner)) (map (λ l. l g call owner) ls)) refl (λ g call owner p env k.
        let first : Alike E (expr_of g call owner c).means (does (e.sees g call owner)) = (r.alike g call owner p env k).means in
        let links : Pairs (LinkAlike E) (map (link_of g call owner) cs) (map (λ l. l g call owner) ls) = pairs_of (OperatorAlike all xs) (LinkAlike E) (link_of g call owner) (λ l. l g call owner) (λ c l q. q.alike g call owner p) cs ls h in
        record { span = refl; means = chain_alike s _ _ first links; callee = refl; built = refl; ratio = division_alike s _ _ [] [] _ _ first tt links })

    pub not_alike : (c : Code) (e : Seen) → SeenAlike all xs c e → KindAlike all xs s (code.Not c) (form s (λ g call owner env. CodeKind-F.Not (at env (e.sees g call owner))))
    unfolding CodeKind.roll-CodeKind denote.Hole.Carrier.roll
    not_alike c e r = form_alike (CodeKind-F.Not c) (λ g call owner env. CodeKind-F.Not (at env (e.sees g call owner))) refl (λ g call owner p env k. plain_alike s (then_alike (r.alike g call owner p env k).means (λ v. done_alike _)))

    pub minus_alike : (c : Code) (e : Seen) → SeenAlike all xs c e → KindAlike all xs s (code.Minus c) (form s (λ g call owner env. CodeKind-F.Minus (at env (e.sees g call owner))))
    unfolding CodeKind.roll-CodeKind denote.Hole.Carrier.roll
    minus_alike c e r = form_alike (CodeKind-F.Minus c) (λ g call owner env. CodeKind-F.Minus (at env (e.sees g call owner))) refl (λ g call owner p env k. plain_alike s (then_alike (r.alike g call owner p env k).means (λ v. answered_alike s (negated v))))

    pub choose_alike : (a : Code) (x : Seen) (b : Code) (y : Seen) (c : Code) (z : Seen) → SeenAlike all xs a x → SeenAlike all xs b y → SeenAlike all xs c z
        → KindAlike all xs s (code.Choose a b c) (form s (λ g call owner env. CodeKind-F.Choose (at env (x.sees g call owner)) (at env (y.sees g call owner)) (at env (z.sees g call owner))))
    unfolding CodeKind.roll-CodeKind denote.Hole.Carrier.roll
    choose_alike a x b y c z r r' r'' = form_alike (CodeKind-F.Choose a b c) (λ g call owner env. CodeKind-F.Choose (at env (x.sees g call owner)) (at env (y.sees g call owner)) (at env (z.sees g call owner))) refl (λ g call owner p env k.
        plain_alike s (then_alike (r.alike g call owner p env k).means (λ v. either_alike (truthy v) (r'.alike g call owner p env k).means (r''.alike g call owner p env k).means)))

    pub member_alike : (q : Property) (c : Code) (e : Seen) → SeenAlike all xs c e → KindAlike all xs s (code.Member c q) (form s (λ g call owner env. CodeKind-F.Member (at env (e.sees g call owner)) q))
    unfolding CodeKind.roll-CodeKind denote.Hole.Carrier.roll
    member_alike q c e r = form_alike (CodeKind-F.Member c q) (λ g call owner env. CodeKind-F.Member (at env (e.sees g call owner)) q) refl (λ g call owner p env k.
        let h : Ee (expr_of g call owner c) (at env (e.sees g call owner)) = r.alike g call owner p env k in
        record { span = refl; means = then_alike h.means (λ v. answered_alike s (member_of q.method v (word_of g q))); callee = (_, h.means, ap (λ b. On b (does (e.sees g call owner)) q) h.built); built = refl; ratio = refl })

    pub indexed_alike : (a : Code) (x : Seen) (b : Code) (y : Seen) → SeenAlike all xs a x → SeenAlike all xs b y
        → KindAlike all xs s (code.Index a b) (form s (λ g call owner env. CodeKind-F.Index (at env (x.sees g call owner)) (at env (y.sees g call owner))))
    unfolding CodeKind.roll-CodeKind denote.Hole.Carrier.roll
    indexed_alike a x b y r r' = form_alike (CodeKind-F.Index a b) (λ g call owner env. CodeKind-F.Index (at env (x.sees g call owner)) (at env (y.sees g call owner))) refl (λ g call owner p env k.
        plain_alike s (then_alike (r.alike g call owner p env k).means (λ v. then_alike (r'.alike g call owner p env k).means (λ n. answered_alike s (index v n)))))

    pub call_alike : (c : Code) (e : Seen) (cs : List Code) (es : List Seen) → SeenAlike all xs c e → Beside (SeenAlike all xs) cs es → KindAlike all xs s (code.Call c cs) (call_form s e es)
    unfolding CodeKind.roll-CodeKind denote.Hole.Carrier.roll
    call_alike c e cs es r h = form_alike (CodeKind-F.Call c cs) (λ g call owner env. CodeKind-F.Call (at env (e.sees g call owner)) (map (λ a. at env (a.sees g call owner)) es)) refl (λ g call owner p env k.
        let of : Ee (expr_of g call owner c) (at env (e.sees g call owner)) = r.alike g call owner p env k in
        plain_alike s (called_alike E (fits_in xs) g call owner _ _ _ _ _ _ s of.callee of (exprs_pairs cs es h g call owner p env k)))

    pub dispatcher_alike : (n n' : ℕ) → n ≡ n' → (c : Code) (e : Seen) (cs : List Code) (es : List Seen) → SeenAlike all xs c e → Beside (SeenAlike all xs) cs es → KindAlike all xs s (code.Dispatcher n c.span cs) (dispatcher_form s n' e es)
    unfolding CodeKind.roll-CodeKind denote.Hole.Carrier.roll
    dispatcher_alike n n' same c e cs es r h = form_alike (CodeKind-F.Dispatcher n c.span cs) (λ g call owner env. CodeKind-F.Dispatcher n' (at env (e.sees g call owner)).span (map (λ a. at env (a.sees g call owner)) es)) refl (λ g call owner p env k.
        subst (λ m. Ee (kind_step g call owner (CodeKind-F.Dispatcher n c.span (map (expr_of g call owner) cs)) s) (kind_step g call owner (CodeKind-F.Dispatcher m (e.sees g call owner env).span (map (λ a. at env (a.sees g call owner)) es)) s)) same
        (subst (λ z. Ee (kind_step g call owner (CodeKind-F.Dispatcher n c.span (map (expr_of g call owner) cs)) s) (kind_step g call owner (CodeKind-F.Dispatcher n z (map (λ a. at env (a.sees g call owner)) es)) s)) (r.place g call owner env)
        (plain_alike s (counted_alike c.span (args_alike _ _ (λ vs. answered s (function_made n owner [])) (exprs_pairs cs es h g call owner p env k))))))

    -- an expression takes a step
    pub stepped : (k : AnyKind) (e : Seen) → KindAlike all xs s k e → SeenAlike all xs (record { span = s; kind = k }) (record e { sees = λ g call owner. step_at s (e.sees g call owner) })
    stepped k e h = record {
      alike = λ g call owner p env o.
          let good : Ee (kind_of g call owner k s) (e.sees g call owner env) = h.alike g call owner p env o in
          subst (λ z. Ee z (at env (step_at s (e.sees g call owner))))
          (sym (fold-roll-Code (Puts (List ℕ × Val)) (Puts Val) (Span → Expr) Expr Link field_step item_step (kind_step g call owner) (code_step g call owner) link_step (record { span = s; kind = k })))
          (record {
            span = refl;
            means = late xs (counted s (kind_of g call owner k s).means) (λ env. counted s (e.sees g call owner env).means) (λ env o. counted_alike s (h.alike g call owner p env o).means);
            callee = good.callee;
            built = good.built;
            ratio = good.ratio;
          });
      place = λ g call owner env. refl;
      tells = h.tells;
    }

  -- ---- items, fields and operators

  pub item_alike : (c : Code) (e : Seen) → SeenAlike all xs c e → ItemAlike all xs (item_code.One c) (λ g call owner s made env w. item_step {E = Unit {0}} (CodeItem-F.One (at env (e.sees g call owner))) s made env w)
  unfolding CodeItem.roll-CodeItem denote.Hole.Carrier.roll
  item_alike c e r = record {
    alike = λ g call owner p s made.
        subst (λ z. Alike E (z s made) (λ env w. item_step {E = Unit {0}} (CodeItem-F.One (at env (e.sees g call owner))) s made env w)) (sym (fold-roll-CodeItem (Puts (List ℕ × Val)) (Puts Val) (Span → Expr) Expr Link field_step item_step (kind_step g call owner) (code_step g call owner) link_step (CodeItem-F.One c)))
        (late xs (item_step {E = Span → Expr} (CodeItem-F.One (expr_of g call owner c)) s made) (λ env. item_step {E = Unit {0}} (CodeItem-F.One (at env (e.sees g call owner))) s made) (λ env k. then_alike (r.alike g call owner p env k).means (λ u. doing_alike (put_one s made u))));
  }

  pub items_alike : (c : Code) (e : Seen) → SeenAlike all xs c e → ItemAlike all xs (item_code.Spread c) (λ g call owner s made env w. item_step {E = Unit {0}} (CodeItem-F.«CodeItem::Spread» (at env (e.sees g call owner))) s made env w)
  unfolding CodeItem.roll-CodeItem denote.Hole.Carrier.roll
  items_alike c e r = record {
    alike = λ g call owner p s made.
        subst (λ z. Alike E (z s made) (λ env w. item_step {E = Unit {0}} (CodeItem-F.«CodeItem::Spread» (at env (e.sees g call owner))) s made env w)) (sym (fold-roll-CodeItem (Puts (List ℕ × Val)) (Puts Val) (Span → Expr) Expr Link field_step item_step (kind_step g call owner) (code_step g call owner) link_step (CodeItem-F.«CodeItem::Spread» c)))
        (late xs (item_step {E = Span → Expr} (CodeItem-F.«CodeItem::Spread» (expr_of g call owner c)) s made) (λ env. item_step {E = Unit {0}} (CodeItem-F.«CodeItem::Spread» (at env (e.sees g call owner))) s made) (λ env k.
        let h : Ee (expr_of g call owner c) (at env (e.sees g call owner)) = r.alike g call owner p env k in
        then_alike h.means (λ u. subst (λ z. Alike E (doing (put_all (spread u) (expr_of g call owner c).span made)) (doing (put_all (spread u) z made))) h.span (doing_alike (put_all (spread u) (expr_of g call owner c).span made)))));
  }

  pub field_alike : (key : List ℕ) (c : Code) (e : Seen) → SeenAlike all xs c e → FieldAlike all xs (field_code.Pair key c) (λ g call owner s made env w. field_step {E = Unit {0}} (CodeField-F.Pair key (at env (e.sees g call owner))) s made env w)
  unfolding CodeField.roll-CodeField denote.Hole.Carrier.roll
  field_alike key c e r = record {
    alike = λ g call owner p s made.
        subst (λ z. Alike E (z s made) (λ env w. field_step {E = Unit {0}} (CodeField-F.Pair key (at env (e.sees g call owner))) s made env w)) (sym (fold-roll-CodeField (Puts (List ℕ × Val)) (Puts Val) (Span → Expr) Expr Link field_step item_step (kind_step g call owner) (code_step g call owner) link_step (CodeField-F.Pair key c)))
        (late xs (field_step {E = Span → Expr} (CodeField-F.Pair key (expr_of g call owner c)) s made) (λ env. field_step {E = Unit {0}} (CodeField-F.Pair key (at env (e.sees g call owner))) s made) (λ env k. then_alike (r.alike g call owner p env k).means (λ u. doing_alike (put_one s made (key, u)))));
  }

  pub fields_alike : (c : Code) (e : Seen) → SeenAlike all xs c e → FieldAlike all xs (field_code.Spread c) (λ g call owner s made env w. field_step {E = Unit {0}} (CodeField-F.«CodeField::Spread» (at env (e.sees g call owner))) s made env w)
  unfolding CodeField.roll-CodeField denote.Hole.Carrier.roll
  fields_alike c e r = record {
    alike = λ g call owner p s made.
        subst (λ z. Alike E (z s made) (λ env w. field_step {E = Unit {0}} (CodeField-F.«CodeField::Spread» (at env (e.sees g call owner))) s made env w)) (sym (fold-roll-CodeField (Puts (List ℕ × Val)) (Puts Val) (Span → Expr) Expr Link field_step item_step (kind_step g call owner) (code_step g call owner) link_step (CodeField-F.«CodeField::Spread» c)))
        (late xs (field_step {E = Span → Expr} (CodeField-F.«CodeField::Spread» (expr_of g call owner c)) s made) (λ env. field_step {E = Unit {0}} (CodeField-F.«CodeField::Spread» (at env (e.sees g call owner))) s made) (λ env k.
        let h : Ee (expr_of g call owner c) (at env (e.sees g call owner)) = r.alike g call owner p env k in
        then_alike h.means (λ u. subst (λ z. Alike E (doing (put_all (spread_fields u) (expr_of g call owner c).span made)) (doing (put_all (spread_fields u) z made))) h.span (doing_alike (put_all (spread_fields u) (expr_of g call owner c).span made)))));
  }

  pub operator_alike : (op : Op) (c : Code) (e : Seen) → SeenAlike all xs c e → OperatorAlike all xs (record { op = op; right = c }) (λ g call owner. record { op = op; right = does (e.sees g call owner) })
  operator_alike op c e r = record {
    alike = λ g call owner p.
        subst (λ z. LinkAlike E z (record { op = op; right = does (e.sees g call owner) })) (sym (fold-roll-CodeLink (Puts (List ℕ × Val)) (Puts Val) (Span → Expr) Expr Link field_step item_step (kind_step g call owner) (code_step g call owner) link_step (record { op = op; right = c })))
        (record { op = refl; right = late xs (expr_of g call owner c).means (λ env. does (e.sees g call owner)) (λ env k. (r.alike g call owner p env k).means) });
  }
