-- Texts, elements, if blocks and key blocks.
use Rattle.std.proofs.Common.{◌≡◌, inl, inr, ℕ, suc, ◌≤◌, Bool, true, false, ◌&&◌, ◌||◌, List, [], ◌∷◌, Option, Some, None, is_some, option_map, unwrap_or, refl, sym, ap, ap₂, ◌∙◌, subst, arith, Ok, eqb-true, if◌then◌else◌}
use Rattle.sv_code.specs.Names.{Each}
use Rattle.sv_code.specs.Parts.{of_attrs}
use Rattle.sv_code.specs.Within.{IsWithin}
use Rattle.sv_code.specs.declared.fragments.FragAttr.{FragAttr}
use Rattle.sv_code.specs.declared.parts.Part.{Part}
use Rattle.sv_code.specs.declared.program.Program.{Program}
use Rattle.sv_fresh.specs.Blocks as fresh
use Rattle.sv_fresh.specs.States.{states}
use Rattle.sv_fresh.specs.Values.{value_at, holds_at, is_truthy}
use Rattle.sv_local.specs.Versions.{AreVersions}
use Rattle.sv_parts.specs.Attributes.{attrs_step, typed_after}
use Rattle.sv_parts.specs.Elements.{opening_by, opening_step}
use Rattle.sv_parts.specs.Parts.{evaluated, text_step, marked, literal_step, show_step}
use Rattle.sv_parts.specs.Sides.{Sides, moved}
use Rattle.sv_parts.specs.State.{andThen, numbered, destroyed}
use Rattle.sv_parts.specs.declared.elements.Opening.{Opening}
use Rattle.sv_parts.specs.declared.state.State.{State}
use Rattle.sv_plan.specs.Blocks.{any_moved, choose, chosen, is_arm, settled_with, settled_anew, settled_moved, settled}
use Rattle.sv_plan.specs.Plan as plans
use Rattle.sv_plan.specs.declared.blocks.Settled.{Settled}
use Rattle.sv_right.proofs.Attributes.{WereStates, AreStates, attrs_after}
use Rattle.sv_right.proofs.Steps.{After, then_after, more_after, if_after, Grows, Up, grows_same, grows_on}
use Rattle.sv_right.proofs.Standing.{Start, WasTrue, Layer, WasLayer, StaysLayer, NowAll, WereAll, StayAll, made, parts_below, were_on}
use Rattle.sv_right.proofs.Texts.{or_left, or_right}
use Rattle.sv_right.proofs.Values.{Valued, Texted, WasText, evaluated_after, still_value, text_step_after}
use Rattle.sv_right.specs.Claims.{Claim, Walker, OfLiteral, OfText, OfElement, OfIf, OfKey}
use Rattle.sv_right.specs.Succeeds.{tests_succeed}
use Rattle.sv_shapes.specs.Shapes.{Opened, mark_in, text_in, element_in, typed_in, states_in, arm_in, key_in, parts_in}
use Rattle.sv_shapes.specs.declared.shape.KeyState.{KeyState}
use Rattle.sv_shapes.specs.declared.shape.Shape.{Shape, Shape-F}
use Rattle.sv_shapes.specs.declared.shape.Shape.TheVariants as shape
use Rattle.sv_tokens.specs.declared.element.Typed.{Typed}
use Rattle.sv_value.specs.Change.{differs, truthy}
use Rattle.sv_view.specs.Level.{View}

-- ---- texts

marked_after : (old : Option ℕ) (s : State) → After (marked old s) (Up s)
marked_after None s = omega arith
marked_after (Some mark) s = grows_same s

-- what is claimed of a text that is written
abbrev pub literal_layer : Layer
literal_layer v held = OfLiteral held ∷ []

pub literal_stays : (p : Program) (start : Start) → StaysLayer p start (λ at held s. literal_step (mark_in held) s) literal_layer
literal_stays p start at held s was =
    then_after (marked (mark_in held) s) (λ mark u. Ok (shape.Literal mark, u)) (Up s) _ (marked_after (mark_in held) s)
    (λ mark v g. (made p start literal_layer at.new v.counters.next (shape.Literal mark) (Shape-F.Literal mark) (shape.outs-Literal mark) (record { right = ((tt, tt), tt); below = tt }), g))

-- what is claimed of the text of an expression
abbrev pub text_layer : Part → Layer
text_layer part v held = OfText part v held ∷ []

was_text : (p : Program) (start : Start) (part : Part) (at : Sides) (k : ℕ) (held : Opened) → WasLayer p start (text_layer part) at k held → WasText p part at (text_in held)
was_text p start part at k None was text e = absurd (cc)
was_text p start part at k (Some o) was text e = (was.1.0.own.versions, sym was.1.1.right.0.0.1 ∙ e)

pub show_stays : (p : Program) (start : Start) (part : Part) → IsWithin p part → StaysLayer p start (λ at held s. show_step p part at held s) (text_layer part)
show_stays p start part within at held s was =
    then_after (text_step p part (text_in held) at s) (λ text v. andThen (marked (mark_in held) v) (λ mark u. Ok (shape.Text mark text, u))) (Texted p part at.new s) _
    (text_step_after p part (text_in held) at s within (was_text p start part at s.counters.next held was))
    (λ text v h. then_after (marked (mark_in held) v) (λ mark u. Ok (shape.Text mark text, u)) (Up v) _ (marked_after (mark_in held) v)
    (λ mark u g. (
      made p start (text_layer part) at.new u.counters.next (shape.Text mark text) (Shape-F.Text mark text) (shape.outs-Text mark text) (record { right = (((tt, sym h.0), tt), tt); below = tt }),
      grows_on s v u h.1 g,
    )))

-- ---- content

-- a claim on a layer, and those on its content
abbrev pub with_content : (View → Opened → Claim) → Walker → Layer
with_content first claims v held = first v held ∷ claims v (parts_in held)

pub were_parts : (p : Program) (start : Start) (first : View → Opened → Claim) (claims : Walker) (at : Sides) (k : ℕ) (held : Opened) → WasLayer p start (with_content first claims) at k held →
    WereAll p start claims at k (parts_in held)
were_parts p start first claims at k None was = (was.0, inl refl)
were_parts p start first claims at k (Some o) was = (was.0, inr (was.1.0, record { right = was.1.1.right.1; below = parts_below k o was.1.1.below }))

-- content is right on a view
abbrev pub Content : Program → Start → Walker → View → State → List Shape → State → Type 0
Content p start claims v s xs u = NowAll p start claims v u.counters.next xs × Grows s u

pub kept_after : (p : Program) (start : Start) (walk : plans.Walker) (claims : Walker) (at : Sides) (kept : Bool) (parts : List Shape) (s : State) → StayAll p start walk claims → start.next ≤ s.counters.next →
    (kept ≡ true → WereAll p start claims at s.counters.next parts) → After (plans.kept_step walk at kept parts s) (Content p start claims at.new s)
kept_after p start walk claims at true parts s stay since were = stay at parts s (were refl)
kept_after p start walk claims at false parts s stay since were =
    then_after (destroyed parts s) (λ _ v. walk at [] v) (λ _ v. v.counters.next ≡ s.counters.next) (Content p start claims at.new s) refl
    (λ _ v e. more_after (walk at [] v) (Content p start claims at.new v) (Content p start claims at.new s) (stay at [] v (omega (arith, since, e), inl refl)) (λ xs u h. (h.0, grows_on s v u (omega (arith, e)) h.1)))

-- ---- elements

-- what is claimed of an element
abbrev pub element_layer : List FragAttr → Walker → Layer
element_layer attrs claims = with_content (λ v held. OfElement attrs v held) claims

were_states : (p : Program) (start : Start) (attrs : List FragAttr) (claims : Walker) (at : Sides) (k : ℕ) (held : Opened) → WasLayer p start (element_layer attrs claims) at k held → WereStates p attrs at (states_in held)
were_states p start attrs claims at k None was = inl refl
were_states p start attrs claims at k (Some o) was = inr (was.1.0.own.versions, (was.1.1.right.0.0.1, was.1.1.right.0.0.0.1))

-- what attributes come to on a view
abbrev Opens : Program → List FragAttr → View → State → Opening → State → Type 0
Opens p attrs v s o u = AreStates p attrs v o.states × Grows s u

opening_after : (p : Program) (attrs : List FragAttr) (mark : Option ℕ) (typed : Option Typed) (at : Sides) (held : Opened) (s : State) → Each (IsWithin p) (of_attrs attrs) → WereStates p attrs at (states_in held) →
    After (opening_by p attrs mark typed (states_in held) at s) (Opens p attrs at.new s)
opening_after p attrs None typed at held s fits were =
    then_after (numbered s) (λ mark v. andThen (attrs_step p attrs [] at v) (λ sts u. Ok (record { mark = mark; typed = None; states = sts }, u))) (Up s) (Opens p attrs at.new s) (omega arith)
    (λ mark v g. then_after (attrs_step p attrs [] at v) (λ sts u. Ok (record { mark = mark; typed = None; states = sts }, u)) (λ sts u. AreStates p attrs at.new sts × Grows v u) (Opens p attrs at.new s)
    (attrs_after p attrs [] at v fits (inl refl)) (λ sts u h. (h.0, grows_on s v u g h.1)))
opening_after p attrs (Some mark) typed at held s fits were =
    then_after (attrs_step p attrs (states_in held) at s) (λ sts u. Ok (record { mark = mark; typed = typed_after p at attrs (states_in held) typed; states = sts }, u))
    (λ sts u. AreStates p attrs at.new sts × Grows s u) (Opens p attrs at.new s) (attrs_after p attrs (states_in held) at s fits were) (λ sts u h. h)

pub element_stays : (p : Program) (start : Start) (attrs : List FragAttr) (walk : plans.Walker) (claims : Walker) → Each (IsWithin p) (of_attrs attrs) → StayAll p start walk claims →
    StaysLayer p start (λ at held s. plans.element_step p attrs walk at held s) (element_layer attrs claims)
element_stays p start attrs walk claims fits stay at held s was =
    then_after (opening_step p attrs at held s) (λ o v. andThen (walk at (parts_in held) v) (λ parts u. Ok (shape.Element o.mark o.typed o.states parts, u))) (Opens p attrs at.new s) _
    (opening_after p attrs (element_in held) (typed_in held) at held s fits (were_states p start attrs claims at s.counters.next held was))
    (λ o v h. then_after (walk at (parts_in held) v) (λ parts u. Ok (shape.Element o.mark o.typed o.states parts, u)) (Content p start claims at.new v) _
    (stay at (parts_in held) v (were_on p start claims at s.counters.next v.counters.next h.1 (parts_in held) (were_parts p start (λ w x. OfElement attrs w x) claims at s.counters.next held was)))
    (λ parts u q. (
      made p start (element_layer attrs claims) at.new u.counters.next (shape.Element o.mark o.typed o.states parts) (Shape-F.Element o.mark o.typed o.states parts) (shape.outs-Element o.mark o.typed o.states parts)
          (record { right = ((((tt, h.0.1), h.0.0), tt), q.0.right); below = q.0.below }),
      grows_on s v u h.1 q.1,
    )))

-- ---- if blocks

if_so : {A : Type 0} (b : Bool) (x y : A) → b ≡ true → (if b then x else y) ≡ x
if_so true x y e = refl
if_so false x y e = absurd (cc)

if_not : {A : Type 0} (b : Bool) (x y : A) → b ≡ false → (if b then x else y) ≡ y
if_not true x y e = absurd (cc)
if_not false x y e = refl

-- a condition that holds is the last one that is tested
first_succeeds : (a b c : Bool) → a ≡ true → b ≡ true → (a && (b || c)) ≡ true
first_succeeds true true c e f = refl
first_succeeds true false c e f = absurd (cc)
first_succeeds false b c e f = absurd (cc)

-- behind another one the next is tested
next_succeeds : (a b c : Bool) → a ≡ true → c ≡ true → (a && (b || c)) ≡ true
next_succeeds true true c e f = refl
next_succeeds true false c e f = f
next_succeeds false b c e f = absurd (cc)

-- the branch that is to be shown on a view, where no condition before it faults, nor its own
abbrev IsChoice : Program → List Part → ℕ → View → ℕ → Type 0
IsChoice p ts i v arm = (arm ≡ fresh.choose p v ts i) × (tests_succeed p v ts ≡ true)

abbrev Chooses : Program → List Part → ℕ → View → State → ℕ → State → Type 0
Chooses p ts i v s arm u = IsChoice p ts i v arm × Grows s u

choose_after : (p : Program) (ts : List Part) (i : ℕ) (at : Sides) (s : State) → After (choose p ts i at s) (Chooses p ts i at.new s)
choose_after p [] i at s = ((refl, refl), grows_same s)
choose_after p (t ∷ ts) i at s =
    then_after (evaluated p t at s) (λ x u. if truthy x then Ok (i, u) else choose p ts (suc i) at u) (Valued p t at.new s) (Chooses p (t ∷ ts) i at.new s) (evaluated_after p t at s)
    (λ x v e. if_after (truthy x) (Ok (i, v)) (choose p ts (suc i) at v) (Chooses p (t ∷ ts) i at.new s)
    (λ q. (
      (
        sym (if_so (holds_at p at.new t) i (fresh.choose p at.new ts (suc i)) (ap is_truthy e.0 ∙ q)),
        first_succeeds (is_some (value_at p at.new t)) (holds_at p at.new t) (tests_succeed p at.new ts) (ap is_some e.0) (ap is_truthy e.0 ∙ q),
      ),
      e.1,
    ))
    (λ q. more_after (choose p ts (suc i) at v) (Chooses p ts (suc i) at.new v) (Chooses p (t ∷ ts) i at.new s) (choose_after p ts (suc i) at v)
    (λ arm u h. (
      (
        h.0.0 ∙ sym (if_not (holds_at p at.new t) i (fresh.choose p at.new ts (suc i)) (ap is_truthy e.0 ∙ q)),
        next_succeeds (is_some (value_at p at.new t)) (holds_at p at.new t) (tests_succeed p at.new ts) (ap is_some e.0) h.0.1,
      ),
      grows_on s v u e.1 h.1,
    ))))

-- where no condition moved, the same branch is to be shown
still_choose : (p : Program) (ts : List Part) (i : ℕ) (at : Sides) → Each (IsWithin p) ts → AreVersions at.old at.new → any_moved ts at ≡ false → fresh.choose p at.old ts i ≡ fresh.choose p at.new ts i
still_choose p [] i at fits all e = refl
still_choose p (t ∷ ts) i at fits all e =
    ap₂ (λ b n. if b then i else n) (ap is_truthy (still_value p t at fits.0 all (or_left (moved t.reads at) (any_moved ts at) e)))
    (still_choose p ts (suc i) at fits.1 all (or_right (moved t.reads at) (any_moved ts at) e))

still_succeed : (p : Program) (ts : List Part) (at : Sides) → Each (IsWithin p) ts → AreVersions at.old at.new → any_moved ts at ≡ false → tests_succeed p at.old ts ≡ tests_succeed p at.new ts
still_succeed p [] at fits all e = refl
still_succeed p (t ∷ ts) at fits all e =
    ap₂ (λ o b. is_some o && (is_truthy o || b)) (still_value p t at fits.0 all (or_left (moved t.reads at) (any_moved ts at) e))
    (still_succeed p ts at fits.1 all (or_right (moved t.reads at) (any_moved ts at) e))

-- the branch that was shown is the one that was to be shown on the old view
abbrev WasChosen : Program → List Part → Sides → Option ℕ → Type 0
WasChosen p ts at old = (arm : ℕ) → old ≡ Some arm → AreVersions at.old at.new × IsChoice p ts 0 at.old arm

chosen_after : (p : Program) (ts : List Part) (old : Option ℕ) (at : Sides) (s : State) → Each (IsWithin p) ts → WasChosen p ts at old → After (chosen p ts old at s) (Chooses p ts 0 at.new s)
chosen_after p ts None at s fits was = choose_after p ts 0 at s
chosen_after p ts (Some arm) at s fits was =
    if_after (any_moved ts at) (choose p ts 0 at s) (Ok (arm, s)) (Chooses p ts 0 at.new s) (λ _. choose_after p ts 0 at s)
    (λ e. (
      ((was arm refl).1.0 ∙ still_choose p ts 0 at fits (was arm refl).0 e, sym (still_succeed p ts at fits (was arm refl).0 e) ∙ (was arm refl).1.1),
      grows_same s,
    ))

-- what is claimed of an if block
abbrev pub if_layer : List Part → (ℕ → Walker) → Layer
if_layer ts claims v held = OfIf ts v held ∷ claims (unwrap_or (arm_in held) 0) v (parts_in held)

unwrapped : (o : Option ℕ) (n : ℕ) → o ≡ Some n → unwrap_or o 0 ≡ n
unwrapped o n e = ap (λ z. unwrap_or z 0) e

was_chosen : (p : Program) (start : Start) (ts : List Part) (claims : ℕ → Walker) (at : Sides) (k : ℕ) (held : Opened) → WasLayer p start (if_layer ts claims) at k held → WasChosen p ts at (arm_in held)
was_chosen p start ts claims at k None was arm e = absurd (cc)
was_chosen p start ts claims at k (Some o) was arm e =
    (was.1.0.own.versions, (sym (unwrapped (arm_in (Some o)) arm e) ∙ ap (λ z. unwrap_or z 0) was.1.1.right.0.0.1, was.1.1.right.0.0.0))

is_same : (old : Option ℕ) (arm : ℕ) → is_arm old arm ≡ true → old ≡ Some arm
is_same None arm e = absurd (cc)
is_same (Some n) arm e = ap Some (eqb-true n arm e)

were_in_arm : (p : Program) (start : Start) (ts : List Part) (claims : ℕ → Walker) (at : Sides) (k arm : ℕ) (held : Opened) → WasLayer p start (if_layer ts claims) at k held → is_arm (arm_in held) arm ≡ true →
    WereAll p start (claims arm) at k (parts_in held)
were_in_arm p start ts claims at k arm None was e = (was.0, inl refl)
were_in_arm p start ts claims at k arm (Some o) was e = (
  was.0,
  inr (
    was.1.0,
    record {
      right = subst (λ n. Each (WasTrue p start) (claims n at.old (parts_in (Some o)))) (unwrapped (arm_in (Some o)) arm (is_same (arm_in (Some o)) arm e)) was.1.1.right.1;
      below = parts_below k o was.1.1.below;
    },
  ),
)

pub if_stays : (p : Program) (start : Start) (ts : List Part) (walk : ℕ → plans.Walker) (claims : ℕ → Walker) → Each (IsWithin p) ts → ((i : ℕ) → StayAll p start (walk i) (claims i)) →
    StaysLayer p start (λ at held s. plans.if_step p ts walk at held s) (if_layer ts claims)
if_stays p start ts walk claims fits stay at held s was =
    then_after (chosen p ts (arm_in held) at s) (λ arm v. andThen (plans.kept_step (walk arm) at (is_arm (arm_in held) arm) (parts_in held) v) (λ parts u. Ok (shape.If arm parts, u)))
    (Chooses p ts 0 at.new s) _ (chosen_after p ts (arm_in held) at s fits (was_chosen p start ts claims at s.counters.next held was))
    (λ arm v h. then_after (plans.kept_step (walk arm) at (is_arm (arm_in held) arm) (parts_in held) v) (λ parts u. Ok (shape.If arm parts, u)) (Content p start (claims arm) at.new v) _
    (kept_after p start (walk arm) (claims arm) at (is_arm (arm_in held) arm) (parts_in held) v (stay arm) (omega (arith, was.0, h.1))
    (λ e. were_on p start (claims arm) at s.counters.next v.counters.next h.1 (parts_in held) (were_in_arm p start ts claims at s.counters.next arm held was e)))
    (λ parts u q. (
      made p start (if_layer ts claims) at.new u.counters.next (shape.If arm parts) (Shape-F.If arm parts) (shape.outs-If arm parts) (record { right = (((h.0.1, ap Some h.0.0), tt), q.0.right); below = q.0.below }),
      grows_on s v u h.1 q.1,
    )))

-- ---- key blocks

-- the value of a key block is the one on a view
abbrev Settles : Program → Part → View → State → Settled → State → Type 0
Settles p part v s k u = (value_at p v part ≡ Some k.state.value) × Grows s u

settled_new : (p : Program) (part : Part) (at : Sides) (s : State) → After (settled_anew p part at s) (Settles p part at.new s)
settled_new p part at s =
    then_after (evaluated p part at s) (λ x u. andThen (numbered u) (λ n w. Ok (record { state = record { value = x; number = n }; kept = false }, w))) (Valued p part at.new s)
    (Settles p part at.new s) (evaluated_after p part at s) (λ x v e. (e.0, omega (arith, e.1)))

settled_over : (p : Program) (part : Part) (old : KeyState) (at : Sides) (s : State) → After (settled_moved p part old at s) (Settles p part at.new s)
settled_over p part old at s =
    then_after (evaluated p part at s) (settled_with old) (Valued p part at.new s) (Settles p part at.new s) (evaluated_after p part at s)
    (λ x v e. if_after (differs old.value x) (andThen (numbered v) (λ n u. Ok (record { state = record { value = x; number = n }; kept = false }, u)))
    (Ok (record { state = record { value = x; number = old.number }; kept = true }, v)) (Settles p part at.new s) (λ _. (e.0, omega (arith, e.1))) (λ _. e))

settled_after : (p : Program) (part : Part) (old : Option KeyState) (at : Sides) (s : State) → IsWithin p part →
    ((k : KeyState) → old ≡ Some k → AreVersions at.old at.new × (Some k.value ≡ value_at p at.old part)) → After (settled p part old at s) (Settles p part at.new s)
settled_after p part None at s fits was = settled_new p part at s
settled_after p part (Some old) at s fits was =
    if_after (moved part.reads at) (settled_moved p part old at s) (Ok (record { state = old; kept = true }, s)) (Settles p part at.new s) (λ _. settled_over p part old at s)
    (λ e. (sym (still_value p part at fits (was old refl).0 e) ∙ sym (was old refl).1, grows_same s))

-- what is claimed of a key block
abbrev pub key_layer : Part → Walker → Layer
key_layer part claims = with_content (λ v held. OfKey part v held) claims

was_settled : (p : Program) (start : Start) (part : Part) (claims : Walker) (at : Sides) (k : ℕ) (held : Opened) → WasLayer p start (key_layer part claims) at k held →
    (st : KeyState) → key_in held ≡ Some st → AreVersions at.old at.new × (Some st.value ≡ value_at p at.old part)
was_settled p start part claims at k None was st e = absurd (cc)
was_settled p start part claims at k (Some o) was st e = (was.1.0.own.versions, sym (ap (option_map (λ z. z.value)) e) ∙ was.1.1.right.0.0.1)

pub key_stays : (p : Program) (start : Start) (part : Part) (walk : plans.Walker) (claims : Walker) → IsWithin p part → StayAll p start walk claims →
    StaysLayer p start (λ at held s. plans.key_step p part walk at held s) (key_layer part claims)
key_stays p start part walk claims fits stay at held s was =
    then_after (settled p part (key_in held) at s) (λ k v. andThen (plans.kept_step walk at k.kept (parts_in held) v) (λ parts u. Ok (shape.Key k.state parts, u))) (Settles p part at.new s) _
    (settled_after p part (key_in held) at s fits (was_settled p start part claims at s.counters.next held was))
    (λ k v h. then_after (plans.kept_step walk at k.kept (parts_in held) v) (λ parts u. Ok (shape.Key k.state parts, u)) (Content p start claims at.new v) _
    (kept_after p start walk claims at k.kept (parts_in held) v stay (omega (arith, was.0, h.1))
    (λ _. were_on p start claims at s.counters.next v.counters.next h.1 (parts_in held) (were_parts p start (λ w x. OfKey part w x) claims at s.counters.next held was)))
    (λ parts u q. (
      made p start (key_layer part claims) at.new u.counters.next (shape.Key k.state parts) (Shape-F.Key k.state parts) (shape.outs-Key k.state parts) (record { right = (((tt, sym h.0), tt), q.0.right); below = q.0.below }),
      grows_on s v u h.1 q.1,
    )))
