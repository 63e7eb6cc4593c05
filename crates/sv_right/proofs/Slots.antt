-- Slots: their props and the content that they show.
use Rattle.std.proofs.Common.{◌≡◌, inl, inr, ℕ, suc, ◌<◌, ◌≤◌, Bool, true, false, nat_eq, List, [], ◌∷◌, ◌++◌, Option, Some, None, is_none, refl, sym, ap, ap₂, ◌∙◌, subst, arith, Ok, eqb-true, if◌then◌else◌}
use Rattle.sv_base.specs.declared.names.Name.{Name}
use Rattle.sv_code.proofs.Each.{each_front, each_back, each_append}
use Rattle.sv_code.specs.Names.{Each}
use Rattle.sv_code.specs.Parts.{of_attr, of_attrs}
use Rattle.sv_code.specs.Within.{IsWithin}
use Rattle.sv_code.specs.declared.fragments.FragAttr.{FragAttr}
use Rattle.sv_code.specs.declared.program.Program.{Program}
use Rattle.sv_local.specs.Versions.{AreVersions}
use Rattle.sv_parts.specs.Sides.{Sides}
use Rattle.sv_parts.specs.State.{Run, andThen, each, one}
use Rattle.sv_parts.specs.Tags.{passed_name, passed_value}
use Rattle.sv_parts.specs.declared.state.State.{State}
use Rattle.sv_parts.specs.declared.values.Valued as found
use Rattle.sv_plan.specs.Plan as plans
use Rattle.sv_plan.specs.Slots.{prop_named, prop_anew, prop_by, texts_of, prop_step, props_of, props_step, content_view, content_sides}
use Rattle.sv_right.proofs.Growing.{passed_up}
use Rattle.sv_right.proofs.Lists.{some_same}
use Rattle.sv_right.proofs.Passing.{IsPassed, WerePassed, given_at, passed_given, attr_passed}
use Rattle.sv_right.proofs.Standing.{Start, WasTrue, StaysTrue, HoldsAll, Layer, WasLayer, StaysLayer, Below, layer_versions, WereAll, StayAll, made, parts_below, below_on, were_on}
use Rattle.sv_right.proofs.Steps.{After, then_after, more_after, both_after, all_after, cons_after, Grows, Up, grows_same, grows_on}
use Rattle.sv_right.proofs.Views.{IsLaterProp, AreLaterProps, content_later}
use Rattle.sv_right.specs.Claims.{Walker, Filled, OfSlot, slot_claims}
use Rattle.sv_right.specs.Given.{of_props, versions_all}
use Rattle.sv_right.specs.Right.{IsProp, passed_at, kept_texts, or_first, first_passing}
use Rattle.sv_shapes.specs.Shapes.{Opened, props_in, parts_in}
use Rattle.sv_shapes.specs.declared.shape.Row.{Row}
use Rattle.sv_shapes.specs.declared.shape.Shape.{Shape, Shape-F}
use Rattle.sv_shapes.specs.declared.shape.Shape.TheVariants as shape
use Rattle.sv_shapes.specs.declared.shape.SlotProp.{SlotProp}
use Rattle.sv_value.specs.Value.{Val}
use Rattle.sv_view.specs.Level.{View}

-- ---- one prop

-- a prop that there was is what its attribute passed on the old view
abbrev WasProp : Program → FragAttr → Sides → Option SlotProp → Type 0
WasProp p a at None = Unit {0}
WasProp p a at (Some old) = AreVersions at.old at.new × ((passed_at p at.old a ≡ Some old.value) × (old.texts ≡ kept_texts p at.old a))

-- its number was given before the next one
abbrev IsPropBelow : ℕ → Option SlotProp → Type 0
IsPropBelow k None = Unit {0}
IsPropBelow k (Some old) = old.number < k

-- it is later than the one that there was
abbrev IsLater : Option SlotProp → SlotProp → Type 0
IsLater None new = Unit {0}
IsLater (Some old) new = IsLaterProp old new

-- a prop is what its attribute passes on a view
record IsPropOf (p : Program) (a : FragAttr) (v : View) (old : Option SlotProp) (s : State) (prop : SlotProp) (u : State) : Type 0 where
  value : passed_at p v a ≡ Some prop.value
  texts : prop.texts ≡ kept_texts p v a
  later : IsLater old prop
  grows : Grows s u

were_passed : (p : Program) (a : FragAttr) (at : Sides) (old : Option SlotProp) → WasProp p a at old → WerePassed (kept_texts p at.old a) at (is_none old) (texts_of old)
were_passed p a at None was = inl (refl, refl)
were_passed p a at (Some old) was = inr (was.0, was.1.1)

prop_new : (p : Program) (a : FragAttr) (name : Name) (at : Sides) (old : Option SlotProp) (texts : List (List ℕ)) (x : Val) (s v : State) → IsPropBelow s.counters.next old → Grows s v →
    passed_at p at.new a ≡ Some x → texts ≡ kept_texts p at.new a → After (prop_anew name texts x v) (IsPropOf p a at.new old s)
prop_new p a name at None texts x s v below g e k = record { value = e; texts = k; later = tt; grows = omega (arith, g) }
prop_new p a name at (Some old) texts x s v below g e k = record { value = e; texts = k; later = (omega (arith, below, g), (λ q. absurd (omega (arith, below, g, q)))); grows = omega (arith, g) }

prop_by_after : (p : Program) (a : FragAttr) (name : Name) (at : Sides) (old : Option SlotProp) (o : Option Val) (x : found.Valued) (s v : State) → x.value ≡ o → WasProp p a at old → IsPropBelow s.counters.next old →
    IsPassed (given_at p at.old a) (given_at p at.new a) (kept_texts p at.old a) (kept_texts p at.new a) (is_none old) s x v → After (prop_by name old x.texts o v) (IsPropOf p a at.new old s)
prop_by_after p a name at (Some old) None x s v is was below h =
    record { value = passed_given p at.new a ∙ sym (h.stays refl is).0 ∙ sym (passed_given p at.old a) ∙ was.1.0; texts = was.1.1 ∙ (h.stays refl is).1; later = (omega arith, (λ _. refl)); grows = h.grows }
prop_by_after p a name at (Some old) (Some y) x s v is was below h = prop_new p a name at (Some old) x.texts y s v below h.grows (passed_given p at.new a ∙ h.given y is) h.texts
prop_by_after p a name at None None x s v is was below h = absurd (h.anew refl is)
prop_by_after p a name at None (Some y) x s v is was below h = prop_new p a name at None x.texts y s v below h.grows (passed_given p at.new a ∙ h.given y is) h.texts

prop_after : (p : Program) (a : FragAttr) (name own : Name) (at : Sides) (old : Option SlotProp) (s : State) → passed_name a ≡ Some own → Each (IsWithin p) (of_attr a) → WasProp p a at old →
    IsPropBelow s.counters.next old → After (prop_step p a name old at s) (IsPropOf p a at.new old s)
prop_after p a name own at old s named fits was below =
    then_after (passed_value p a (texts_of old) (is_none old) at s) (λ x u. prop_by name old x.texts x.value u)
    (IsPassed (given_at p at.old a) (given_at p at.new a) (kept_texts p at.old a) (kept_texts p at.new a) (is_none old) s) (IsPropOf p a at.new old s)
    (attr_passed p a own (texts_of old) (is_none old) at s named fits (were_passed p a at old was)) (λ x v h. prop_by_after p a name at old x.value x s v refl was below h)

-- ---- its name and its number

-- it has a name
abbrev IsNamed : Name → Option SlotProp → Type 0
IsNamed name None = Unit {0}
IsNamed name (Some old) = old.name.0 ≡ name.0

-- whatever stands there, a prop has its name, and a number that was given
record IsGiven (name : Name) (s : State) (prop : SlotProp) (u : State) : Type 0 where
  named : prop.name.0 ≡ name.0
  below : prop.number < u.counters.next
  grows : Grows s u

given_by : (name : Name) (old : Option SlotProp) (texts : List (List ℕ)) (o : Option Val) (s v : State) → IsNamed name old → IsPropBelow s.counters.next old → Grows s v → After (prop_by name old texts o v) (IsGiven name s)
given_by name (Some old) texts None s v named below g = record { named = named; below = omega (arith, below, g); grows = g }
given_by name (Some old) texts (Some x) s v named below g = record { named = refl; below = omega arith; grows = omega (arith, g) }
given_by name None texts None s v named below g = record { named = refl; below = omega arith; grows = omega (arith, g) }
given_by name None texts (Some x) s v named below g = record { named = refl; below = omega arith; grows = omega (arith, g) }

prop_given : (p : Program) (a : FragAttr) (name : Name) (at : Sides) (old : Option SlotProp) (s : State) → IsNamed name old → IsPropBelow s.counters.next old → After (prop_step p a name old at s) (IsGiven name s)
prop_given p a name at old s named below =
    then_after (passed_value p a (texts_of old) (is_none old) at s) (λ x u. prop_by name old x.texts x.value u) (Up s) (IsGiven name s) (passed_up p a (texts_of old) (is_none old) at s)
    (λ x v g. given_by name old x.texts x.value s v named below g)

if_named : (name : Name) (prop : SlotProp) (o : Option SlotProp) (b : Bool) → nat_eq prop.name.0 name.0 ≡ b → IsNamed name o → IsNamed name (if b then Some prop else o)
if_named name prop o true e h = eqb-true prop.name.0 name.0 e
if_named name prop o false e h = h

named_is : (name : Name) (props : List SlotProp) → IsNamed name (prop_named name props)
named_is name [] = tt
named_is name (prop ∷ props) = if_named name prop (prop_named name props) (nat_eq prop.name.0 name.0) refl (named_is name props)

if_below : (k : ℕ) (prop : SlotProp) (o : Option SlotProp) (b : Bool) → prop.number < k → IsPropBelow k o → IsPropBelow k (if b then Some prop else o)
if_below k prop o true lt h = lt
if_below k prop o false lt h = h

named_below : (k : ℕ) (name : Name) (props : List SlotProp) → Below k (of_props props) → IsPropBelow k (prop_named name props)
named_below k name [] h = tt
named_below k name (prop ∷ props) h = if_below k prop (prop_named name props) (nat_eq prop.name.0 name.0) h.0 (named_below k name props h.1)

-- ---- all props

-- all numbers in some props were given
abbrev BelowAll : State → List SlotProp → State → Type 0
BelowAll s props u = Below u.counters.next (of_props props) × Grows s u

-- the props of attributes, from one with a number on
abbrev props_from : Program → List SlotProp → Sides → ℕ → List FragAttr → Run (List SlotProp)
props_from p olds at i attrs s = each (λ a j u. props_of p a (passed_name a) olds at u) i attrs s

props_below : (p : Program) (olds : List SlotProp) (at : Sides) (i : ℕ) (attrs : List FragAttr) (s : State) → Below s.counters.next (of_props olds) → After (props_from p olds at i attrs s) (BelowAll s)
props_below p olds at i [] s h = (tt, grows_same s)
props_below p olds at i (a ∷ attrs) s h = by (passed_name a) (λ v k. props_below p olds at (suc i) attrs v k)
  where
    by : (o : Option Name) → ((v : State) → Below v.counters.next (of_props olds) → After (props_from p olds at (suc i) attrs v) (BelowAll v)) → After (andThen (props_of p a o olds at s) (λ ys v. andThen (props_from p olds at (suc i) attrs v) (λ zs u. Ok (ys ++ zs, u)))) (BelowAll s)
    by None rest =
        then_after (props_from p olds at (suc i) attrs s) (λ zs u. Ok (zs, u)) (BelowAll s) (BelowAll s) (rest s h) (λ zs u q. q)
    by (Some own) rest =
        cons_after (prop_step p a own (prop_named own olds) at s) (λ v. props_from p olds at (suc i) attrs v) (IsGiven own s) (BelowAll s)
        (prop_given p a own at (prop_named own olds) s (named_is own olds) (named_below s.counters.next own olds h))
        (λ x v q. more_after (props_from p olds at (suc i) attrs v) (BelowAll v) (λ zs u. BelowAll s (x ∷ zs) u)
        (rest v (below_on s.counters.next v.counters.next q.grows (of_props olds) h)) (λ zs u r. ((omega (arith, q.below, r.1), r.0), grows_on s v u q.grows r.1)))

-- ---- the prop of a name

-- it is what the first attribute of that name passes, and later than the old one
record IsPropAt (p : Program) (v : View) (o : Option FragAttr) (old prop : Option SlotProp) : Type 0 where
  is : IsProp p v o prop
  later : (new : SlotProp) → prop ≡ Some new → IsLater old new

-- the same of the prop of a name among some
abbrev PropAt : Program → View → Name → List FragAttr → Option SlotProp → List SlotProp → State → Type 0
PropAt p v name attrs old props u = IsPropAt p v (first_passing name attrs) old (prop_named name props)

-- the old prop of a name, where the first attribute of that name is one of some
abbrev WasAt : Program → Sides → Name → List FragAttr → Option SlotProp → Type 0
WasAt p at name attrs old = (a : FragAttr) → first_passing name attrs ≡ Some a → WasProp p a at old

nothing_at : (p : Program) (v : View) (old : Option SlotProp) → IsPropAt p v None old None
nothing_at p v old = record { is = refl; later = λ new e. absurd (cc) }

some_at : (p : Program) (v : View) (a : FragAttr) (old : Option SlotProp) (prop : SlotProp) (s u : State) → IsPropOf p a v old s prop u → IsPropAt p v (Some a) old (Some prop)
some_at p v a old prop s u h = record { is = (h.value, h.texts); later = λ new e. subst (IsLater old) (some_same e) h.later }

-- the props of a name are the same ones, where it is spelled by the same number
under_same : (name own : Name) (props : List SlotProp) → own.0 ≡ name.0 → prop_named own props ≡ prop_named name props
under_same name own [] e = refl
under_same name own (prop ∷ props) e = ap₂ (λ n o. if nat_eq prop.name.0 n then Some prop else o) e (under_same name own props e)

module _ (p : Program) (olds : List SlotProp) (at : Sides) (name : Name) where
  -- the prop of the name that there was
  abbrev before : Option SlotProp
  before = prop_named name olds

  -- what is so of the props of attributes
  abbrev IsAt : ℕ → List FragAttr → Type 0
  IsAt i attrs = (s : State) → Below s.counters.next (of_props olds) → WasAt p at name attrs before → After (props_from p olds at i attrs s) (PropAt p at.new name attrs before)

  module _ (i : ℕ) (a : FragAttr) (attrs : List FragAttr) (rest : IsAt (suc i) attrs) where
    -- the one of another name
    past : (own : Name) (prop : SlotProp) (zs : List SlotProp) → prop.name.0 ≡ own.0 → nat_eq own.0 name.0 ≡ false → IsPropAt p at.new (first_passing name attrs) before (prop_named name zs) →
        IsPropAt p at.new (or_first name a (Some own) (first_passing name attrs)) before (prop_named name (prop ∷ zs))
    past own prop zs named apart h =
        subst (λ b. IsPropAt p at.new (if b then Some a else first_passing name attrs) before (prop_named name (prop ∷ zs))) (sym apart)
        (subst (λ b. IsPropAt p at.new (first_passing name attrs) before (if b then Some prop else prop_named name zs)) (sym (ap (λ n. nat_eq n name.0) named ∙ apart)) h)

    -- the first one of the name
    first : (own : Name) (prop : SlotProp) (zs : List SlotProp) (s v : State) → prop.name.0 ≡ own.0 → nat_eq own.0 name.0 ≡ true → IsPropOf p a at.new before s prop v →
        IsPropAt p at.new (or_first name a (Some own) (first_passing name attrs)) before (prop_named name (prop ∷ zs))
    first own prop zs s v named same h =
        subst (λ b. IsPropAt p at.new (if b then Some a else first_passing name attrs) before (prop_named name (prop ∷ zs))) (sym same)
        (subst (λ b. IsPropAt p at.new (Some a) before (if b then Some prop else prop_named name zs)) (sym (ap (λ n. nat_eq n name.0) named ∙ same)) (some_at p at.new a before prop s v h))

    given : (own : Name) (s : State) → Below s.counters.next (of_props olds) → After (prop_step p a own (prop_named own olds) at s) (IsGiven own s)
    given own s below = prop_given p a own at (prop_named own olds) s (named_is own olds) (named_below s.counters.next own olds below)

    named_by : (own : Name) (b : Bool) (s : State) → Each (IsWithin p) (of_attr a) → Below s.counters.next (of_props olds) → passed_name a ≡ Some own → nat_eq own.0 name.0 ≡ b →
        ((c : FragAttr) → (if b then Some a else first_passing name attrs) ≡ Some c → WasProp p c at before) →
        After (andThen (one (prop_step p a own (prop_named own olds) at s)) (λ ys v. andThen (props_from p olds at (suc i) attrs v) (λ zs u. Ok (ys ++ zs, u))))
        (λ props u. IsPropAt p at.new (or_first name a (Some own) (first_passing name attrs)) before (prop_named name props))
    named_by own true s fits below is same w =
        cons_after (prop_step p a own (prop_named own olds) at s) (λ v. props_from p olds at (suc i) attrs v) (λ x v. IsGiven own s x v × IsPropOf p a at.new before s x v)
        (λ props u. IsPropAt p at.new (or_first name a (Some own) (first_passing name attrs)) before (prop_named name props))
        (both_after (prop_step p a own (prop_named own olds) at s) (IsGiven own s) (IsPropOf p a at.new before s) (given own s below)
        (subst (λ o. After (prop_step p a own o at s) (IsPropOf p a at.new before s)) (sym (under_same name own olds (eqb-true own.0 name.0 same)))
        (prop_after p a own own at before s is fits (w a refl) (named_below s.counters.next name olds below))))
        (λ x v q. more_after (props_from p olds at (suc i) attrs v) (BelowAll v) (λ zs u. IsPropAt p at.new (or_first name a (Some own) (first_passing name attrs)) before (prop_named name (x ∷ zs)))
        (props_below p olds at (suc i) attrs v (below_on s.counters.next v.counters.next q.0.grows (of_props olds) below)) (λ zs u r. first own x zs s v q.0.named same q.1))
    named_by own false s fits below is apart w =
        cons_after (prop_step p a own (prop_named own olds) at s) (λ v. props_from p olds at (suc i) attrs v) (IsGiven own s)
        (λ props u. IsPropAt p at.new (or_first name a (Some own) (first_passing name attrs)) before (prop_named name props)) (given own s below)
        (λ x v q. more_after (props_from p olds at (suc i) attrs v) (PropAt p at.new name attrs before) (λ zs u. IsPropAt p at.new (or_first name a (Some own) (first_passing name attrs)) before (prop_named name (x ∷ zs)))
        (rest v (below_on s.counters.next v.counters.next q.grows (of_props olds) below) w) (λ zs u r. past own x zs q.named apart r))

    one_more : (o : Option Name) (s : State) → Each (IsWithin p) (of_attr a) → Below s.counters.next (of_props olds) → passed_name a ≡ o →
        ((c : FragAttr) → or_first name a o (first_passing name attrs) ≡ Some c → WasProp p c at before) →
        After (andThen (props_of p a o olds at s) (λ ys v. andThen (props_from p olds at (suc i) attrs v) (λ zs u. Ok (ys ++ zs, u))))
        (λ props u. IsPropAt p at.new (or_first name a o (first_passing name attrs)) before (prop_named name props))
    one_more None s fits below is w =
        then_after (props_from p olds at (suc i) attrs s) (λ zs u. Ok (zs, u)) (PropAt p at.new name attrs before) (PropAt p at.new name attrs before) (rest s below w) (λ zs u q. q)
    one_more (Some own) s fits below is w = named_by own (nat_eq own.0 name.0) s fits below is refl w

  prop_at : (i : ℕ) (attrs : List FragAttr) → Each (IsWithin p) (of_attrs attrs) → IsAt i attrs
  prop_at i [] fits s below was = nothing_at p at.new before
  prop_at i (a ∷ attrs) fits s below was =
      one_more i a attrs (prop_at (suc i) attrs (each_back (IsWithin p) (of_attr a) (of_attrs attrs) fits)) (passed_name a) s (each_front (IsWithin p) (of_attr a) (of_attrs attrs) fits) below refl was

-- ---- content

-- the props of a slot are right on a view, and no number is given twice
record ArePropsNow (p : Program) (attrs : List FragAttr) (v : View) (olds : List SlotProp) (s : State) (props : List SlotProp) (u : State) : Type 0 where
  at : (name : Name) → IsPropAt p v (first_passing name attrs) (prop_named name olds) (prop_named name props)
  below : Below u.counters.next (of_props props)
  grows : Grows s u

props_after : (p : Program) (attrs : List FragAttr) (olds : List SlotProp) (at : Sides) (s : State) → Each (IsWithin p) (of_attrs attrs) → Below s.counters.next (of_props olds) →
    ((name : Name) → WasAt p at name attrs (prop_named name olds)) → After (props_step p attrs olds at s) (ArePropsNow p attrs at.new olds s)
props_after p attrs olds at s fits below was =
    more_after (props_step p attrs olds at s) (λ props u. ((name : Name) → PropAt p at.new name attrs (prop_named name olds) props u) × BelowAll s props u) (ArePropsNow p attrs at.new olds s)
    (both_after (props_step p attrs olds at s) (λ props u. (name : Name) → PropAt p at.new name attrs (prop_named name olds) props u) (BelowAll s)
    (all_after (props_step p attrs olds at s) (λ name props u. PropAt p at.new name attrs (prop_named name olds) props u) (λ name. prop_at p olds at name 0 attrs fits s below (was name)))
    (props_below p olds at 0 attrs s below)) (λ props u h. record { at = h.0; below = h.1.0; grows = h.1.1 })

-- what is claimed of a slot
abbrev pub slot_layer : List FragAttr → Option Filled → Walker → Layer
slot_layer attrs filled own v held = OfSlot attrs v held ∷ slot_claims filled own v held

-- content that a slot shows stays right
abbrev pub FilledStays : Program → Start → Option plans.Filled → Option Filled → Type 0
FilledStays p start None None = Unit {0}
FilledStays p start None (Some g) = ⊥
FilledStays p start (Some f) None = ⊥
FilledStays p start (Some f) (Some g) = (f.lets ≡ g.lets) × StayAll p start f.walk g.walk

was_prop : (p : Program) (at : Sides) (a : FragAttr) (old : Option SlotProp) → AreVersions at.old at.new → IsProp p at.old (Some a) old → WasProp p a at old
was_prop p at a None all h = tt
was_prop p at a (Some old) all h = (all, h)

was_at : (p : Program) (start : Start) (attrs : List FragAttr) (filled : Option Filled) (own : Walker) (at : Sides) (k : ℕ) (held : Opened) → WasLayer p start (slot_layer attrs filled own) at k held →
    (name : Name) → WasAt p at name attrs (prop_named name (props_in held))
was_at p start attrs filled own at k None was name a e = tt
was_at p start attrs filled own at k (Some o) was name a e =
    was_prop p at a (prop_named name (props_in (Some o))) was.1.0.own.versions (subst (λ z. IsProp p at.old z (prop_named name (props_in (Some o)))) e (was.1.1.right.0.0.1 name))

props_below_in : (k : ℕ) (o : Shape-F Shape Row) → Below k (layer_versions o) → Below k (of_props (props_in (Some o)))
props_below_in k (Shape-F.Slot props parts) h = each_front (λ n. n < k) (of_props props) (versions_all parts) h
props_below_in k (Shape-F.Literal mark) h = tt
props_below_in k (Shape-F.Text mark text) h = tt
props_below_in k (Shape-F.Element mark typed states parts) h = tt
props_below_in k (Shape-F.Tag place texts) h = tt
props_below_in k Shape-F.Nothing h = tt
props_below_in k (Shape-F.If arm parts) h = tt
props_below_in k (Shape-F.Each number rows none) h = tt
props_below_in k (Shape-F.Key state parts) h = tt

olds_below : (p : Program) (start : Start) (layer : Layer) (at : Sides) (k : ℕ) (held : Opened) → WasLayer p start layer at k held → Below k (of_props (props_in held))
olds_below p start layer at k None was = tt
olds_below p start layer at k (Some o) was = props_below_in k o was.1.1.below

later_prop : (p : Program) (v v' : View) (first : Option FragAttr) (old new : Option SlotProp) → IsProp p v first old → IsPropAt p v' first old new → AreLaterProps old new
later_prop p v v' None None None h k = tt
later_prop p v v' None None (Some n) h k = absurd (cc (k.is))
later_prop p v v' None (Some o) None h k = absurd (cc)
later_prop p v v' None (Some o) (Some n) h k = absurd (cc)
later_prop p v v' (Some a) None new h k = absurd h
later_prop p v v' (Some a) (Some o) None h k = absurd k.is
later_prop p v v' (Some a) (Some o) (Some n) h k = k.later n refl

-- what a slot shows is right on a view
abbrev Shows : Program → Start → Option Filled → Walker → View → List SlotProp → State → List Shape → State → Type 0
Shows p start filled own v props s xs u = HoldsAll (StaysTrue p start) (slot_claims filled own v (Some (Shape-F.Slot props xs))) u.counters.next (versions_all xs) × Grows s u

content_after : (p : Program) (start : Start) (attrs : List FragAttr) (filled : Option plans.Filled) (filled' : Option Filled) (walk : plans.Walker) (own : Walker) (at : Sides) (held : Opened) (k : ℕ) (props : List SlotProp) (s v : State) →
    FilledStays p start filled filled' → StayAll p start walk own → WasLayer p start (slot_layer attrs filled' own) at k held → k ≤ v.counters.next → ArePropsNow p attrs at.new (props_in held) s props v →
    After (plans.content_step filled walk at (props_in held) props (parts_in held) v) (Shows p start filled' own at.new props v)
content_after p start attrs None None walk own at held k props s v fill stay was le now = stay at (parts_in held) v (were_on p start own at k v.counters.next le (parts_in held) (were held was))
  where
    were : (h : Opened) → WasLayer p start (slot_layer attrs None own) at k h → WereAll p start own at k (parts_in h)
    were None w = (w.0, inl refl)
    were (Some o) w = (w.0, inr (w.1.0, record { right = w.1.1.right.1; below = parts_below k o w.1.1.below }))
content_after p start attrs None (Some g) walk own at held k props s v fill stay was le now = absurd fill
content_after p start attrs (Some f) None walk own at held k props s v fill stay was le now = absurd fill
content_after p start attrs (Some f) (Some g) walk own at held k props s v fill stay was le now =
    subst (λ lets. After (f.walk (content_sides f.lets (props_in held) props at) (parts_in held) v) (λ xs u. HoldsAll (StaysTrue p start) (g.walk (content_view lets props at.new) xs) u.counters.next (versions_all xs) × Grows v u)) fill.0
    (fill.1 (content_sides f.lets (props_in held) props at) (parts_in held) v (were held was (λ name. now.at name)))
  where
    were : (h : Opened) → WasLayer p start (slot_layer attrs (Some g) own) at k h →
        ((name : Name) → IsPropAt p at.new (first_passing name attrs) (prop_named name (props_in h)) (prop_named name props)) →
        WereAll p start g.walk (content_sides f.lets (props_in h) props at) v.counters.next (parts_in h)
    were None w news = (omega (arith, w.0, le), inl refl)
    were (Some o) w news = (
      omega (arith, w.0, le),
      inr (
        content_later start.views f.lets (props_in (Some o)) props at.old at.new
            (λ x. later_prop p at.old at.new (first_passing x attrs) (prop_named x (props_in (Some o))) (prop_named x props) (w.1.1.right.0.0.1 x) (news x)) w.1.0,
        record {
          right = subst (λ lets. Each (WasTrue p start) (g.walk (content_view lets (props_in (Some o)) at.old) (parts_in (Some o)))) (sym fill.0) w.1.1.right.1;
          below = below_on k v.counters.next le (versions_all (parts_in (Some o))) (parts_below k o w.1.1.below);
        },
      ),
    )

pub slot_stays : (p : Program) (start : Start) (attrs : List FragAttr) (filled : Option plans.Filled) (filled' : Option Filled) (walk : plans.Walker) (own : Walker) → Each (IsWithin p) (of_attrs attrs) →
    FilledStays p start filled filled' → StayAll p start walk own → StaysLayer p start (λ at held s. plans.slot_step p attrs filled walk at held s) (slot_layer attrs filled' own)
slot_stays p start attrs filled filled' walk own fits fill stay at held s was =
    then_after (props_step p attrs (props_in held) at s) (λ props v. andThen (plans.content_step filled walk at (props_in held) props (parts_in held) v) (λ parts u. Ok (shape.Slot props parts, u)))
    (ArePropsNow p attrs at.new (props_in held) s) _
    (props_after p attrs (props_in held) at s fits (olds_below p start (slot_layer attrs filled' own) at s.counters.next held was) (was_at p start attrs filled' own at s.counters.next held was))
    (λ props v h. then_after (plans.content_step filled walk at (props_in held) props (parts_in held) v) (λ parts u. Ok (shape.Slot props parts, u)) (Shows p start filled' own at.new props v) _
    (content_after p start attrs filled filled' walk own at held s.counters.next props s v fill stay was h.grows h)
    (λ parts u q. (
      made p start (slot_layer attrs filled' own) at.new u.counters.next (shape.Slot props parts) (Shape-F.Slot props parts) (shape.outs-Slot props parts)
          (record {
            right = (((tt, (λ name. (h.at name).is)), tt), q.0.right);
            below = each_append (λ n. n < u.counters.next) (of_props props) (versions_all parts) (below_on v.counters.next u.counters.next q.1 (of_props props) h.below) q.0.below;
          }),
      grows_on s v u h.grows q.1,
    )))
