-- What the attributes of an element come to.
use Rattle.std.proofs.Common.{◌≡◌, ◌⊎◌, inl, inr, ℕ, suc, Bool, true, false, ◌||◌, List, [], ◌∷◌, Option, Some, None, is_some, option_and_then, refl, sym, ap, ◌∙◌, subst, true≢false, Ok, if◌then◌else◌}
use Rattle.std.specs.Prelude.{slice_get}
use Rattle.sv_attributes.specs.Attr.{is_boolean, attr_of}
use Rattle.sv_attributes.specs.Values.{alone, is_literal}
use Rattle.sv_base.specs.declared.names.Name.{Name}
use Rattle.sv_base.specs.declared.span.Span.{Span}
use Rattle.sv_code.proofs.Each.{each_front, each_back}
use Rattle.sv_code.specs.Names.{Each}
use Rattle.sv_code.specs.Parts.{of_value, of_attr, of_attrs}
use Rattle.sv_code.specs.Within.{IsWithin}
use Rattle.sv_code.specs.declared.fragments.FragAttr.{FragAttr}
use Rattle.sv_code.specs.declared.fragments.FragAttr.TheVariants as attr
use Rattle.sv_code.specs.declared.fragments.FragValue.{FragValue}
use Rattle.sv_code.specs.declared.fragments.FragValue.TheVariants as value
use Rattle.sv_code.specs.declared.fragments.FragValuePart.{FragValuePart}
use Rattle.sv_code.specs.declared.fragments.FragValuePart.TheVariants as piece
use Rattle.sv_code.specs.declared.parts.Part.{Part}
use Rattle.sv_code.specs.declared.program.Program.{Program}
use Rattle.sv_fresh.specs.States.{shown_at, with_texts, parts_state, value_state, attr_state, states}
use Rattle.sv_fresh.specs.Values.{value_at, holds_at, is_truthy, texts_at}
use Rattle.sv_local.specs.Versions.{AreVersions}
use Rattle.sv_parts.specs.Attributes.{texts_kept, shown_with, shown_anew, shown_step, class_anew, class_step, shown_joined, shown_parts, shown_value, attr_step, attrs_step}
use Rattle.sv_parts.specs.Parts.{evaluated}
use Rattle.sv_parts.specs.Sides.{Sides}
use Rattle.sv_parts.specs.Values.{joined_step}
use Rattle.sv_parts.specs.declared.state.State.{State}
use Rattle.sv_right.proofs.Lists.{Along, Matched, along_both, along_shift, matched_mono, matched_map, matched_each, plain_after, some_same}
use Rattle.sv_right.proofs.Steps.{After, then_after, more_after, if_after, renewed_after, Grows, grows_same}
use Rattle.sv_right.proofs.Texts.{ArePieces, WereKept, IsJoined, joined_after, pieces_within, pieces_found}
use Rattle.sv_right.proofs.Values.{Valued, evaluated_after, still_value}
use Rattle.sv_right.specs.Succeeds.{can_show, part_succeeds, parts_succeed, value_succeeds, attr_succeeds, Succeeds}
use Rattle.sv_shapes.specs.declared.shape.AttrState.{AttrState}
use Rattle.sv_shapes.specs.declared.shape.AttrState.TheVariants as state
use Rattle.sv_value.specs.Change.{truthy}
use Rattle.sv_value.specs.Value.{Val}
use Rattle.sv_value.specs.Words.{text_of}
use Rattle.sv_view.specs.Level.{View}

-- what an attribute came to is what it comes to on a view, where it doesn't fault
abbrev Comes : AttrState → Bool → State → AttrState → State → Type 0
Comes wanted succeeds s st u = ((st ≡ wanted) × (succeeds ≡ true)) × Grows s u

-- what is held of an attribute is what it came to on the old view, where it didn't fault
abbrev Came : AttrState → Bool → Sides → Option AttrState → Type 0
Came was succeeded at held = (st : AttrState) → held ≡ Some st → AreVersions at.old at.new × ((st ≡ was) × (succeeded ≡ true))

-- ---- one expression

-- what it shows of a value
abbrev shows_of : Program → Name → Option Val → AttrState
shows_of p name o = state.Shows (option_and_then (attr_of (is_boolean p name)) o)

shown_after : (p : Program) (name : Name) (part : Part) (at : Sides) (s : State) → After (shown_anew p name part at s) (Comes (shown_at p at.new name part) (part_succeeds p at.new name part) s)
shown_after p name part at s =
    then_after (evaluated p part at s) (shown_with p name part) (Valued p part at.new s) (Comes (shown_at p at.new name part) (part_succeeds p at.new name part) s) (evaluated_after p part at s)
    (λ x v e. if_after (is_boolean p name || is_some (text_of x)) (Ok (state.Shows (attr_of (is_boolean p name) x), v)) _ (Comes (shown_at p at.new name part) (part_succeeds p at.new name part) s)
    (λ q. ((ap (shows_of p name) (sym e.0), ap (can_show (is_boolean p name)) e.0 ∙ q), e.1)) (λ _. tt))

shown_part : (p : Program) (name : Name) (part : Part) (held : Option AttrState) (at : Sides) (s : State) → IsWithin p part → Came (shown_at p at.old name part) (part_succeeds p at.old name part) at held →
    After (shown_step p name part held at s) (Comes (shown_at p at.new name part) (part_succeeds p at.new name part) s)
shown_part p name part held at s fits was =
    renewed_after part (shown_anew p name part at) held at s (Comes (shown_at p at.new name part) (part_succeeds p at.new name part) s) (shown_after p name part at s)
    (λ st is still.
    let same = still_value p part at fits (was st is).0 still in
    (((was st is).1.0 ∙ ap (shows_of p name) same, sym (ap (can_show (is_boolean p name)) same) ∙ (was st is).1.1), grows_same s))

class_after : (p : Program) (part : Part) (held : Option AttrState) (at : Sides) (s : State) → IsWithin p part → Came (state.Holds (holds_at p at.old part)) (is_some (value_at p at.old part)) at held →
    After (class_step p part held at s) (Comes (state.Holds (holds_at p at.new part)) (is_some (value_at p at.new part)) s)
class_after p part held at s fits was =
    renewed_after part (class_anew p part at) held at s (Comes (state.Holds (holds_at p at.new part)) (is_some (value_at p at.new part)) s)
    (then_after (evaluated p part at s) (λ x u. Ok (state.Holds (truthy x), u)) (Valued p part at.new s) (Comes (state.Holds (holds_at p at.new part)) (is_some (value_at p at.new part)) s) (evaluated_after p part at s)
    (λ x v e. ((ap (λ o. state.Holds (is_truthy o)) (sym e.0), ap is_some e.0), e.1)))
    (λ st is still.
    let same = still_value p part at fits (was st is).0 still in
    (((was st is).1.0 ∙ ap (λ o. state.Holds (is_truthy o)) same, sym (ap is_some same) ∙ (was st is).1.1), grows_same s))

-- ---- joined texts

came_kept : (p : Program) (parts : List FragValuePart) (at : Sides) (held : Option AttrState) → (is_literal parts ≡ true → ⊥) → Came (with_texts (texts_at p at.old parts)) (is_some (texts_at p at.old parts)) at held →
    WereKept p parts at false (texts_kept held)
came_kept p parts at None shown was = inl (refl, (λ _. shown))
came_kept p parts at (Some st) shown was = by (texts_at p at.old parts) refl (was st refl).1.0
  where
    by : (o : Option (List (List ℕ))) → texts_at p at.old parts ≡ o → st ≡ with_texts o → WereKept p parts at false (texts_kept (Some st))
    by None is e = inl (ap (λ z. texts_kept (Some z)) e, (λ _. shown))
    by (Some texts) is e = inr ((was st refl).0, subst (λ z. ArePieces p at.old 0 parts (texts_kept (Some z))) (sym e) (pieces_found p at.old parts texts is))

joined_state : (p : Program) (span : Span) (parts : List FragValuePart) (held : Option AttrState) (at : Sides) (s : State) → Each (IsWithin p) (of_value (value.Parts parts)) → (is_literal parts ≡ true → ⊥) →
    Came (with_texts (texts_at p at.old parts)) (is_some (texts_at p at.old parts)) at held → After (shown_joined p span parts held at s) (Comes (with_texts (texts_at p at.new parts)) (is_some (texts_at p at.new parts)) s)
joined_state p span parts held at s fits shown was =
    then_after (joined_step p span parts (texts_kept held) false at s) (λ x u. Ok (state.Texts x.texts, u)) (IsJoined p at parts (texts_kept held) false s) (Comes (with_texts (texts_at p at.new parts)) (is_some (texts_at p at.new parts)) s)
    (joined_after p span parts (texts_kept held) false at s (pieces_within p parts fits) (came_kept p parts at held shown was)) (λ x v j. ((ap with_texts (sym j.texts), ap is_some j.texts), j.grows))

-- ---- values

pub alone_within : (p : Program) (parts : List FragValuePart) (part : Part) → alone parts ≡ Some part → Each (IsWithin p) (of_value (value.Parts parts)) → IsWithin p part
alone_within p [] part e fits = absurd (cc)
alone_within p (piece.Text t ∷ parts) part e fits = absurd (cc)
alone_within p (piece.Show own ∷ []) part e fits = subst (IsWithin p) (some_same e) fits.0
alone_within p (piece.Show own ∷ (x ∷ parts)) part e fits = absurd (cc)

parts_after : (p : Program) (span : Span) (name : Name) (parts : List FragValuePart) (o : Option Part) (held : Option AttrState) (at : Sides) (s : State) → alone parts ≡ o → Each (IsWithin p) (of_value (value.Parts parts)) →
    Came (parts_state p at.old name parts o) (parts_succeed p at.old name parts o) at held → After (shown_parts p span name parts o held at s) (Comes (parts_state p at.new name parts o) (parts_succeed p at.new name parts o) s)
parts_after p span name parts None held at s is fits was = by (is_literal parts) refl was
  where
    by : (b : Bool) → is_literal parts ≡ b → Came (if b then state.Written else with_texts (texts_at p at.old parts)) (b || is_some (texts_at p at.old parts)) at held →
        After (if b then Ok (state.Written, s) else shown_joined p span parts held at s) (Comes (if b then state.Written else with_texts (texts_at p at.new parts)) (b || is_some (texts_at p at.new parts)) s)
    by true e came = ((refl, refl), grows_same s)
    by false e came = joined_state p span parts held at s fits (λ q. true≢false (sym q ∙ e)) came
parts_after p span name parts (Some part) held at s is fits was = shown_part p name part held at s (alone_within p parts part is fits) was

value_after : (p : Program) (span : Span) (name : Name) (x : FragValue) (held : Option AttrState) (at : Sides) (s : State) → Each (IsWithin p) (of_value x) → Came (value_state p at.old name x) (value_succeeds p at.old name x) at held →
    After (shown_value p span name x held at s) (Comes (value_state p at.new name x) (value_succeeds p at.new name x) s)
value_after p span name value.Bare held at s fits was = ((refl, refl), grows_same s)
value_after p span name (value.Parts parts) held at s fits was = parts_after p span name parts (alone parts) held at s refl fits was

-- ---- attributes

attr_after : (p : Program) (a : FragAttr) (held : Option AttrState) (at : Sides) (s : State) → Each (IsWithin p) (of_attr a) → Came (attr_state p at.old a) (attr_succeeds p at.old a) at held →
    After (attr_step p a held at s) (Comes (attr_state p at.new a) (attr_succeeds p at.new a) s)
attr_after p (attr.Plain span name x) held at s fits was = value_after p span name x held at s fits was
attr_after p (attr.On handler reads) held at s fits was = ((refl, refl), grows_same s)
attr_after p (attr.Bind span name part) held at s fits was = shown_part p name part held at s fits.0 was
attr_after p (attr.Class span name part) held at s fits was = class_after p part held at s fits.0 was

-- the attributes of a tag are within what they look at
pub attrs_within : (p : Program) (i : ℕ) (attrs : List FragAttr) → Each (IsWithin p) (of_attrs attrs) → Along (λ a j. Each (IsWithin p) (of_attr a)) i attrs
attrs_within p i [] h = tt
attrs_within p i (a ∷ attrs) h = (each_front (IsWithin p) (of_attr a) (of_attrs attrs) h, attrs_within p (suc i) attrs (each_back (IsWithin p) (of_attr a) (of_attrs attrs) h))

-- what is held of the attributes of an element is what they came to on the old view, where none faulted
abbrev pub WereStates : Program → List FragAttr → Sides → List AttrState → Type 0
WereStates p attrs at olds = (olds ≡ []) ⊎ (AreVersions at.old at.new × ((olds ≡ states p at.old attrs) × Each (Succeeds p at.old) attrs))

-- the same of the attribute with a number
abbrev CameAt : Program → Sides → List AttrState → FragAttr → ℕ → Type 0
CameAt p at olds a i = Came (attr_state p at.old a) (attr_succeeds p at.old a) at (slice_get olds i)

none_came : (p : Program) (at : Sides) (i : ℕ) (attrs : List FragAttr) → Along (CameAt p at []) i attrs
none_came p at i [] = tt
none_came p at i (a ∷ attrs) = ((λ st e. absurd (cc)), none_came p at (suc i) attrs)

all_came : (p : Program) (at : Sides) (attrs : List FragAttr) → AreVersions at.old at.new → Each (Succeeds p at.old) attrs → Along (CameAt p at (states p at.old attrs)) 0 attrs
all_came p at [] all succeed = tt
all_came p at (a ∷ attrs) all succeed =
    ((λ st e. (all, (sym (some_same e), succeed.0))), along_shift (CameAt p at (states p at.old (a ∷ attrs))) 0 attrs (all_came p at attrs all succeed.1))

were_came : (p : Program) (at : Sides) (attrs : List FragAttr) (olds : List AttrState) → WereStates p attrs at olds → Along (CameAt p at olds) 0 attrs
were_came p at attrs olds (inl e) = subst (λ xs. Along (CameAt p at xs) 0 attrs) (sym e) (none_came p at 0 attrs)
were_came p at attrs olds (inr h) = subst (λ xs. Along (CameAt p at xs) 0 attrs) (sym h.1.0) (all_came p at attrs h.0 h.1.1)

-- what each attribute of an element comes to on a view, and that it doesn't fault there
abbrev Given : Program → View → FragAttr → ℕ → AttrState → Type 0
Given p v a i st = (st ≡ attr_state p v a) × Succeeds p v a

-- so it is of all of them
abbrev pub AreStates : Program → List FragAttr → View → List AttrState → Type 0
AreStates p attrs v sts = (sts ≡ states p v attrs) × Each (Succeeds p v) attrs

given_all : (p : Program) (v : View) (i : ℕ) (attrs : List FragAttr) (sts : List AttrState) → Matched (Given p v) i attrs sts → AreStates p attrs v sts
given_all p v i attrs sts h = (
  matched_map (attr_state p v) i attrs sts (matched_mono (Given p v) (λ a j st. st ≡ attr_state p v a) (λ a j st q. q.0) i attrs sts h),
  matched_each (Succeeds p v) i attrs sts (matched_mono (Given p v) (λ a j st. Succeeds p v a) (λ a j st q. q.1) i attrs sts h),
)

pub attrs_after : (p : Program) (attrs : List FragAttr) (olds : List AttrState) (at : Sides) (s : State) → Each (IsWithin p) (of_attrs attrs) → WereStates p attrs at olds →
    After (attrs_step p attrs olds at s) (λ sts u. AreStates p attrs at.new sts × Grows s u)
attrs_after p attrs olds at s fits were =
    more_after (attrs_step p attrs olds at s) (λ sts u. Matched (Given p at.new) 0 attrs sts × Grows s u) (λ sts u. AreStates p attrs at.new sts × Grows s u)
    (plain_after (λ a i u. attr_step p a (slice_get olds i) at u) (λ a i. Each (IsWithin p) (of_attr a) × CameAt p at olds a i) (Given p at.new)
    (λ a i u h. attr_after p a (slice_get olds i) at u h.0 h.1) 0 attrs s
    (along_both (λ a i. Each (IsWithin p) (of_attr a)) (CameAt p at olds) (λ a i. Each (IsWithin p) (of_attr a) × CameAt p at olds a i) (λ a i h k. (h, k)) 0 attrs (attrs_within p 0 attrs fits) (were_came p at attrs olds were)))
    (λ sts u h. (given_all p at.new 0 attrs sts h.0, h.1))
