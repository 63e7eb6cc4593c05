-- Steps that evaluate: they add no effects and no places that stay, and the next number never falls.
use Rattle.std.proofs.Common.{ℕ, suc, Bool, true, false, List, [], ◌∷◌, ◌++◌, Option, Some, None, Result, Ok, Err, is_none, refl, arith, slice_get, nat_le, ◌||◌, if◌then◌else◌}
use Rattle.sv_base.specs.declared.names.Name.{Name}
use Rattle.sv_base.specs.declared.span.Span.{Span}
use Rattle.sv_code.specs.declared.fragments.FragAttr.{FragAttr}
use Rattle.sv_code.specs.declared.fragments.FragAttr.TheVariants as attr
use Rattle.sv_code.specs.declared.fragments.FragValue.{FragValue}
use Rattle.sv_code.specs.declared.fragments.FragValue.TheVariants as value
use Rattle.sv_code.specs.declared.fragments.FragValuePart.{FragValuePart}
use Rattle.sv_code.specs.declared.fragments.FragValuePart.TheVariants as value_part
use Rattle.sv_code.specs.declared.parts.Part.{Part}
use Rattle.sv_code.specs.declared.program.Program.{Program}
use Rattle.sv_meaning.specs.Parts.{part_value}
use Rattle.sv_ops.specs.Answer.{Answer, Gives, Refuses, spelled}
use Rattle.sv_ops.specs.Texts.{between}
use Rattle.sv_ops.specs.declared.faults.Fault.{Fault}
use Rattle.sv_ops.specs.declared.faults.FaultKind.{FaultKind}
use Rattle.sv_ops.specs.declared.faults.FaultKind.TheVariants.{NotText, NotAList, BadKey}
use Rattle.sv_parts.specs.Attributes.{texts_kept, shown_with, shown_step, class_step, shown_parts, shown_value, attr_step, attrs_step}
use Rattle.sv_parts.specs.Parts.{faulted, valued, evaluated, given_text, text_of_part, renewed, text_step}
use Rattle.sv_parts.specs.Sides.{Sides, moved}
use Rattle.sv_parts.specs.State.{Run, andThen, numbered, spent, each, one}
use Rattle.sv_parts.specs.Tags.{texts_at, passed_name, passed_value, offers_step}
use Rattle.sv_parts.specs.Values.{unvalued, passed, alone_step, part_text, part_texts, answered, is_due, joined_anew, joined_step, bare, parts_step, value_step}
use Rattle.sv_parts.specs.declared.state.State.{State}
use Rattle.sv_plan.specs.Blocks.{any_moved, choose, chosen, settled_with, settled}
use Rattle.sv_plan.specs.Lists.{Head, row_view, key_or, row_key, items_or}
use Rattle.sv_plan.specs.Slots.{prop_named, prop_anew, prop_by, texts_of, props_of, props_step}
use Rattle.sv_shapes.specs.declared.shape.AttrState.{AttrState}
use Rattle.sv_shapes.specs.declared.shape.AttrState.TheVariants as state
use Rattle.sv_shapes.specs.declared.shape.KeyState.{KeyState}
use Rattle.sv_shapes.specs.declared.shape.SlotProp.{SlotProp}
use Rattle.sv_value.specs.Change.{differs, truthy}
use Rattle.sv_value.specs.Key.{key_of}
use Rattle.sv_value.specs.Value.{Val, undefined}
use Rattle.sv_value.specs.Words.{text_of}
use Rattle.sv_value.specs.declared.key.Key.{Key}
use Rattle.sv_places.proofs.Changes.{Quiet, quiet-on, Ends, ends-then, ends-as, ends-if}

-- a step adds nothing
pub record IsQuiet {A : Type 0} (run : Run A) : Type 0 where
  pub held : (s : State) → Ends (λ _ t. Quiet s t) (run s)

pub quiet-same : (s : State) → Quiet s s
quiet-same s = record { effects = refl; kept = refl; next = omega arith }

pub then_quiet : {A B : Type 0} {m : Run A} {go : A → Run B} → IsQuiet m → ((a : A) → IsQuiet (go a)) → IsQuiet (λ s. andThen (m s) go)
then_quiet {m = m} {go = go} k l = record { held = λ s. ends-then (λ _ t. Quiet s t) (λ _ t. Quiet s t) (m s) go (k.held s) (λ a t q. ends-as (λ _ u. Quiet t u) (λ _ u. Quiet s u) (go a t) (λ _ u r. quiet-on s t u q r) ((l a).held t)) }

pub ok_quiet : {A : Type 0} (a : A) → IsQuiet (λ s. Ok (a, s))
ok_quiet a = record { held = λ s. quiet-same s }

pub cond_quiet : {A : Type 0} (b : Bool) {m n : Run A} → IsQuiet m → IsQuiet n → IsQuiet (λ s. if b then m s else n s)
cond_quiet true k l = k
cond_quiet false k l = l

pub each_quiet : {A B : Type 0} {f : A → ℕ → Run (List B)} (i : ℕ) (xs : List A) → ((x : A) (j : ℕ) → IsQuiet (f x j)) → IsQuiet (each f i xs)
each_quiet i [] k = ok_quiet []
each_quiet i (x ∷ xs) k = then_quiet (k x i) (λ ys. then_quiet (each_quiet (suc i) xs k) (λ zs. ok_quiet (ys ++ zs)))

pub one_quiet : {A : Type 0} {m : Run A} → IsQuiet m → IsQuiet (λ s. one (m s))
one_quiet k = then_quiet k (λ x. ok_quiet (x ∷ []))

-- ---- counters and effects

pub numbered_quiet : IsQuiet numbered
numbered_quiet = record { held = λ s. record { effects = refl; kept = refl; next = omega arith } }

pub spent_quiet : (n : ℕ) → IsQuiet (spent n)
spent_quiet n = record { held = λ s. ends-if (λ _ t. Quiet s t) (nat_le n s.counters.work) _ _ (record { effects = refl; kept = refl; next = omega arith }) tt }

-- ---- parts

faulted_quiet : {A : Type 0} (kind : FaultKind) (part : Part) → IsQuiet {A = A} (λ s. faulted kind part)
faulted_quiet kind part = record { held = λ s. tt }

valued_quiet : (r : Result Val Fault) → IsQuiet (valued r)
valued_quiet (Ok v) = record { held = λ s. record { effects = refl; kept = refl; next = omega arith } }
valued_quiet (Err fault) = record { held = λ s. tt }

pub evaluated_quiet : (p : Program) (part : Part) (at : Sides) → IsQuiet (evaluated p part at)
evaluated_quiet p part at = valued_quiet (part_value p at.new part)

given_text_quiet : (part : Part) (o : Option (List ℕ)) → IsQuiet (given_text part o)
given_text_quiet part None = faulted_quiet NotText part
given_text_quiet part (Some text) = ok_quiet text

text_of_quiet : (p : Program) (part : Part) (at : Sides) → IsQuiet (text_of_part p part at)
text_of_quiet p part at = then_quiet (evaluated_quiet p part at) (λ v. given_text_quiet part (text_of v))

renewed_quiet : {A : Type 0} (part : Part) {anew : Run A} (old : Option A) (at : Sides) → IsQuiet anew → IsQuiet (renewed part anew old at)
renewed_quiet part None at k = k
renewed_quiet part (Some old) at k = cond_quiet (moved part.reads at) k (ok_quiet old)

pub text_step_quiet : (p : Program) (part : Part) (old : Option (List ℕ)) (at : Sides) → IsQuiet (text_step p part old at)
text_step_quiet p part old at = renewed_quiet part old at (text_of_quiet p part at)

-- ---- values of attributes

alone_quiet : (p : Program) (part : Part) (is_new : Bool) (at : Sides) → IsQuiet (alone_step p part is_new at)
alone_quiet p part is_new at = cond_quiet (is_new || moved part.reads at) (then_quiet (evaluated_quiet p part at) (λ v. ok_quiet (passed v))) (ok_quiet unvalued)

part_text_quiet : (p : Program) (at : Sides) (x : FragValuePart) (old : Option (List ℕ)) → IsQuiet (part_text p at x old)
part_text_quiet p at (value_part.Text text) old = ok_quiet text
part_text_quiet p at (value_part.Show part) old = text_step_quiet p part old at

part_texts_quiet : (p : Program) (at : Sides) (olds : List (List ℕ)) (parts : List FragValuePart) → IsQuiet (part_texts p at olds parts)
part_texts_quiet p at olds parts = each_quiet 0 parts (λ x i. one_quiet (part_text_quiet p at x (slice_get olds i)))

answered_quiet : (span : Span) (a : Answer) → IsQuiet (answered span a)
answered_quiet span (Gives cost v) = ok_quiet v
answered_quiet span (Refuses kind) = record { held = λ s. tt }

joined_anew_quiet : (p : Program) (span : Span) (parts : List FragValuePart) (olds : List (List ℕ)) (at : Sides) → IsQuiet (joined_anew p span parts olds at)
joined_anew_quiet p span parts olds at = then_quiet (part_texts_quiet p at olds parts) (λ texts. then_quiet (answered_quiet span (spelled 0 (between [] texts))) (λ whole. ok_quiet (record { texts = texts; value = Some whole })))

joined_quiet : (p : Program) (span : Span) (parts : List FragValuePart) (olds : List (List ℕ)) (wanted : Bool) (at : Sides) → IsQuiet (joined_step p span parts olds wanted at)
joined_quiet p span parts olds wanted at = cond_quiet (wanted || is_due at olds parts) (joined_anew_quiet p span parts olds at) (ok_quiet (record { texts = olds; value = None }))

parts_quiet : (p : Program) (span : Span) (parts : List FragValuePart) (o : Option Part) (olds : List (List ℕ)) (is_new : Bool) (at : Sides) → IsQuiet (parts_step p span parts o olds is_new at)
parts_quiet p span parts None olds is_new at = joined_quiet p span parts olds is_new at
parts_quiet p span parts (Some part) olds is_new at = alone_quiet p part is_new at

value_quiet : (p : Program) (span : Span) (v : FragValue) (olds : List (List ℕ)) (is_new : Bool) (at : Sides) → IsQuiet (value_step p span v olds is_new at)
value_quiet p span value.Bare olds is_new at = ok_quiet (bare is_new)
value_quiet p span (value.Parts parts) olds is_new at = parts_quiet p span parts _ olds is_new at

passed_quiet : (p : Program) (a : FragAttr) (olds : List (List ℕ)) (is_new : Bool) (at : Sides) → IsQuiet (passed_value p a olds is_new at)
passed_quiet p (attr.Plain span name v) olds is_new at = value_quiet p span v olds is_new at
passed_quiet p (attr.On handler reads) olds is_new at = ok_quiet unvalued
passed_quiet p (attr.Bind span name part) olds is_new at = alone_quiet p part is_new at
passed_quiet p (attr.Class span name part) olds is_new at = ok_quiet unvalued

-- ---- tags

pub offers_quiet : (p : Program) (attrs : List FragAttr) (texts : List (List (List ℕ))) (is_new : Bool) (at : Sides) → IsQuiet (offers_step p attrs texts is_new at)
offers_quiet p attrs texts is_new at = each_quiet 0 attrs (λ a i. one_quiet (then_quiet (passed_quiet p a (texts_at texts i) is_new at) (λ v. ok_quiet _)))

-- ---- elements

shown_with_quiet : (p : Program) (name : Name) (part : Part) (v : Val) → IsQuiet (shown_with p name part v)
shown_with_quiet p name part v = cond_quiet _ (ok_quiet _) (faulted_quiet NotText part)

shown_quiet : (p : Program) (name : Name) (part : Part) (old : Option AttrState) (at : Sides) → IsQuiet (shown_step p name part old at)
shown_quiet p name part old at = renewed_quiet part old at (then_quiet (evaluated_quiet p part at) (shown_with_quiet p name part))

class_quiet : (p : Program) (part : Part) (old : Option AttrState) (at : Sides) → IsQuiet (class_step p part old at)
class_quiet p part old at = renewed_quiet part old at (then_quiet (evaluated_quiet p part at) (λ v. ok_quiet (state.Holds (truthy v))))

shown_parts_quiet : (p : Program) (span : Span) (name : Name) (parts : List FragValuePart) (o : Option Part) (old : Option AttrState) (at : Sides) → IsQuiet (shown_parts p span name parts o old at)
shown_parts_quiet p span name parts None old at = cond_quiet _ (ok_quiet state.Written) (then_quiet (joined_quiet p span parts (texts_kept old) false at) (λ v. ok_quiet (state.Texts v.texts)))
shown_parts_quiet p span name parts (Some part) old at = shown_quiet p name part old at

shown_value_quiet : (p : Program) (span : Span) (name : Name) (v : FragValue) (old : Option AttrState) (at : Sides) → IsQuiet (shown_value p span name v old at)
shown_value_quiet p span name value.Bare old at = ok_quiet state.Written
shown_value_quiet p span name (value.Parts parts) old at = shown_parts_quiet p span name parts _ old at

attr_quiet : (p : Program) (a : FragAttr) (old : Option AttrState) (at : Sides) → IsQuiet (attr_step p a old at)
attr_quiet p (attr.Plain span name v) old at = shown_value_quiet p span name v old at
attr_quiet p (attr.On handler reads) old at = ok_quiet state.Written
attr_quiet p (attr.Bind span name part) old at = shown_quiet p name part old at
attr_quiet p (attr.Class span name part) old at = class_quiet p part old at

pub attrs_quiet : (p : Program) (attrs : List FragAttr) (olds : List AttrState) (at : Sides) → IsQuiet (attrs_step p attrs olds at)
attrs_quiet p attrs olds at = each_quiet 0 attrs (λ a i. one_quiet (attr_quiet p a (slice_get olds i) at))

-- ---- if blocks and key blocks

choose_quiet : (p : Program) (ts : List Part) (i : ℕ) (at : Sides) → IsQuiet (choose p ts i at)
choose_quiet p [] i at = ok_quiet i
choose_quiet p (t ∷ ts) i at = then_quiet (evaluated_quiet p t at) (λ v. cond_quiet (truthy v) (ok_quiet i) (choose_quiet p ts (suc i) at))

pub chosen_quiet : (p : Program) (ts : List Part) (old : Option ℕ) (at : Sides) → IsQuiet (chosen p ts old at)
chosen_quiet p ts None at = choose_quiet p ts 0 at
chosen_quiet p ts (Some arm) at = cond_quiet (any_moved ts at) (choose_quiet p ts 0 at) (ok_quiet arm)

settled_with_quiet : (old : KeyState) (v : Val) → IsQuiet (settled_with old v)
settled_with_quiet old v = cond_quiet (differs old.value v) (then_quiet numbered_quiet (λ n. ok_quiet _)) (ok_quiet _)

pub settled_quiet : (p : Program) (part : Part) (old : Option KeyState) (at : Sides) → IsQuiet (settled p part old at)
settled_quiet p part None at = then_quiet (evaluated_quiet p part at) (λ v. then_quiet numbered_quiet (λ n. ok_quiet _))
settled_quiet p part (Some old) at = cond_quiet (moved part.reads at) (then_quiet (evaluated_quiet p part at) (settled_with_quiet old)) (ok_quiet _)

-- ---- each blocks

key_or_quiet : (part : Part) (o : Option Key) → IsQuiet (key_or part o)
key_or_quiet part None = faulted_quiet BadKey part
key_or_quiet part (Some key) = ok_quiet key

pub row_key_quiet : (p : Program) (h : Head) (key : Option Part) (at : Sides) (n i : ℕ) (item : Val) → IsQuiet (row_key p h key at n i item)
row_key_quiet p h None at n i item = ok_quiet _
row_key_quiet p h (Some part) at n i item = then_quiet (evaluated_quiet p part (record at { new = row_view h n i item at.new })) (λ v. key_or_quiet part (key_of v))

pub items_or_quiet : (part : Part) (o : Option (List Val)) → IsQuiet (items_or part o)
items_or_quiet part None = faulted_quiet NotAList part
items_or_quiet part (Some vs) = ok_quiet vs

-- ---- props of slots

prop_anew_quiet : (name : Name) (texts : List (List ℕ)) (v : Val) → IsQuiet (prop_anew name texts v)
prop_anew_quiet name texts v = then_quiet numbered_quiet (λ n. ok_quiet _)

prop_by_quiet : (name : Name) (old : Option SlotProp) (texts : List (List ℕ)) (v : Option Val) → IsQuiet (prop_by name old texts v)
prop_by_quiet name (Some old) texts None = ok_quiet old
prop_by_quiet name (Some old) texts (Some v) = prop_anew_quiet name texts v
prop_by_quiet name None texts None = prop_anew_quiet name texts undefined
prop_by_quiet name None texts (Some v) = prop_anew_quiet name texts v

props_of_quiet : (p : Program) (a : FragAttr) (name : Option Name) (olds : List SlotProp) (at : Sides) → IsQuiet (props_of p a name olds at)
props_of_quiet p a None olds at = ok_quiet []
props_of_quiet p a (Some name) olds at =
    one_quiet (then_quiet (passed_quiet p a (texts_of (prop_named name olds)) (is_none (prop_named name olds)) at) (λ v. prop_by_quiet name (prop_named name olds) v.texts v.value))

pub props_quiet : (p : Program) (attrs : List FragAttr) (olds : List SlotProp) (at : Sides) → IsQuiet (props_step p attrs olds at)
props_quiet p attrs olds at = each_quiet 0 attrs (λ a i. props_of_quiet p a (passed_name a) olds at)
