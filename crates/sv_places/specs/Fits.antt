-- Shapes that are such as a plan makes them: no more than fragments, each of the kind of its fragment, and each key once among the rows of a list.
use Rattle.std.specs.Prelude.{◌≡◌, ℕ, Bool, true, false, ◌&&◌, ◌||◌, List, [], ◌∷◌, map, Option, None, option_map, is_none, is_some, unwrap_or, slice_get}
use Rattle.std.specs.List.{list_all}
use Rattle.sv_code.specs.declared.fragments.Frag.{Frag, Frag-F, fold-Frag}
use Rattle.sv_code.specs.declared.fragments.FragArm.{FragArm-F}
use Rattle.sv_code.specs.declared.parts.Part.{Part}
use Rattle.sv_code.specs.declared.program.Program.{Program}
use Rattle.sv_keyed.specs.Keys.{first_repeat}
use Rattle.sv_plan.specs.Content.{content_at}
use Rattle.sv_plan.specs.Lists.{row_keys}
use Rattle.sv_plan.specs.Plan.{body_at}
use Rattle.sv_shapes.specs.declared.shape.Row.{Row}
use Rattle.sv_shapes.specs.declared.shape.Shape.{Shape, Shape-F, out-Shape}

-- whether what is shown of a fragment is such
abbrev pub Fitter : Type 0
Fitter = Shape → Bool

-- whether what is shown of fragments beside one another is
abbrev pub AllFitter : Type 0
AllFitter = List Shape → Bool

abbrev pub fit_each : List Fitter → AllFitter
fit_each fits [] = true
fit_each [] (x ∷ shapes) = false
fit_each (fit ∷ fits) (x ∷ shapes) = fit x && fit_each fits shapes

-- ---- each blocks

abbrev pub is_empty : {A : Type 0} → List A → Bool
is_empty [] = true
is_empty (x ∷ xs) = false

-- no key stands twice among rows
abbrev pub are_once : List Row → Bool
are_once rows = is_none (first_repeat (row_keys rows))

abbrev pub rows_fit : AllFitter → List Row → Bool
rows_fit fit rows = list_all (λ r. fit r.parts) rows

-- rows, and the branch for no rows, which is shown where there are none
abbrev pub each_fits : AllFitter → AllFitter → List Row → List Shape → Bool
each_fits body last rows none = are_once rows && rows_fit body rows && last none && (is_empty rows || is_empty none)

-- ---- each form

-- a branch, as a plan has it: its condition and its content
abbrev pub ArmFitter : Type 0
ArmFitter = Part × List Fitter

abbrev pub arm_step : FragArm-F Fitter ArmFitter → ArmFitter
arm_step a = (a.test, a.body)

-- one layer of a shape fits one of a fragment, where what a slot of some name shows is checked by some fitter
abbrev pub layer_fits : Program → (List ℕ → Option AllFitter) → Frag-F Fitter ArmFitter → Shape-F Shape Row → Bool
layer_fits p slot (Frag-F.Text text) (Shape-F.Literal mark) = true
layer_fits p slot (Frag-F.Show part) (Shape-F.Text mark text) = true
layer_fits p slot (Frag-F.Element span name attrs children) (Shape-F.Element mark typed states parts) = fit_each children parts
layer_fits p slot (Frag-F.Tag tag reads) (Shape-F.Tag place texts) = is_some (slice_get p.tags tag)
layer_fits p slot (Frag-F.Tag tag reads) Shape-F.Nothing = is_none (slice_get p.tags tag)
layer_fits p slot (Frag-F.Named name lets node) Shape-F.Nothing = true
layer_fits p slot (Frag-F.Slot span name attrs own reads) (Shape-F.Slot props parts) = unwrap_or (slot name) (fit_each own) parts
layer_fits p slot (Frag-F.If arms last) (Shape-F.If arm parts) = fit_each (body_at arms last arm) parts
layer_fits p slot (Frag-F.Each list item index key body last) (Shape-F.Each number rows none) = each_fits (fit_each body) (fit_each (unwrap_or last [])) rows none
layer_fits p slot (Frag-F.Key part body) (Shape-F.Key state parts) = fit_each body parts
layer_fits p slot _ _ = false

abbrev pub step : Program → (List ℕ → Option AllFitter) → Frag-F Fitter ArmFitter → Fitter
step p slot frag x = layer_fits p slot frag (out-Shape x)

-- ---- whole templates

abbrev pub fitter : Program → (List ℕ → Option AllFitter) → Frag → Fitter
fitter p slot = fold-Frag Fitter ArmFitter (step p slot) arm_step

abbrev pub all_fitter : Program → (List ℕ → Option AllFitter) → List Frag → AllFitter
all_fitter p slot frags = fit_each (map (fitter p slot) frags)

-- what the slots of an instance show, by the tags of the levels of its view
abbrev pub slotted : Program → List (Option ℕ) → List ℕ → Option AllFitter
slotted p [] name = None
slotted p (tag ∷ tags) name = option_map (λ c. all_fitter p (slotted p tags) c.frags) (content_at p (tag ∷ tags) name)

-- whether shapes fit fragments in the markup of an instance
unfoldable pub fits_all : Program → List (Option ℕ) → List Frag → List Shape → Bool
fits_all p tags frags = all_fitter p (slotted p tags) frags

abbrev pub Fits : Program → List (Option ℕ) → List Frag → List Shape → Type 0
Fits p tags frags shapes = fits_all p tags frags shapes ≡ true
