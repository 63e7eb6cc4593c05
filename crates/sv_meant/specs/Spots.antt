-- What stands in compiled markup, in the order of the text: parts, and the numbers of handlers and of components' tags, which have parts of their own.
use Rattle.std.specs.Prelude.{◌≡◌, ℕ, List, [], ◌∷◌, ◌++◌, Option, None, Some, map, slice_get}
use Rattle.sv_code.specs.declared.fragments.Frag.{Frag, Frag-F, fold-Frag}
use Rattle.sv_code.specs.declared.fragments.FragArm.{FragArm, FragArm-F, fold-FragArm}
use Rattle.sv_code.specs.declared.fragments.FragAttr.{FragAttr}
use Rattle.sv_code.specs.declared.fragments.FragAttr.TheVariants as attr_form
use Rattle.sv_code.specs.declared.fragments.FragValue.{FragValue}
use Rattle.sv_code.specs.declared.fragments.FragValue.TheVariants as value_form
use Rattle.sv_code.specs.declared.fragments.FragValuePart.{FragValuePart}
use Rattle.sv_code.specs.declared.fragments.FragValuePart.TheVariants as part_form
use Rattle.sv_code.specs.declared.parts.Part.{Part}
use Rattle.sv_code.specs.declared.program.FileCode.{FileCode}
use Rattle.sv_code.specs.declared.program.FileCode.TheVariants as file_code
use Rattle.sv_code.specs.declared.tags.Handler.{Handler}
use Rattle.sv_code.specs.declared.tags.Tag.{Tag}

pub data Spot : Type 0 where
  Own : Part → Spot
  OfHandler : ℕ → Spot
  OfTag : ℕ → Spot

-- those of some things in turn
abbrev pub in_turn : List (List Spot) → List Spot
in_turn [] = []
in_turn (spots ∷ more) = spots ++ in_turn more

abbrev pub if_any : {A : Type 0} → (A → List Spot) → Option A → List Spot
if_any f None = []
if_any f (Some x) = f x

abbrev pub alone : Part → List Spot
alone p = Own p ∷ []

abbrev pub of_value_part : FragValuePart → List Spot
of_value_part (part_form.Text text) = []
of_value_part (part_form.Show shown) = alone shown

abbrev pub of_value : FragValue → List Spot
of_value value_form.Bare = []
of_value (value_form.Parts parts) = in_turn (map of_value_part parts)

abbrev pub of_attr : FragAttr → List Spot
of_attr (attr_form.Plain span name value) = of_value value
of_attr (attr_form.On handler reads) = OfHandler handler ∷ []
of_attr (attr_form.Bind span name target) = alone target
of_attr (attr_form.Class span name test) = alone test

abbrev pub of_attrs : List FragAttr → List Spot
of_attrs attrs = in_turn (map of_attr attrs)

abbrev pub frag : Frag-F (List Spot) (List Spot) → List Spot
frag (Frag-F.Text text) = []
frag (Frag-F.Show shown) = alone shown
frag (Frag-F.Element span name attrs children) = of_attrs attrs ++ in_turn children
frag (Frag-F.Tag tag reads) = OfTag tag ∷ []
frag (Frag-F.Named slot lets node) = node
frag (Frag-F.Slot span name attrs own reads) = of_attrs attrs ++ in_turn own
frag (Frag-F.If arms last) = in_turn arms ++ if_any in_turn last
frag (Frag-F.Each list item index key body none) = alone list ++ (if_any alone key ++ (in_turn body ++ if_any in_turn none))
frag (Frag-F.Key shown body) = alone shown ++ in_turn body

abbrev pub arm : FragArm-F (List Spot) (List Spot) → List Spot
arm a = alone a.test ++ in_turn a.body

abbrev pub of_frag : Frag → List Spot
of_frag = fold-Frag (List Spot) (List Spot) frag arm

abbrev pub of_arm : FragArm → List Spot
of_arm = fold-FragArm (List Spot) (List Spot) frag arm

abbrev pub of_frags : List Frag → List Spot
of_frags frags = in_turn (map of_frag frags)

abbrev pub of_file : FileCode → List Spot
of_file (file_code.Component c) = of_frags c.markup
of_file (file_code.Module m) = []

abbrev pub of_tag : Tag → List Spot
of_tag t = of_attrs t.attrs ++ of_frags t.content

abbrev pub of_handler : Handler → List Spot
of_handler h = if_any alone h.listener

-- the parts of some spots in turn, with those of the tags and handlers that are numbered there
pub data Spread (tags : List Tag) (handlers : List Handler) : List Spot → List Part → Type 0 where
  none : Spread tags handlers [] []
  one : (p : Part) (spots : List Spot) (parts : List Part) → Spread tags handlers spots parts → Spread tags handlers (Own p ∷ spots) (p ∷ parts)
  hears : (n : ℕ) (h : Handler) (inner : List Part) (spots : List Spot) (parts : List Part) → slice_get handlers n ≡ Some h → Spread tags handlers (of_handler h) inner → Spread tags handlers spots parts
      → Spread tags handlers (OfHandler n ∷ spots) (inner ++ parts)
  holds : (n : ℕ) (t : Tag) (inner : List Part) (spots : List Spot) (parts : List Part) → slice_get tags n ≡ Some t → Spread tags handlers (of_tag t) inner → Spread tags handlers spots parts
      → Spread tags handlers (OfTag n ∷ spots) (inner ++ parts)
