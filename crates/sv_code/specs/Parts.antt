-- The parts of a compiled program: the expressions of its markup, each with what it looks at.
use Rattle.std.specs.Prelude.{List, [], ◌∷◌, ◌++◌, Option, None, Some, map}
use Rattle.sv_code.specs.declared.fragments.Frag.{Frag, Frag-F, fold-Frag}
use Rattle.sv_code.specs.declared.fragments.FragArm.{FragArm-F}
use Rattle.sv_code.specs.declared.fragments.FragAttr.{FragAttr}
use Rattle.sv_code.specs.declared.fragments.FragAttr.TheVariants as attr_form
use Rattle.sv_code.specs.declared.fragments.FragValue.{FragValue}
use Rattle.sv_code.specs.declared.fragments.FragValue.TheVariants as value_form
use Rattle.sv_code.specs.declared.fragments.FragValuePart.{FragValuePart}
use Rattle.sv_code.specs.declared.fragments.FragValuePart.TheVariants as part_form
use Rattle.sv_code.specs.declared.parts.Part.{Part}
use Rattle.sv_code.specs.declared.program.FileCode.{FileCode}
use Rattle.sv_code.specs.declared.program.FileCode.TheVariants as file_code
use Rattle.sv_code.specs.declared.program.Program.{Program}
use Rattle.sv_code.specs.declared.tags.Handler.{Handler}
use Rattle.sv_code.specs.declared.tags.Tag.{Tag}

-- those of some things in turn
abbrev pub in_turn : List (List Part) → List Part
in_turn [] = []
in_turn (parts ∷ more) = parts ++ in_turn more

abbrev pub if_any : {A : Type 0} → (A → List Part) → Option A → List Part
if_any f None = []
if_any f (Some x) = f x

abbrev pub of_value_part : FragValuePart → List Part
of_value_part (part_form.Text text) = []
of_value_part (part_form.Show shown) = shown ∷ []

abbrev pub of_value : FragValue → List Part
of_value value_form.Bare = []
of_value (value_form.Parts parts) = in_turn (map of_value_part parts)

abbrev pub of_attr : FragAttr → List Part
of_attr (attr_form.Plain span name value) = of_value value
of_attr (attr_form.On handler reads) = []
of_attr (attr_form.Bind span name target) = target ∷ []
of_attr (attr_form.Class span name test) = test ∷ []

abbrev pub of_attrs : List FragAttr → List Part
of_attrs attrs = in_turn (map of_attr attrs)

abbrev pub frag : Frag-F (List Part) (List Part) → List Part
frag (Frag-F.Text text) = []
frag (Frag-F.Show shown) = shown ∷ []
frag (Frag-F.Element span name attrs children) = of_attrs attrs ++ in_turn children
frag (Frag-F.Tag tag reads) = []
frag (Frag-F.Named slot lets node) = node
frag (Frag-F.Slot span name attrs own reads) = of_attrs attrs ++ in_turn own
frag (Frag-F.If arms last) = in_turn arms ++ if_any in_turn last
frag (Frag-F.Each list item index key body none) = list ∷ (if_any (λ k. k ∷ []) key ++ (in_turn body ++ if_any in_turn none))
frag (Frag-F.Key shown body) = shown ∷ in_turn body

abbrev pub arm : FragArm-F (List Part) (List Part) → List Part
arm a = a.test ∷ in_turn a.body

abbrev pub of_frag : Frag → List Part
of_frag = fold-Frag (List Part) (List Part) frag arm

abbrev pub of_frags : List Frag → List Part
of_frags frags = in_turn (map of_frag frags)

abbrev pub of_file : FileCode → List Part
of_file (file_code.Component c) = of_frags c.markup
of_file (file_code.Module m) = []

abbrev pub of_tag : Tag → List Part
of_tag t = of_attrs t.attrs ++ of_frags t.content

abbrev pub of_handler : Handler → List Part
of_handler h = if_any (λ p. p ∷ []) h.listener

-- the parts of a program: those of the markup of its components, of its tags, and of its handlers
abbrev pub of_program : Program → List Part
of_program p = in_turn (map (λ f. of_file f.code) p.files) ++ (in_turn (map of_tag p.tags) ++ in_turn (map of_handler p.handlers))
