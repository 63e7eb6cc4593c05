-- The expressions of markup in the order of the text, those of `on:` aside.
use Rattle.std.specs.Prelude.{ℕ, List, [], ◌∷◌, ◌++◌, Option, map, option_map, slice_get, unwrap_or}
use Rattle.std.specs.List.{flat_map}
use Rattle.std.specs.Option.{option_to_list, option_map_or}
use Rattle.sv_code.specs.declared.fragments.Frag.{Frag, Frag-F, fold-Frag}
use Rattle.sv_code.specs.declared.fragments.FragArm.{FragArm, FragArm-F, fold-FragArm}
use Rattle.sv_code.specs.declared.fragments.FragAttr.{FragAttr}
use Rattle.sv_code.specs.declared.fragments.FragAttr.TheVariants as attr
use Rattle.sv_code.specs.declared.fragments.FragValue.{FragValue}
use Rattle.sv_code.specs.declared.fragments.FragValue.TheVariants as value
use Rattle.sv_code.specs.declared.fragments.FragValuePart.{FragValuePart}
use Rattle.sv_code.specs.declared.fragments.FragValuePart.TheVariants as piece
use Rattle.sv_code.specs.declared.parts.Part.{Part}
use Rattle.sv_code.specs.declared.tags.Tag.{Tag}

-- ---- attributes

-- the part of a piece of a value
abbrev pub in_piece : FragValuePart → List Part
in_piece (piece.Text text) = []
in_piece (piece.Show part) = part ∷ []

-- the parts of a value
abbrev pub in_value : FragValue → List Part
in_value value.Bare = []
in_value (value.Parts pieces) = flat_map in_piece pieces

-- the parts of an attribute or a directive
abbrev pub in_attr : FragAttr → List Part
in_attr (attr.Plain span name value) = in_value value
in_attr (attr.On handler reads) = []
in_attr (attr.Bind span name target) = target ∷ []
in_attr (attr.Class span name test) = test ∷ []

-- the parts of attributes and directives
abbrev pub in_attrs : List FragAttr → List Part
in_attrs attrs = flat_map in_attr attrs

-- ---- each form, with the parts of what is in it

-- lists one behind the other
abbrev pub together : List (List Part) → List Part
together lists = flat_map (λ parts. parts) lists

-- those of content that may be absent
abbrev pub optional : Option (List (List Part)) → List Part
optional lists = unwrap_or (option_map together lists) []

-- a list with its rows: the list, the key, and the content of a row
abbrev pub in_rows : Part → Option Part → List Part → List Part
in_rows list key body = list ∷ (option_to_list key ++ body)

-- the parts inside of the component's tag with a number, where those of tags are these
abbrev pub inside_at : List (List Part) → ℕ → List Part
inside_at insides tag = option_map_or (λ parts. parts) (slice_get insides tag) []

-- a fragment, by its form
abbrev pub in_frag : List (List Part) → Frag-F (List Part) (List Part) → List Part
in_frag insides (Frag-F.Text text) = []
in_frag insides (Frag-F.Show part) = part ∷ []
in_frag insides (Frag-F.Element span name attrs children) = in_attrs attrs ++ together children
in_frag insides (Frag-F.Tag tag reads) = inside_at insides tag
in_frag insides (Frag-F.Named slot lets node) = node
in_frag insides (Frag-F.Slot span name attrs own reads) = in_attrs attrs ++ together own
in_frag insides (Frag-F.If arms last) = together arms ++ optional last
in_frag insides (Frag-F.Each list item index key body none) = in_rows list key (together body) ++ optional none
in_frag insides (Frag-F.Key value body) = value ∷ together body

-- a branch: its condition, and then its content
abbrev pub in_arm : FragArm-F (List Part) (List Part) → List Part
in_arm arm = arm.test ∷ together arm.body

-- ---- whole trees

-- the parts of a fragment
abbrev pub frag_parts : List (List Part) → Frag → List Part
frag_parts insides = fold-Frag (List Part) (List Part) (in_frag insides) in_arm

-- the parts of a branch of an if block
abbrev pub arm_parts : List (List Part) → FragArm → List Part
arm_parts insides = fold-FragArm (List Part) (List Part) (in_frag insides) in_arm

-- the parts of fragments that stand beside one another
abbrev pub parts : List (List Part) → List Frag → List Part
parts insides frags = together (map (frag_parts insides) frags)

-- ---- component tags

-- the parts inside of a component's tag: those of its attributes, and then those of its content
abbrev pub tag_parts : List (List Part) → Tag → List Part
tag_parts insides tag = in_attrs tag.attrs ++ parts insides tag.content

-- those of the tags before some, and of these, each by those before it
abbrev pub insides_from : List (List Part) → List Tag → List (List Part)
insides_from before [] = before
insides_from before (tag ∷ tags) = insides_from (before ++ tag_parts before tag ∷ []) tags

-- those of component tags by number
abbrev pub insides : List Tag → List (List Part)
insides tags = insides_from [] tags
