-- The content that a tag gives to the slots of its component.
use Rattle.std.specs.Prelude.{ℕ, Bool, true, false, ◌&&◌, not, List, [], ◌∷◌, Option, Some, None, slice_get, if◌then◌else◌}
use Rattle.std.specs.List.{list_any}
use Rattle.std.specs.Option.{option_and_then}
use Rattle.std.specs.Str.{bytes_eq}
use Rattle.sv_code.specs.declared.fragments.Frag.{Frag, Frag-F, out-Frag}
use Rattle.sv_code.specs.declared.fragments.FragArm.{FragArm}
use Rattle.sv_code.specs.declared.fragments.LetName.{LetName}
use Rattle.sv_code.specs.declared.program.Program.{Program}
use Rattle.sv_code.specs.declared.tags.Tag.{Tag}
use Rattle.sv_plan.specs.declared.content.Content as found

-- fragments, and the names that they have for slot props
pub record Content : Type 0 where
  pub lets : List LetName
  pub frags : List Frag

-- the content that code found
abbrev pub seen : found.Content → Content
seen c = record { lets = c.lets.now; frags = c.frags.now }

abbrev pub Opened : Type 0
Opened = Frag-F Frag FragArm

-- whether a fragment goes to a slot of a name of its own
abbrev pub is_named : Opened → Bool
is_named (Frag-F.Named slot lets node) = true
is_named _ = false

-- a fragment that goes to the slot of a name
abbrev pub named_as : List ℕ → Opened → Option Content
named_as name (Frag-F.Named slot lets node) = if bytes_eq slot name then Some (record { lets = lets; frags = node ∷ [] }) else None
named_as name _ = None

abbrev pub or_else : Option Content → Option Content → Option Content
or_else None other = other
or_else (Some c) other = Some c

-- the first that goes to the slot of a name
abbrev pub content_named : List ℕ → List Frag → Option Content
content_named name [] = None
content_named name (f ∷ frags) = or_else (named_as name (out-Frag f)) (content_named name frags)

-- whether some goes to the default slot, as none of a name of its own does
abbrev pub has_default : List Frag → Bool
has_default frags = list_any (λ f. not (is_named (out-Frag f))) frags

abbrev pub is_empty : List ℕ → Bool
is_empty [] = true
is_empty (c ∷ name) = false

-- what a tag gives to the slot of a name; the default slot has the empty name
abbrev pub content_of : List ℕ → Tag → Option Content
content_of name t = if is_empty name && has_default t.content then Some (record { lets = t.lets; frags = t.content }) else content_named name t.content

-- the tag with which an instance stands in its owner's markup, by the tags of the levels of its view, and those of its owner's view
abbrev pub own_tag : List (Option ℕ) → Option ℕ
own_tag [] = None
own_tag (tag ∷ tags) = tag

abbrev pub outer_tags : List (Option ℕ) → List (Option ℕ)
outer_tags [] = []
outer_tags (tag ∷ tags) = tags

-- what is given there to the slot of a name
abbrev pub content_at : Program → List (Option ℕ) → List ℕ → Option Content
content_at p tags name = option_and_then (λ k. option_and_then (content_of name) (slice_get p.tags k)) (own_tag tags)
