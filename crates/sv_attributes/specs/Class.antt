-- The class of an element that has directives `class:`.
use Rattle.std.specs.Prelude.{ℕ, suc, Bool, true, false, nat_eq, List, [], ◌∷◌, Option, Some, None, codes, slice_get, if◌then◌else◌}
use Rattle.std.specs.List.{position_or_len}
use Rattle.sv_attributes.specs.Attr.{name_text, value_attr, placed}
use Rattle.sv_attributes.specs.Words.{words, with_word, spaced}
use Rattle.sv_base.specs.Names.{is_text}
use Rattle.sv_base.specs.declared.names.Name.{Name}
use Rattle.sv_code.specs.declared.fragments.FragAttr.{FragAttr}
use Rattle.sv_code.specs.declared.fragments.FragAttr.TheVariants as frag_attr
use Rattle.sv_code.specs.declared.program.Program.{Program}
use Rattle.sv_shapes.specs.declared.shape.AttrState.{AttrState}
use Rattle.sv_shapes.specs.declared.shape.AttrState.TheVariants as state
use Rattle.sv_tokens.specs.declared.element.Attr.{Attr}
use Rattle.sv_tokens.specs.declared.element.Attr.TheVariants as attr
use Rattle.sv_tokens.specs.declared.element.Attribute.{Attribute}

-- a name is `class`
abbrev pub is_class_name : Program → Name → Bool
is_class_name p name = is_text p.names (codes "class") name

-- an attribute `class`
abbrev pub is_class : Program → FragAttr → Bool
is_class p (frag_attr.Plain span name value) = is_class_name p name
is_class p _ = false

-- a directive `class:`
abbrev pub is_directive : FragAttr → Bool
is_directive (frag_attr.Class span name test) = true
is_directive _ = false

-- whether it is one of those that make up the class
abbrev pub is_of_class : Program → FragAttr → Bool
is_of_class p (frag_attr.Plain span name value) = is_class_name p name
is_of_class p (frag_attr.On handler reads) = false
is_of_class p (frag_attr.Bind span name target) = false
is_of_class p (frag_attr.Class span name test) = true

-- ---- its words

-- the words of what an attribute shows
abbrev pub words_in : Option Attr → List (List ℕ)
words_in None = []
words_in (Some attr.Flag) = []
words_in (Some (attr.Text t)) = words t

-- the words of an attribute `class`, by what it came to
abbrev pub own_words : FragAttr → Option AttrState → List (List ℕ)
own_words (frag_attr.Plain span name value) s = words_in (value_attr false value s)
own_words _ s = []

-- the words of the first attribute `class`, from an attribute with a number on
abbrev pub first_words : Program → List AttrState → ℕ → List FragAttr → List (List ℕ)
first_words p states i [] = []
first_words p states i (a ∷ attrs) = if is_class p a then own_words a (slice_get states i) else first_words p states (suc i) attrs

-- whether a directive holds
abbrev pub holds : Option AttrState → Bool
holds (Some (state.Holds b)) = b
holds _ = false

-- the words once a directive was heard
abbrev pub heard : Program → FragAttr → Option AttrState → List (List ℕ) → List (List ℕ)
heard p (frag_attr.Class span name test) s ws = with_word (name_text p name) (holds s) ws
heard p _ s ws = ws

-- and once all were, from an attribute with a number on
abbrev pub all_heard : Program → List AttrState → ℕ → List FragAttr → List (List ℕ) → List (List ℕ)
all_heard p states i [] ws = ws
all_heard p states i (a ∷ attrs) ws = all_heard p states (suc i) attrs (heard p a (slice_get states i) ws)

-- the words of the class
abbrev pub class_words : Program → List AttrState → List FragAttr → List (List ℕ)
class_words p states attrs = all_heard p states 0 attrs (first_words p states 0 attrs)

-- ---- the class

-- no class where no word is left
abbrev pub words_attr : List (List ℕ) → Option Attr
words_attr [] = None
words_attr (w ∷ ws) = Some (attr.Text (spaced (w ∷ ws)))

-- it stands where the first of those stands that make it up
abbrev pub class_at : Program → List FragAttr → List AttrState → ℕ → List Attribute
class_at p attrs states i =
    if nat_eq (position_or_len (is_of_class p) attrs) i then placed i (codes "class") (words_attr (class_words p states attrs)) else []
