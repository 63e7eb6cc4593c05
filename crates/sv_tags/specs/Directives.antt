-- What an attribute is by its name, and where it may stand (Svelte 4, 'Element directives' and 'Component directives').
use Rattle.std.specs.Prelude.{ℕ, Bool, true, false, not, ◌||◌, ◌&&◌, ◌==◌, List, [], ◌∷◌, length, drop, Option, Some, None, codes, if◌then◌else◌}
use Rattle.std.specs.List.{list_any}
use Rattle.std.specs.Str.{bytes_eq}
use Rattle.sv_ast.specs.declared.markup_tree.AttrKind.{AttrKind}
use Rattle.sv_ast.specs.declared.markup_tree.AttrKind.TheVariants.{Plain, On, Bind, Class, Let, Slot}
use Rattle.sv_ast.specs.declared.markup_tree.AttrValue.{AttrValue}
use Rattle.sv_ast.specs.declared.markup_tree.AttrValue.TheVariants.{Bare, Parts}
use Rattle.sv_ast.specs.declared.refusals.Kind.{Kind}
use Rattle.sv_ast.specs.declared.refusals.Kind.TheVariants.{Syntax, OutOfScope}
use Rattle.sv_lex.specs.Look.{is_name}
use Rattle.sv_tags.specs.declared.classes.Class.TheVariants.{AttributeName}
use Rattle.sv_tags.specs.declared.directives.Tag.{Tag}
use Rattle.sv_tags.specs.declared.directives.Tag.TheVariants as tag
use Rattle.sv_tags.specs.declared.holes.Filling.{Filling}
use Rattle.sv_tags.specs.declared.holes.Filling.TheVariants.{Value, Target, Name}
use Rattle.sv_tags.specs.Classes.{front_of, begins}
use Rattle.sv_tags.specs.Values.{is_literal}

-- ---- tags

-- what a tag of this name is of, where it isn't a component's
abbrev pub tag_of : List ℕ → Tag
tag_of name = if bytes_eq name (codes "input") then tag.Input else (if bytes_eq name (codes "slot") then tag.Slot else tag.Element)

-- ---- names. The text begins with the name of the attribute.

-- the whole name
abbrev pub name_at : List ℕ → List ℕ
name_at z = front_of AttributeName z

-- a directive begins with its word and a colon
abbrev pub word : AttrKind → List ℕ
word On = codes "on:"
word Bind = codes "bind:"
word Class = codes "class:"
word Let = codes "let:"
word Plain = []
word Slot = []

-- an attribute that is no directive
abbrev pub undirected : List ℕ → AttrKind
undirected z = if bytes_eq (name_at z) (codes "slot") then Slot else Plain

-- what the attribute is
unfoldable pub kind_of : List ℕ → AttrKind
kind_of z =
    if begins (word On) z then On else (if begins (word Bind) z then Bind else (if begins (word Class) z then Class
    else (if begins (word Let) z then Let else undirected z)))

-- the name behind the word
abbrev pub given_name : List ℕ → List ℕ
given_name z = name_at (drop (length (word (kind_of z))) z)

-- the directives that are left out: those of these words, and two by their whole names
unfoldable pub is_left_out : List ℕ → Bool
is_left_out z =
    list_any (λ w. begins w z) (codes "transition:" ∷ codes "in:" ∷ codes "out:" ∷ codes "animate:" ∷ codes "use:" ∷ codes "style:" ∷ [])
    || list_any (bytes_eq (name_at z)) (codes "bind:this" ∷ codes "bind:group" ∷ [])

-- ---- where an attribute may stand

abbrev pub is_element : Tag → Bool
is_element tag.Element = true
is_element tag.Input = true
is_element _ = false

abbrev pub is_component : Tag → Bool
is_component tag.Component = true
is_component _ = false

abbrev pub is_input : Tag → Bool
is_input tag.Input = true
is_input _ = false

abbrev pub is_slot : Tag → Bool
is_slot tag.Slot = true
is_slot _ = false

-- listeners and bindings stand on elements and components, where an element can bind its `value` and `checked` alone; a class stands on elements, and a name that a slot gives on both
abbrev pub suits : AttrKind → Tag → List ℕ → Bool
suits On tag name = is_element tag || is_component tag
suits Bind tag name = is_component tag || (is_element tag && (bytes_eq name (codes "value") || bytes_eq name (codes "checked")))
suits Class tag name = is_element tag
suits Let tag name = is_element tag || is_component tag
suits Plain tag name = true
suits Slot tag name = true

abbrev pub misplaced_by : AttrKind → Tag → Bool → List ℕ → Option Kind
misplaced_by Plain tag owned name = None
misplaced_by Slot tag owned name = if is_slot tag then Some OutOfScope else (if owned then None else Some Syntax)
misplaced_by kind tag owned name = if length name == 0 || not (suits kind tag name) then Some Syntax else None

-- why an attribute can't stand there by its name, if it can't. A `slot` stands where the tag is a direct child of a component, which owns it.
unfoldable pub misplaced : Tag → Bool → List ℕ → Option Kind
misplaced tag owned z =
    if length (name_at z) == 0 then Some Syntax else (if is_left_out z then Some OutOfScope else misplaced_by (kind_of z) tag owned (given_name z))

-- ---- what it may be given

-- what the braces of a directive hold; other attributes may be given any value
abbrev pub filling : AttrKind → Option Filling
filling On = Some Value
filling Bind = Some Target
filling Class = Some Value
filling Let = Some Name
filling Plain = None
filling Slot = None

abbrev pub is_bare : AttrValue → Bool
is_bare Bare = true
is_bare (Parts parts) = false

abbrev pub misvalued_plain : Tag → List ℕ → AttrValue → Option Kind
misvalued_plain tag name v =
    if is_literal v then None else (if is_input tag && bytes_eq name (codes "type") then Some OutOfScope
    else (if is_slot tag && bytes_eq name (codes "name") then Some Syntax else None))

-- without a value, a directive but a listener reads, or declares, the variable of its name
abbrev pub misvalued_by : AttrKind → Tag → List ℕ → AttrValue → Option Kind
misvalued_by Plain tag name v = misvalued_plain tag name v
misvalued_by Slot tag name v = if is_literal v then None else Some Syntax
misvalued_by On tag name v = None
misvalued_by _ tag name v = if is_bare v && not (is_name name) then Some Syntax else None

-- why an attribute can't have this value, if it can't: a `slot`, the `type` of an `<input>` and the `name` of a `<slot>` are text
unfoldable pub misvalued : Tag → List ℕ → AttrValue → Option Kind
misvalued tag z v = misvalued_by (kind_of z) tag (given_name z) v
