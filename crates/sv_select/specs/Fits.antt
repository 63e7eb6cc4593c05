-- Whether one element is what a compound asks for.
use Rattle.std.specs.Prelude.{ℕ, ◌&&◌, Bool, true, false, List, [], ◌∷◌, codes, Option, None, Some}
use Rattle.std.specs.List.{list_all, list_any}
use Rattle.std.specs.Option.{option_map_or}
use Rattle.std.specs.Str.{bytes_eq}
use Rattle.sv_document.specs.Element.{Element}
use Rattle.sv_select.specs.Borders.{pieces}
use Rattle.sv_select.specs.Shown.{shown_at}
use Rattle.sv_select.specs.declared.borders.Border.TheVariants as border
use Rattle.sv_select.specs.declared.selector.Compound.{Compound}
use Rattle.sv_select.specs.declared.selector.Part.{Part}
use Rattle.sv_select.specs.declared.selector.Part.TheVariants.{Id, Class}

-- it shows that `id`
abbrev pub shows_id : List ℕ → Element → Bool
shows_id id e = option_map_or (λ shown. bytes_eq shown id) (shown_at (codes "id") e) false

-- a piece of a text is that word; an empty piece is none
abbrev pub is_word : (word piece : List ℕ) → Bool
is_word word [] = false
is_word word (b ∷ z) = bytes_eq (b ∷ z) word

-- it is one of the words of a text, between which white space stands (HTML, 'Space-separated tokens')
abbrev pub has_word : (word text : List ℕ) → Bool
has_word word text = list_any (is_word word) (pieces border.White text)

-- it is one of the words of the `class` that it shows
abbrev pub has_class : List ℕ → Element → Bool
has_class word e = option_map_or (has_word word) (shown_at (codes "class") e) false

abbrev pub has_part : Element → Part → Bool
has_part e (Id id) = shows_id id e
has_part e (Class word) = has_class word e

-- it has the tag, where one is asked for
abbrev pub has_tag : Option (List ℕ) → Element → Bool
has_tag None e = true
has_tag (Some tag) e = bytes_eq e.name tag

-- An element fits a compound: it has the tag, and all parts.
abbrev pub fits : Compound → Element → Bool
fits c e = has_tag c.tag e && list_all (has_part e) c.parts
