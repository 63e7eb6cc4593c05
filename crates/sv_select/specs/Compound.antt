-- Compounds, as they are written.
use Rattle.std.specs.Prelude.{ℕ, ◌==◌, ◌||◌, List, [], ◌∷◌, codes, Option, None, Some, if◌then◌else◌}
use Rattle.std.specs.Str.{bytes_eq}
use Rattle.sv_select.specs.Borders.{is_border}
use Rattle.sv_select.specs.Words.{is_word, is_tag}
use Rattle.sv_select.specs.declared.borders.Border.TheVariants as border
use Rattle.sv_select.specs.declared.selector.Compound.{Compound}
use Rattle.sv_select.specs.declared.selector.Part.{Part}
use Rattle.sv_select.specs.declared.selector.Part.TheVariants.{Id, Class}

-- the tag that is asked for; nothing and `*` ask for none
abbrev pub tag_of : List ℕ → Option (Option (List ℕ))
tag_of word = if bytes_eq word [] || bytes_eq word (codes "*") then Some None else (if is_tag word then Some (Some word) else None)

-- `#` asks for an `id`, `.` for a word of the class
abbrev pub by_mark : (mark : ℕ) → List ℕ → Part
by_mark mark word = if mark == 35 then Id word else Class word

abbrev pub part_of : (mark : ℕ) → List ℕ → Option Part
part_of mark word = if is_word word then Some (by_mark mark word) else None

-- a text up to its first mark, and each mark with what stands behind it, up to the next
abbrev pub parted : List ℕ → List ℕ × List (ℕ × List ℕ)
parted [] = ([], [])
parted (b ∷ z) = if is_border border.Part b then ([], (b, (parted z).0) ∷ (parted z).1) else (b ∷ (parted z).0, (parted z).1)

-- each mark of a text that begins with one, with what stands behind it
abbrev pub marked : List ℕ → List (ℕ × List ℕ)
marked [] = []
marked (mark ∷ z) = (mark, (parted z).0) ∷ (parted z).1

-- a part before others, where all are there
abbrev pub one_before : Option Part → Option (List Part) → Option (List Part)
one_before (Some part) (Some parts) = Some (part ∷ parts)
one_before _ _ = None

abbrev pub parts_of : List (ℕ × List ℕ) → Option (List Part)
parts_of [] = Some []
parts_of (m ∷ ms) = one_before (part_of m.0 m.1) (parts_of ms)

abbrev pub compound_with : Option (Option (List ℕ)) → Option (List Part) → Option Compound
compound_with (Some tag) (Some parts) = Some (record { tag = tag; parts = parts })
compound_with _ _ = None

-- A compound: a tag, `*` or nothing, and then parts, each behind its mark.
abbrev pub compound_of : List ℕ → Option Compound
compound_of word = compound_with (tag_of (parted word).0) (parts_of (parted word).1)
