-- Selectors, as they are written.
use Rattle.std.specs.Prelude.{ℕ, ◌||◌, Bool, true, false, nat_eq, List, [], ◌∷◌, ◌++◌, codes, Option, None, Some, option_map, if◌then◌else◌}
use Rattle.std.specs.List.{starts_with, ends_with}
use Rattle.sv_select.specs.Borders.{pieces}
use Rattle.sv_select.specs.Compound.{compound_of}
use Rattle.sv_select.specs.declared.borders.Border.TheVariants as border
use Rattle.sv_select.specs.declared.selector.Combinator.{Combinator}
use Rattle.sv_select.specs.declared.selector.Combinator.TheVariants.{Child, Descendant}
use Rattle.sv_select.specs.declared.selector.Link.{Link}
use Rattle.sv_select.specs.declared.selector.Selector.{Selector}

-- a compound with the combinator before it, alone in a list
abbrev pub link_of : Combinator → List ℕ → Option (List Link)
link_of combinator word = option_map (λ c. record { combinator = combinator; compound = c } ∷ []) (compound_of word)

-- links before others, where all are there
abbrev pub both : Option (List Link) → Option (List Link) → Option (List Link)
both (Some some) (Some more) = Some (some ++ more)
both _ _ = None

-- The compounds of a run between spaces, each below the one before it, the first with this combinator. There is one at least, unless one was there
-- before.
abbrev pub run_from : (is_begun : Bool) → Combinator → List (List ℕ) → Option (List Link)
run_from is_begun combinator [] = if is_begun then Some [] else None
run_from is_begun combinator ([] ∷ words) = run_from is_begun combinator words
run_from is_begun combinator ((b ∷ word) ∷ words) = both (link_of combinator (b ∷ word)) (run_from true Descendant words)

abbrev pub run_of : Combinator → List (List ℕ) → Option (List Link)
run_of combinator words = run_from false combinator words

-- the runs of a text between `>`, each a child of the one before it, the first with this combinator
abbrev pub links_of : Combinator → List (List ℕ) → Option (List Link)
links_of combinator [] = Some []
links_of combinator (run ∷ runs) = both (run_of combinator (pieces border.Space run)) (links_of Child runs)

abbrev pub selector_with : Option (List Link) → Option Selector
selector_with found = option_map (λ links. record { links = links }) found

-- A selector: a text with no space at its ends that is runs of compounds. The first one stands somewhere below the page.
abbrev pub selector_of : List ℕ → Option Selector
selector_of text = if starts_with nat_eq text (codes " ") || ends_with nat_eq text (codes " ") then None else selector_with (links_of Descendant (pieces border.Child text))
