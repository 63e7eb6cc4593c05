-- Which elements of a page match a selector (Selectors Level 4, 'Combinators').
use Rattle.std.specs.Prelude.{ℕ, ◌&&◌, ◌||◌, Bool, true, false, List, [], ◌∷◌, ◌++◌, map, if◌then◌else◌}
use Rattle.sv_document.specs.Element.{Element}
use Rattle.sv_document.specs.Printed.{joined}
use Rattle.sv_document.specs.Target.{Path}
use Rattle.sv_document.specs.declared.tree.Node.{Node, Node-F, fold-Node}
use Rattle.sv_select.specs.Fits.{fits}
use Rattle.sv_select.specs.declared.selector.Combinator.{Combinator}
use Rattle.sv_select.specs.declared.selector.Combinator.TheVariants.{Child, Descendant}
use Rattle.sv_select.specs.declared.selector.Link.{Link}
use Rattle.sv_select.specs.declared.selector.Selector.{Selector}

-- Ways to elements: an element, and each one round it, to the outermost. The way to the page itself is empty.

abbrev pub is_page : Path → Bool
is_page [] = true
is_page (e ∷ above) = false

-- a way passes, or that to something round it
abbrev pub some_round : (Path → Bool) → Path → Bool
some_round passes [] = passes []
some_round passes (e ∷ above) = passes (e ∷ above) || some_round passes above

-- what is directly round an element passes, or something round it
abbrev pub stands : Combinator → (Path → Bool) → (above : Path) → Bool
stands Child passes above = passes above
stands Descendant passes above = some_round passes above

-- the element stands so to what passes, and fits the compound
abbrev pub linked : Link → (Path → Bool) → Path → Bool
linked link passes [] = false
linked link passes (e ∷ above) = stands link.combinator passes above && fits link.compound e

-- one link behind the other
abbrev pub through : List Link → (Path → Bool) → Path → Bool
through [] passes = passes
through (link ∷ links) passes = through links (linked link passes)

-- An element matches a selector: it fits the last compound, and stands as the last combinator says to one that matches what is before it. What
-- is before the first is the page.
abbrev pub matches : Selector → Path → Bool
matches selector = through selector.links is_page

-- ---- all of a page

-- an element that matches, with the texts below it
pub record Found : Type 0 where
  pub element : Element
  pub text : List ℕ

-- what a node shows as text, and what is found from it on below a way
pub record Place : Type 0 where
  pub text : List ℕ
  pub found : Path → List Found

-- the texts below an element
abbrev pub texts : List Place → List ℕ
texts places = joined (map (λ p. p.text) places)

-- what is found from places on, in their order
abbrev pub each : Path → List Place → List Found
each above [] = []
each above (p ∷ places) = p.found above ++ each above places

-- an element, where it matches
abbrev pub own : Bool → Element → List ℕ → List Found
own is_match e text = if is_match then record { element = e; text = text } ∷ [] else []

-- an element comes before what is in it
abbrev pub form : (Path → Bool) → Node-F Place → Place
form passes (Node-F.Element e children) = record { text = texts children; found = λ above. own (passes (e ∷ above)) e (texts children) ++ each (e ∷ above) children }
form passes (Node-F.Text mark text) = record { text = text; found = λ above. [] }

abbrev pub place : (Path → Bool) → Node → Place
place passes = fold-Node Place (form passes)

-- The elements among nodes and below them that match a selector, in document order, each once.
abbrev pub matches_in : Selector → List Node → List Found
matches_in selector nodes = each [] (map (place (matches selector)) nodes)
