-- How far a selector is met on the way to an element.
use Rattle.std.specs.Prelude.{◌&&◌, ◌||◌, Bool, false, List, [], ◌∷◌}
use Rattle.sv_document.specs.Element.{Element}
use Rattle.sv_select.specs.Fits.{fits}
use Rattle.sv_select.specs.declared.reach.Reach.{Reach}
use Rattle.sv_select.specs.declared.selector.Combinator.{Combinator}
use Rattle.sv_select.specs.declared.selector.Combinator.TheVariants.{Child, Descendant}
use Rattle.sv_select.specs.declared.selector.Link.{Link}

-- an element inside stands so to one that meets the links
abbrev pub leads : Combinator → Reach → Bool
leads Child r = r.here
leads Descendant r = r.round

-- what is known inside an element that meets them or not
abbrev pub inside : Bool → Reach → Reach
inside here r = record { here = here; round = here || r.round }

-- what is known on the page of the links before each one: it meets those before the first
abbrev pub on_page : Bool → List Link → List Reach
on_page here [] = []
on_page here (link ∷ links) = record { here = here; round = here } ∷ on_page false links

-- an element meets a link more
abbrev pub meets : Link → Element → Reach → Bool
meets link e r = leads link.combinator r && fits link.compound e

-- what is known inside an element, from a link on, where it meets those before it or not
abbrev pub entered : Bool → List Link → Element → List Reach → List Reach
entered here [] e outer = []
entered here (link ∷ links) e [] = []
entered here (link ∷ links) e (r ∷ outer) = inside here r ∷ entered (meets link e r) links e outer

-- whether it meets all
abbrev pub ends : Bool → List Link → Element → List Reach → Bool
ends here [] e outer = here
ends here (link ∷ links) e [] = here
ends here (link ∷ links) e (r ∷ outer) = ends (meets link e r) links e outer
