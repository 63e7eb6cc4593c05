-- What is known of a selector's links on a way is whether the way and those round it pass them.
use Rattle.std.proofs.Common.{◌≡◌, ◌&&◌, Bool, List, [], ◌∷◌, refl, ap, ◌∙◌}
use Rattle.sv_document.specs.Element.{Element}
use Rattle.sv_document.specs.Target.{Path}
use Rattle.sv_select.specs.Fits.{fits}
use Rattle.sv_select.specs.Matching.{some_round, stands, linked, through}
use Rattle.sv_select.specs.Reach.{leads, on_page, meets, entered, ends}
use Rattle.sv_select.specs.declared.reach.Reach.{Reach}
use Rattle.sv_select.specs.declared.selector.Combinator.{Combinator}
use Rattle.sv_select.specs.declared.selector.Combinator.TheVariants.{Child, Descendant}
use Rattle.sv_select.specs.declared.selector.Link.{Link}

-- whether a way passes, and whether it or one round it does
abbrev pub reach_of : (Path → Bool) → Path → Reach
reach_of passes path = record { here = passes path; round = some_round passes path }

-- the same of the links before each one
abbrev pub reach : (Path → Bool) → List Link → Path → List Reach
reach passes [] path = []
reach passes (link ∷ links) path = reach_of passes path ∷ reach (linked link passes) links path

leads-stands : (combinator : Combinator) (passes : Path → Bool) (above : Path) → leads combinator (reach_of passes above) ≡ stands combinator passes above
leads-stands Child passes above = refl
leads-stands Descendant passes above = refl

meets-linked : (link : Link) (passes : Path → Bool) (e : Element) (above : Path) → meets link e (reach_of passes above) ≡ linked link passes (e ∷ above)
meets-linked link passes e above = ap (λ b. b && fits link.compound e) (leads-stands link.combinator passes above)

pub on_page-reach : (passes : Path → Bool) (links : List Link) → on_page (passes []) links ≡ reach passes links []
on_page-reach passes [] = refl
on_page-reach passes (link ∷ links) = ap (λ more. reach_of passes [] ∷ more) (on_page-reach (linked link passes) links)

pub entered-reach : (passes : Path → Bool) (links : List Link) (e : Element) (above : Path) → entered (passes (e ∷ above)) links e (reach passes links above) ≡ reach passes links (e ∷ above)
entered-reach passes [] e above = refl
entered-reach passes (link ∷ links) e above =
    ap (λ more. reach_of passes (e ∷ above) ∷ more)
    (ap (λ here. entered here links e (reach (linked link passes) links above)) (meets-linked link passes e above) ∙ entered-reach (linked link passes) links e above)

pub ends-through : (passes : Path → Bool) (links : List Link) (e : Element) (above : Path) → ends (passes (e ∷ above)) links e (reach passes links above) ≡ through links passes (e ∷ above)
ends-through passes [] e above = refl
ends-through passes (link ∷ links) e above =
    ap (λ here. ends here links e (reach (linked link passes) links above)) (meets-linked link passes e above) ∙ ends-through (linked link passes) links e above
