use Rattle.std.proofs.Common.{◌≡◌, ◌++◌, ◌∷◌, ◌⊎◌, inl, inr, ℕ, List, ap, sym, ◌∙◌, subst}
use Rattle.sv_live.specs.declared.live.Named.{Named}
use Rattle.sv_live.specs.declared.live.Live.{Live}
use Rattle.sv_live.specs.declared.node.Own.{Own}
use Rattle.sv_live.specs.declared.live.Live.TheVariants as live
use Rattle.sv_live.specs.Shown.{name_of}
use Rattle.sv_live.specs.Stands.{Becomes}
use Rattle.sv_commit.proofs.Names.{place-Hole, no-Text, no-Element}
use Rattle.sv_commit.proofs.Standing.{at_some, from-same}
use Rattle.sv_commit.proofs.Results.{ok-map}
use Rattle.sv_commit.proofs.stand.stand_hole.Goals as goal

pub returns-in_default-clause-stands : goal.returns-in_default-clause-stands
returns-in_default-clause-stands c =
    let none = c.in_ok-live.ensures.none c.in_default.is in
    ok-map c.make_hole.result c.make_hole.ensures.stands (λ s f.
    from-same c.args.screen.now c.bring.new.screen c.make_hole.new.screen (name_of c.args.spot.above) c.args.spot.end c.args.walk.now.rest c.args.walk.now.placed c.bring.new.walk.rest c.bring.new.walk.placed _ none.0 none.1 c.in_ok-live.ensures.placed
    (f c.args.place))

pub unreachable-requires : goal.unreachable-requires
unreachable-requires c = go c.in-Text.is
  where
    go : ((m : ℕ) × (n : Named) × (text : List ℕ) × (c.in-Some.live ≡ live.Text m n text)) ⊎ ((n : Named) × (own : Own) × (parts : List Live) × (c.in-Some.live ≡ live.Element n own parts)) → ⊥
    go (inl text) = no-Text c.by_place.result c.args.place text.0 text.1 text.2 c.args.walk.now.rest c.in-Some.live (sym c.in_ok-live.ensures.found ∙ c.in-Some.is) c.by_place.ensures text.3
    go (inr element) = no-Element c.by_place.result c.args.place element.0 element.1 element.2 c.args.walk.now.rest c.in-Some.live (sym c.in_ok-live.ensures.found ∙ c.in-Some.is) c.by_place.ensures element.3

pub returns-clause-stands : goal.returns-clause-stands
returns-clause-stands c =
    let b = at_some _ c.in_ok-live.field-0 c.in-Some.live c.in-Some.is c.in_ok-live.ensures.brought in
    let place = place-Hole c.by_place.result c.args.place c.in-Hole.place c.in-Hole.anchor c.in-Hole.parts c.args.walk.now.rest c.in-Some.live (sym c.in_ok-live.ensures.found ∙ c.in-Some.is) c.by_place.ensures c.in-Hole.is in
    subst (λ (l : Live). Becomes c.args.screen.now c.bring.new.screen (name_of c.args.spot.above) c.args.spot.end (c.args.walk.now.rest ++ c.args.walk.now.placed) (c.bring.new.walk.rest ++ l ∷ c.bring.new.walk.placed))
    (c.in-Hole.is ∙ ap (λ p. live.Hole p c.in-Hole.anchor c.in-Hole.parts) place) b
