use Rattle.std.proofs.Common.{false, length, ◌<◌, ◌≡◌, ◌∷◌}
use Rattle.std.specs.Prelude.{slice_index_or}
use Rattle.std.proofs.lemmas.List.Elements.{All-rest}
use Rattle.sv_effects.proofs.Knowing.{names_more}
use Rattle.sv_effects.proofs.known.other_names.Goals as goal

pub loop-name-preserved : goal.loop-name-preserved
loop-name-preserved c =
    let e : c.loop-name.name-iterator ≡ (c.in-Some.name.now, c.in-Some.point.now) ∷ c.next.new.self = c.in-Some.ensures.steps in
    record {
      names = names_more (λ p. slice_index_or c.args.spoiled.now p false) _ c.loop-name.names c.push_unless.new.names c.loop-name.name-iterator c.next.new.self (c.in-Some.name.now, c.in-Some.point.now) c.loop-name.invariant.names e c.in_ok-push_unless.ensures;
      within = All-rest (λ k. k.1 < length c.args.spoiled.now) (c.in-Some.name.now, c.in-Some.point.now) c.next.new.self c.loop-name.name-iterator e c.loop-name.invariant.within;
    }
