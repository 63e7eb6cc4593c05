use Rattle.std.proofs.Common.{◌≡◌, ap, sym, ◌∙◌, arith, ◌-◌, suc}
use Rattle.sv_meaning.specs.Env.{place}
use Rattle.sv_meaning.proofs.Names.{place_found}
use Rattle.sv_meaning.proofs.locals.Locals.place.Goals as goal

pub returns-then-eq-clause-place : goal.returns-then-eq-clause-place
returns-then-eq-clause-place c =
    let i = c.loop-i.i - 1 in
    let e : c.loop-i.i ≡ suc i = omega (arith, c.loop-i-test.true) in
    place_found c.self.inside.entries.items i c.index.result.now c.args.name.0 (omega (arith, c.loop-i.invariant.within)) c.index.ensures (sym c.if-eq.ensures) (rw e at c.loop-i.invariant.passed) ∙ ap (place c.args.name.0) c.self.view_is
