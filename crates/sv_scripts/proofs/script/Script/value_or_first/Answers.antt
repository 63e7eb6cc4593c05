use Rattle.std.proofs.Common.{sym, subst}
use Rattle.sv_meaning.specs.Gives.{Gives}
use Rattle.sv_meaning.specs.Runs.{prop_value, world_ground, calls}
use Rattle.sv_meaning.specs.Statements.{value_or, valued}
use Rattle.sv_value.specs.View.{view_of}
use Rattle.sv_scripts.proofs.script.Script.value_or_first.Goals as goal

pub returns-in-Undefined : goal.returns-in-Undefined
returns-in-Undefined c =
    let s = c.args.self.now in
    let first = value_or (valued (world_ground s.program.now) (calls s.program.now) s.owner.number c.args.decl.now.first) in
    subst (λ v. Gives view_of c.eval_or.result c.eval_or.new.locals c.eval_or.new.world (prop_value (view_of v) first c.args.locals.now c.args.world.now)) (sym c.in-Undefined.is) (rw (c.context.ensures, c.as_ref.ensures.value) at c.eval_or.ensures.means)
