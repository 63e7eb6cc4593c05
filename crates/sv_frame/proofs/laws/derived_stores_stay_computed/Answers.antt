use Rattle.std.proofs.Common.{[], subst}
use Rattle.sv_frame.proofs.Outcomes.{at_ends, Left, Leaves, left_leaves}
use Rattle.sv_frame.proofs.Running.{modules_leave, top_leaves, reactive_leaves, called_leaves, settle_leaves, calls_keep, teller_keeps}
use Rattle.sv_frame.proofs.Staying.{computed_stay, computed_sets}
use Rattle.sv_frame.proofs.Statements.{run_keeps}
use Rattle.sv_frame.proofs.Calls.{set_leaves, set_keeps}
use Rattle.sv_frame.proofs.Values.{expr_keeps}
use Rattle.sv_frame.proofs.laws.derived_stores_stay_computed.Goals as goal
use Rattle.sv_frame.specs.Computed.{AreComputed, LeavesComputed}
use Rattle.sv_meaning.specs.Outcome.{Deed}
use Rattle.sv_meaning.specs.Runs.{world_ground, calls}
use Rattle.sv_code.specs.declared.program.Program.{Program}

at_its_end : {A : Type 0} (p : Program) {deed : Deed A} → Leaves (at_ends (AreComputed p)) deed → LeavesComputed p deed
at_its_end p k w w' a h e = subst (Left (at_ends (AreComputed p))) e (k.held w h)

pub returns : goal.returns
returns c = record {
  modules = λ p. at_its_end p (modules_leave computed_stay (computed_sets 0) (λ ms ms' s h. h));
  top = λ p n props. at_its_end p (top_leaves computed_stay n (computed_sets n) props);
  reactive = λ p n all. at_its_end p (reactive_leaves computed_stay n all);
  calls = λ p v args s. at_its_end p (called_leaves computed_stay v args s);
  expressions = λ p owner x env. at_its_end p (left_leaves env (expr_keeps computed_stay (world_ground p) (calls p) (calls_keep computed_stay) owner x));
  statements = λ p owner x env. at_its_end p (left_leaves env (run_keeps computed_stay (world_ground p) (calls p) (calls_keep computed_stay) owner x));
  events = λ p i name e. at_its_end p (teller_keeps computed_stay (calls p) (calls_keep computed_stay) i name e);
  assignments = λ p owner x v s. at_its_end p (left_leaves [] (set_keeps computed_stay (calls p) (calls_keep computed_stay) (world_ground p) owner x v s));
  stores = λ p s id v. at_its_end p (set_leaves computed_stay (calls p) (calls_keep computed_stay) s id v);
  settling = λ p. at_its_end p (settle_leaves computed_stay);
}
