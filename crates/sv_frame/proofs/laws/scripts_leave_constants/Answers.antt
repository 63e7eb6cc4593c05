use Rattle.sv_frame.proofs.Lasting.{leaves_constants, leaves_others}
use Rattle.sv_frame.proofs.Running.{top_leaves, reactive_leaves, called_leaves, settle_leaves, calls_keep, teller_keeps}
use Rattle.sv_frame.proofs.laws.scripts_leave_constants.Goals as goal
use Rattle.sv_meaning.specs.Runs.{calls}

pub returns : goal.returns
returns c = record {
  top = λ p n props. leaves_others p n (λ P stay sets. top_leaves stay n sets props);
  reactive = λ p n all. leaves_constants p (λ P stay. reactive_leaves stay n all);
  calls = λ p v args s. leaves_constants p (λ P stay. called_leaves stay v args s);
  events = λ p i name e. leaves_constants p (λ P stay. teller_keeps stay (calls p) (calls_keep stay) i name e);
  settling = λ p. leaves_constants p (λ P stay. settle_leaves stay);
}
