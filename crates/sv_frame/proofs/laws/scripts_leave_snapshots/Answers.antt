use Rattle.sv_frame.proofs.Leaving.{leaves_pictures}
use Rattle.sv_frame.proofs.Running.{modules_leave, top_leaves, reactive_leaves, called_leaves, settle_leaves}
use Rattle.sv_frame.proofs.Altering.{seen_setups, seen_stays}
use Rattle.sv_frame.proofs.Stepping.{sets_by, steps_stay}
use Rattle.sv_frame.proofs.laws.scripts_leave_snapshots.Goals as goal
use Rattle.sv_frame.specs.Snapshots.{snapshot_of}

pub returns : goal.returns
returns c = record {
  modules = λ p. leaves_pictures snapshot_of (λ old. modules_leave (steps_stay (seen_stays old) p) (sets_by (seen_setups old) (seen_stays old) 0) (λ ms ms' s h. h));
  top = λ p n props. leaves_pictures snapshot_of (λ old. top_leaves (steps_stay (seen_stays old) p) n (sets_by (seen_setups old) (seen_stays old) n) props);
  reactive = λ p n all. leaves_pictures snapshot_of (λ old. reactive_leaves (steps_stay (seen_stays old) p) n all);
  calls = λ p v args s. leaves_pictures snapshot_of (λ old. called_leaves (steps_stay (seen_stays old) p) v args s);
  settling = λ p. leaves_pictures snapshot_of (λ old. settle_leaves (steps_stay (seen_stays old) p));
}
