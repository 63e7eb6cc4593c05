use Rattle.sv_frame.proofs.Leaving.{leaves_pictures}
use Rattle.sv_frame.proofs.Running.{modules_leave, top_leaves, reactive_leaves, called_leaves, settle_leaves}
use Rattle.sv_frame.proofs.Altering.{view_of, lent_setups, lent_stays}
use Rattle.sv_frame.proofs.Stepping.{sets_by, steps_stay}
use Rattle.sv_frame.proofs.laws.scripts_lend_no_views.Goals as goal

pub returns : goal.returns
returns c = record {
  modules = λ p. leaves_pictures view_of (λ old. modules_leave (steps_stay (lent_stays old) p) (sets_by (lent_setups old) (lent_stays old) 0) (λ ms ms' s h. h));
  top = λ p n props. leaves_pictures view_of (λ old. top_leaves (steps_stay (lent_stays old) p) n (sets_by (lent_setups old) (lent_stays old) n) props);
  reactive = λ p n all. leaves_pictures view_of (λ old. reactive_leaves (steps_stay (lent_stays old) p) n all);
  calls = λ p v args s. leaves_pictures view_of (λ old. called_leaves (steps_stay (lent_stays old) p) v args s);
  settling = λ p. leaves_pictures view_of (λ old. settle_leaves (steps_stay (lent_stays old) p));
}
