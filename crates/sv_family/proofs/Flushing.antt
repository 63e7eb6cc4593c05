-- A fact is kept through flushes.
use Rattle.std.proofs.Common.{ℕ, false, [], None}
use Rattle.std.specs.Prelude.{reverse}
use Rattle.sv_code.specs.declared.program.Program.{Program}
use Rattle.sv_family.proofs.Course.{Fact, Course}
use Rattle.sv_family.proofs.Births.{readied_keeps}
use Rattle.sv_family.proofs.Creating.{Opens, work_keeps, shown_keeps, effects_keep}
use Rattle.sv_family.proofs.Destroying.{KeepsSorted, brings_less, after_keeps}
use Rattle.sv_family.proofs.Scripts.{About, At, are_stay, scripted_brings, bound_leaves}
use Rattle.sv_flush.proofs.Bringing.{Brings, brings_then, nothing_brings, changed_brings, each_brings, settled_brings}
use Rattle.sv_flush.proofs.Playing.{all_mounted_leave}
use Rattle.sv_flush.specs.Creation.{after_waits, effect_by, created_in}
use Rattle.sv_flush.specs.Flush.{updated, until_settled, bound, all_bound, rendered_one, round, flush_ended, flushed}
use Rattle.sv_flush.specs.Outcome.{Task}
use Rattle.sv_flush.specs.Rounds.{Waiting, mounting, after_update}
use Rattle.sv_flush.specs.declared.page.Page.{Page}
use Rattle.sv_frame.proofs.Running.{in_turn_leaves}
use Rattle.sv_states.specs.declared.states.TheConstants.{DEPTH_LIMIT}

-- whoever waits is updated, and so on, until nobody does
pub until_keeps : {Q : Page → Type 0} {task : ℕ → Task} → ((n : ℕ) → Brings Q Q (task n)) → Brings Q Q (until_settled task)
until_keeps k = brings_less (settled_brings k) (λ m h. h.0)

module _ (p : Program) (F : About) where
  pub all_bound_keeps : Brings (At F) (At F) (all_bound p)
  all_bound_keeps = record {
    held = λ m h. (scripted_brings F (λ old. in_turn_leaves (are_stay p old) (bound p) (reverse m.rounds.bindings) (bound_leaves p old))).held (record m { rounds = record m.rounds { bindings = [] } }) h;
  }

  pub rendered_keeps : (one : Waiting) → Brings (At F) (At F) (rendered_one p one)
  rendered_keeps (mounting n) = scripted_brings F (λ old. all_mounted_leave (are_stay p old) n)
  rendered_keeps (after_update n at) = after_keeps p F n at

module _ (p : Program) (P : Fact) (course : Course p P) (sorted : KeepsSorted P) (opens : Opens p) where
  -- so it is on a page between turns
  abbrev Stands : Page → Type 0
  Stands = At (P [] None [])

  updated_keeps : (n : ℕ) → Brings Stands Stands (updated p n)
  unfolding updated
  updated_keeps n =
      brings_then (work_keeps (P [] None [])) (λ _. brings_then (readied_keeps p (P [] None []) n false) (λ _.
      brings_then (shown_keeps p P course sorted opens [] n tt (effect_by p (created_in DEPTH_LIMIT p) n) (effects_keep p P course sorted opens DEPTH_LIMIT [] n)) (λ _.
      brings_then (changed_brings {Q = Stands} {R = Stands} (after_waits n) (λ m h. h)) (λ _. nothing_brings))))

  round_keeps : Brings Stands Stands (round p)
  unfolding round
  round_keeps =
      brings_then (until_keeps updated_keeps) (λ _. brings_then (all_bound_keeps p (P [] None [])) (λ _.
      brings_then (record { held = λ m h. (each_brings m.rounds.render (rendered_keeps p (P [] None []))).held (record m { rounds = record m.rounds { render = [] } }) h }) (λ _. nothing_brings)))

  pub flushed_keeps : Brings Stands Stands (flushed p)
  unfolding flushed
  flushed_keeps =
      brings_then round_keeps (λ _. brings_then (until_keeps (λ n. round_keeps)) (λ _. brings_then (changed_brings {Q = Stands} {R = Stands} flush_ended (λ m h. h)) (λ _. nothing_brings)))
