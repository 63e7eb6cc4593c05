-- A fact is kept through flushes, where it is told on what view each instance is shown.
use Rattle.std.proofs.Common.{ℕ, false, [], None}
use Rattle.sv_code.specs.declared.program.Program.{Program}
use Rattle.sv_course.proofs.Course.{Course}
use Rattle.sv_course.proofs.Creating.{readied_keeps, shown_keeps, effects_keep}
use Rattle.sv_course.proofs.Telling.{Moments, Tells, Stands, both_bring}
use Rattle.sv_family.proofs.Course.{Fact}
use Rattle.sv_family.proofs.Creating.{work_keeps}
use Rattle.sv_family.proofs.Destroying.{KeepsSorted}
use Rattle.sv_family.proofs.Flushing.{until_keeps, all_bound_keeps, rendered_keeps}
use Rattle.sv_flush.proofs.Bringing.{Brings, brings_then, nothing_brings, changed_brings, each_brings}
use Rattle.sv_flush.proofs.Lasting.{Idle, Snapped}
use Rattle.sv_flush.proofs.Playing.{work_brings, all_bound_brings, rendered_brings}
use Rattle.sv_flush.specs.Creation.{readied, after_waits, effect_by, created_in}
use Rattle.sv_flush.specs.Flush.{updated, round, flush_ended, flushed}
use Rattle.sv_flush.specs.declared.page.Page.{Page}
use Rattle.sv_frame.proofs.Outcomes.{Modules}
use Rattle.sv_states.specs.declared.states.TheConstants.{DEPTH_LIMIT}

module _ (p : Program) (ms : Modules) (P : Fact) (L : Moments) (course : Course p ms P) (sorted : KeepsSorted P) (tells : Tells p ms L) where
  -- so it is on a page while nothing goes on
  abbrev Calm : Page → Type 0
  Calm = Stands P L Idle []

  -- an instance that waited
  waiting_readied : (n : ℕ) → Brings Calm (Stands P L (Snapped n) []) (readied p n false)
  waiting_readied n =
      record { held = λ m h. (readied_keeps p ms P L course sorted tells [] n false).held m (h.0, tells.lasts.begins n [] m.showing.shown m.world.modules m.world.states h.1) }

  updated_keeps : (n : ℕ) → Brings Calm Calm (updated p n)
  unfolding updated
  updated_keeps n =
      brings_then (both_bring (work_keeps (P [] None [])) (work_brings tells.lasts {due = []})) (λ _. brings_then (waiting_readied n) (λ _.
      brings_then (shown_keeps p ms P L course sorted tells [] n tt (effect_by p (created_in DEPTH_LIMIT p) n) (effects_keep p ms P L course sorted tells DEPTH_LIMIT [] n)) (λ _.
      brings_then (changed_brings {Q = Calm} {R = Calm} (after_waits n) (λ m h. h)) (λ _. nothing_brings))))

  round_keeps : Brings Calm Calm (round p)
  unfolding round
  round_keeps =
      brings_then (until_keeps updated_keeps) (λ _. brings_then (both_bring (all_bound_keeps p (P [] None [])) (all_bound_brings tells.lasts [])) (λ _.
      brings_then (record {
        held = λ m h. (each_brings {Q = Calm} m.rounds.render (λ one. both_bring (rendered_keeps p (P [] None []) one) (rendered_brings tells.lasts [] one))).held (record m { rounds = record m.rounds { render = [] } }) h;
      }) (λ _. nothing_brings)))

  pub flushed_keeps : Brings Calm Calm (flushed p)
  unfolding flushed
  flushed_keeps =
      brings_then round_keeps (λ _. brings_then (until_keeps (λ n. round_keeps)) (λ _. brings_then (changed_brings {Q = Calm} {R = Calm} flush_ended (λ m h. h)) (λ _. nothing_brings)))
