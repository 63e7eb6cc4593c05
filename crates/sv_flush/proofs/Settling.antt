-- Nothing waits once a flush ended.
use Rattle.std.proofs.Common.{◌≡◌, [], refl, subst, slice_get}
use Rattle.sv_code.specs.declared.program.Program.{Program}
use Rattle.sv_flush.proofs.Bringing.{Afterwards, Brings, Any, anything, brings_then, nothing_brings, changed_brings, each_brings, settled_brings}
use Rattle.sv_flush.specs.Callbacks.{callbacks_of, called_if, unless, all_mounted}
use Rattle.sv_flush.specs.Flush.{until_settled, updated, all_bound, rendered_one, rendered, round, flush_ended, flushed}
use Rattle.sv_flush.specs.Outcome.{Outcome, Done, ended, scripted}
use Rattle.sv_flush.specs.Rounds.{Waiting, mounting, after_update, has_run, with_ran}
use Rattle.sv_flush.specs.Settled.{IsSettled}
use Rattle.sv_flush.specs.declared.page.Page.{Page}
use Rattle.sv_instance.specs.declared.callbacks.When.TheVariants.{After}
use Rattle.sv_meaning.specs.Outcome.{Ending, Ends, Fails, Deed}

abbrev NothingBound : Page → Type 0
NothingBound m = m.rounds.bindings ≡ []

abbrev NothingLeft : Page → Type 0
NothingLeft m = (m.rounds.bindings ≡ []) × (m.rounds.render ≡ [])

ended_left : (m : Page) (e : Ending (Unit {0})) → NothingLeft m → Afterwards NothingLeft (ended m e)
ended_left m (Ends a w) h = h
ended_left m (Fails k s w) h = tt

scripted_left : (deed : Deed (Unit {0})) → Brings NothingLeft NothingLeft (scripted deed)
scripted_left deed = record { held = λ m h. ended_left m (deed m.world) h }

ended_bound : (m : Page) (e : Ending (Unit {0})) → NothingBound m → Afterwards NothingBound (ended m e)
ended_bound m (Ends a w) h = h
ended_bound m (Fails k s w) h = tt

all_bound_leaves : (p : Program) → Brings Any NothingBound (all_bound p)
all_bound_leaves p = record { held = λ m h. ended_bound (record m { rounds = record m.rounds { bindings = [] } }) _ refl }

rendered_left : (p : Program) (one : Waiting) → Brings NothingLeft NothingLeft (rendered_one p one)
rendered_left p (mounting n) = scripted_left (all_mounted p n)
rendered_left p (after_update n at) =
    record { held = λ m h. ended_left (record m { rounds = with_ran m.rounds n at }) (unless (has_run m.rounds n at) (λ w. called_if p (slice_get (callbacks_of w n After) at) w) m.world) h }

all_rendered : (p : Program) → Brings NothingBound NothingLeft (rendered p)
all_rendered p = record { held = λ m h. (each_brings m.rounds.render (rendered_left p)).held _ (h, refl) }

round_leaves : (p : Program) → Brings Any NothingLeft (round p)
unfolding round
round_leaves p = brings_then (anything (until_settled (updated p))) (λ _. brings_then (all_bound_leaves p) (λ _. brings_then (all_rendered p) (λ _. nothing_brings)))

weaker : {Q R : Page → Type 0} {t : Page → Outcome (Unit {0})} → Brings Any R t → Brings Q R t
weaker k = record { held = λ m h. k.held m tt }

flush_settles : (p : Program) → Brings Any IsSettled (flushed p)
unfolding flushed
flush_settles p =
    brings_then (round_leaves p) (λ _. brings_then (settled_brings (λ n. weaker (round_leaves p))) (λ _. brings_then (changed_brings {R = IsSettled} flush_ended (λ m h. record { queue = h.1; bindings = h.0.0; render = h.0.1 })) (λ _. nothing_brings)))

-- where it ends
pub settled-flushed : (p : Program) (m n : Page) → flushed p m ≡ Done tt n → IsSettled n
settled-flushed p m n is = subst (Afterwards IsSettled) is ((flush_settles p).held m tt)
