-- Where everything begins, nothing is shown.
use Rattle.std.proofs.Common.{◌≡◌, ℕ, zero, suc, List, [], None, Some, cond, refl, sym, ap, subst, ◌∙◌, ⊎_elim, ◌⊎◌}
use Rattle.std.proofs.lemmas.Bool.{true≢false}
use Rattle.std.proofs.lemmas.List.Elements.{All-nil}
use Rattle.std.proofs.lemmas.Option.{none-some}
use Rattle.sv_flush.proofs.Presenting.{Lending}
use Rattle.sv_flush.proofs.Tracking.{Tracked}
use Rattle.sv_flush.specs.Lent.{IsLent, IsShownOn, StandsIn}
use Rattle.sv_flush.specs.Page.{blank}
use Rattle.sv_frame.specs.Snapshots.{snapshots}
use Rattle.sv_frame.specs.Views.{lent_views}
use Rattle.sv_numbered.specs.Numbered.{at}
use Rattle.sv_states.specs.Empty.{no_states}
use Rattle.sv_states.specs.Sound.{IsSound, IsSeen, has_changed, has_subscription}
use Rattle.sv_states.specs.States.{live}
use Rattle.sv_states.specs.Waiting.{is_waiting}
use Rattle.sv_view.specs.Cell.{Cell}
use Rattle.sv_view.specs.Level.{View}
use Rattle.sv_view.specs.View.{levels}

none_live : (n : ℕ) → live no_states n ≡ None
none_live zero = refl
none_live (suc n) = refl

sound : IsSound no_states
sound = record {
  seen = λ n. subst IsSeen (sym (none_live n)) tt;
  queued = λ n. ap (λ o. cond (is_waiting o) 1 0) (sym (none_live n));
  shown = λ n w. absurd (true≢false (sym w ∙ ap is_waiting (none_live n)));
  due = λ n w. absurd (true≢false (sym w ∙ ap is_waiting (none_live n)));
  dirty = λ n c w. absurd (true≢false (sym w ∙ ap (λ o. has_changed o c) (none_live n)));
  subscribed = λ n c id. ap (λ o. has_subscription o c id) (sym (none_live n));
}

nobody_saw : (n : ℕ) → at (snapshots no_states) n ≡ None
nobody_saw zero = refl
nobody_saw (suc n) = refl

pub blank_tracked : Tracked blank
blank_tracked = record { sound = sound; records = record { made = All-nil _; whole = λ n x free there. absurd (none-some x (sym (nobody_saw n) ∙ there)); seen = λ n s x there is. absurd (none-some x is) } }

nothing_lent : (n : ℕ) → at (lent_views no_states) n ≡ None
nothing_lent zero = refl
nothing_lent (suc n) = refl

-- no view is held
none_held : (n : ℕ) (cells : List Cell) → StandsIn [] n cells ⊎ ((v : View) × ((IsLent (lent_views no_states) v ⊎ IsShownOn [] v) × StandsIn (levels v) n cells)) → ⊥
none_held n cells h = ⊎_elim (λ none. none) (λ held. ⊎_elim (λ l. none-some (Some held.0) (sym (nothing_lent l.number) ∙ l.there)) (λ none. none) held.1.0) h

pub blank_lending : Lending blank
blank_lending = record {
  sound = sound;
  agree = record { made = λ n cells h. absurd (none_held n cells h); past = λ n cells s h. absurd (none_held n cells h); same = λ n a b h. absurd (none_held n a h) };
}
