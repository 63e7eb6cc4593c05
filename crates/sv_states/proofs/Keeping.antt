-- The states as they are kept, after each change.
use Rattle.std.proofs.Common.{◌≡◌, ℕ, zero, suc, List, Some, slice_set, refl, arith, Result, Ok, Err, OnOk, OnErr, sym, ap, subst}
use Rattle.sv_value.specs.Value.{Val}
use Rattle.sv_numbered.specs.Numbered.{at, altered}
use Rattle.sv_instance.specs.Bound.{Bound}
use Rattle.sv_derived.specs.Derived.{Recipe}
use Rattle.sv_store.specs.Stores.{Store, made}
use Rattle.sv_instance.specs.Cells.{count_at, undeclared}
use Rattle.sv_instance.specs.Standing.{Place}
use Rattle.sv_instance.specs.Instance.{born}
use Rattle.sv_instance.specs.declared.instance.Instance.{Instance}
use Rattle.sv_instance.specs.declared.setup.Setup.{Setup}
use Rattle.sv_states.specs.States.{States}
use Rattle.sv_states.specs.Assignment.{with_bound}
use Rattle.sv_states.specs.Change.{with_store, with_derived, with_setup, added}
use Rattle.sv_states.specs.Prepared.{IsNew}
use Rattle.sv_states.specs.Sound.{IsSound}
use Rattle.sv_states.specs.Board.{seen_as, IsMade, IsReady, IsKept}
use Rattle.sv_states.specs.declared.board.Board.{Board}
use Rattle.sv_states.proofs.Sounding.{sound-inert, sound-store, sound-derived, sound-setup, sound-added}
use Rattle.sv_states.proofs.Making.{tally, made-same, made-store, made-derived}
use Rattle.sv_states.proofs.Altering.{altered-some}
use Rattle.sv_states.proofs.Ready.{written_back, counts_of}
use Rattle.sv_states.proofs.Subscribing.{ready_bound}

pub kept_as : (b : Board) (s : States) → seen_as b ≡ s → IsReady b → IsSound s → IsMade s → IsKept b
kept_as b s is ready sound made = record { ready = ready; sound = subst IsSound (sym is) sound; made = subst IsMade (sym is) made }

-- what may be refused keeps the states when it is
pub kept-result : {A E : Type 0} (r : Result A E) (old new : Board) (s : States) → IsKept old → OnOk r (seen_as new ≡ s) → OnOk r (IsReady new) → OnErr r (new ≡ old) → IsSound s → tally s ≡ tally (seen_as old) → IsKept new
kept-result (Ok x) old new s k is ready same sound counts = kept_as new s is ready sound (made-same (seen_as old) s counts k.made)
kept-result (Err e) old new s k is ready same sound counts = subst IsKept (sym same) k

pub kept-made : {A E : Type 0} (r : Result A E) (b : Board) (stores : List Store) (v : Val) → IsKept b → OnOk r (stores ≡ made b.stores v) → OnErr r (stores ≡ b.stores) → IsKept (record b { stores = stores })
kept-made (Ok x) b stores v k is same =
    kept_as (record b { stores = stores }) (with_store (seen_as b) v) (ap (λ l. record (seen_as b) { stores = l }) is) (record { synced = k.ready.synced; fits = k.ready.fits; counted = k.ready.counted }) (sound-store (seen_as b) v k.sound)
    (made-store (seen_as b) v k.made)
kept-made (Err e) b stores v k is same = subst (λ l. IsKept (record b { stores = l })) (sym same) k

pub kept-derived : {A E : Type 0} (r : Result A E) (old new : Board) (owner : ℕ) (recipe : Recipe) (v : Val) → IsKept old → OnOk r (seen_as new ≡ with_derived (seen_as old) owner recipe v) → OnErr r (seen_as new ≡ seen_as old) → IsReady new → IsKept new
kept-derived (Ok x) old new owner recipe v k is same ready = kept_as new (with_derived (seen_as old) owner recipe v) is ready (sound-derived (seen_as old) owner recipe v k.sound) (made-derived (seen_as old) owner recipe v k.made)
kept-derived (Err e) old new owner recipe v k is same ready = kept_as new (seen_as old) same ready k.sound k.made

pub kept-setup : (b : Board) (n : ℕ) (i : Instance) → Some i ≡ at b.lives n → IsKept b → (w : Setup) → IsKept (record b { lives = slice_set b.lives n (Some (record i { setup = w })) })
kept-setup b n i there k w =
    kept_as (record b { lives = slice_set b.lives n (Some (record i { setup = w })) }) (with_setup (seen_as b) n w) (ap (λ l. record (seen_as b) { lives = l }) (sym (altered-some (λ j. record j { setup = w }) b.lives n i (sym there))))
    (written_back b n i k.ready there (λ j. record j { setup = w }) b.clock (omega arith) (λ j. refl) (λ j here c. counts_of b.clock b.lives n j k.ready.counted here c))
    (sound-setup (seen_as b) n w k.sound) k.made

undeclared_uncounted : (cells c : ℕ) → count_at (undeclared cells).now c ≡ 0
undeclared_uncounted zero c = refl
undeclared_uncounted (suc cells) zero = refl
undeclared_uncounted (suc cells) (suc c) = undeclared_uncounted cells c

-- an instance is new before its script runs
pub new-born : (place : Place) (cells constants : ℕ) → IsNew (born place cells constants)
new-born place cells constants = record { idle = refl; unshown = refl; uncounted = undeclared_uncounted cells; unsubscribed = refl }

pub kept-added : {A E : Type 0} (r : Result A E) (old new : Board) (i : Instance) → IsKept old → OnOk r (seen_as new ≡ added (seen_as old) i) → OnErr r (seen_as new ≡ seen_as old) → IsReady new → IsNew i → IsKept new
kept-added (Ok x) old new i k is same ready fresh = kept_as new (added (seen_as old) i) is ready (sound-added (seen_as old) i fresh k.sound) k.made
kept-added (Err e) old new i k is same ready fresh = kept_as new (seen_as old) same ready k.sound k.made

-- a prop that is bound leaves what is kept so
pub kept_bound : (b : Board) (n : ℕ) (x : Bound) → IsKept b → (new : Board) → new ≡ record b { lives = altered (with_bound x) b.lives n } → IsKept new
kept_bound b n x k new is =
    record {
      ready = ready_bound b n x k.ready new is;
      sound = subst (λ d. IsSound (seen_as d)) (sym is) (sound-inert (with_bound x) (seen_as b) n (λ i. refl) (λ i. refl) (λ i. refl) k.sound);
      made = subst (λ d. IsMade (seen_as d)) (sym is) k.made;
    }

pub kept_tried : {E : Type 0} (r : Result (Unit {0}) E) (b : Board) (n : ℕ) (x : Bound) → IsKept b → (new : Board) → OnOk r (new ≡ record b { lives = altered (with_bound x) b.lives n }) → OnErr r (new ≡ b) → IsKept new
kept_tried (Ok u) b n x k new is same = kept_bound b n x k new is
kept_tried (Err e) b n x k new is same = subst IsKept (sym same) k
