-- What is made ready before anything changes.
use Rattle.std.specs.Prelude.{◌≡◌, ℕ, true, false, List, [], ◌∷◌, ◌++◌, Option, Some, None}
use Rattle.sv_instance.specs.Cells.{count_at}
use Rattle.sv_instance.specs.declared.instance.Instance.{Instance}
use Rattle.sv_instance.specs.declared.subscriptions.Subscription.{Subscription}
use Rattle.sv_states.specs.States.{States, live}
use Rattle.sv_states.specs.Change.{may_follow}

-- nothing of the instance has changed yet
pub record IsNew (i : Instance) : Type 0 where
  pub idle : i.queued ≡ false
  pub unshown : i.cells.seen ≡ None
  pub uncounted : (c : ℕ) → count_at i.cells.now c ≡ 0
  pub unsubscribed : i.subscriptions ≡ []

abbrev pub with_subscriptions : List Subscription → Instance → Instance
with_subscriptions list i = record i { subscriptions = list }

abbrev pub subscriptions_of : Option Instance → List Subscription
subscriptions_of None = []
subscriptions_of (Some i) = i.subscriptions

-- the `$` names of an instance with a new one, where its cell can become one's, or nothing where it can't
abbrev pub IsPrepared : States → ℕ → Subscription → Option (List Subscription) → Type 0
IsPrepared s n x None = may_follow s (record { inst = n; cell = x.cell }) ≡ false
IsPrepared s n x (Some list) = (may_follow s (record { inst = n; cell = x.cell }) ≡ true) × (list ≡ subscriptions_of (live s n) ++ x ∷ [])
