-- What each step leaves true is left true by what settles behind it.
use Rattle.std.proofs.Common.{◌≡◌, ℕ, zero, suc, subst, Bool, true, false, length, nat_eq, Option, Some, None, if◌then◌else◌}
use Rattle.std.specs.Prelude.{slice_set}
use Rattle.sv_code.specs.declared.program.Program.{Program}
use Rattle.sv_derived.specs.Derived.{Recipe, Derived, found, next}
use Rattle.sv_frame.proofs.Deriving.{derive_left}
use Rattle.sv_frame.proofs.Outcomes.{Modules, anyway, always, Left, Stays, Sets, then_left}
use Rattle.sv_instance.specs.declared.setup.Setup.{Setup}
use Rattle.sv_meaning.specs.Derived.{derive}
use Rattle.sv_meaning.specs.Outcome.{Ending, Ends, Fails, Deed}
use Rattle.sv_meaning.specs.Settling.{compute, first_settled, settled_within, settled}
use Rattle.sv_states.specs.Assignment as states
use Rattle.sv_states.specs.Change as states_change
use Rattle.sv_states.specs.States.{States, with_instance}
use Rattle.sv_store.specs.Stores.{Subscriber}
use Rattle.sv_value.specs.Value.{Val}
use Rattle.sv_world.specs.declared.world.World.{World}

-- it stays true whatever is left with an instance
abbrev pub Setups : (States → Type 0) → Type 0
Setups P = (s : States) (f : Setup → Setup) (n : ℕ) → P s → P (with_instance (λ i. record i { setup = f i.setup }) s n)

pub either_world : (P : States → Type 0) (b : Bool) (x y : World) → P x.states → P y.states → P (if b then x else y).states
either_world P true x y h k = h
either_world P false x y h k = k

-- it stays true whatever code does to the states, one thing at a time
pub record CodeSteps (P : States → Type 0) : Type 0 where
  pub left : (s : States) (f : Setup → Setup) (n : ℕ) → ((u : Setup) → (f u).constants ≡ u.constants) → P s → P (with_instance (λ i. record i { setup = f i.setup }) s n)
  pub assigned : (s : States) (n c : ℕ) (v : Val) → P s → P (states.assigned s n c v)
  pub store_set : (s : States) (id : ℕ) (v : Val) → P s → P (states.store_set s id v)
  pub computed : (s : States) (id : ℕ) (v : Val) → P s → P (states.computed s id v)
  pub with_store : (s : States) (v : Val) → P s → P (states_change.with_store s v)
  pub with_derived : (s : States) (owner : ℕ) (r : Recipe) (v : Val) → P s → P (states_change.with_derived s owner r v)

-- so it does whatever the top of a file does besides, but for constants
pub record Steps (P : States → Type 0) : Type 0 where
  pub left : (s : States) (f : Setup → Setup) (n : ℕ) → ((u : Setup) → (f u).constants ≡ u.constants) → P s → P (with_instance (λ i. record i { setup = f i.setup }) s n)
  pub assigned : (s : States) (n c : ℕ) (v : Val) → P s → P (states.assigned s n c v)
  pub store_set : (s : States) (id : ℕ) (v : Val) → P s → P (states.store_set s id v)
  pub computed : (s : States) (id : ℕ) (v : Val) → P s → P (states.computed s id v)
  pub with_store : (s : States) (v : Val) → P s → P (states_change.with_store s v)
  pub with_derived : (s : States) (owner : ℕ) (r : Recipe) (v : Val) → P s → P (states_change.with_derived s owner r v)
  pub declared : (s : States) (at : Subscriber) (v : Val) → P s → P (states_change.declared s at v)
  pub subscribed : (s : States) (at : Subscriber) (source : Option ℕ) (v : Val) → P s → P (states_change.subscribed_to s at source v)

code_of : {P : States → Type 0} → Steps P → CodeSteps P
code_of steps = record { left = steps.left; assigned = steps.assigned; store_set = steps.store_set; computed = steps.computed; with_store = steps.with_store; with_derived = steps.with_derived }

-- so it does at the top of a file
pub sets_by : {P : States → Type 0} → Setups P → Steps P → (owner : ℕ) → Sets owner (λ ms. P)
sets_by {P = P} setups steps owner = record {
  constant = λ w file n v h. either_world P (nat_eq owner 0) _ _ h (setups w.states (λ u. record u { constants = slice_set u.constants n (Some v) }) owner h);
  declared = λ ms s cell v h. steps.declared s (record { inst = owner; cell = cell }) v h;
  subscribed = λ ms s cell source v h. steps.subscribed s (record { inst = owner; cell = cell }) source v h;
}

-- what code does leaves it true, and what is true of the constants of module files, which nothing of that changes
module _ {P : States → Type 0} (steps : CodeSteps P) (p : Program) (T : Modules → Type 0) where
  abbrev Both : Modules → States → Type 0
  Both ms s = P s × T ms

  compute_left : (room id : ℕ) (o : Option Derived) (w : World) → Both w.modules w.states → Left (anyway Both) (compute (derive p room) id o w)
  compute_left room id None w h = h
  compute_left room id (Some d) w h = then_left (anyway Both) (derive p room d.owner d.recipe w) _ (derive_left (anyway Both) p room d.owner d.recipe w h) (λ v w' k. (steps.computed w'.states id v k.0, k.1))

  first_left : (room : ℕ) (o : Option ℕ) (rest : Deed (Unit {0})) → ((w : World) → Both w.modules w.states → Left (anyway Both) (rest w)) → (w : World) → Both w.modules w.states
      → Left (anyway Both) (first_settled o (derive p room) rest w)
  first_left room None rest k w h = h
  first_left room (Some id) rest k w h = then_left (anyway Both) (compute (derive p room) id (found w.states.derived id) w) (λ u. rest) (compute_left room id (found w.states.derived id) w h) (λ u w' h'. k w' h')

  within_left : (room n : ℕ) (w : World) → Both w.modules w.states → Left (anyway Both) (settled_within n (derive p room) w)
  within_left room zero w h = h
  within_left room (suc n) w h = first_left room (next w.states.derived) (settled_within n (derive p room)) (λ w' h'. within_left room n w' h') w h

  settled_left : (room : ℕ) (w : World) → Both w.modules w.states → Left (anyway Both) (settled (derive p room) w)
  settled_left room w h = within_left room (length w.states.derived) w h

  derived_stays : (w w' : World) (room owner : ℕ) (r : Recipe) (v : Val) → derive p room owner r w ≡ Ends v w' → Both w.modules w.states → Both w'.modules (states_change.with_derived w'.states owner r v)
  derived_stays w w' room owner r v e h = let k = subst (Left (anyway Both)) e (derive_left (anyway Both) p room owner r w h) in (steps.with_derived w'.states owner r v k.0, k.1)

  pub both_code_stays : Stays p (anyway Both)
  both_code_stays = record {
    left = λ ms s f n e h. (steps.left s f n e h.0, h.1);
    with_store = λ ms s v h. (steps.with_store s v h.0, h.1);
    with_derived = λ room w w' owner r v below e h. derived_stays w w' room owner r v e h;
    settles = settled_left;
    assigned = λ room w n c v may h. settled_left room (record w { states = states.assigned w.states n c v }) (steps.assigned w.states n c v h.0, h.1);
    store_set = λ room w id v may h. settled_left room (record w { states = states.store_set w.states id v }) (steps.store_set w.states id v h.0, h.1);
  }

module _ {P : States → Type 0} (steps : CodeSteps P) (p : Program) where
  first_of : {A : Type 0} (e : Ending A) → Left (anyway (λ ms s. P s × Unit {0})) e → Left (always P) e
  first_of (Ends a w) h = h.0
  first_of (Fails k s w) h = h.0

  pub code_stays : Stays p (always P)
  code_stays = let k = both_code_stays steps p (λ ms. Unit {0}) in record {
    left = λ ms. steps.left;
    with_store = λ ms. steps.with_store;
    with_derived = λ room w w' owner r v below e h. (k.with_derived room w w' owner r v below e (h, tt)).0;
    settles = λ room w h. first_of (settled (derive p room) w) (k.settles room w (h, tt));
    assigned = λ room w n c v may h. first_of (settled (derive p room) (record w { states = states.assigned w.states n c v })) (k.assigned room w n c v may (h, tt));
    store_set = λ room w id v may h. first_of (settled (derive p room) (record w { states = states.store_set w.states id v })) (k.store_set room w id v may (h, tt));
  }

module _ {P : States → Type 0} (steps : Steps P) (p : Program) where
  pub both_steps_stay : (T : Modules → Type 0) → Stays p (anyway (λ ms s. P s × T ms))
  both_steps_stay T = both_code_stays (code_of steps) p T

  pub steps_stay : Stays p (always P)
  steps_stay = code_stays (code_of steps) p
