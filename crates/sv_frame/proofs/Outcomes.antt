-- What is true of the states and stays so, whatever is done one after another.
use Rattle.std.proofs.Common.{◌≡◌, ℕ, zero, suc, Bool, true, false, List, length, Option, Some, None, if◌then◌else◌}
use Rattle.sv_base.specs.declared.span.Span.{Span}
use Rattle.sv_code.specs.declared.program.Program.{Program}
use Rattle.sv_derived.specs.Derived.{Recipe}
use Rattle.sv_derived.specs.Order.{AreBelow}
use Rattle.sv_instance.specs.declared.setup.Setup.{Setup}
use Rattle.sv_meaning.specs.Derived.{derive}
use Rattle.sv_meaning.specs.Env.{Env}
use Rattle.sv_meaning.specs.Outcome.{Ending, Ends, Fails, Outcome, Done, Failed, Meaning, Deed, and_then, then_do, kept, doing, left, given, either, with_steps, less_by, spent_in, spent, counted_in, counted, answered}
use Rattle.sv_meaning.specs.Refused.{unless}
use Rattle.sv_meaning.specs.Settling.{settled}
use Rattle.sv_meaning.specs.Statements.{constant_set}
use Rattle.sv_ops.specs.Answer.{Answer, Gives, Refuses}
use Rattle.sv_ops.specs.declared.faults.FaultKind.{FaultKind}
use Rattle.sv_states.specs.Assignment as states
use Rattle.sv_states.specs.Change as states_change
use Rattle.sv_states.specs.Refusal.{assign_refusal, store_refusal}
use Rattle.sv_states.specs.States.{States, with_instance}
use Rattle.sv_states.specs.declared.error.AssignError.{AssignError}
use Rattle.sv_states.specs.declared.error.AssignError.TheVariants.{ReadOnly, NotAStore, NoMemory}
use Rattle.sv_value.specs.Value.{Val}
use Rattle.sv_world.specs.declared.world.World.{World}

-- the constants of module files
abbrev pub Modules : Type 0
Modules = List (List (Option Val))

-- what is true of those and of the states where something ends, and, which is no more, where it fails
pub record Fact : Type 1 where
  pub ends : Modules → States → Type 0
  pub fails : Modules → States → Type 0
  pub weaker : (ms : Modules) (s : States) → ends ms s → fails ms s

-- it is true where something ends
abbrev pub ending : (Modules → States → Type 0) → Fact
ending P = record { ends = P; fails = λ ms s. Unit {0}; weaker = λ ms s h. tt }

-- so it is of the states alone
abbrev pub at_ends : (States → Type 0) → Fact
at_ends P = ending (λ ms. P)

-- it is true either way
abbrev pub anyway : (Modules → States → Type 0) → Fact
anyway P = record { ends = P; fails = P; weaker = λ ms s h. h }

-- so it is of the states alone
abbrev pub always : (States → Type 0) → Fact
always P = anyway (λ ms. P)

abbrev pub Held : (P : Fact) {A : Type 0} → Outcome A → Type 0
Held P (Done a env w) = P.ends w.modules w.states
Held P (Failed k s w) = P.fails w.modules w.states

abbrev pub Left : (P : Fact) {A : Type 0} → Ending A → Type 0
Left P (Ends a w) = P.ends w.modules w.states
Left P (Fails k s w) = P.fails w.modules w.states

-- code keeps it true
pub record Keeps (P : Fact) {A : Type 0} (m : Meaning A) : Type 0 where
  pub held : (env : Env) (w : World) → P.ends w.modules w.states → Held P (m env w)

-- a deed keeps it true
pub record Leaves (P : Fact) {A : Type 0} (d : Deed A) : Type 0 where
  pub held : (w : World) → P.ends w.modules w.states → Left P (d w)

-- a derived store isn't set
abbrev pub MaySet : Option AssignError → Type 0
MaySet o = o ≡ Some ReadOnly → ⊥

-- it stays true whatever code does, one thing at a time; derived stores settle behind what sets a store. What is left with an instance leaves its constants
pub record Stays (p : Program) (P : Fact) : Type 0 where
  pub left : (ms : Modules) (s : States) (f : Setup → Setup) (n : ℕ) → ((u : Setup) → (f u).constants ≡ u.constants) → P.ends ms s → P.ends ms (with_instance (λ i. record i { setup = f i.setup }) s n)
  pub with_store : (ms : Modules) (s : States) (v : Val) → P.ends ms s → P.ends ms (states_change.with_store s v)
  pub with_derived : (room : ℕ) (w w' : World) (owner : ℕ) (r : Recipe) (v : Val) → AreBelow r.inputs (length w.states.stores) → derive p room owner r w ≡ Ends v w' → P.ends w.modules w.states
      → P.ends w'.modules (states_change.with_derived w'.states owner r v)
  pub settles : (room : ℕ) (w : World) → P.ends w.modules w.states → Left P (settled (derive p room) w)
  pub assigned : (room : ℕ) (w : World) (n c : ℕ) (v : Val) → MaySet (assign_refusal w.states n c v) → P.ends w.modules w.states → Left P (settled (derive p room) (record w { states = states.assigned w.states n c v }))
  pub store_set : (room : ℕ) (w : World) (id : ℕ) (v : Val) → MaySet (store_refusal w.states id) → P.ends w.modules w.states → Left P (settled (derive p room) (record w { states = states.store_set w.states id v }))

-- and whatever the top of a file does besides: constants get their values, those of an instance or, where the owner is 0, those of a module file; variables
-- are declared, and their `$` names subscribed
pub record Sets (owner : ℕ) (P : Modules → States → Type 0) : Type 0 where
  pub constant : (w : World) (file n : ℕ) (v : Val) → P w.modules w.states → P (constant_set owner file n v w).modules (constant_set owner file n v w).states
  pub declared : (ms : Modules) (s : States) (cell : ℕ) (v : Val) → P ms s → P ms (states_change.declared s (record { inst = owner; cell = cell }) v)
  pub subscribed : (ms : Modules) (s : States) (cell : ℕ) (source : Option ℕ) (v : Val) → P ms s → P ms (states_change.subscribed_to s (record { inst = owner; cell = cell }) source v)

pub both_stay : {p : Program} {P R : Modules → States → Type 0} → Stays p (ending P) → Stays p (ending R) → Stays p (ending (λ ms s. P ms s × R ms s))
both_stay {P = P} {R = R} h k = record {
  left = λ ms s f n e x. (h.left ms s f n e x.0, k.left ms s f n e x.1);
  with_store = λ ms s v x. (h.with_store ms s v x.0, k.with_store ms s v x.1);
  with_derived = λ room w w' owner r v b e x. (h.with_derived room w w' owner r v b e x.0, k.with_derived room w w' owner r v b e x.1);
  settles = λ room w x. both_left _ (h.settles room w x.0) (k.settles room w x.1);
  assigned = λ room w n c v may x. both_left _ (h.assigned room w n c v may x.0) (k.assigned room w n c v may x.1);
  store_set = λ room w id v may x. both_left _ (h.store_set room w id v may x.0) (k.store_set room w id v may x.1);
} where
  both_left : {A : Type 0} (e : Ending A) → Left (ending P) e → Left (ending R) e → Left (ending (λ ms s. P ms s × R ms s)) e
  both_left (Ends a w) x y = (x, y)
  both_left (Fails kind s w) x y = tt

pub both_sets : {owner : ℕ} {P R : Modules → States → Type 0} → Sets owner P → Sets owner R → Sets owner (λ ms s. P ms s × R ms s)
both_sets h k = record {
  constant = λ w file n v x. (h.constant w file n v x.0, k.constant w file n v x.1);
  declared = λ ms s cell v x. (h.declared ms s cell v x.0, k.declared ms s cell v x.1);
  subscribed = λ ms s cell source v x. (h.subscribed ms s cell source v x.0, k.subscribed ms s cell source v x.1);
}

-- what is true either way is true where something ends
pub ends_left : (P : Fact) {A : Type 0} (e : Ending A) → Left P e → Left (ending P.ends) e
ends_left P (Ends a w) h = h
ends_left P (Fails k s w) h = tt

pub ends_stay : {p : Program} {P : Fact} → Stays p P → Stays p (ending P.ends)
ends_stay {p = p} {P = P} h = record {
  left = h.left;
  with_store = h.with_store;
  with_derived = h.with_derived;
  settles = λ room w x. ends_left P (settled (derive p room) w) (h.settles room w x);
  assigned = λ room w n c v may x. ends_left P (settled (derive p room) (record w { states = states.assigned w.states n c v })) (h.assigned room w n c v may x);
  store_set = λ room w id v may x. ends_left P (settled (derive p room) (record w { states = states.store_set w.states id v })) (h.store_set room w id v may x);
}

module _ (P : Fact) where
  pub then_held : {A B : Type 0} (o : Outcome A) (go : A → Meaning B) → Held P o → ((a : A) (env : Env) (w : World) → P.ends w.modules w.states → Held P (go a env w)) → Held P (and_then o go)
  then_held (Done a env w) go h k = k a env w h
  then_held (Failed kind s w) go h k = h

  pub then_left : {A B : Type 0} (e : Ending A) (go : A → Deed B) → Left P e → ((a : A) (w : World) → P.ends w.modules w.states → Left P (go a w)) → Left P (then_do e go)
  then_left (Ends a w) go h k = k a w h
  then_left (Fails kind s w) go h k = h

  pub if_left : {A : Type 0} (b : Bool) (x y : Ending A) → Left P x → Left P y → Left P (if b then x else y)
  if_left true x y h k = h
  if_left false x y h k = k

  pub unless_left : {A : Type 0} (o : Option AssignError) (s : Span) (d : Deed A) (w : World) → P.ends w.modules w.states → Left P (d w) → Left P (unless o s d w)
  unless_left None s d w h k = k
  unless_left (Some ReadOnly) s d w h k = P.weaker w.modules w.states h
  unless_left (Some NotAStore) s d w h k = P.weaker w.modules w.states h
  unless_left (Some NoMemory) s d w h k = k

  pub kept_held : {A : Type 0} (env : Env) (e : Ending A) → Left P e → Held P (kept env e)
  kept_held env (Ends a w) h = h
  kept_held env (Fails k s w) h = h

  left_held : {A : Type 0} (o : Outcome A) → Held P o → Left P (left o)
  left_held (Done a env w) h = h
  left_held (Failed k s w) h = h

module _ {P : Fact} where
  -- ---- code

  pub then_keeps : {A B : Type 0} {m : Meaning A} {go : A → Meaning B} → Keeps P m → ((a : A) → Keeps P (go a)) → Keeps P (λ env w. and_then (m env w) go)
  then_keeps {m = m} {go = go} k l = record { held = λ env w h. then_held P (m env w) go (k.held env w h) (λ a env' w' h'. (l a).held env' w' h') }

  pub done_keeps : {A : Type 0} (a : A) → Keeps P (Done a)
  done_keeps a = record { held = λ env w h. h }

  pub failed_keeps : {A : Type 0} (k : FaultKind) (s : Span) → Keeps P {A = A} (λ env w. Failed k s w)
  failed_keeps k s = record { held = λ env w h. P.weaker w.modules w.states h }

  pub either_keeps : {A : Type 0} (b : Bool) {m n : Meaning A} → Keeps P m → Keeps P n → Keeps P (either b m n)
  either_keeps true k l = k
  either_keeps false k l = l

  pub counted_keeps : {A : Type 0} (s : Span) {m : Meaning A} → Keeps P m → Keeps P (counted s m)
  counted_keeps s {m = m} k = record { held = λ env w h. go w.turn.steps env w h } where
    go : (n : ℕ) (env : Env) (w : World) → P.ends w.modules w.states → Held P (counted_in n s m env w)
    go zero env w h = P.weaker w.modules w.states h
    go (suc n) env w h = k.held env (with_steps n w) h

  -- ---- deeds

  pub then_leaves : {A B : Type 0} {d : Deed A} {go : A → Deed B} → Leaves P d → ((a : A) → Leaves P (go a)) → Leaves P (λ w. then_do (d w) go)
  then_leaves {d = d} {go = go} k l = record { held = λ w h. then_left P (d w) go (k.held w h) (λ a w' h'. (l a).held w' h') }

  pub ends_leaves : {A : Type 0} (a : A) → Leaves P (Ends a)
  ends_leaves a = record { held = λ w h. h }

  pub fails_leaves : {A : Type 0} (k : FaultKind) (s : Span) → Leaves P {A = A} (Fails k s)
  fails_leaves k s = record { held = λ w h. P.weaker w.modules w.states h }

  pub if_leaves : {A : Type 0} (b : Bool) {d e : Deed A} → Leaves P d → Leaves P e → Leaves P (if b then d else e)
  if_leaves true k l = k
  if_leaves false k l = l

  pub given_leaves : {A : Type 0} (k : FaultKind) (s : Span) (o : Option A) → Leaves P (given k s o)
  given_leaves k s None = record { held = λ w h. P.weaker w.modules w.states h }
  given_leaves k s (Some a) = record { held = λ w h. h }

  pub spent_leaves : {A : Type 0} (n : ℕ) (s : Span) {d : Deed A} → Leaves P d → Leaves P (spent n s d)
  spent_leaves n s {d = d} k = record { held = λ w h. go (less_by n w.turn.steps) w h } where
    go : (o : Option ℕ) (w : World) → P.ends w.modules w.states → Left P (spent_in o s d w)
    go None w h = P.weaker w.modules w.states h
    go (Some steps) w h = k.held (with_steps steps w) h

  pub answered_leaves : (s : Span) (a : Answer) → Leaves P (answered s a)
  answered_leaves s (Gives cost v) = spent_leaves cost s (ends_leaves v)
  answered_leaves s (Refuses k) = fails_leaves k s

  -- ---- one in the other

  pub doing_keeps : {A : Type 0} {d : Deed A} → Leaves P d → Keeps P (doing d)
  doing_keeps {d = d} k = record { held = λ env w h. kept_held P env (d w) (k.held w h) }

  -- a deed that the open names tell
  pub kept_keeps : {A : Type 0} {d : Env → Deed A} → ((env : Env) → Leaves P (d env)) → Keeps P (λ env w. kept env (d env w))
  kept_keeps {d = d} k = record { held = λ env w h. kept_held P env (d env w) ((k env).held w h) }

  pub left_leaves : {A : Type 0} {m : Meaning A} (env : Env) → Keeps P m → Leaves P (λ w. left (m env w))
  left_leaves {m = m} env k = record { held = λ w h. left_held P (m env w) (k.held env w h) }

  -- ---- lists of parts, and parts that may be absent

  pub answered_keeps : (s : Span) (a : Answer) → Keeps P (doing (answered s a))
  answered_keeps s a = doing_keeps (answered_leaves s a)
