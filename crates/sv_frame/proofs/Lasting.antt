-- Deeds that leave constants as they are.
use Rattle.std.proofs.Common.{◌≡◌, ◌≢◌, ℕ, suc, Bool, true, false, List, Option, Some, None, refl, sym, ap, ◌∙◌, nat_eq, arith, if◌then◌else◌}
use Rattle.std.specs.Prelude.{slice_set, option_map}
use Rattle.std.proofs.Math.ListN.{get_or-map}
use Rattle.std.proofs.lemmas.Bool.{eqb-true}
use Rattle.sv_code.specs.declared.program.Program.{Program}
use Rattle.sv_frame.proofs.Altering.{pictures_keep, plain_constants}
use Rattle.sv_frame.proofs.Outcomes.{Modules, Fact, anyway, Stays, Sets, Leaves, Left}
use Rattle.sv_frame.proofs.Stepping.{Steps, both_steps_stay}
use Rattle.sv_frame.specs.Constants.{constants_of, constants, LeavesConstants, LeavesOthers}
use Rattle.sv_frame.specs.Snapshots.{world_of}
use Rattle.sv_instance.specs.declared.instance.Instance.{Instance}
use Rattle.sv_meaning.specs.Outcome.{Ending, Ends, Fails, Deed}
use Rattle.sv_numbered.specs.Numbered.{at, altered}
use Rattle.sv_states.proofs.Altering.{at-altered_other}
use Rattle.sv_states.specs.States.{States}
use Rattle.sv_value.specs.Value.{Val}
use Rattle.sv_view.specs.Constants.{with_module_constant}
use Rattle.sv_world.specs.Setup.{set_up}
use Rattle.sv_world.specs.declared.world.World.{World}

-- what is so either way is so of the world that is left
of_left : {A : Type 0} (P : Modules → States → Type 0) (e : Ending A) → Left (anyway P) e → P (world_of e).modules (world_of e).states
of_left P (Ends a w) h = h
of_left P (Fails k s w) h = h

-- the constants are these, and those of module files
abbrev Are : List (Option (List (Option Val))) → Modules → Modules → States → Type 0
Are old was ms s = (constants s ≡ old) × (ms ≡ was)

pub leaves_constants : {A : Type 0} (p : Program) {deed : Deed A} → ((P : Fact) → Stays p P → Leaves P deed) → LeavesConstants deed
leaves_constants p {deed = deed} k =
    let left : (w : World) → Are (constants w.states) w.modules (world_of (deed w)).modules (world_of (deed w)).states = λ w.
    of_left (Are (constants w.states) w.modules) (deed w)
    ((k (anyway (Are (constants w.states) w.modules)) (both_steps_stay (pictures_keep plain_constants (λ x. x ≡ constants w.states)) p (λ ms. ms ≡ w.modules))).held w (refl, refl)) in
    record { own = λ w. (left w).0; modules = λ w. (left w).1 }

module _ (n m : ℕ) (other : m ≢ n) (x : Option (List (Option Val))) (was : Modules) where
  -- the constants of another instance are these, and those of module files where the instance isn't 0
  abbrev Others : Modules → States → Type 0
  Others ms s = (at (constants s) m ≡ x) × (n ≢ 0 → ms ≡ was)

  others_set : Sets n Others
  others_set = record {
    constant = λ w file i v h. by w file i v h (nat_eq n 0) refl;
    declared = λ ms s cell v h. (are_steps.declared s (record { inst = n; cell = cell }) v h.0, h.1);
    subscribed = λ ms s cell source v h. (are_steps.subscribed s (record { inst = n; cell = cell }) source v h.0, h.1);
  } where
    are_steps : Steps (λ s. at (constants s) m ≡ x)
    are_steps = pictures_keep plain_constants (λ l. at l m ≡ x)

    set : ℕ → Val → Instance → Instance
    set i v j = record j { setup = record j.setup { constants = slice_set j.setup.constants i (Some v) } }

    by : (w : World) (file i : ℕ) (v : Val) → Others w.modules w.states → (b : Bool) → nat_eq n 0 ≡ b → let u : World = if b then record w { modules = with_module_constant w.modules file i v } else set_up (λ s. record s { constants = slice_set s.constants i (Some v) }) w n in Others u.modules u.states
    by w file i v h true e = (h.0, λ some. absurd (some (eqb-true n 0 e)))
    by w file i v h false e = (
      get_or-map (option_map constants_of) (altered (set i v) w.states.lives n) m None
          ∙ (ap (option_map constants_of) (at-altered_other (set i v) w.states.lives n m other) ∙ (sym (get_or-map (option_map constants_of) w.states.lives m None) ∙ h.0)),
      h.1,
    )

module _ {A : Type 0} (p : Program) (n : ℕ) {deed : Deed A} (k : (P : Fact) → Stays p P → Sets n P.ends → Leaves P deed) where
  left_others : (w : World) (m : ℕ) (other : m ≢ n) → Others n m other (at (constants w.states) m) w.modules (world_of (deed w)).modules (world_of (deed w)).states
  left_others w m other =
      let P : Modules → States → Type 0 = Others n m other (at (constants w.states) m) w.modules in
      of_left P (deed w)
      ((k (anyway P) (both_steps_stay (pictures_keep plain_constants (λ l. at l m ≡ at (constants w.states) m)) p (λ ms. n ≢ 0 → ms ≡ w.modules))
      (others_set n m other (at (constants w.states) m) w.modules)).held w (refl, λ some. refl))

  pub leaves_others : LeavesOthers n deed
  leaves_others = record { others = λ w m other. (left_others w m other).0; modules = λ w some. (left_others w (suc n) (λ e. absurd (omega (arith, e)))).1 some }
