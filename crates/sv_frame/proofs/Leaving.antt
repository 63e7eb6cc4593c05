-- Deeds that leave pictures of instances as they are.
use Rattle.std.proofs.Common.{◌≡◌, List, Option, refl}
use Rattle.sv_frame.proofs.Altering.{pictures}
use Rattle.sv_frame.proofs.Outcomes.{always, Leaves, Left}
use Rattle.sv_frame.specs.Snapshots.{world_of}
use Rattle.sv_instance.specs.declared.instance.Instance.{Instance}
use Rattle.sv_meaning.specs.Outcome.{Ending, Ends, Fails, Deed}
use Rattle.sv_world.specs.declared.world.World.{World}

module _ {X : Type 0} (g : Instance → X) where
  left_same : {A : Type 0} (old : List (Option X)) (e : Ending A) → Left (always (λ s. pictures g s ≡ old)) e → pictures g (world_of e).states ≡ old
  left_same old (Ends a w) h = h
  left_same old (Fails k s w) h = h

  pub leaves_pictures : {A : Type 0} {deed : Deed A} → ((old : List (Option X)) → Leaves (always (λ s. pictures g s ≡ old)) deed) → (w : World) → pictures g (world_of (deed w)).states ≡ pictures g w.states
  leaves_pictures {deed = deed} k w = left_same (pictures g w.states) (deed w) ((k (pictures g w.states)).held w refl)
