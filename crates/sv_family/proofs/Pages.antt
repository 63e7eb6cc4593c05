-- Instances stand as they should on the pages of compiled programs.
use Rattle.std.proofs.Common.{◌≡◌, Bool, List, subst}
use Rattle.std.specs.List.{All}
use Rattle.sv_code.specs.Compiled.{IsCompiled}
use Rattle.sv_code.specs.Content.{AreContentsSeen}
use Rattle.sv_code.specs.declared.program.Program.{Program}
use Rattle.sv_document.specs.declared.tree.Node.{Node}
use Rattle.sv_events.specs.declared.event.Event.{Event}
use Rattle.sv_family.proofs.Owning.{slots_are_owned}
use Rattle.sv_family.proofs.Playing.{mounted_keeps, flushed_keeps}
use Rattle.sv_family.proofs.Turning.{first_stands, next_stands, run_leaves}
use Rattle.sv_family.proofs.Whole.{Whole, whole_course}
use Rattle.sv_family.specs.Family.{IsFamily, LeavesFamily}
use Rattle.sv_flush.proofs.Bringing.{Afterwards, Brings}
use Rattle.sv_flush.specs.Creation.{mounted}
use Rattle.sv_flush.specs.Flush.{flushed}
use Rattle.sv_flush.specs.Outcome.{Outcome, Done}
use Rattle.sv_flush.specs.declared.page.Page.{Page}
use Rattle.sv_page.specs.Run.{run}
use Rattle.sv_page.specs.Turns.{first_turn, next_turn}

-- where a step ends it is so, as it is of all pages on which the step begins so
ended : {A : Type 0} (p : Program) (t : Page → Outcome A) → ((m : Page) → IsFamily p m → Afterwards (IsFamily p) (t m)) → (m n : Page) (a : A) → IsFamily p m → t m ≡ Done a n → IsFamily p n
ended p t k m n a h is = subst (Afterwards (IsFamily p)) is (k m h)

module _ (p : Program) (compiled : IsCompiled p) (seen : AreContentsSeen p) where
  mounts : Brings (IsFamily p) (IsFamily p) (mounted p)
  mounts = mounted_keeps p (Whole p) (whole_course p (slots_are_owned p seen compiled)) (λ pend new leaving ks s next h. h.0.children.sorted)

  flushes : Brings (IsFamily p) (IsFamily p) (flushed p)
  flushes = flushed_keeps p (Whole p) (whole_course p (slots_are_owned p seen compiled)) (λ pend new leaving ks s next h. h.0.children.sorted)

pub mounting_keeps : (p : Program) (m n : Page) → IsCompiled p → AreContentsSeen p → IsFamily p m → mounted p m ≡ Done tt n → IsFamily p n
mounting_keeps p m n compiled seen h is = ended p (mounted p) (λ u k. (mounts p compiled seen).held u k) m n tt h is

pub flushing_keeps : (p : Program) (m n : Page) → IsCompiled p → AreContentsSeen p → IsFamily p m → flushed p m ≡ Done tt n → IsFamily p n
flushing_keeps p m n compiled seen h is = ended p (flushed p) (λ u k. (flushes p compiled seen).held u k) m n tt h is

pub first_keeps : (p : Program) (m n : Page) (target : Bool) → IsCompiled p → AreContentsSeen p → IsFamily p m → first_turn p m ≡ Done target n → IsFamily p n
first_keeps p m n target compiled seen h is = ended p (first_turn p) (first_stands p (mounts p compiled seen) (flushes p compiled seen)) m n target h is

pub next_keeps : (p : Program) (event : Event) (nodes : List Node) (m n : Page) (target : Bool) → IsCompiled p → AreContentsSeen p → IsFamily p m → next_turn p event nodes m ≡ Done target n → IsFamily p n
next_keeps p event nodes m n target compiled seen h is = ended p (next_turn p event nodes) (next_stands p (mounts p compiled seen) (flushes p compiled seen) event nodes) m n target h is

pub runs_keep : (p : Program) → IsCompiled p → AreContentsSeen p → (events : List Event) → All (LeavesFamily p) (run p events)
runs_keep p compiled seen events = run_leaves p (mounts p compiled seen) (flushes p compiled seen) events
