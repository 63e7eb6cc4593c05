-- What lasts while a flush goes on and tells on what view each instance is shown, beside a fact of the live instances.
use Rattle.std.proofs.Common.{◌≡◌, ℕ, List, [], Some, None}
use Rattle.sv_code.specs.declared.program.Program.{Program}
use Rattle.sv_course.specs.Watched.{IsNow}
use Rattle.sv_family.proofs.Course.{Fact}
use Rattle.sv_family.proofs.Pictures.{IsOpened}
use Rattle.sv_family.proofs.Scripts.{About, At}
use Rattle.sv_family.specs.Kin.{kin_of, kins}
use Rattle.sv_family.specs.Pending.{Pending}
use Rattle.sv_flush.proofs.Bringing.{Afterwards, Brings}
use Rattle.sv_flush.proofs.Lasting.{Phase, Idle, Busy, Snapped, Lasting}
use Rattle.sv_flush.specs.Outcome.{Outcome, Done, Halted, Task}
use Rattle.sv_flush.specs.declared.page.Page.{Page}
use Rattle.sv_frame.proofs.Outcomes.{Modules}
use Rattle.sv_instance.specs.declared.instance.Instance.{Instance}
use Rattle.sv_shapes.specs.declared.shown.Shown.{Shown}
use Rattle.sv_states.specs.States.{States, live}
use Rattle.sv_world.specs.World.{present_view}

-- a fact of what goes on, of what is shown, of the constants of module files and of the states
abbrev pub Moments : Type 1
Moments = Phase → List (ℕ × Shown) → Modules → States → Type 0

-- so it is on a page
abbrev pub Lasts : Moments → Phase → Page → Type 0
Lasts L phase m = L phase m.showing.shown m.world.modules m.world.states

-- it lasts, and tells on what view an instance is to be shown; behind its script the cell for its owner's view is declared
pub record Tells (p : Program) (ms : Modules) (L : Moments) : Type 0 where
  pub lasts : Lasting p (λ phase due. L phase)
  pub now : (n : ℕ) (i : Instance) (m : Page) → live m.world.states n ≡ Some i → Lasts L (Snapped n) m → IsNow p ms (kins m.world.states) m.showing n (kin_of i) (present_view m.world.modules n i)
  pub idle : (n : ℕ) (m : Page) → Lasts L Idle m → IsOpened p n m.world.states
  pub busy : (n : ℕ) (m : Page) → Lasts L (Busy n) m → IsOpened p n m.world.states

-- so it is, and a fact of the live instances is
abbrev pub Both : Moments → Phase → About → Page → Type 0
Both L phase F m = At F m × Lasts L phase m

-- so it is, where nothing was made just now and nobody is leaving
abbrev pub Stands : Fact → Moments → Phase → Pending → Page → Type 0
Stands P L phase pend = Both L phase (P pend None [])

-- what a task brings about by itself it brings about at once
pub both_bring : {Q R S T : Page → Type 0} {task : Task} → Brings Q R task → Brings S T task → Brings (λ m. Q m × S m) (λ m. R m × T m) task
both_bring {R = R} {T = T} {task = task} h k = record { held = λ m x. by (task m) (h.held m x.0) (k.held m x.1) } where
  by : (o : Outcome (Unit {0})) → Afterwards R o → Afterwards T o → Afterwards (λ m. R m × T m) o
  by (Done a m) h k = (h, k)
  by (Halted r m) h k = tt
