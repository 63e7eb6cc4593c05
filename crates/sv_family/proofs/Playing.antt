-- What has a course is kept by mounting and by flushes.
use Rattle.std.proofs.Common.{ℕ, List, [], Option, None}
use Rattle.sv_code.specs.declared.program.Program.{Program}
use Rattle.sv_family.proofs.Course.{Fact, Course}
use Rattle.sv_family.proofs.Creating.{mounted_keeps as mounted_runs}
use Rattle.sv_family.proofs.Declaring.{opens}
use Rattle.sv_family.proofs.Destroying.{KeepsSorted}
use Rattle.sv_family.proofs.Flushing.{flushed_keeps as flushed_runs}
use Rattle.sv_family.specs.Kin.{kins}
use Rattle.sv_family.specs.Pending.{Pending}
use Rattle.sv_flush.proofs.Bringing.{Brings}
use Rattle.sv_flush.specs.Creation.{mounted}
use Rattle.sv_flush.specs.Flush.{flushed}
use Rattle.sv_flush.specs.Page.{begun}
use Rattle.sv_flush.specs.declared.page.Page.{Page}

-- so it is on a page
abbrev pub On : Fact → Pending → Option ℕ → List ℕ → Page → Type 0
On P pend new leaving m = P pend new leaving (kins m.world.states) m.showing m.counters.next

module _ (p : Program) (P : Fact) (course : Course p P) (sorted : KeepsSorted P) where
  pub mounted_keeps : Brings (On P [] None []) (On P [] None []) (mounted p)
  mounted_keeps = mounted_runs p P course sorted (opens p)

  pub flushed_keeps : Brings (On P [] None []) (On P [] None []) (flushed p)
  flushed_keeps = flushed_runs p P course sorted (opens p)

  pub begun_keeps : (m : Page) → On P [] None [] m → On P [] None [] (begun m)
  begun_keeps m h = h
