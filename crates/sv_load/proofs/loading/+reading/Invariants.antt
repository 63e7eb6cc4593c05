use Rattle.std.proofs.Common.{◌≡◌, ◌≤◌, ◌+◌, ◌-◌, ◌*◌, length}
use Rattle.sv_base.specs.declared.limits.TheConstants.{FILE_COUNT_LIMIT}
use Rattle.sv_lines.specs.Lines.{LinesAscend}
use Rattle.sv_load.proofs.Reading.{ReadUpTo}
use Rattle.sv_load.proofs.loading.+reading.Given as goal

abbrev pub decreases-read : goal.decreases-read
decreases-read g l = 2 * (FILE_COUNT_LIMIT - length l.bundle.now.files)

abbrev pub decreases-read_all : goal.decreases-read_all
decreases-read_all g l = 2 * (FILE_COUNT_LIMIT - length l.bundle.now.files) + 1

abbrev pub invariant-read_all-loop-name : goal.invariant-read_all-loop-name
invariant-read_all-loop-name g l = record {
  told : ReadUpTo (g.F.Shelf.files l.fn.shelf) l.names l.name-index l.fn.bundle l.bundle;
  lines : LinesAscend l.bundle.files;
  few : length l.bundle.files ≤ FILE_COUNT_LIMIT;
  more : length l.fn.bundle.files ≤ length l.bundle.files;
  same : g.F.Shelf.files l.shelf ≡ g.F.Shelf.files l.fn.shelf;
  later : g.F.Shelf.faults l.fn.shelf ≤ g.F.Shelf.faults l.shelf;
}
