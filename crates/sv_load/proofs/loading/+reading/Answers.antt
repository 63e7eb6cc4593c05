use Rattle.std.proofs.Common.{◌≡◌, true, false, refl, ◌∙◌, arith, rules}
use Rattle.sv_load.specs.Loads.{Reads, ReadsAll, done, has_file}
use Rattle.sv_load.proofs.Told.{IfSome-always}
use Rattle.sv_load.proofs.Reading.{reads-known, reads-stops, reads-goes_on, handed_bundle, read_up_to-next, read_up_to-ends}
use Rattle.sv_load.proofs.loading.+reading.Goals as goal

pub read-returns-then-has_file-clause-reads : goal.read-returns-then-has_file-clause-reads
read-returns-then-has_file-clause-reads g t c =
    let old : has_file c.args.name.now c.args.bundle.now.files ≡ true = search rules in
    reads-known (g.F.Shelf.files c.args.shelf.now) c.args.name.now c.args.bundle.now old

pub read-returns-in_err-file-clause-reads : goal.read-returns-in_err-file-clause-reads
read-returns-in_err-file-clause-reads g t c =
    let new : has_file c.args.name.now c.args.bundle.now.files ≡ false = search rules in
    let told = g.F.Shelf.files c.args.shelf.now in
    handed_bundle (λ files. Reads files c.args.name.now c.args.bundle.now) told _ c.from_residual.result c.in_err-file.field-0.0 c.from_residual.ensures.0 c.from_residual.ensures.1
    (reads-stops told c.args.name.now c.args.bundle.now c.len-number.result c.in_err-file.field-0.0 new c.len-number.ensures c.in_err-file.ensures.opens)

pub read-returns-clause-reads : goal.read-returns-clause-reads
read-returns-clause-reads g t c =
    let new : has_file c.args.name.now c.args.bundle.now.files ≡ false = search rules in
    reads-goes_on (g.F.Shelf.files c.args.shelf.now) _ c.args.name.now c.args.bundle.now _ c.len-number.result (record { file = c.in_ok-file.file; names = c.open.new.names }) _ _
    new c.len-number.ensures c.in_ok-file.ensures.opens c.open.ensures.same (c.as_slice-2.ensures ∙ c.in_ok-names.ensures)
    (λ k. record { names = c.open.new.names; files = c.in_ok-push.ensures.ok k }) c.read_all.ensures.reads

pub read_all-loop-name-init : goal.read_all-loop-name-init
read_all-loop-name-init g t c = record {
  told = IfSome-always (g.F.Shelf.files c.args.shelf.now) (λ files. done c.args.bundle.now);
  lines = c.requires.lines;
  few = c.requires.few;
  more = omega arith;
  same = refl;
  later = omega arith;
}

pub read_all-returns-in_err-read-clause-reads : goal.read_all-returns-in_err-read-clause-reads
read_all-returns-in_err-read-clause-reads g t c =
    let told = g.F.Shelf.files c.args.shelf.now in
    handed_bundle (λ files. ReadsAll files c.args.names.now c.args.bundle.now) told _ c.from_residual.result c.in_err-read.field-0.0 c.from_residual.ensures.0 c.from_residual.ensures.1
    (read_up_to-ends told (g.F.Shelf.files c.loop-name.shelf) c.args.names.now c.loop-name.name-index c.name-item.result c.args.bundle.now c.loop-name.bundle c.in_err-read.field-0.0
    c.loop-name-test.true c.name-item.is c.loop-name.invariant.told c.loop-name.invariant.same c.in_err-read.ensures.reads)

pub read_all-loop-name-preserved : goal.read_all-loop-name-preserved
read_all-loop-name-preserved g t c = record {
  told =
      read_up_to-next (g.F.Shelf.files c.args.shelf.now) (g.F.Shelf.files c.loop-name.shelf) c.args.names.now c.loop-name.name-index c.name-item.result c.args.bundle.now c.loop-name.bundle _
      c.loop-name-test.true c.name-item.is c.loop-name.invariant.told c.loop-name.invariant.same c.in_ok-read.ensures.reads;
  lines = c.in_ok-read.ensures.lines;
  few = c.in_ok-read.ensures.few;
  more = omega (arith, c.in_ok-read.ensures.more, c.loop-name.invariant.more);
  same = c.in_ok-read.ensures.same ∙ c.loop-name.invariant.same;
  later = omega (arith, c.in_ok-read.ensures.later, c.loop-name.invariant.later);
}
