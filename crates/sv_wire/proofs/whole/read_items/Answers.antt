use Rattle.std.proofs.Common.{drop, refl, arith}
use Rattle.std.proofs.lemmas.List.{length-drop}
use Rattle.sv_wire.specs.Stream.{told_at}
use Rattle.sv_wire.proofs.Steps.{grown-none, grown-then, rest-length, reading-more, reading-ends, step-read, step-stop}
use Rattle.sv_wire.proofs.whole.read_items.Goals as goal

pub items-init : goal.items-init
items-init c = record { reading = record { told = refl; bound = c.requires.done }; reach = refl; grown = grown-none c.args.items.now.items }

pub read_item-requires : goal.read_item-requires
read_item-requires c =
    let rest = rest-length c.items.used c.args.bytes.now in
    let reach = c.items.invariant.reach in
    let bound = c.items.invariant.reading.bound in
    omega (arith, rest, reach, bound, c.requires.reach, c.requires.done)

pub returns-in_err-step-clause-grown : goal.returns-in_err-step-clause-grown
returns-in_err-step-clause-grown c = grown-then c.args.items.now.items c.items.items.items c.read_item.new.items.items c.items.invariant.grown c.read_item.ensures.grown

pub overflow_add-offset : goal.overflow_add-offset
overflow_add-offset c =
    let one = step-read c.items.offset c.items.used c.args.bytes.now c.in_ok-step.step c.in-Read.count c.items.items.items c.read_item.new.items.items c.in_ok-step.ensures.steps c.in-Read.is in
    let few = one.bound in
    let reach = c.items.invariant.reach in
    let bound = c.items.invariant.reading.bound in
    omega (arith, few, reach, bound, length-drop c.items.used c.args.bytes.now, c.requires.reach, c.requires.done)

pub overflow_add-used : goal.overflow_add-used
overflow_add-used c =
    let one = step-read c.items.offset c.items.used c.args.bytes.now c.in_ok-step.step c.in-Read.count c.items.items.items c.read_item.new.items.items c.in_ok-step.ensures.steps c.in-Read.is in
    let few = one.bound in
    let bound = c.items.invariant.reading.bound in
    omega (arith, few, bound, length-drop c.items.used c.args.bytes.now, c.requires.reach)

pub items-smaller : goal.items-smaller
items-smaller c =
    let one = step-read c.items.offset c.items.used c.args.bytes.now c.in_ok-step.step c.in-Read.count c.items.items.items c.read_item.new.items.items c.in_ok-step.ensures.steps c.in-Read.is in
    let some = one.some in
    let few = one.bound in
    let bound = c.items.invariant.reading.bound in
    omega (arith, some, few, bound, length-drop c.items.used c.args.bytes.now)

pub items-preserved : goal.items-preserved
items-preserved c =
    let one = step-read c.items.offset c.items.used c.args.bytes.now c.in_ok-step.step c.in-Read.count c.items.items.items c.read_item.new.items.items c.in_ok-step.ensures.steps c.in-Read.is in
    let reach = c.items.invariant.reach in
    record {
      reading = reading-more (told_at c.args.at (drop c.args.done c.args.bytes.now)) c.args.bytes.now c.items.offset c.items.used c.in-Read.count c.args.items.now.items c.items.items.items c.read_item.new.items.items
          c.items.invariant.reading one;
      reach = omega (arith, reach);
      grown = grown-then c.args.items.now.items c.items.items.items c.read_item.new.items.items c.items.invariant.grown c.read_item.ensures.grown;
    }

pub returns-in-Stop-clause-ok : goal.returns-in-Stop-clause-ok
returns-in-Stop-clause-ok c =
    reading-ends (told_at c.args.at (drop c.args.done c.args.bytes.now)) c.args.bytes.now c.items.offset c.items.used c.in-Stop.state c.args.items.now.items c.items.items.items c.read_item.new.items.items
    c.items.invariant.reading
    (step-stop c.items.offset c.items.used c.args.bytes.now c.in_ok-step.step c.in-Stop.state c.items.items.items c.read_item.new.items.items c.in_ok-step.ensures.steps c.in-Stop.is)

pub returns-in-Stop-clause-grown : goal.returns-in-Stop-clause-grown
returns-in-Stop-clause-grown c = grown-then c.args.items.now.items c.items.items.items c.read_item.new.items.items c.items.invariant.grown c.read_item.ensures.grown
