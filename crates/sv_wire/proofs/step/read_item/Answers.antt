use Rattle.std.proofs.Common.{arith}
use Rattle.sv_wire.specs.declared.flaw.Flaw.TheVariants.{Wants, Wrong}
use Rattle.sv_wire.specs.Reading.{item_at}
use Rattle.sv_wire.proofs.Items.{item-lawful}
use Rattle.sv_wire.proofs.Steps.{fails-so, grown-none, read-less, read-wrong}
use Rattle.sv_wire.proofs.step.read_item.Goals as goal

pub overflow_add-result : goal.overflow_add-result
overflow_add-result c =
    let arm = c.in-Err-Flaw-Wants in
    let wants = fails-so arm.field-0 arm.field-0-0 (Wants arm.more) (item_at c.args.bytes.now) arm.ensures.item arm.field-0-is arm.field-0-0-is in
    let small = item-lawful.small c.args.bytes.now arm.more wants in
    omega (arith, small, c.requires)

pub returns-in-Err-Flaw-Wants-clause-steps : goal.returns-in-Err-Flaw-Wants-clause-steps
returns-in-Err-Flaw-Wants-clause-steps c =
    let arm = c.in-Err-Flaw-Wants in
    read-less c.args.at arm.more c.args.bytes.now c.args.items.now.items (fails-so arm.field-0 arm.field-0-0 (Wants arm.more) (item_at c.args.bytes.now) arm.ensures.item arm.field-0-is arm.field-0-0-is)

pub returns-in-Err-Flaw-Wants-clause-grown : goal.returns-in-Err-Flaw-Wants-clause-grown
returns-in-Err-Flaw-Wants-clause-grown c = grown-none c.args.items.now.items

pub returns-in-Err-Flaw-Wrong-clause-steps : goal.returns-in-Err-Flaw-Wrong-clause-steps
returns-in-Err-Flaw-Wrong-clause-steps c =
    let arm = c.in-Err-Flaw-Wrong in
    read-wrong c.args.at c.args.bytes.now c.args.items.now.items (fails-so arm.field-0 arm.field-0-0 Wrong (item_at c.args.bytes.now) arm.ensures.item arm.field-0-is arm.field-0-0-is)

pub returns-in-Err-Flaw-Wrong-clause-grown : goal.returns-in-Err-Flaw-Wrong-clause-grown
returns-in-Err-Flaw-Wrong-clause-grown c = grown-none c.args.items.now.items

pub returns-in-Err-NoMemory-clause-grown : goal.returns-in-Err-NoMemory-clause-grown
returns-in-Err-NoMemory-clause-grown c = grown-none c.args.items.now.items
