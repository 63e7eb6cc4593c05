use Rattle.std.proofs.Common.{Err, ap, sym, subst, ◌∙◌, arith}
use Rattle.std.specs.Prelude.{IfOk}
use Rattle.sv_wire.specs.Stream.{Told}
use Rattle.sv_wire.specs.Reader.{Reaches}
use Rattle.sv_wire.proofs.Steps.{grown-none, head-there, head-long, head-less, head-wrong}
use Rattle.sv_wire.proofs.whole.read_stream.Goals as goal

pub read_items-requires-clause-done : goal.read_items-requires-clause-done
read_items-requires-clause-done c = head-long c.args.bytes.now (sym c.begins.ensures ∙ c.in-Ok.is)

pub read_items-requires-clause-reach : goal.read_items-requires-clause-reach
read_items-requires-clause-reach c = omega (arith, c.requires)

pub overflow_add-state : goal.overflow_add-state
overflow_add-state c = omega (arith, c.requires)

pub returns-in-Ok-clause-ok : goal.returns-in-Ok-clause-ok
returns-in-Ok-clause-ok c =
    subst (λ (t : Told). IfOk c.read_items.result (λ r. Reaches t c.args.bytes.now r.0 r.1 c.args.items.now.items c.read_items.new.items.items)) (sym (head-there c.args.bytes.now (sym c.begins.ensures ∙ c.in-Ok.is)))
    c.read_items.ensures.ok

pub returns-in-Err-Wants-clause-ok : goal.returns-in-Err-Wants-clause-ok
returns-in-Err-Wants-clause-ok c =
    let arm = c.in-Err-Wants in
    head-less c.args.bytes.now arm.field-0-0 c.args.items.now.items (sym c.begins.ensures ∙ (arm.is ∙ ap Err arm.field-0-is))

pub returns-in-Err-Wants-clause-grown : goal.returns-in-Err-Wants-clause-grown
returns-in-Err-Wants-clause-grown c = grown-none c.args.items.now.items

pub returns-in-Err-Wrong-clause-ok : goal.returns-in-Err-Wrong-clause-ok
returns-in-Err-Wrong-clause-ok c = head-wrong c.args.bytes.now c.args.items.now.items (sym c.begins.ensures ∙ (c.in-Err-Wrong.is ∙ ap Err c.in-Err-Wrong.field-0-is))

pub returns-in-Err-Wrong-clause-grown : goal.returns-in-Err-Wrong-clause-grown
returns-in-Err-Wrong-clause-grown c = grown-none c.args.items.now.items
