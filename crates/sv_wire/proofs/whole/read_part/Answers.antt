use Rattle.std.proofs.Common.{◌<◌, ◌+◌, ◌^◌, length, sym, subst, arith}
use Rattle.std.specs.Prelude.{IfOk}
use Rattle.sv_wire.specs.declared.state.Part.{Part}
use Rattle.sv_wire.specs.Stream.{Told}
use Rattle.sv_wire.specs.Reader.{Reaches, counted}
use Rattle.sv_wire.proofs.Steps.{part-head, part-item}
use Rattle.sv_wire.proofs.whole.read_part.Goals as goal

pub read_stream-requires : goal.read_stream-requires
read_stream-requires c = subst (λ (p : Part). counted p (length c.args.bytes.now) < 2 ^ 62) c.in-Head.is c.requires

pub read_items-requires-clause-reach : goal.read_items-requires-clause-reach
read_items-requires-clause-reach c =
    let h : c.in-Item.at + length c.args.bytes.now < 2 ^ 62 = subst (λ (p : Part). counted p (length c.args.bytes.now) < 2 ^ 62) c.in-Item.is c.requires in
    omega (arith, h)

pub returns-in-Head-clause-ok : goal.returns-in-Head-clause-ok
returns-in-Head-clause-ok c =
    subst (λ (t : Told). IfOk c.read_stream.result (λ r. Reaches t c.args.bytes.now r.0 r.1 c.args.items.now.items c.read_stream.new.items.items)) (sym (part-head c.args.part c.args.bytes.now c.in-Head.is)) c.read_stream.ensures.ok

pub returns-in-Item-clause-ok : goal.returns-in-Item-clause-ok
returns-in-Item-clause-ok c =
    subst (λ (t : Told). IfOk c.read_items.result (λ r. Reaches t c.args.bytes.now r.0 r.1 c.args.items.now.items c.read_items.new.items.items)) (sym (part-item c.args.part c.in-Item.at c.args.bytes.now c.in-Item.is))
    c.read_items.ensures.ok
