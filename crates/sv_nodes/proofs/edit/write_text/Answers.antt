use Rattle.std.proofs.Common.{ap, sym}
use Rattle.sv_nodes.specs.Nodes.{retext, with_kind}
use Rattle.sv_nodes.proofs.Slabs.{rewrites-write, seen_kind}
use Rattle.sv_nodes.proofs.edit.write_text.Goals as goal

pub returns-in-Some : goal.returns-in-Some
returns-in-Some c =
    rewrites-write c.args.nodes.now c.args.key (with_kind (retext c.args.text)) c.in-Some.entry.now _ (sym c.in-Some.ensures.value) (ap (seen_kind c.in-Some.entry.now) c.set_content.ensures)
