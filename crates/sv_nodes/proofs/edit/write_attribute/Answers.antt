use Rattle.std.proofs.Common.{ap, sym}
use Rattle.sv_tokens.specs.Edit.{with_attribute}
use Rattle.sv_nodes.specs.Nodes.{reshape, with_kind}
use Rattle.sv_nodes.proofs.Slabs.{cells_of-same, on_err, rewrites-write, seen_kind}
use Rattle.sv_nodes.proofs.edit.write_attribute.Goals as goal

pub returns-in_err-put_content-clause-err : goal.returns-in_err-put_content-clause-err
returns-in_err-put_content-clause-err c =
    on_err c.from_residual.result (cells_of-same c.args.nodes.now.slots c.args.key c.in-Some.entry.now _ (sym c.in-Some.ensures.value)
    (ap (seen_kind c.in-Some.entry.now) c.in_err-put_content.ensures.err))

pub returns-in_ok-put_content-clause-ok : goal.returns-in_ok-put_content-clause-ok
returns-in_ok-put_content-clause-ok c =
    rewrites-write c.args.nodes.now c.args.key (with_kind (reshape (with_attribute c.args.attribute))) c.in-Some.entry.now _ (sym c.in-Some.ensures.value)
    (ap (seen_kind c.in-Some.entry.now) c.in_ok-put_content.ensures.ok)
