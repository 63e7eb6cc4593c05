use Rattle.std.proofs.Common.{◌≡◌, rules}
use Rattle.sv_names.specs.Distinct.{with_names}
use Rattle.sv_scopes.specs.Attributes as spec
use Rattle.sv_scopes.specs.Parts.{names_of}
use Rattle.sv_scopes.proofs.LocalNames.{lets_more}
use Rattle.sv_scopes.proofs.local_names.let_names.Goals as goal

pub loop-attr-preserved : goal.loop-attr-preserved
loop-attr-preserved c =
    let more : c.add_let.new.names ≡ with_names c.loop-attr.names (names_of (spec.let_names c.attr-item.result)) = search rules in
    lets_more _ c.loop-attr.names c.add_let.new.names c.args.attrs.now c.loop-attr.attr-index c.attr-item.result c.loop-attr-test.true c.attr-item.is more c.loop-attr.invariant
