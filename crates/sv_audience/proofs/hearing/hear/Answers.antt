use Rattle.std.proofs.Common.{rules, OnOk}
use Rattle.sv_audience.proofs.Onward.{hears-none, hears-some, hears-all}
use Rattle.sv_audience.proofs.hearing.hear.Goals as goal

pub returns-in_err-tree : goal.returns-in_err-tree
returns-in_err-tree g c =
    let never : OnOk c.from_residual.result ⊥ = search rules in
    hears-none c.from_residual.result never

pub returns-in_err-tell_each : goal.returns-in_err-tell_each
returns-in_err-tell_each g c =
    let never : OnOk c.from_residual-in_err-tell_each.result ⊥ = search rules in
    hears-some c.from_residual-in_err-tell_each.result never c.tell_each.result c.in_err-tell_each.field-0.0 c.in_err-tell_each.was c.in_ok-tree.ensures c.changes.ensures c.tell_each.ensures.told

pub returns : goal.returns
returns g c = hears-all c.tell_each.result c.in_ok-tell_each.field-0 c.in_ok-tell_each.was c.in_ok-tree.ensures c.changes.ensures c.tell_each.ensures.told
