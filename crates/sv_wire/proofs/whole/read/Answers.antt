use Rattle.std.proofs.Common.{rules, ◌≡◌, length, take, ◌∙◌}
use Rattle.sv_wire.proofs.Steps.{grown-taken}
use Rattle.sv_wire.proofs.whole.read.Goals as goal

pub returns-in-Err-clause-err : goal.returns-in-Err-clause-err
returns-in-Err-clause-err c =
    let cut : c.truncate.new.self.items ≡ take (length c.args.items.now.items) c.read_part.new.items.items = search rules in
    cut ∙ grown-taken c.args.items.now.items c.read_part.new.items.items c.read_part.ensures.grown
