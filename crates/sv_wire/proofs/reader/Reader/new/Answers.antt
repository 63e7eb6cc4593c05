use Rattle.std.proofs.Common.{rules, ◌≡◌, [], ap, sym, ◌∙◌}
use Rattle.sv_wire.specs.Stream.{Begun, stands}
use Rattle.sv_wire.proofs.Steps.{told-none}
use Rattle.sv_wire.proofs.reader.Reader.new.Goals as goal

pub returns-clause-told : goal.returns-clause-told
returns-clause-told c =
    let none : c.new.result.items ≡ [] = search rules in
    told-none ∙ ap (λ z. stands (Begun z)) (sym none)
