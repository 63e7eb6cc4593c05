use Rattle.std.proofs.Common.{◌∙◌, ap, map}
use Rattle.std.specs.Prelude.{reverse}
use Rattle.sv_flush.proofs.Reversed.{map-reverse}
use Rattle.sv_flush.specs.Rounds.{Rounds}
use Rattle.sv_flush.specs.Waits.{binding_of}
use Rattle.sv_flush.proofs.rounds.Rounds.take_bindings.Goals as goal

pub returns-clause-taken : goal.returns-clause-taken
returns-clause-taken c =
    ap (map binding_of) (c.reverse.ensures.items ∙ ap (λ v. reverse v.items) c.replace-bindings.ensures.value)
    ∙ (map-reverse binding_of c.self.inside.bindings.items ∙ ap (λ (r : Rounds). reverse r.bindings) c.self.view_is)
