use Rattle.std.proofs.Common.{◌∙◌, ℕ, Option, ap, map}
use Rattle.std.proofs.lemmas.List.{take_all}
use Rattle.sv_flush.specs.Showing.{own_tag}
use Rattle.sv_flush.proofs.Tags.{numbers-mapped}
use Rattle.sv_states.specs.States.{live}
use Rattle.sv_value.specs.declared.value.Inst.{Inst}
use Rattle.sv_view.specs.View.{inst_number}
use Rattle.sv_flush.proofs.machine.Machine.tags_of.Goals as goal

pub returns : goal.returns
returns c =
    let tag : ℕ → Option ℕ = λ n. own_tag (live c.args.world.now.states n) in
    c.loop-inst.invariant ∙ (ap (map (λ (i : Inst). tag i.number)) (take_all _ _ c.loop-inst-test.false) ∙ (numbers-mapped tag _ ∙ ap (map tag) (ap (map inst_number) c.deref-inst-items.ensures.value ∙ c.in_ok-insts.ensures)))
