use Rattle.std.proofs.Common.{◌∙◌, ◌++◌, option_map, ap, sym}
use Rattle.sv_select.specs.Compound.{part_of, parts_of, marked}
use Rattle.sv_select.proofs.Exits.{reads_exit}
use Rattle.sv_select.proofs.Parting.{wrong_part, one_part}
use Rattle.sv_select.proofs.compound.parts_of.Goals as goal

pub returns-in_err-part_of : goal.returns-in_err-part_of
returns-in_err-part_of c =
    let mark = c.in-Some.mark.now in
    let z = c.in-Some.behind.now in
    reads_exit _ _ (part_of mark c.front.result.now) (parts_of (marked c.args.marked.now)) c.from_residual.ensures.1
    (λ none. wrong_part _ c.loop-mark.parts c.loop-mark.left.now mark z c.in-Some.ensures.cases.0 c.loop-mark.invariant (ap (part_of mark) (sym c.front.ensures) ∙ none))
    c.in_err-part_of.ensures

pub loop-mark-preserved : goal.loop-mark-preserved
loop-mark-preserved c =
    let mark = c.in-Some.mark.now in
    let z = c.in-Some.behind.now in
    one_part _ c.loop-mark.parts c.push.new.self c.loop-mark.left.now mark z _ c.in-Some.ensures.cases.0 c.loop-mark.invariant
    (ap (part_of mark) (sym c.front.ensures) ∙ c.in_ok-part_of.ensures) c.in_ok-push.ensures.ok
    ∙ ap (λ t. option_map (λ ps. c.push.new.self ++ ps) (parts_of (marked t))) (sym c.rest-left.ensures.value)
