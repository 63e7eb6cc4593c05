use Rattle.std.proofs.Common.{sym, ◌∙◌}
use Rattle.std.specs.String.{string_bytes}
use Rattle.std.proofs.lemmas.List.{take_rest}
use Rattle.sv_tags.proofs.Characters.{ahead-step, ahead-end}
use Rattle.sv_tags.proofs.texts.content.Goals as goal

pub loop-c-preserved : goal.loop-c-preserved
loop-c-preserved c =
    rw (take_rest c.loop-c.rest.now c.in-Some.len)
    (ahead-step c.args.setting c.args.z.now c.loop-c.rest.now (string_bytes c.loop-c.text) _ c.in-Some.c c.in-Some.len
    (sym c.in-Some.ensures.value) c.in-Some.ensures.within.0 c.in-Some.ensures.within.1 c.loop-c.invariant c.in_ok-push.ensures.bytes)

pub returns-clause-value : goal.returns-clause-value
returns-clause-value c =
    let end = ahead-end c.args.setting c.args.z.now c.loop-c.rest.now (string_bytes c.loop-c.text) (sym c.in_default.ensures.value) c.loop-c.invariant in
    (c.in_ok-text.ensures ∙ c.as_str.ensures.value ∙ end.0, end.1)
