use Rattle.std.proofs.Common.{◌≡◌, ◌++◌, sym, ◌∙◌, ap, subst, []}
use Rattle.std.specs.Prelude.{IfOk}
use Rattle.std.specs.String.{string_bytes}
use Rattle.std.proofs.lemmas.List.{take_rest, append-nil}
use Rattle.sv_lex.specs.Literals.{text_of}
use Rattle.sv_lex.proofs.Written.{text_of-none, text_of-step}
use Rattle.sv_lex.proofs.contents.text_of.Goals as goal

pub loop-c-preserved : goal.loop-c-preserved
loop-c-preserved c =
    rw (take_rest c.loop-c.z.now c.in-Some.len)
    (text_of-step c.args.quote c.loop-c.z.now (text_of c.args.quote c.args.z.now) (string_bytes c.loop-c.text) _ c.in-Some.c c.in-Some.len
    (sym c.in-Some.ensures.value) c.in-Some.ensures.within.0 c.in-Some.ensures.within.1 c.loop-c.invariant c.in_ok-push.ensures.bytes)

pub returns : goal.returns
returns c =
    let none : text_of c.args.quote c.loop-c.z.now ≡ [] = text_of-none c.args.quote c.loop-c.z.now (sym c.in_default.ensures.value) in
    let whole : string_bytes c.loop-c.text ≡ text_of c.args.quote c.args.z.now =
    sym (append-nil (string_bytes c.loop-c.text)) ∙ ap (λ t. string_bytes c.loop-c.text ++ t) (sym none) ∙ c.loop-c.invariant in
    subst (λ b. IfOk c.new.result (λ text. text ≡ b)) (c.as_str.ensures.value ∙ whole) c.new.ensures
