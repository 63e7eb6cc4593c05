use Rattle.std.proofs.Common.{◌≡◌, ◌≤◌, length, take, drop, Ok, ap, sym, subst, ◌∙◌, arith}
use Rattle.std.specs.Str.{IsUtf8}
use Rattle.sv_wire.proofs.Items.{words-read, words-judged}
use Rattle.sv_wire.proofs.fields.words_of.Goals as goal

pub returns-in_ok-new-in-Ok : goal.returns-in_ok-new-in-Ok
returns-in_ok-new-in-Ok c =
    let n = c.args.len in
    let bytes = c.args.bytes.now in
    let front = c.split_at.ensures.front in
    let back = c.split_at.ensures.back in
    let there : n ≤ length bytes = omega (arith, c.if-bytes-len.false) in
    let same : take n bytes ≡ c.in_ok-new-in-Ok.field-0 = sym front ∙ (sym c.in-Ok.ensures.cases.0 ∙ sym c.in_ok-new-in-Ok.ensures) in
    words-read n bytes c.if-len-gt-LONGEST_TEXT.false there (subst IsUtf8 front c.in-Ok.ensures.cases.1)
    ∙ (ap (λ z. Ok (z, drop n bytes)) same ∙ ap (λ z. Ok (c.in_ok-new-in-Ok.field-0, z)) (sym back))

pub returns-in-Err : goal.returns-in-Err
returns-in-Err c =
    let n = c.args.len in
    let bytes = c.args.bytes.now in
    let there : n ≤ length bytes = omega (arith, c.if-bytes-len.false) in
    words-judged n bytes c.if-len-gt-LONGEST_TEXT.false there (λ utf8. c.in-Err.ensures.cases.0 (subst IsUtf8 (sym c.split_at.ensures.front) utf8))
