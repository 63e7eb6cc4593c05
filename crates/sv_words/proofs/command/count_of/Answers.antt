use Rattle.std.proofs.Common.{◌≡◌, arith, rules, Result, Ok, Err}
use Rattle.std.proofs.lemmas.Fmt.{parse-decimal}
use Rattle.sv_words.proofs.command.count_of.Goals as goal

ok-same : {A E : Type 0} (x y : A) (r : Result A E) → r ≡ Ok x → r ≡ Ok y → x ≡ y
ok-same x y r one other = cc

ok-err : {A E : Type 0} (x : A) (e : E) (r : Result A E) → r ≡ Ok x → r ≡ Err e → ⊥
ok-err x e r ok err = cc

pub returns-in_default-clause-none : goal.returns-in_default-clause-none
returns-in_default-clause-none c = λ n is.
    ok-err n c.in_default.field-0 c.parse.result (parse-decimal 32 n c.args.word.now c.parse.result (omega (arith, is.most)) (omega (arith, is.most)) is.spelled c.parse.ensures.value.0) c.in_default.is

pub returns-then-count-gt-GEN_LIMIT-clause-none : goal.returns-then-count-gt-GEN_LIMIT-clause-none
returns-then-count-gt-GEN_LIMIT-clause-none c = λ n is.
    let told = parse-decimal 32 n c.args.word.now c.parse.result (omega (arith, is.most)) (omega (arith, is.most)) is.spelled c.parse.ensures.value.0 in
    let same : c.in-Ok.count ≡ n = ok-same c.in-Ok.count n c.parse.result c.in-Ok.is told in
    absurd (omega (arith, is.most, same, c.if-count-gt-GEN_LIMIT.true))

pub returns-clause-none : goal.returns-clause-none
returns-clause-none c = λ n is.
    let told = parse-decimal 32 n c.args.word.now c.parse.result (omega (arith, is.most)) (omega (arith, is.most)) is.spelled c.parse.ensures.value.0 in
    let same : c.in-Ok.count ≡ n = ok-same c.in-Ok.count n c.parse.result c.in-Ok.is told in
    search (rules, same, is.spelled)
