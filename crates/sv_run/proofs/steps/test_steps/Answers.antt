use Rattle.std.proofs.Common.{map, sym, subst, ap, ◌∙◌}
use Rattle.std.specs.Prelude.{Ok, Err}
use Rattle.std.proofs.lemmas.Result.{IfOk-weaker, on_ok_weaker, on_err_weaker}
use Rattle.sv_checks.specs.Deeds.{deeds_from}
use Rattle.sv_checks.specs.Tells.{seen, Tells}
use Rattle.sv_io.proofs.Written.{on_err}
use Rattle.sv_io.specs.Sink.{with_bytes, AppendsFront}
use Rattle.sv_run.specs.Answer.{ended, status_of, text_of}
use Rattle.sv_run.proofs.Testing.{tests-deeds, tests-none}
use Rattle.sv_run.proofs.steps.test_steps.Goals as goal

pub returns-in_ok-outcome-in-Ok-clause-status : goal.returns-in_ok-outcome-in-Ok-clause-status
returns-in_ok-outcome-in-Ok-clause-status g c =
    let is = tests-deeds c.args.program.now c.args.steps.now (map seen c.deref.result.now) (c.in-Ok.ensures ∙ ap (λ ds. Ok (map seen ds)) (sym c.deref.ensures.value)) in
    c.status_by.ensures ∙ ap ended c.in_ok-outcome-in-Ok.ensures.status ∙ ap status_of (sym is)

pub returns-in_ok-outcome-in-Ok-clause-all : goal.returns-in_ok-outcome-in-Ok-clause-all
returns-in_ok-outcome-in-Ok-clause-all g c =
    let is = tests-deeds c.args.program.now c.args.steps.now (map seen c.deref.result.now) (c.in-Ok.ensures ∙ ap (λ ds. Ok (map seen ds)) (sym c.deref.ensures.value)) in
    c.in_ok-outcome-in-Ok.ensures.all ∙ ap (λ a. with_bytes (g.K.Sink.written c.args.out.now) (text_of a)) (sym is)

pub returns-in_err-outcome-in-Ok-clause-front : goal.returns-in_err-outcome-in-Ok-clause-front
returns-in_err-outcome-in-Ok-clause-front g c =
    let is = tests-deeds c.args.program.now c.args.steps.now (map seen c.deref.result.now) (c.in-Ok.ensures ∙ ap (λ ds. Ok (map seen ds)) (sym c.deref.ensures.value)) in
    on_err _ (subst (λ a. AppendsFront (g.K.Sink.written c.args.out.now) (g.K.Sink.written c.test.new.out) (text_of a)) (sym is) c.in_err-outcome-in-Ok.ensures.front)

pub returns-in-Err-BadSelector-clause-status : goal.returns-in-Err-BadSelector-clause-status
returns-in-Err-BadSelector-clause-status g c =
    let is = tests-none c.args.program.now c.args.steps.now c.in-Err-BadSelector.at
    (subst (λ e. Tells (Err e) (deeds_from 0 c.args.steps.now)) c.in-Err-BadSelector.field-0-is c.in-Err-BadSelector.ensures) in
    IfOk-weaker c.print.result _ _ (λ status same. same ∙ ap status_of (sym is)) c.print.ensures.status

pub returns-in-Err-BadSelector-clause-all : goal.returns-in-Err-BadSelector-clause-all
returns-in-Err-BadSelector-clause-all g c =
    let is = tests-none c.args.program.now c.args.steps.now c.in-Err-BadSelector.at
    (subst (λ e. Tells (Err e) (deeds_from 0 c.args.steps.now)) c.in-Err-BadSelector.field-0-is c.in-Err-BadSelector.ensures) in
    on_ok_weaker c.print.result (λ same. same ∙ ap (λ a. with_bytes (g.K.Sink.written c.args.out.now) (text_of a)) (sym is)) c.print.ensures.all

pub returns-in-Err-BadSelector-clause-front : goal.returns-in-Err-BadSelector-clause-front
returns-in-Err-BadSelector-clause-front g c =
    let is = tests-none c.args.program.now c.args.steps.now c.in-Err-BadSelector.at
    (subst (λ e. Tells (Err e) (deeds_from 0 c.args.steps.now)) c.in-Err-BadSelector.field-0-is c.in-Err-BadSelector.ensures) in
    on_err_weaker c.print.result (subst (λ a. AppendsFront (g.K.Sink.written c.args.out.now) (g.K.Sink.written c.print.new.out) (text_of a)) (sym is)) c.print.ensures.front
