use Rattle.std.proofs.Common.{◌++◌, ap, ◌∙◌, subst}
use Rattle.sv_base.specs.Names.{IsTable}
use Rattle.sv_lex.specs.Reader.{Input, Fails}
use Rattle.sv_expr.specs.Limits.{real}
use Rattle.sv_script.specs.Calls.{input_of, AnswersFile}
use Rattle.sv_script.specs.Closed.{ScriptAt}
use Rattle.sv_script.specs.Script as spec
use Rattle.sv_script.proofs.Agree.{script_sound, script_complete, script_blamed}
use Rattle.sv_script.proofs.Keeps.{component_keeps}
use Rattle.sv_script.proofs.Refusals.{refuses, given_on}
use Rattle.sv_script.proofs.calls.script.Goals as goal

pub returns-in_err-stmts-clause-tree : goal.returns-in_err-stmts-clause-tree
returns-in_err-stmts-clause-tree c =
    let i : Input = input_of c.args.file c.args.text.now c.args.from c.args.names.now in
    given_on (λ r. AnswersFile ScriptAt i r c.args.names.now) c.from_residual.result c.in_err-stmts.field-0.0 c.from_residual.ensures.0 c.from_residual.ensures.1
    (refuses spec.component ScriptAt script_complete script_blamed real i c.in_err-stmts.field-0.0
    (subst (λ i. Fails (spec.component real i) c.in_err-stmts.field-0.0) c.new-tokens.ensures c.in_err-stmts.ensures))

pub append-requires : goal.append-requires
append-requires c =
    let kept = component_keeps real c.new-tokens.result c.component.new.tokens c.in_ok-stmts.stmts c.in_ok-stmts.ensures in
    subst (λ known. IsTable (known ++ c.into_added-added.result)) (kept ∙ ap (λ (i : Input). i.known) c.new-tokens.ensures) c.into_added-added.ensures.table

pub returns-clause-tree : goal.returns-clause-tree
returns-clause-tree c =
    let is = script_sound real c.new-tokens.result c.component.new.tokens c.in_ok-stmts.stmts c.in_ok-stmts.ensures in (
      c.component.new.tokens,
      subst (λ i. ScriptAt real i c.in_ok-stmts.stmts c.component.new.tokens) c.new-tokens.ensures is,
      c.in_ok-append.ensures.ok ∙ ap (λ added. c.args.names.now ++ added) c.into_added-added.ensures.value,
    )
