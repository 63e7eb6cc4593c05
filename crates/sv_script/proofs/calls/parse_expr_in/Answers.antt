use Rattle.std.proofs.Common.{◌≡◌, ℕ, List, length, take, ◌++◌, ◌-◌, drop, ap, ◌∙◌, subst}
use Rattle.std.proofs.lemmas.List.{take_rest}
use Rattle.sv_base.specs.Names.{IsTable}
use Rattle.sv_base.specs.declared.limits.TheConstants.{NEST_LIMIT}
use Rattle.sv_lex.specs.Reader.{Input, Fails}
use Rattle.sv_expr.specs.Limits.{real}
use Rattle.sv_script.specs.Calls.{input_of, AnswersPlace}
use Rattle.sv_script.specs.Closed.{ExpressionAt}
use Rattle.sv_script.specs.Laws.{read_expression, IsExpression}
use Rattle.sv_script.specs.Script as spec
use Rattle.sv_script.proofs.Agree.{expression_sound, expression_complete, expression_blamed}
use Rattle.sv_script.proofs.Keeps.{expression_keeps}
use Rattle.sv_script.proofs.Refusals.{refuses, given_on}
use Rattle.sv_script.proofs.calls.parse_expr_in.Goals as goal

-- the text behind a place is all that is left there
same : (file from : ℕ) (bytes : List ℕ) (names : List (List ℕ)) → input_of file (take (length bytes - from) (drop from bytes)) from names ≡ input_of file (drop from bytes) from names
same file from bytes names = ap (λ text. input_of file text from names) (take_rest bytes from)

pub returns-in_err-tree-clause-tree : goal.returns-in_err-tree-clause-tree
returns-in_err-tree-clause-tree c =
    let room = NEST_LIMIT - c.args.«open» in
    let i : Input = input_of c.args.file (drop c.args.from c.args.bytes.now) c.args.from c.args.names.now in
    given_on (λ r. AnswersPlace room i r c.args.names.now) c.from_residual.result c.in_err-tree.field-0.0 c.from_residual.ensures.0 c.from_residual.ensures.1
    (refuses read_expression IsExpression expression_complete expression_blamed (real, room) i c.in_err-tree.field-0.0
    (subst (λ i. Fails (spec.expression real room i) c.in_err-tree.field-0.0) (c.new-tokens.ensures ∙ same c.args.file c.args.from c.args.bytes.now c.args.names.now) c.in_err-tree.ensures))

pub append-requires : goal.append-requires
append-requires c =
    let kept = expression_keeps real (NEST_LIMIT - c.args.«open») c.new-tokens.result c.expression.new.tokens c.in_ok-tree.tree c.in_ok-tree.ensures in
    subst (λ known. IsTable (known ++ c.into_added-added.result)) (kept ∙ ap (λ (i : Input). i.known) c.new-tokens.ensures) c.into_added-added.ensures.table

pub returns-in-Ok-clause-tree : goal.returns-in-Ok-clause-tree
returns-in-Ok-clause-tree c =
    let room = NEST_LIMIT - c.args.«open» in
    let is = expression_sound (real, room) c.new-tokens.result c.expression.new.tokens c.in_ok-tree.tree c.in_ok-tree.ensures in (
      c.expression.new.tokens,
      subst (λ i. ExpressionAt real room i c.in_ok-tree.tree c.expression.new.tokens) (c.new-tokens.ensures ∙ same c.args.file c.args.from c.args.bytes.now c.args.names.now) is,
      c.at-behind.ensures,
      c.in-Ok.ensures.ok ∙ ap (λ added. c.args.names.now ++ added) c.into_added-added.ensures.value,
    )
