use Rattle.std.proofs.Common.{◌++◌, ap, ◌∙◌, subst}
use Rattle.std.proofs.lemmas.Str.{IsUtf8-from_is_utf8}
use Rattle.sv_base.specs.Names.{IsTable}
use Rattle.sv_lex.specs.Reader.{Input, Fails}
use Rattle.sv_expr.specs.Limits.{real}
use Rattle.sv_script.specs.Calls.{input_of}
use Rattle.sv_script.proofs.Refusals.{given_on}
use Rattle.sv_markup.specs.Calls.{Answers, ComponentAt}
use Rattle.sv_markup.specs.Files.{top}
use Rattle.sv_markup.specs.Grammar.{TopAt}
use Rattle.sv_markup.proofs.Agree.{sound, knows}
use Rattle.sv_markup.proofs.Refusals.{component_refuses}
use Rattle.sv_markup.proofs.calls.component.Goals as goal

pub returns-in_err-found-clause-tree : goal.returns-in_err-found-clause-tree
returns-in_err-found-clause-tree c =
    let i : Input = input_of c.args.file c.args.text.now 0 c.args.names.now in
    given_on (λ r. Answers ComponentAt i r c.args.names.now) c.from_residual.result c.in_err-found.field-0.0 c.from_residual.ensures.0 c.from_residual.ensures.1
    (component_refuses i c.in_err-found.field-0.0 (subst (λ i. Fails (top real i) c.in_err-found.field-0.0) c.new-source.ensures c.in_err-found.ensures))

pub append-requires : goal.append-requires
append-requires c =
    let kept = knows real c.new-source.result c.top.new.source c.in_ok-found.found c.in_ok-found.ensures in
    subst (λ known. IsTable (known ++ c.into_added-added.result)) (kept ∙ ap (λ (i : Input). i.known) c.new-source.ensures) c.into_added-added.ensures.table

pub returns-clause-tree : goal.returns-clause-tree
returns-clause-tree c =
    let is = sound real c.new-source.result c.top.new.source c.in_ok-found.found c.in_ok-found.ensures in (
      c.top.new.source,
      record {
        found = c.in_ok-found.found;
        text = IsUtf8-from_is_utf8 c.args.text.now c.requires.text;
        parts = subst (λ i. TopAt real i c.in_ok-found.found c.top.new.source) c.new-source.ensures is;
        is = c.tree_of.ensures;
      },
      c.in_ok-append.ensures.ok ∙ ap (λ added. c.args.names.now ++ added) c.into_added-added.ensures.value,
    )
