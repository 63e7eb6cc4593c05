use Rattle.std.proofs.Common.{◌≡◌, sym, ap, subst, ◌∙◌}
use Rattle.sv_ast.specs.Files.{statements_of}
use Rattle.sv_order.specs.ReactiveOrder.{IsOrder, IsEachOnce}
use Rattle.sv_resolve.specs.declared.refusals.CheckKind.TheVariants.{TooManyNames, ReactiveCycle}
use Rattle.sv_check.specs.Files.{cells_of}
use Rattle.sv_check.specs.Waiting.{reads}
use Rattle.sv_check.proofs.Few.{few_told}
use Rattle.sv_check.proofs.Whole.{none_before, none_wait, none_first}
use Rattle.sv_check.proofs.file.check_file.Goals as goal

pub returns-clause-checked : goal.returns-clause-checked
returns-clause-checked c =
    let none = none_first c.in_ok-first.field-0 _ c.in-None.is c.in_ok-first.ensures in
    let waits = sym c.as_slice-waiting.ensures ∙ none_wait ReactiveCycle _ c.as_slice-waiting.result.now none in
    let t = c.args.source.now.tree in
    let cells : c.as_slice.result.now ≡ cells_of t = c.as_slice.ensures ∙ ap (λ told. told.cells) c.in_ok-told.ensures in
    let same : reads c.as_slice.result.now c.statements.result.now ≡ reads (cells_of t) (statements_of t) = ap (λ list. reads list c.statements.result.now) cells ∙ ap (reads (cells_of t)) c.statements.ensures in
    record {
      scopes_are = c.in_ok-told.ensures;
      few = few_told c.args.bundle.now.names c.args.source.now.tree _ c.in_ok-told.ensures (none_wait TooManyNames _ _ (none_before _ _ none));
      order_is = subst (λ list. IsOrder list c.in_ok-run.run'.order.items) same (c.in_ok-run.ensures.order waits);
      once = subst (λ list. IsEachOnce list c.in_ok-run.run'.order.items) same (c.in_ok-run.ensures.once waits);
    }
