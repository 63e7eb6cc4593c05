use Rattle.std.proofs.Common.{◌≡◌, fold, ap, ◌∙◌}
use Rattle.std.specs.Prelude.{not}
use Rattle.sv_ast.specs.Files.{statements_of, is_module}
use Rattle.sv_resolve.specs.declared.refusals.CheckKind.TheVariants.{BadStore, BadLifecyclePlace, BadDerived}
use Rattle.sv_resolve.specs.Earliest.{earlier}
use Rattle.sv_resolve.specs.Mistakes.{refused}
use Rattle.sv_check.specs.Derived.{bad_derived}
use Rattle.sv_check.specs.Files as files
use Rattle.sv_check.specs.Life.{bad_life_places}
use Rattle.sv_check.specs.Stores.{bad_stores}
use Rattle.sv_check.proofs.Whole.{three_offered}
use Rattle.sv_check.proofs.file.offer_script.Goals as goal

pub returns : goal.returns
returns c =
    let table = c.args.names.now in
    let t = c.args.tree.now in
    let top = (files.scopes_of t).top in
    let stores : c.as_slice.result.now ≡ bad_stores table (not (is_module t)) top = cc (c.as_slice.ensures, c.in_ok-stores.ensures, c.is_module-in_component.ensures, c.requires) in
    let life : c.as_slice-2.result.now ≡ bad_life_places table (not (is_module t)) (statements_of t) top =
    cc (c.as_slice-2.ensures, c.in_ok-life.ensures, c.is_module-in_component.ensures, c.statements.ensures, c.requires) in
    let derived : c.as_slice-3.result.now ≡ bad_derived table c.args.pure.now (statements_of t) top = cc (c.as_slice-3.ensures, c.in_ok-derived.ensures, c.statements-2.ensures, c.requires) in
    three_offered (refused BadStore (bad_stores table (not (is_module t)) top)) (refused BadLifecyclePlace (bad_life_places table (not (is_module t)) (statements_of t) top)) (refused BadDerived (bad_derived table c.args.pure.now (statements_of t) top))
    c.args.first.now c.offer_all.new.first c.offer_all-2.new.first c.offer_all-3.new.first
    (c.offer_all.ensures ∙ ap (λ l. fold earlier c.args.first.now (refused BadStore l)) stores)
    (c.offer_all-2.ensures ∙ ap (λ l. fold earlier c.offer_all.new.first (refused BadLifecyclePlace l)) life)
    (c.offer_all-3.ensures ∙ ap (λ l. fold earlier c.offer_all-2.new.first (refused BadDerived l)) derived)
