use Rattle.std.proofs.Common.{◌≡◌, fold, ap, sym, ◌∙◌}
use Rattle.std.specs.Prelude.{slice_get}
use Rattle.sv_names.specs.Distinct.{firsts}
use Rattle.sv_resolve.specs.Cells.{variables}
use Rattle.sv_scopes.specs.Parts.{names_of}
use Rattle.sv_resolve.specs.declared.refusals.CheckKind.TheVariants.{ImportCycle, UnknownImport, ImpureMarkup, TooManyNames, ReactiveCycle}
use Rattle.sv_resolve.specs.Earliest.{earlier, IsFirst}
use Rattle.sv_resolve.specs.Mistakes.{refused, mistakes}
use Rattle.sv_imports.specs.Unknown.{unknown_imports}
use Rattle.sv_slots.specs.Sheets.{sheet, sheets}
use Rattle.sv_check.specs.Cells.{too_many}
use Rattle.sv_check.specs.Files as files
use Rattle.sv_check.specs.Mistakes as spec
use Rattle.sv_check.proofs.Whole.{whole_first, sheet_there}
use Rattle.sv_check.proofs.file.file_mistake.Goals as goal

pub returns : goal.returns
returns c =
    let bundle = c.args.bundle.now in
    let table = bundle.names in
    let found = c.args.found.now in
    let n = c.args.n in
    let source = c.args.source.now in
    let t = source.tree in
    let unknown : c.offer_at-2.new.first ≡ fold earlier c.offer_at.new.first (refused UnknownImport (spec.at_file (unknown_imports bundle) n)) = rw (sym c.requires.found.are_unknown) c.offer_at-2.ensures in
    let own : IsFirst c.in_ok-own.own (mistakes table (files.scopes_of t)) = rw (sym c.requires.scopes) c.in_ok-own.ensures in
    let declares : c.as_slice-declares.result.now ≡ (files.scopes_of t).top.declares = c.as_slice-declares.ensures ∙ ap (λ s. s.top.declares) c.requires.scopes in
    let impure : c.offer_impure.new.first ≡ fold earlier c.offer_script.new.first (refused ImpureMarkup (spec.impure_in table (spec.known_at_top table (spec.pure_at found.pure n) t) t)) =
    c.in_ok-offer_impure.ensures
    ∙ ap (λ names. fold earlier c.offer_script.new.first (refused ImpureMarkup (spec.impure_in table (spec.known_in table names (names_of c.as_slice-declares.result.now)) t))) c.pure_at-pure.ensures
    ∙ ap (λ ds. fold earlier c.offer_script.new.first (refused ImpureMarkup (spec.impure_in table (spec.known_in table (spec.pure_at found.pure n) (names_of ds)) t))) declares in
    let script : c.offer_script.new.first ≡ fold earlier c.join.new.first (spec.script_mistakes table (spec.pure_at found.pure n) t) =
    c.in_ok-offer_script.ensures ∙ ap (λ names. fold earlier c.join.new.first (spec.script_mistakes table names t)) c.pure_at-pure.ensures in
    let all : c.as_slice.result.now ≡ sheets bundle = c.as_slice.ensures ∙ c.requires.found.are_sheets in
    let own_sheet = sheet table bundle.files source in
    let there = ap (λ l. slice_get l n) all ∙ sheet_there bundle n source c.requires.source in
    let tags : c.offer_tags.new.first ≡ fold earlier c.offer_impure.new.first (spec.tag_mistakes (spec.variables_of t) (sheets bundle) own_sheet) =
    c.in_ok-offer_tags.ensures own_sheet there
    ∙ ap (λ ds. fold earlier c.offer_impure.new.first (spec.tag_mistakes (firsts (variables ds)) c.as_slice.result.now own_sheet)) declares
    ∙ ap (λ l. fold earlier c.offer_impure.new.first (spec.tag_mistakes (spec.variables_of t) l own_sheet)) all in
    let places : c.as_slice-2.result.now ≡ too_many table (files.scopes_of t).top = c.as_slice-2.ensures ∙ c.in_ok-cells.ensures ∙ ap (λ s. too_many table s.top) c.requires.scopes in
    let cells : c.offer_all.new.first ≡ fold earlier c.offer_tags.new.first (refused TooManyNames (too_many table (files.scopes_of t).top)) =
    c.offer_all.ensures ∙ ap (λ l. fold earlier c.offer_tags.new.first (refused TooManyNames l)) places in
    whole_first (refused ImportCycle (spec.at_file found.cycles n)) (refused UnknownImport (spec.at_file (unknown_imports bundle) n)) (mistakes table (files.scopes_of t)) (spec.script_mistakes table (spec.pure_at found.pure n) t)
    (refused ImpureMarkup (spec.impure_in table (spec.known_at_top table (spec.pure_at found.pure n) t) t)) (spec.tag_mistakes (spec.variables_of t) (sheets bundle) (sheet table bundle.files source))
    (refused TooManyNames (too_many table (files.scopes_of t).top)) (refused ReactiveCycle c.args.waiting.now)
    c.in_ok-own.own c.offer_at.new.first c.offer_at-2.new.first c.join.new.first c.offer_script.new.first c.offer_impure.new.first c.offer_tags.new.first c.offer_all.new.first c.offer_all-2.new.first
    c.offer_at.ensures unknown own c.join.ensures script impure tags cells c.offer_all-2.ensures
