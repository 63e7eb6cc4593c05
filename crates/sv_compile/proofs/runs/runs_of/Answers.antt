use Rattle.std.proofs.Common.{◌≡◌, ◌<◌, [], ◌∷◌, ◌++◌, Some, length, get_or, refl, sym, ap, ◌∙◌, rules, arith}
use Rattle.std.specs.Prelude.{slice_get}
use Rattle.std.specs.Option.{option_map}
use Rattle.std.proofs.lemmas.List.{length-map}
use Rattle.std.proofs.lemmas.Option.{slice_get-map, slice_get_read}
use Rattle.sv_compile.specs.Runs.{reactives}
use Rattle.sv_compile.proofs.Order.{next_run}
use Rattle.sv_compile.proofs.runs.runs_of.Goals as goal

pub loop-number-preserved : goal.loop-number-preserved
loop-number-preserved c =
    let list = c.in_ok-reactives.reactives.items in
    let number = get_or c.args.order.now c.loop-number.number-index 0 in
    let item = c.index-reactive.result.now in
    let below = c.requires.below c.loop-number.number-index 0 c.loop-number-test.true in
    let same : length (reactives c.args.stmts.now) ≡ length list = sym (ap length c.in_ok-reactives.ensures) ∙ length-map list (λ r. (r.place, r.stmt.now)) in
    let within : number < length list = omega (arith, below, same) in
    let found : slice_get list number ≡ Some item = slice_get_read list (length list) number item refl within c.index-reactive.ensures in
    let there : slice_get (reactives c.args.stmts.now) number ≡ Some (item.place, item.stmt.now) =
    ap (λ l. slice_get l number) (sym c.in_ok-reactives.ensures) ∙ slice_get-map (λ r. (r.place, r.stmt.now)) list number ∙ ap (option_map (λ r. (r.place, r.stmt.now))) found in
    let pushed : c.push.new.self ≡ c.loop-number.runs ++ c.in_ok-run_of.field-0 ∷ [] = search rules in
    next_run c.args.cells.now (reactives c.args.stmts.now) c.args.order.now c.args.order.now c.loop-number.number-index number c.loop-number.runs c.push.new.self c.in_ok-run_of.field-0 (item.place, item.stmt.now)
    c.loop-number-test.true refl there c.in_ok-run_of.ensures pushed c.loop-number.invariant
