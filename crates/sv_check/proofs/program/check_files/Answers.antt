use Rattle.std.proofs.Common.{◌≡◌, [], ◌∷◌, ◌++◌, length, refl, sym, ap, ◌∙◌, rules}
use Rattle.std.specs.Prelude.{Some, slice_get}
use Rattle.std.proofs.lemmas.Option.{slice_get_read}
use Rattle.sv_check.proofs.Progress.{further}
use Rattle.sv_check.proofs.program.check_files.Goals as goal

pub loop-n-preserved : goal.loop-n-preserved
loop-n-preserved c =
    let n = c.loop-n.n in
    let files = c.as_slice-source-items.result.now in
    let source = c.source-item.result in
    let there : slice_get c.args.bundle.now.files n ≡ Some source =
    ap (λ l. slice_get l n) (sym c.as_slice-source-items.ensures) ∙ slice_get_read files (length files) n source refl c.loop-n-test.true c.source-item.is in
    let pushed : c.push.new.self ≡ c.loop-n.components ++ c.in_ok-checked.checked ∷ [] = search rules in
    further c.args.bundle.now c.args.found.now n c.loop-n.components c.push.new.self source c.in_ok-checked.checked c.loop-n.invariant there
    c.in_ok-checked.ensures.clean c.in_ok-checked.ensures.checked pushed
