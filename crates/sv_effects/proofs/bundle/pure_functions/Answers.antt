use Rattle.std.proofs.Common.{false, map, ◌≡◌, ◌∙◌}
use Rattle.std.specs.Prelude.{slice_index_or}
use Rattle.std.proofs.lemmas.Result.{IfOk-weaker}
use Rattle.sv_effects.specs.Known.{names_without}
use Rattle.sv_effects.specs.Stains.{ArePure}
use Rattle.sv_effects.proofs.Spoiling.{stained_below, are_pure}
use Rattle.sv_effects.proofs.bundle.pure_functions.Goals as goal

pub reached-requires-clause-within : goal.reached-requires-clause-within
reached-requires-clause-within c =
    stained_below c.args.bundle.now c.in_ok-calls.calls c.deref-2.result.now c.deref-3.result.now c.in_ok-calls.ensures c.deref-2.ensures.value c.deref-3.ensures.value

pub returns : goal.returns
returns c =
    IfOk-weaker c.pure_names.result (λ lists. lists ≡ map (names_without (λ p. slice_index_or c.deref-5.result.now p false)) c.deref-4.result.now) (λ lists. ArePure c.args.bundle.now lists)
    (λ lists e. are_pure c.args.bundle.now c.in_ok-calls.calls c.deref-2.result.now c.deref-3.result.now _ c.in_ok-spoiled.spoiled.items c.deref-5.result.now c.deref-4.result.now lists c.in_ok-calls.ensures c.deref-2.ensures.value c.deref-3.ensures.value
    c.in_ok-spoiled.ensures c.deref-5.ensures.value (c.deref-4.ensures.value ∙ c.in_ok-known.ensures.known) e)
    c.pure_names.ensures
