use Rattle.std.proofs.Common.{None, fold, ap, ◌∙◌}
use Rattle.std.specs.List.{flat_map}
use Rattle.sv_resolve.specs.declared.refusals.CheckKind.TheVariants.{DeclaredTwice, AssignConst, CapturedAssign}
use Rattle.sv_resolve.specs.Earliest.{earlier}
use Rattle.sv_resolve.specs.Mistakes.{refused, declared_twice, constant_assigns, captured_assigns}
use Rattle.sv_resolve.proofs.Offers.{all_offered}
use Rattle.sv_resolve.proofs.calls.first_mistake.Goals as goal

pub returns : goal.returns
returns c =
    all_offered c.args.names.now c.args.file.now _ _ _ _ _ _
    (c.in_ok-find_twice.ensures ∙ ap (λ z. fold earlier None (refused DeclaredTwice (flat_map (declared_twice c.args.names.now) z))) c.as_slice-inside.ensures)
    c.in_ok-find_twice_in.ensures c.in_ok-find_unknown.ensures
    (c.in_ok-find_constants.ensures ∙ ap (λ z. fold earlier c.find_unknown.new.first (refused AssignConst (flat_map constant_assigns z))) c.as_slice-inside.ensures)
    c.in_ok-find_constants_in.ensures
    (c.in_ok-find_captured.ensures ∙ ap (λ z. fold earlier c.find_constants_in.new.first (refused CapturedAssign (flat_map captured_assigns z))) c.as_slice-inside.ensures)
