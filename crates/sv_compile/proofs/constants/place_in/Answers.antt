use Rattle.std.proofs.Common.{◌≡◌, position, sym, ap, ◌∙◌}
use Rattle.sv_compile.specs.Constants.{same_name, all_constants, place_in}
use Rattle.sv_compile.proofs.constants.place_in.Goals as goal

pub returns-in_ok-names-in-Module : goal.returns-in_ok-names-in-Module
returns-in_ok-names-in-Module c =
    let list : c.as_slice-in-Module.result.now ≡ all_constants c.in-Module.module.script.stmts =
    c.as_slice-in-Module.ensures ∙ c.in_ok-names-in-Module.ensures ∙ ap all_constants c.as_slice.ensures in
    c.place_of.ensures ∙ ap (position (λ x. same_name x.name c.args.name)) list ∙ ap (λ t. place_in t c.args.name) (sym c.in-Module.is)
