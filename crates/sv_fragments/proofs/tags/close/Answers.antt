use Rattle.std.proofs.Common.{ap, ◌∙◌}
use Rattle.sv_names.specs.Locals.{names_of}
use Rattle.sv_fragments.specs.Around.{seen, form_of}
use Rattle.sv_fragments.specs.Tags.{own_lets, tag_of}
use Rattle.sv_fragments.proofs.Closing.{closed_component}
use Rattle.sv_fragments.proofs.tags.close.Goals as goal

pub returns-in_ok-tag-in-Component : goal.returns-in_ok-tag-in-Component
returns-in_ok-tag-in-Component c =
    let form = form_of c.args.opening.now.form in
    let around = seen c.args.around.now in
    let name = c.in-Component.name in
    closed_component c.add_tag.result form name c.args.opening.now.span (own_lets form c.args.opening.now.attrs.now) c.args.filled around (names_of c.args.locals.now) c.args.tables.now c.add_tag.new.tables c.in_ok-tag-in-Component.tag
    (ap form_of c.in-Component.is) (c.in_ok-tag-in-Component.ensures ∙ ap (λ l. tag_of around c.args.opening.now.span name l c.args.filled) c.in_ok-lets-in-Component.ensures)
    c.add_tag.ensures
