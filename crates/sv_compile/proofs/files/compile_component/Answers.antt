use Rattle.std.proofs.Common.{rules}
use Rattle.sv_compile.proofs.Wholes.{component_from_parts}
use Rattle.sv_compile.proofs.files.compile_component.Goals as goal

pub returns : goal.returns
returns c =
    component_from_parts c.args.bundle.now c.args.c.now c.args.told.now c.args.tables.now c.compile_parts.new.tables c.compile_parts.result c.in_ok-given.given c.add_variables.new.given c.in_ok-tops.tops c.in_ok-sheet.sheet c.in_ok-children.children
    (search (rules)) (search (rules)) (search (rules)) (search (rules)) (search (rules)) (search (rules))
