use Rattle.sv_ast.specs.Files.{statements_of}
use Rattle.sv_check.specs.Files.{cells_of}
use Rattle.sv_compile.proofs.Order.{numbers_below}
use Rattle.sv_compile.proofs.program.compile_file.Goals as goal

pub compile_tree-requires-clause-below : goal.compile_tree-requires-clause-below
compile_tree-requires-clause-below c = numbers_below (cells_of c.args.source.now.tree) (statements_of c.args.source.now.tree) c.args.told.now.order.items c.requires.once
