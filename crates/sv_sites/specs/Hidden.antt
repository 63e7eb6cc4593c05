-- The names that the scopes round a part of markup hide.
use Rattle.std.specs.Prelude.{List, [], ◌++◌}
use Rattle.sv_ast.specs.declared.names.Ref.{Ref}
use Rattle.sv_sites.specs.declared.hidden.Hidden.{Hidden, Nothing, Inside'}

abbrev pub all_hidden : Hidden → List Ref
all_hidden Nothing = []
all_hidden (Inside' p outer names) = names.now ++ all_hidden outer
