-- Names that one of two lists has.
use Rattle.std.proofs.Common.{◌≡◌, List, ◌++◌}
use Rattle.std.specs.Prelude.{◌||◌}
use Rattle.sv_ast.specs.declared.names.Ref.{Ref}
use Rattle.sv_names.specs.Distinct.{has}
use Rattle.sv_names.proofs.Same.{has-append}

pub has_append : (name : Ref) (xs ys : List Ref) → has name (xs ++ ys) ≡ (has name xs || has name ys)
has_append name xs ys = has-append name xs ys
