use Rattle.std.proofs.Common.{◌≡◌, Some, None, [], ◌∷◌, ◌++◌, rules}
use Rattle.sv_load.specs.Imports.{file_of}
use Rattle.sv_load.proofs.Named.{named-some, named-none}
use Rattle.sv_load.proofs.imports.named.Goals as goal
use Rattle.sv_load.proofs.imports.named.Goals.{in-Some+in_ok-new+in_ok-push, in_default}

pub loop-stmt-preserved : goal.loop-stmt-preserved
loop-stmt-preserved c = elim c.match-file_of.branch [
  | in-Some+in_ok-new+in_ok-push w ↦
      let is : file_of c.stmt-item.result ≡ Some w.in_ok-new.field-0 = search rules in
      let pushed : c.match-file_of.names ≡ c.loop-stmt.names ++ w.in_ok-new.field-0 ∷ [] = search rules in
      named-some c.args.stmts.now c.loop-stmt.stmt-index c.stmt-item.result w.in_ok-new.field-0 c.loop-stmt.names c.match-file_of.names c.loop-stmt-test.true c.stmt-item.is is c.loop-stmt.invariant pushed
  | in_default w ↦
      let is : file_of c.stmt-item.result ≡ None = search rules in
      named-none c.args.stmts.now c.loop-stmt.stmt-index c.stmt-item.result c.loop-stmt.names c.match-file_of.names c.loop-stmt-test.true c.stmt-item.is is c.loop-stmt.invariant w.names-is
]
