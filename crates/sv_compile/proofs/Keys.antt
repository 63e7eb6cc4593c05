-- Each list in a compiled program looks at what the key of its rows looks at.
use Rattle.std.proofs.Common.{ℕ, List, [], ◌∷◌}
use Rattle.sv_ast.specs.declared.files.Bundle.{Bundle}
use Rattle.sv_ast.specs.declared.files.FileTree.{FileTree}
use Rattle.sv_ast.specs.declared.files.FileTree.TheVariants as tree
use Rattle.sv_ast.specs.declared.files.SourceFile.{SourceFile}
use Rattle.sv_check.specs.declared.checked.CheckedComponent.{CheckedComponent}
use Rattle.sv_code.specs.declared.program.FileCode.{FileCode}
use Rattle.sv_code.specs.declared.program.ProgramFile.{ProgramFile}
use Rattle.sv_code.specs.Names.{Each}
use Rattle.sv_fragments.specs.declared.around.Tables.{Tables}
use Rattle.sv_lower.specs.Lower.{of_stmts}
use Rattle.sv_within.proofs.Lists.{fragments_see}
use Rattle.sv_within.specs.Keys.{AreTagKeysSeen, AreFileKeysSeen, AreAllKeysSeen}
use Rattle.sv_compile.specs.Compile.{around, component, module_code, tree_code, file, files_code, first_tables, program}
use Rattle.sv_compile.specs.Constants.{givens}
use Rattle.sv_compile.specs.TopLevel.{tops}

-- in the code of a file it is so, and in the tags then
record IsFileSeen (made : FileCode × Tables) : Type 0 where
  file : AreFileKeysSeen made.0
  tags : AreTagKeysSeen made.1.tags

-- so it is in that of some files
record AreFilesSeen (made : List ProgramFile × Tables) : Type 0 where
  files : Each (λ f. AreFileKeysSeen f.code) made.0
  tags : AreTagKeysSeen made.1.tags

tree_seen : (bundle : Bundle) (t : FileTree) (told : CheckedComponent) (before : Tables) → AreTagKeysSeen before.tags → IsFileSeen (tree_code bundle t told before)
unfolding component module_code
tree_seen bundle (tree.Component c) told before seen =
    let stmts = c.script.stmts in
    let top = tops bundle.names told.scopes.cells (givens bundle.names bundle.files stmts) in
    let own = fragments_see (around bundle.files stmts told top) c.nodes [] (record before { functions = (of_stmts stmts top [] before.functions).1 }) seen in
    record { file = own.heads; tags = own.tags }
tree_seen bundle (tree.Module m) told before seen = record { file = tt; tags = seen }

files_seen : (bundle : Bundle) (sources : List SourceFile) (told : List CheckedComponent) (before : Tables) → AreTagKeysSeen before.tags → AreFilesSeen (files_code bundle sources told before)
files_seen bundle [] told before seen = record { files = tt; tags = seen }
files_seen bundle (s ∷ sources) [] before seen = record { files = tt; tags = seen }
files_seen bundle (s ∷ sources) (t ∷ told) before seen =
    let own = tree_seen bundle s.tree t before seen in
    let rest = files_seen bundle sources told (file bundle s t before).1 own.tags in
    record { files = (own.file, rest.files); tags = rest.tags }

pub keys_seen : (bundle : Bundle) (told : List CheckedComponent) (modules : List ℕ) → AreAllKeysSeen (program bundle told modules)
keys_seen bundle told modules = let made = files_seen bundle bundle.files told first_tables tt in record { files = made.files; tags = made.tags }
