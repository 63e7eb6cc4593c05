use Rattle.std.proofs.Common.{List, ap, sym, subst, ◌∙◌, rules}
use Rattle.std.specs.Prelude.{slice_get}
use Rattle.sv_ast.specs.declared.files.SourceFile.{SourceFile}
use Rattle.sv_code.specs.Compiled.{IsCompiled}
use Rattle.sv_compile.specs.Modules.{AreModules}
use Rattle.sv_within.specs.Keys.{AreAllKeysSeen}
use Rattle.sv_compile.proofs.Compiled.{program_is_compiled}
use Rattle.sv_compile.proofs.Keys.{keys_seen}
use Rattle.sv_compile.proofs.program.compile.Goals as goal

pub compile_files-requires-clause-each : goal.compile_files-requires-clause-each
compile_files-requires-clause-each c =
    λ n source told there given. c.requires.checked.each n source told (ap (λ l. slice_get l n) (sym c.as_slice-sources.ensures) ∙ there) (ap (λ l. slice_get l n) (sym c.as_slice.ensures) ∙ given)

pub returns-clause-compiled : goal.returns-clause-compiled
returns-clause-compiled c =
    subst IsCompiled (sym (search rules))
    (program_is_compiled _ _ c.in_ok-modules.modules c.requires.checked c.requires.lines (subst (λ (files : List SourceFile). AreModules files c.in_ok-modules.modules) c.as_slice-sources.ensures c.in_ok-modules.ensures))

pub returns-clause-keys : goal.returns-clause-keys
returns-clause-keys c = subst AreAllKeysSeen (sym (search rules)) (keys_seen c.args.checked.now.bundle.now c.args.checked.now.components c.in_ok-modules.modules)
