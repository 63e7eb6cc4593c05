use Rattle.std.proofs.Common.{◌≡◌, ◌++◌, map, drop}
use Rattle.sv_ast.specs.Files.{statements_of}
use Rattle.sv_effects.specs.Top.{top_of}
use Rattle.sv_effects.proofs.stains.tops_of.Given as goal

abbrev pub invariant-loop-source : goal.invariant-loop-source
invariant-loop-source l = map (λ source. top_of (statements_of source.tree)) l.files ≡ l.tops.items ++ map (λ source. top_of (statements_of source.tree)) (drop l.source-index l.files)
