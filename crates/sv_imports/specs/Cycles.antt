-- Files that import one another in a cycle: an import is part of one where the file that it names leads back, by any number of
-- imports, to the file that it stands in. A file that imports itself is one.
use Rattle.std.specs.Prelude.{◌≡◌, ℕ, suc, ◌<◌, Bool, true, false, List, [], ◌∷◌, Option, None, Some, map, filter, length}
use Rattle.sv_ast.specs.declared.files.SourceFile.{SourceFile}
use Rattle.sv_ast.specs.declared.script_tree.Stmt.{Stmt}
use Rattle.sv_base.specs.declared.span.Span.{Span}
use Rattle.sv_graph.specs.Links.{links_of}
use Rattle.sv_graph.specs.Reached.{Leads}
use Rattle.sv_ast.specs.Files.{statements_of}
use Rattle.sv_imports.specs.Imports.{target, imports}

-- a file is another, or leads to it by imports
abbrev pub LeadsTo : List SourceFile → ℕ → ℕ → Type 0
LeadsTo files p q = Leads (links_of (imports files)) (p ∷ []) q

-- a test that tells of each two files whether the first leads to the second
pub record TellsLeads (files : List SourceFile) (leads : ℕ → ℕ → Bool) : Type 0 where
  pub only : (p q : ℕ) → p < length files → leads p q ≡ true → LeadsTo files p q
  pub each : (p q : ℕ) → p < length files → LeadsTo files p q → leads p q ≡ true

abbrev pub leads_back : (ℕ → ℕ → Bool) → ℕ → Option ℕ → Bool
leads_back leads file None = false
leads_back leads file (Some imported) = leads imported file

-- whether a statement of a file imports one that leads back to it
abbrev pub closes : (ℕ → ℕ → Bool) → List SourceFile → ℕ → Stmt → Bool
closes leads files file s = leads_back leads file (target files s)

-- at each such statement of a file
abbrev pub cycles_in : (ℕ → ℕ → Bool) → List SourceFile → ℕ → SourceFile → List Span
cycles_in leads files file source = map (λ s. s.span) (filter (closes leads files file) (statements_of source.tree))

-- the same for each of some files, of which the first has a number
abbrev pub cycles_from : (ℕ → ℕ → Bool) → List SourceFile → ℕ → List SourceFile → List (List Span)
cycles_from leads files file [] = []
cycles_from leads files file (source ∷ more) = cycles_in leads files file source ∷ cycles_from leads files (suc file) more

-- for each file the places of its imports that are part of a cycle
pub record AreCycles (files : List SourceFile) (places : List (List Span)) : Type 0 where
  pub leads : ℕ → ℕ → Bool
  pub tells : TellsLeads files leads
  pub are : places ≡ cycles_from leads files 0 files
