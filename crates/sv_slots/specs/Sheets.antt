-- What is known of each file for the markup of others: the props and slots that it has, the files that its tags stand for, and the sites
-- of its markup.
use Rattle.std.specs.Prelude.{ℕ, List, [], ◌∷◌, Bool, Option, None, Some, map, slice_get, if◌then◌else◌}
use Rattle.std.specs.List.{flat_map}
use Rattle.std.specs.Option.{option_map_or}
use Rattle.sv_ast.specs.declared.files.Bundle.{Bundle}
use Rattle.sv_ast.specs.declared.files.FileTree.{FileTree}
use Rattle.sv_ast.specs.declared.files.FileTree.TheVariants as tree
use Rattle.sv_ast.specs.declared.files.SourceFile.{SourceFile}
use Rattle.sv_ast.specs.declared.names.Ref.{Ref}
use Rattle.sv_ast.specs.declared.names.Ref.TheVariants.{Plain}
use Rattle.sv_ast.specs.declared.script_tree.Stmt.{Stmt}
use Rattle.sv_ast.specs.declared.script_tree.StmtKind.{StmtKind-F, out-StmtKind}
use Rattle.sv_base.specs.declared.names.Name.{Name}
use Rattle.sv_base.specs.declared.span.Span.{Span}
use Rattle.sv_base.specs.Names.{with_text}
use Rattle.sv_names.specs.Distinct.{firsts}
use Rattle.sv_imports.specs.Given.{decl_names}
use Rattle.sv_ast.specs.Files.{statements_of}
use Rattle.sv_imports.specs.Imports.{StmtLayer}
use Rattle.sv_sites.specs.declared.site.Site.{Site}
use Rattle.sv_sites.specs.declared.site.Site.TheVariants as site
use Rattle.sv_sites.specs.Sites.{component_sites}
use Rattle.sv_slots.specs.declared.sheets.Sheet.{Sheet}
use Rattle.sv_names.specs.NameMap.{number_of}
use Rattle.sv_slots.specs.Children.{tag_files}

-- ---- props: what a component declares by `export let` (Svelte 4 docs, 'export creates a component prop')

abbrev pub prop_layer : StmtLayer → List Ref
prop_layer (StmtKind-F.Export decls) = decl_names decls
prop_layer _ = []

abbrev pub prop_names : Stmt → List Ref
prop_names s = prop_layer (out-StmtKind s.kind)

abbrev pub all_props : List Stmt → List Ref
all_props stmts = flat_map prop_names stmts

abbrev pub props_of : FileTree → List Ref
props_of (tree.Component c) = firsts (all_props c.script.stmts)
props_of (tree.Module m) = []

-- ---- slots: the names of a component's `<slot>`s, each once

abbrev pub with_slot : List (List ℕ) → Site → List (List ℕ)
with_slot slots (site.Slot name) = with_text name slots
with_slot slots _ = slots

abbrev pub with_slots : List (List ℕ) → List Site → List (List ℕ)
with_slots slots [] = slots
with_slots slots (s ∷ more) = with_slots (with_slot slots s) more

-- ---- sheets

-- the sites of a file; a module has none
abbrev pub sites_of : List (List ℕ) → FileTree → List Site
sites_of table (tree.Component c) = component_sites table c
sites_of table (tree.Module m) = []

-- what is known of a file
abbrev pub sheet : List (List ℕ) → List SourceFile → SourceFile → Sheet
sheet table files source = record {
  props = props_of source.tree;
  slots = with_slots [] (sites_of table source.tree);
  children = tag_files files (statements_of source.tree);
  sites = sites_of table source.tree;
}

-- what is known of the files of a bundle
abbrev pub sheets : Bundle → List Sheet
sheets bundle = map (sheet bundle.names bundle.files) bundle.files

-- a place, unless what stands there is right
abbrev pub unless_right : Bool → Span → List Span
unless_right is_right at = if is_right then [] else at ∷ []

-- ---- what the component of a tag has: nothing where there is no such component

abbrev pub props_at : List Sheet → Option ℕ → List Ref
props_at all None = []
props_at all (Some file) = option_map_or (λ s. s.props) (slice_get all file) []

abbrev pub slots_at : List Sheet → Option ℕ → List (List ℕ)
slots_at all None = []
slots_at all (Some file) = option_map_or (λ s. s.slots) (slice_get all file) []

-- the props and slots of the component that a name stands for in a file
abbrev pub child_props : List Sheet → Sheet → Name → List Ref
child_props all own of = props_at all (number_of own.children (Plain of))

abbrev pub child_slots : List Sheet → Sheet → Name → List (List ℕ)
child_slots all own of = slots_at all (number_of own.children (Plain of))
