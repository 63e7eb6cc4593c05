-- What a component has besides its code.
use Rattle.std.specs.Prelude.{List, length}
use Rattle.std.specs.List.{filter_map}
use Rattle.sv_ast.specs.declared.files.Component.{Component}
use Rattle.sv_ast.specs.declared.script_tree.Stmt.{Stmt}
use Rattle.sv_check.specs.declared.checked.CheckedComponent.{CheckedComponent}
use Rattle.sv_code.specs.declared.fragments.Frag.{Frag}
use Rattle.sv_code.specs.declared.functions.CodeStmt.{CodeStmt}
use Rattle.sv_code.specs.declared.program.Component.{Component as CodeComponent}
use Rattle.sv_compile.specs.declared.constants.Given.{Given}
use Rattle.sv_compile.specs.declared.files.Sheet.{Sheet}
use Rattle.sv_compile.specs.Constants.{all_constants}
use Rattle.sv_compile.specs.Runs.{reactives, runs}
use Rattle.sv_compile.specs.TopLevel.{cell_of, prop_of, reactive_cells, stores_from}
use Rattle.sv_fragments.specs.Builds.{Builds, lowered}
use Rattle.sv_fragments.specs.Frags.{fragments}
use Rattle.sv_lower.specs.Does.{of_two}
use Rattle.sv_lower.specs.Lower.{of_stmts}
use Rattle.sv_lower.specs.Tops.{Tops, known_in}
use Rattle.sv_scopes.specs.declared.scope.TheConstants.{VIEW}
use Rattle.sv_slots.specs.Sheets.{all_props}

-- by what names stand for, what may hold a store, the statements and what is told of them
abbrev pub sheet : Tops → List Given → List Stmt → CheckedComponent → Sheet
sheet top holders stmts told = record {
  cells = told.scopes.cells;
  props = filter_map (prop_of top) (all_props stmts);
  reactive = reactive_cells told.scopes.cells stmts;
  stores = stores_from holders 0 told.scopes.cells;
  view = cell_of (known_in top.known VIEW);
  constants = length (all_constants stmts);
  runs = runs told.scopes.cells (reactives stmts) told.order.items;
}

-- with its code it is a component
abbrev pub filled : Sheet → List CodeStmt → List Frag → CodeComponent
filled s script markup = record {
  cells = s.cells;
  props = s.props;
  reactive = s.reactive;
  stores = s.stores;
  view = s.view;
  constants = s.constants;
  runs = s.runs;
  script = script;
  markup = markup;
}

-- the code of its script, and then that of its markup
abbrev pub parts : Component → Sheet → Builds CodeComponent
parts c s = of_two (filled s) (lowered (of_stmts c.script.stmts)) (fragments c.nodes)
