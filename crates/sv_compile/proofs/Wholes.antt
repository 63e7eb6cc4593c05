-- A component from its parts.
use Rattle.std.proofs.Common.{◌≡◌, List, [], subst}
use Rattle.std.specs.Prelude.{Result}
use Rattle.sv_ast.specs.declared.files.Bundle.{Bundle}
use Rattle.sv_ast.specs.declared.files.Component.{Component}
use Rattle.sv_check.specs.declared.checked.CheckedComponent.{CheckedComponent}
use Rattle.sv_code.specs.declared.program.Component.{Component as CodeComponent}
use Rattle.sv_compile.specs.declared.constants.Given.{Given}
use Rattle.sv_compile.specs.declared.files.Sheet.{Sheet}
use Rattle.sv_compile.specs.Compile.{component}
use Rattle.sv_compile.specs.Constants.{givens}
use Rattle.sv_compile.specs.Holders.{holders}
use Rattle.sv_compile.specs.Sheet as sheets
use Rattle.sv_compile.specs.TopLevel.{tops}
use Rattle.sv_fragments.specs.declared.around.Tables.{Tables}
use Rattle.sv_lower.specs.Does.{Makes}
use Rattle.sv_lower.specs.Tops.{Tops}
use Rattle.sv_names.specs.NameMap.{Entries}
use Rattle.sv_slots.specs.Children.{tag_files}

pub component_from_parts : {E : Type 0} (bundle : Bundle) (c : Component) (told : CheckedComponent) (before after : Tables) (result : Result CodeComponent E) (given all : List Given) (top : Tops) (sheet : Sheet) (children : Entries)
    → given ≡ givens bundle.names bundle.files c.script.stmts → top ≡ tops bundle.names told.scopes.cells given → all ≡ holders bundle.names top given c → sheet ≡ sheets.sheet top all c.script.stmts told → children ≡ tag_files bundle.files c.script.stmts
    → Makes result (sheets.parts c sheet (record { tops = top; cells = told.scopes.cells; children = children }) [] before) after → Makes result (component bundle c told before) after
unfolding component
component_from_parts bundle c told before after result given all top sheet children is_given is_top is_all is_sheet is_children made =
    let stmts = c.script.stmts in
    let cells = told.scopes.cells in
    let files = tag_files bundle.files stmts in
    subst (λ x. Makes result (sheets.parts c (sheets.sheet (tops bundle.names cells x) (holders bundle.names (tops bundle.names cells x) x c) stmts told) (record { tops = tops bundle.names cells x; cells = cells; children = files }) [] before) after) is_given
    (subst (λ x. Makes result (sheets.parts c (sheets.sheet x (holders bundle.names x given c) stmts told) (record { tops = x; cells = cells; children = files }) [] before) after) is_top
    (subst (λ x. Makes result (sheets.parts c (sheets.sheet top x stmts told) (record { tops = top; cells = cells; children = files }) [] before) after) is_all
    (subst (λ x. Makes result (sheets.parts c x (record { tops = top; cells = cells; children = files }) [] before) after) is_sheet
    (subst (λ x. Makes result (sheets.parts c sheet (record { tops = top; cells = cells; children = x }) [] before) after) is_children made))))
