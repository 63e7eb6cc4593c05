-- `bind:` of what is no cell, at an element where it may not stand, or of what is no prop of a component.
use Rattle.std.specs.Prelude.{Bool, false, not, ◌&&◌, List, [], Option, None, Some}
use Rattle.std.specs.List.{flat_map}
use Rattle.sv_ast.specs.declared.names.Ref.{Ref}
use Rattle.sv_ast.specs.declared.names.Ref.TheVariants.{Plain, Store}
use Rattle.sv_base.specs.declared.span.Span.{Span}
use Rattle.sv_names.specs.Distinct.{same_ref, has}
use Rattle.sv_scopes.specs.declared.scope.TheConstants.{VIEW}
use Rattle.sv_sites.specs.declared.site.Site.{Site}
use Rattle.sv_sites.specs.declared.site.Site.TheVariants as site
use Rattle.sv_slots.specs.declared.sheets.Sheet.{Sheet}
use Rattle.sv_slots.specs.Sheets.{unless_right, child_props}

-- whether a name of the top level is that of a cell, where the variables are these: `$x` is one wherever it stands, but the owner's view
-- is none
abbrev pub is_cell : List Ref → Ref → Bool
is_cell variables (Plain name) = has (Plain name) variables
is_cell variables (Store name) = not (same_ref (Store name) VIEW)

abbrev pub binds_cell : List Ref → Option Ref → Bool
binds_cell variables None = false
binds_cell variables (Some name) = is_cell variables name

abbrev pub wrong_bind : List Ref → List Sheet → Sheet → Site → List Span
wrong_bind variables all own (site.Bind fits target at) = unless_right (fits && binds_cell variables target) at
wrong_bind variables all own (site.PropBind of name target at) = unless_right (has (Plain name) (child_props all own of) && binds_cell variables target) at
wrong_bind variables all own _ = []

-- at each `bind:` whose target is no cell, or that doesn't fit its element or the props of its component
abbrev pub bad_binds : List Ref → List Sheet → Sheet → List Span
bad_binds variables all own = flat_map (wrong_bind variables all own) own.sites
