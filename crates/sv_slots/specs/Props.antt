-- Attributes of components' tags that are no props of the component.
use Rattle.std.specs.Prelude.{List, []}
use Rattle.std.specs.List.{flat_map}
use Rattle.sv_ast.specs.declared.names.Ref.TheVariants.{Plain}
use Rattle.sv_base.specs.declared.span.Span.{Span}
use Rattle.sv_names.specs.Distinct.{has}
use Rattle.sv_sites.specs.declared.site.Site.{Site}
use Rattle.sv_sites.specs.declared.site.Site.TheVariants as site
use Rattle.sv_slots.specs.declared.sheets.Sheet.{Sheet}
use Rattle.sv_slots.specs.Sheets.{unless_right, child_props}

abbrev pub wrong_prop : List Sheet → Sheet → Site → List Span
wrong_prop all own (site.Prop of name at) = unless_right (has (Plain name) (child_props all own of)) at
wrong_prop all own _ = []

-- at each plain attribute of a component's tag whose name the component doesn't export
abbrev pub unknown_props : List Sheet → Sheet → List Span
unknown_props all own = flat_map (wrong_prop all own) own.sites
