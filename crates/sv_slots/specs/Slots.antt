-- Content of components' tags for slots that the component hasn't, or that were given content before in the same tag.
use Rattle.std.specs.Prelude.{not, ◌&&◌, List, []}
use Rattle.std.specs.List.{flat_map}
use Rattle.sv_base.specs.declared.span.Span.{Span}
use Rattle.sv_sites.specs.declared.site.Site.{Site}
use Rattle.sv_sites.specs.declared.site.Site.TheVariants as site
use Rattle.sv_sites.specs.Sites.{is_given}
use Rattle.sv_slots.specs.declared.sheets.Sheet.{Sheet}
use Rattle.sv_slots.specs.Sheets.{unless_right, child_slots}

abbrev pub wrong_slot : List Sheet → Sheet → Site → List Span
wrong_slot all own (site.Content of slot again at) = unless_right (not again && is_given (child_slots all own of) slot) at
wrong_slot all own _ = []

-- at the first node of content for a slot that the component hasn't, and of content for one that the tag has content for before
abbrev pub unknown_slots : List Sheet → Sheet → List Span
unknown_slots all own = flat_map (wrong_slot all own) own.sites
