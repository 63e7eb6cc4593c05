-- How a mirror keeps a page.
use Rattle.std.specs.Prelude.{◌+◌}
use Rattle.sv_tokens.specs.Seen.{View}
use Rattle.sv_watch.specs.declared.page.Page.{Page}

-- the page that is kept so
abbrev pub view_in : Page → View
view_in page = record { tokens = page.pieces.items; next = page.last + 1 }
