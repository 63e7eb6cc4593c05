-- How wide names are, and where they stand.
use Rattle.std.specs.Prelude.{ℕ, ◌+◌, ◌-◌, min, length, slice_get}
use Rattle.std.specs.Option.{option_map_or}
use Rattle.sv_ast.specs.declared.names.Ref.{Ref}
use Rattle.sv_ast.specs.declared.names.Ref.TheVariants.{Plain, Store}
use Rattle.sv_base.specs.Names.{Table}
use Rattle.sv_base.specs.declared.names.Name.{Name}
use Rattle.sv_base.specs.declared.span.Span.{Span}
use Rattle.sv_scopes.specs.declared.scope.Declared.{Declared}
use Rattle.sv_scopes.specs.declared.scope.Form.{Form}
use Rattle.sv_scopes.specs.declared.scope.Form.TheVariants.{BumpedBefore}
use Rattle.sv_scopes.specs.declared.scope.Use.{Use}

-- how many bytes a name of a table has
abbrev pub text_len : Table → Name → ℕ
text_len names name = option_map_or length (slice_get names name.0) 0

-- how many bytes it takes where it is used
abbrev pub width : Table → Ref → ℕ
width names (Plain name) = text_len names name
width names (Store name) = text_len names name + 1

-- the front of a span, which ends below 2^32
abbrev pub front : ℕ → Span → Span
front count span = record span { to = min (span.from + count) 4294967295 }

-- the end of a span
abbrev pub end : ℕ → Span → Span
end count span = record span { from = span.to - count }

abbrev pub place_by : Form → ℕ → Span → Span
place_by BumpedBefore count span = end count span
place_by _ count span = front count span

-- where the name of a use stands: at the end of `++x` and `--x`, and else at the front
abbrev pub name_place : Table → Use → Span
name_place names u = place_by u.form (width names u.name) u.span

-- where a name that is declared stands: at the front of its declaration
abbrev pub declaration_place : Table → Declared → Span
declaration_place names d = front (text_len names d.name) d.span
