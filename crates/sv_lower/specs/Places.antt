-- Where a name stands in an expression that assigns it.
use Rattle.std.specs.Prelude.{ℕ, ◌+◌, ◌-◌, min, max, Bool, length, slice_get, if◌then◌else◌}
use Rattle.std.specs.Option.{option_map_or}
use Rattle.sv_ast.specs.declared.names.Ref.{Ref}
use Rattle.sv_ast.specs.declared.names.Ref.TheVariants.{Plain, Store}
use Rattle.sv_base.specs.Names.{Table}
use Rattle.sv_base.specs.declared.names.Name.{Name}
use Rattle.sv_base.specs.declared.span.Span.{Span}

abbrev pub text_len : Table → Name → ℕ
text_len names name = option_map_or length (slice_get names name.0) 0

-- how many bytes a name takes where it is used
abbrev pub width : Table → Ref → ℕ
width names (Plain name) = text_len names name
width names (Store name) = text_len names name + 1

-- so many bytes at the end of a span, or at its front
abbrev pub place : Bool → ℕ → Span → Span
place at_end count span = record span { from = if at_end then max span.from (span.to - count) else span.from; to = if at_end then span.to else min span.to (span.from + count) }
