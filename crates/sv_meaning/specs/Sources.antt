-- Where functions are written.
use Rattle.std.specs.Prelude.{ℕ, Option, Some, None, slice_get}
use Rattle.sv_base.specs.declared.span.Span.{Span}
use Rattle.sv_code.specs.declared.functions.Function.{Function}
use Rattle.sv_code.specs.declared.program.Program.{Program}
use Rattle.sv_value.specs.Value.{Val, function}

-- where a function is written; what a call by the page itself can't do stands there
abbrev pub source_at : Option Function → Span → Span
source_at None s = s
source_at (Some f) s = f.span

abbrev pub source : Program → ℕ → Span → Span
source p c s = source_at (slice_get p.functions c) s

-- where the source of a function stands; what is none stands at a place that is given
abbrev pub source_of : Program → Val → Span → Span
source_of p (function c o held) s = source p c s
source_of p _ s = s
