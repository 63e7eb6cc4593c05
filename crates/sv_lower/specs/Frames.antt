-- Functions, but for the code of their bodies.
use Rattle.std.specs.Prelude.{List, [], map}
use Rattle.sv_ast.specs.declared.names.Named.{Named}
use Rattle.sv_ast.specs.declared.names.Ref.{Ref}
use Rattle.sv_base.specs.declared.span.Span.{Span}
use Rattle.sv_lower.specs.declared.frames.Frame.{Frame}
use Rattle.sv_names.specs.Locals.{name_of, locals_among}
use Rattle.sv_names.specs.Uses.{Parts, scope_of, free_in}

-- that of a function with some parameters, inside scopes of some locals
abbrev pub frame : Span → List Named → Parts → List Ref → Frame
frame span params parts locals = record {
  span = span;
  params = params;
  names = scope_of params parts;
  captured = locals_among locals (free_in params parts);
  declares = map name_of (scope_of [] parts);
}
