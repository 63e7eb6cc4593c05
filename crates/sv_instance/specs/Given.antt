-- Contexts as they are kept.
use Rattle.std.specs.Prelude.{List, map}
use Rattle.sv_value.specs.View.{view_of}
use Rattle.sv_value.specs.declared.key.Key.{Key}
use Rattle.sv_value.specs.declared.value.Value.{Value}
use Rattle.sv_instance.specs.Contexts.{Context}

abbrev pub contexts_of : List (Key × Value) → List Context
contexts_of list = map (λ e. record { key = e.0; value = view_of e.1 }) list
