-- Directives that events are told.
use Rattle.std.specs.Prelude.{ℕ, List}
use Rattle.sv_document.specs.declared.listener.Directive.{Directive}
use Rattle.sv_view.specs.Local.{Local}

-- the number of the instance in whose markup it is written, the directive, and the locals that are seen there
pub record Listener : Type 0 where
  pub inst : ℕ
  pub at : Directive
  pub locals : List Local
