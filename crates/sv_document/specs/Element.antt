-- Elements without their children.
use Rattle.std.specs.Prelude.{ℕ, List, Option}
use Rattle.sv_document.specs.Listener.{Listener}
use Rattle.sv_tokens.specs.declared.element.Attribute.{Attribute}
use Rattle.sv_tokens.specs.declared.element.Typed.{Typed}

-- the number of the instance in whose shape it stands, its mark there, its name, the attributes that the page gives it, what a user left in it, and
-- who is told of events
pub record Element : Type 0 where
  pub inst : ℕ
  pub mark : ℕ
  pub name : List ℕ
  pub attributes : List Attribute
  pub typed : Option Typed
  pub listeners : List Listener
