-- What is so once a flush ended.
use Rattle.std.specs.Prelude.{◌≡◌, []}
use Rattle.sv_flush.specs.declared.page.Page.{Page}

-- nothing waits: nobody is queued, and no binding callback and no entry of the render queue is left
pub record IsSettled (m : Page) : Type 0 where
  pub queue : m.world.states.queue ≡ []
  pub bindings : m.rounds.bindings ≡ []
  pub render : m.rounds.render ≡ []
