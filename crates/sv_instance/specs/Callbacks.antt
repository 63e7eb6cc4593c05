-- Callbacks by when they run.
use Rattle.std.specs.Prelude.{List, [], ◌∷◌, ◌++◌}
use Rattle.sv_value.specs.Value.{Val}
use Rattle.sv_instance.specs.CallbackLists.{Callbacks}
use Rattle.sv_instance.specs.declared.callbacks.When.{When}
use Rattle.sv_instance.specs.declared.callbacks.When.TheVariants.{Mount, Before, After, Destroy, Returned}

abbrev pub no_callbacks : Callbacks
no_callbacks = record { mount = []; before = []; after = []; destroy = []; returned = [] }

abbrev pub callbacks_at : Callbacks → When → List Val
callbacks_at c Mount = c.mount
callbacks_at c Before = c.before
callbacks_at c After = c.after
callbacks_at c Destroy = c.destroy
callbacks_at c Returned = c.returned

-- one more callback, behind the others of its list
abbrev pub with_callback : When → Val → Callbacks → Callbacks
with_callback Mount v c = record c { mount = c.mount ++ v ∷ [] }
with_callback Before v c = record c { before = c.before ++ v ∷ [] }
with_callback After v c = record c { after = c.after ++ v ∷ [] }
with_callback Destroy v c = record c { destroy = c.destroy ++ v ∷ [] }
with_callback Returned v c = record c { returned = c.returned ++ v ∷ [] }
