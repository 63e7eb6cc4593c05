-- An event whose texts are borrowed, but for its target.
use Rattle.std.specs.Prelude.{option_map}
use Rattle.sv_events.specs.declared.event.Event.{Event}
use Rattle.sv_events.specs.declared.event.Target.{Target}
use Rattle.sv_events.specs.declared.form.Shape.{Shape}

-- the event that it stands for with a target
abbrev pub event_in : Target → Shape → Event
event_in target shape =
    record { name = shape.name.now; target = target; value = option_map (λ t. t.now) shape.value; checked = shape.checked; key = option_map (λ t. t.now) shape.key }
