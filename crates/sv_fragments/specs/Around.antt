-- What the code of a component's markup is handed.
use Rattle.sv_fragments.specs.declared.around.Around.{Around as Handed}
use Rattle.sv_fragments.specs.declared.tags.Form.{Form as TagForm}
use Rattle.sv_fragments.specs.declared.tags.Form.TheVariants as form
use Rattle.sv_fragments.specs.Builds.{Around}
use Rattle.sv_fragments.specs.Tags.{Form, Element, Component, Slot}

-- the component that it stands for
abbrev pub seen : Handed → Around
seen a = record { tops = a.tops.now; cells = a.cells.now; children = a.children.now }

-- the form of a tag
abbrev pub form_of : TagForm → Form
form_of (form.Element name) = Element name.now
form_of (form.Component name) = Component name
form_of (form.Slot name) = Slot name.now
