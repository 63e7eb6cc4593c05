-- The generated program: a component whose size is a number, and the events that come to it.
use Rattle.std.specs.Prelude.{ℕ, List, [], ◌∷◌, ◌++◌, None, codes, decimal}
use Rattle.std.proofs.Math.ListN.{replicate}
use Rattle.sv_events.specs.declared.event.Event.{Event}
use Rattle.sv_events.specs.declared.event.Target.TheVariants.{Id}
use Rattle.sv_io.specs.Files.{Files}
use Rattle.sv_run.specs.declared.generate.TheConstants.{ROOT, HEAD, MIDDLE, TAIL}

-- the name of its one file
abbrev pub root_name : List ℕ
root_name = ROOT.now

-- the text of the component, in which the number stands twice
unfoldable pub component_text : ℕ → List ℕ
component_text count = HEAD.now ++ (decimal count ++ (MIDDLE.now ++ (decimal count ++ TAIL.now)))

-- its files
abbrev pub generated : ℕ → Files
generated count = (root_name, component_text count) ∷ []

-- a click on its button
abbrev pub click : Event
click = record { name = codes "click"; target = Id (codes "s"); value = None; checked = None; key = None }

-- as many clicks as its number says
abbrev pub clicks : ℕ → List Event
clicks count = replicate count click
