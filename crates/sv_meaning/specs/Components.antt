-- Components by number, and what their tags name.
use Rattle.std.specs.Prelude.{ℕ, List, [], Option, Some, None, slice_get}
use Rattle.std.specs.Option.{option_and_then}
use Rattle.sv_code.specs.declared.code.Code.{Code}
use Rattle.sv_code.specs.declared.code.CodeKind.{CodeKind-F, out-CodeKind}
use Rattle.sv_code.specs.declared.fragments.Frag.{Frag}
use Rattle.sv_code.specs.declared.known.Known.{Known}
use Rattle.sv_code.specs.declared.program.Component.{Component}
use Rattle.sv_code.specs.declared.program.FileCode.{FileCode}
use Rattle.sv_code.specs.declared.program.FileCode.TheVariants as code
use Rattle.sv_code.specs.declared.program.Program.{Program}
use Rattle.sv_instance.specs.declared.instance.Instance.{Instance}
use Rattle.sv_states.specs.States.{live}
use Rattle.sv_world.specs.declared.world.World.{World}

abbrev pub component_in : FileCode → Option Component
component_in (code.Component c) = Some c
component_in (code.Module m) = None

-- the component of a file, if it is one
abbrev pub component_at : Program → ℕ → Option Component
component_at p file = option_and_then (λ f. component_in f.code) (slice_get p.files file)

abbrev pub component_for : Program → Option Instance → Option Component
component_for p None = None
component_for p (Some i) = component_at p i.place.component

-- the component of an instance, if it is live
abbrev pub component_of : Program → World → ℕ → Option Component
component_of p w n = component_for p (live w.states n)

-- the markup of a component, or none
abbrev pub markup_of : Option Component → List Frag
markup_of None = []
markup_of (Some c) = c.markup

-- ---- names

-- what code reads that is a name alone
abbrev pub read_by : {A B C D E : Type 0} → CodeKind-F A B C D E → Option Known
read_by (CodeKind-F.Read known) = Some known
read_by _ = None

-- the variable that an expression is
abbrev pub variable_of : Code → Option Known
variable_of c = read_by (out-CodeKind c.kind)
