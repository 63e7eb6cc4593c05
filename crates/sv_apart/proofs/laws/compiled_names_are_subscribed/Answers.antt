use Rattle.sv_compile.specs.Compile.{program}
use Rattle.sv_apart.proofs.laws.compiled_names_are_subscribed.Goals as goal

pub returns : goal.returns
returns c = λ bundle told modules events clean checked. c.dollar_names_are_subscribed.ensures (program bundle told modules) events (c.compiled_programs_are_apart.ensures bundle told modules clean checked)
