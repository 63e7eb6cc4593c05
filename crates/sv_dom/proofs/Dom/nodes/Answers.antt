use Rattle.std.proofs.Common.{ap, subst}
use Rattle.sv_tokens.specs.Token.{Page}
use Rattle.sv_nodes.specs.Sound.{IsSound}
use Rattle.sv_nodes.specs.Cells.{nodes_of}
use Rattle.sv_dom.proofs.Dom.nodes.Goals as goal

pub returns-clause-shows : goal.returns-clause-shows
returns-clause-shows c = ap (λ (z : Page). z.tokens) c.self.view_is

pub returns-clause-sound : goal.returns-clause-sound
returns-clause-sound c = subst (λ (z : Page). IsSound (nodes_of c.self.inside.nodes.slots) z.next) c.self.view_is c.self.invariant.sound
