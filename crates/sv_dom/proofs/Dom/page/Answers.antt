use Rattle.std.proofs.Common.{◌≤◌, subst}
use Rattle.sv_tokens.specs.Counting.{times, Has}
use Rattle.sv_tokens.specs.Token.{Page, begins, opens}
use Rattle.sv_tokens.specs.Seen.{seen, IsNumbered}
use Rattle.sv_nodes.specs.Cells.{nodes_of}
use Rattle.sv_dom.proofs.NodeKinds.{page-stands}
use Rattle.sv_dom.proofs.Dom.page.Goals as goal

pub returns-clause-stands : goal.returns-clause-stands
returns-clause-stands c = subst (λ (z : Page). Has (opens 0) z.tokens) c.self.view_is (page-stands (nodes_of c.self.inside.nodes.slots) c.self.inside.next c.self.invariant.sound)

pub returns-clause-once : goal.returns-clause-once
returns-clause-once c = λ key. subst (λ (z : Page). times (begins key) z.tokens ≤ 1) c.self.view_is (c.self.invariant.sound.once key)

pub returns-clause-numbered : goal.returns-clause-numbered
returns-clause-numbered c = subst (λ (z : Page). IsNumbered (seen z.tokens) z.next) c.self.view_is c.self.invariant.numbered
