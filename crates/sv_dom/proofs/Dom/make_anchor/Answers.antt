use Rattle.sv_tokens.specs.Token.{name_at}
use Rattle.sv_dom.specs.Dom.{key_in}
use Rattle.sv_dom.proofs.NodeKinds.{seen-anchor}
use Rattle.sv_dom.proofs.Dom.make_anchor.Goals as goal

pub returns-clause-seen : goal.returns-clause-seen
returns-clause-seen c =
    seen-anchor c.args.self.now c.make.new.self c.args.parent.0 (key_in c.args.before) c.in_ok-made.made.node.0 (name_at c.args.parent.0 c.args.self.now.tokens) c.in_ok-made.ensures.made.tokens c.in_ok-made.ensures.next
