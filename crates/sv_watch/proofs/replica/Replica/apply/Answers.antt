use Rattle.sv_watch.specs.Page.{view_in}
use Rattle.sv_watch.proofs.Numbered.{numbered-kept}
use Rattle.sv_watch.proofs.replica.Replica.apply.Goals as goal

pub invariant_of-self : goal.invariant_of-self
invariant_of-self c = numbered-kept c.args.change.now (view_in c.self.inside.page) (view_in c.apply.new.page) c.apply.result c.apply.ensures.ok c.apply.ensures.err c.self.invariant
