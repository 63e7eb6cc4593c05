use Rattle.std.proofs.Common.{◌∙◌, ap, sym}
use Rattle.sv_watch.specs.Mirror.{mirrored}
use Rattle.sv_watch.proofs.Mirroring.{mirrored-more}
use Rattle.sv_watch.proofs.mirror.Mirror.hear.Goals as goal

pub invariant_of-self-in_default : goal.invariant_of-self-in_default
invariant_of-self-in_default c =
    mirrored-more c.self.inside.replica c.apply.new.self c.self.inside.heard.items c.args.change.now c.in_ok-copy.copy c.self.invariant c.in_default.ensures.ok c.in_ok-copy.ensures
    ∙ ap mirrored (sym c.in_ok-push.ensures.items)
