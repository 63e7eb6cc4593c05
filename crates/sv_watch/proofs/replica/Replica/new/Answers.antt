use Rattle.std.proofs.Common.{subst, sym}
use Rattle.sv_tokens.specs.Seen.{IsNumbered}
use Rattle.sv_watch.proofs.Numbered.{numbered-blank}
use Rattle.sv_watch.proofs.replica.Replica.new.Goals as goal

pub invariant_of-result : goal.invariant_of-result
invariant_of-result c = subst (λ v. IsNumbered v.tokens v.next) (sym c.in_ok-page.ensures) numbered-blank
