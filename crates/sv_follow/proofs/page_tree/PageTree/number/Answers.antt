use Rattle.std.proofs.Common.{subst}
use Rattle.sv_tokens.specs.Seen.{seen, IsNumbered}
use Rattle.sv_tokens.specs.Token.{Page}
use Rattle.sv_follow.proofs.Numbering.{numbered-page}
use Rattle.sv_follow.proofs.page_tree.PageTree.number.Goals as goal

pub invariant_of-self : goal.invariant_of-self
invariant_of-self c =
    numbered-page c.self.inside.screen.page c.number.new.self.page c.self.inside.lives c.number.ensures.tokens c.number.ensures.next
    (subst (λ (page : Page). IsNumbered (seen page.tokens) page.next) c.page.ensures c.page-2.ensures.numbered) c.self.invariant
