use Rattle.std.proofs.Common.{subst}
use Rattle.sv_tokens.specs.Seen.{seen, IsNumbered}
use Rattle.sv_tokens.specs.Token.{Page}
use Rattle.sv_follow.proofs.Following.{followed}
use Rattle.sv_follow.proofs.page_tree.bring.Goals as goal

pub returns : goal.returns
returns c = λ nodes asked. (
    let shown = c.in_ok-now.ensures in
    followed c.args.screen.now c.forget.new.self c.show.new.screen c.args.lives c.in_ok-now.now c.args.wanted.now nodes c.forget.ensures shown.page shown.shown shown.kept shown.numbers shown.later shown.told
    (subst (λ (page : Page). IsNumbered (seen page.tokens) page.next) c.page.ensures c.page-2.ensures.numbered) asked)
