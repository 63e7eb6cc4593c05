use Rattle.std.proofs.Common.{◌≤◌, subst}
use Rattle.sv_tokens.specs.Counting.{times}
use Rattle.sv_tokens.specs.Token.{begins}
use Rattle.sv_live.specs.Stands.{State}
use Rattle.sv_commit.proofs.screen.Screen.has_keys.Goals as goal

pub returns : goal.returns
returns c = λ key. subst (λ (s : State). times (begins key) s.page.tokens ≤ 1) c.self.view_is (c.page.ensures.once key)
