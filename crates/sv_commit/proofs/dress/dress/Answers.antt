use Rattle.std.proofs.Common.{[]}
use Rattle.sv_commit.proofs.Dressing.{dressed-both, nothing-between}
use Rattle.sv_commit.proofs.dress.dress.Goals as goal

pub returns : goal.returns
returns c =
    dressed-both c.set_typed.result c.args.screen.now c.dress_attributes.new.screen c.set_typed.new.self c.args.named c.args.was.now c.args.now.now c.as_slice-old.result.now c.as_slice-new.result.now c.requires.name c.as_slice-old.ensures.list
    c.as_slice-new.ensures.list (c.in_ok-dress_attributes.ensures.dressed [] c.args.was.now.name c.args.was.now.typed (nothing-between _ _)) c.set_typed.ensures.tokens c.set_typed.ensures.next c.set_typed.ensures.tells
