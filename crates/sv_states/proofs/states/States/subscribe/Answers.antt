use Rattle.sv_value.specs.View.{view_of}
use Rattle.sv_store.specs.Kept.{subscriber_of}
use Rattle.sv_states.specs.Change.{subscribed_to}
use Rattle.sv_states.specs.Board.{seen_as}
use Rattle.sv_states.proofs.Keeping.{kept-result}
use Rattle.sv_states.proofs.Making.{tally-subscribed}
use Rattle.sv_states.proofs.Naming.{sound-subscribed}
use Rattle.sv_states.proofs.states.States.subscribe.Goals as goal

pub invariant_of-self : goal.invariant_of-self
invariant_of-self c =
    let s = seen_as c.self.inside.board in
    let p = subscriber_of c.args.at in
    let v = view_of c.args.value.now in
    kept-result c.subscribe.result c.self.inside.board c.subscribe.new.self (subscribed_to s p c.args.source v) c.self.invariant c.subscribe.ensures.ok c.subscribe.ensures.ready c.subscribe.ensures.err (sound-subscribed s p c.args.source v c.self.invariant.sound) (tally-subscribed s p c.args.source v)
