use Rattle.std.proofs.Common.{sym, subst}
use Rattle.sv_instance.specs.Binds.{bound_of}
use Rattle.sv_states.specs.Parcels.{IsPacked}
use Rattle.sv_states.proofs.Keeping.{kept_bound, kept_tried}
use Rattle.sv_states.proofs.board.Board.bind_up.Goals as goal

pub deliver-requires-clause-kept : goal.deliver-requires-clause-kept
deliver-requires-clause-kept c = kept_bound c.args.self.now c.args.inst.number (bound_of c.args.bound) c.requires c.bind.new.self c.in_ok-bind-in-Some.ensures.ok

pub deliver-requires-clause-packed : goal.deliver-requires-clause-packed
deliver-requires-clause-packed c = subst (λ b. IsPacked b.stores b.clock c.in_ok-parcel-in-Some.parcel) (sym c.in_ok-bind-in-Some.ensures.ok) c.in_ok-parcel-in-Some.ensures.packed

pub returns-in-None-clause-kept : goal.returns-in-None-clause-kept
returns-in-None-clause-kept c = kept_tried c.bind-in-None.result c.args.self.now c.args.inst.number (bound_of c.args.bound) c.requires c.bind-in-None.new.self c.bind-in-None.ensures.ok c.bind-in-None.ensures.err
