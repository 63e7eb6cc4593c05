use Rattle.std.proofs.Common.{map}
use Rattle.sv_value.specs.View.{entry_of}
use Rattle.sv_value.proofs.Maps.{last-written, written-same}
use Rattle.sv_value.proofs.make.make_obj.Goals as goal

pub returns-in_err-ordered-clause-last_stays : goal.returns-in_err-ordered-clause-last_stays
returns-in_err-ordered-clause-last_stays c = last-written (map entry_of c.args.fields.items)

pub returns-in_err-ordered-clause-any_order : goal.returns-in_err-ordered-clause-any_order
returns-in_err-ordered-clause-any_order c ds same_last = written-same ds (map entry_of c.args.fields.items) same_last

pub returns-in_err-object-clause-last_stays : goal.returns-in_err-object-clause-last_stays
returns-in_err-object-clause-last_stays c = last-written (map entry_of c.args.fields.items)

pub returns-in_err-object-clause-any_order : goal.returns-in_err-object-clause-any_order
returns-in_err-object-clause-any_order c ds same_last = written-same ds (map entry_of c.args.fields.items) same_last

pub returns-clause-last_stays : goal.returns-clause-last_stays
returns-clause-last_stays c = last-written (map entry_of c.args.fields.items)

pub returns-clause-any_order : goal.returns-clause-any_order
returns-clause-any_order c ds same_last = written-same ds (map entry_of c.args.fields.items) same_last
