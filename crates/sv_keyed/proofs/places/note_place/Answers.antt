use Rattle.std.proofs.Common.{ap, ◌∙◌, cond, Some}
use Rattle.std.specs.BTreeMap.{get, is_at}
use Rattle.sv_keyed.specs.Places.{key_order}
use Rattle.sv_keyed.proofs.Order.{is_at-same_key}
use Rattle.sv_keyed.proofs.places.note_place.Goals as goal

pub returns : goal.returns
returns c = λ k.
    let same = ap (λ q. is_at (key_order q) k) c.in_ok-share.ensures ∙ is_at-same_key c.args.key.now k in
    c.in_ok-insert.ensures.updates.0 k ∙ ap (λ b. cond b (Some c.args.place) (get key_order c.args.places.now k)) same
