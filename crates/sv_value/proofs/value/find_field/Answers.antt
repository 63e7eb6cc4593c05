use Rattle.std.proofs.Common.{rules}
use Rattle.std.proofs.lemmas.Fn.{always_returns_same}
use Rattle.sv_value.specs.Object.{key_order}
use Rattle.sv_value.proofs.Pairs.{Pair}
use Rattle.sv_value.proofs.Search.{field_searched}
use Rattle.sv_value.proofs.value.find_field.Goals as goal

pub returns : goal.returns
returns c =
    let facts = c.binary_search_by.ensures in
    let searched = facts.position (λ (pair : Pair). key_order pair.0 c.args.key.now) (always_returns_same _ _ _ (λ a r f called. (search rules, search rules))) in
    rw c.ok.ensures.value (field_searched c.args.pairs.now c.args.key.now c.binary_search_by.result c.requires facts.bound searched)
