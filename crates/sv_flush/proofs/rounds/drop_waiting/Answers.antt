use Rattle.std.proofs.Common.{◌∙◌, ap, map, rules}
use Rattle.std.proofs.lemmas.Fn.{filter_same}
use Rattle.sv_flush.specs.Rounds.{is_of_other}
use Rattle.sv_flush.specs.Waits.{waiting_of}
use Rattle.sv_store.proofs.Places.{filter-map}
use Rattle.sv_flush.proofs.rounds.drop_waiting.Goals as goal

pub returns : goal.returns
returns c =
    ap (map waiting_of) (filter_same _ (λ w. is_of_other c.args.number (waiting_of w)) _ (λ x b f' k. search rules) _ _ c.retain.ensures.filtered)
    ∙ filter-map waiting_of (is_of_other c.args.number) c.args.render.now.items
