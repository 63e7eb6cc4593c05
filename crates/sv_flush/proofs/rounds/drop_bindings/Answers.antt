use Rattle.std.proofs.Common.{◌∙◌, ap, map, rules}
use Rattle.std.proofs.lemmas.Fn.{filter_same}
use Rattle.sv_flush.specs.Rounds.{is_no_binding_of}
use Rattle.sv_flush.specs.Waits.{binding_of}
use Rattle.sv_store.proofs.Places.{filter-map}
use Rattle.sv_flush.proofs.rounds.drop_bindings.Goals as goal

pub returns : goal.returns
returns c =
    ap (map binding_of) (filter_same _ (λ b. is_no_binding_of c.args.number (binding_of b)) _ (λ x b f' k. search rules) _ _ c.retain.ensures.filtered)
    ∙ filter-map binding_of (is_no_binding_of c.args.number) c.args.bindings.now.items
