use Rattle.std.proofs.Common.{rules, ◌≡◌, ◌<◌, ◌-◌, ℕ, List, ◌++◌, length, ap, sym, subst, ◌∙◌}
use Rattle.sv_wire.specs.Stream.{behind, stands}
use Rattle.sv_wire.specs.Reader.{standing_in, WantsMore}
use Rattle.sv_wire.proofs.Steps.{wants-on, part-stands}
use Rattle.sv_wire.proofs.reader.feed_part.Goals as goal

pub returns-then-len-needs-clause-told : goal.returns-then-len-needs-clause-told
returns-then-len-needs-clause-told c =
    let held = c.args.held.now.bytes.items in
    let piece = c.args.piece.now in
    let e : c.extend_from_slice.new.self.items ≡ held ++ piece = search rules in
    let few : length c.extend_from_slice.new.self.items < c.args.needs = search rules in
    let less : length (held ++ piece) < c.args.needs = subst (λ (z : List ℕ). length z < c.args.needs) e few in
    ap (behind c.args.items.now.items)
    (part-stands c.args.part (held ++ piece) (c.args.needs - length (held ++ piece)) (wants-on c.args.part held piece c.args.needs c.requires less) ∙ ap (λ z. stands (standing_in c.args.part z)) (sym e))

pub returns-then-len-needs-clause-settled : goal.returns-then-len-needs-clause-settled
returns-then-len-needs-clause-settled c =
    let held = c.args.held.now.bytes.items in
    let piece = c.args.piece.now in
    let e : c.extend_from_slice.new.self.items ≡ held ++ piece = search rules in
    let few : length c.extend_from_slice.new.self.items < c.args.needs = search rules in
    let less : length (held ++ piece) < c.args.needs = subst (λ (z : List ℕ). length z < c.args.needs) e few in
    subst (λ (z : List ℕ). WantsMore c.args.part z (c.args.needs - length z)) (sym e) (wants-on c.args.part held piece c.args.needs c.requires less)
