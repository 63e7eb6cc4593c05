use Rattle.std.proofs.Common.{◌++◌, ◌∷◌, [], ap, sym, ◌∙◌, refl, append_assoc}
use Rattle.sv_live.specs.Known.{known}
use Rattle.sv_live.specs.Shown.{name_of}
use Rattle.sv_commit.proofs.Asking.{gone-known}
use Rattle.sv_commit.proofs.Standing.{one-within, one-gone}
use Rattle.sv_commit.proofs.begin.drop_gone.Goals as goal

pub put_away-requires : goal.put_away-requires
put_away-requires c =
    let left = c.next_left.new.self.left in
    let l = c.in-Some.live in
    let list = ap (λ z. z ++ c.loop-live.walk.rest) c.in-Some.ensures.some ∙ (append_assoc left (l ∷ []) c.loop-live.walk.rest ∙ ap (λ z. left ++ l ∷ z) (sym c.in-Some.ensures.rest)) in
    one-within c.args.screen.now c.loop-live.screen (name_of c.args.spot.above) c.args.spot.end (c.args.walk.now.left ++ c.args.walk.now.rest) (c.loop-live.walk.left ++ c.loop-live.walk.rest) left c.next_left.new.self.rest l list c.loop-live.invariant.becomes c.requires

pub loop-live-preserved : goal.loop-live-preserved
loop-live-preserved c =
    let left = c.next_left.new.self.left in
    let l = c.in-Some.live in
    let list = ap (λ z. z ++ c.loop-live.walk.rest) c.in-Some.ensures.some ∙ (append_assoc left (l ∷ []) c.loop-live.walk.rest ∙ ap (λ z. left ++ l ∷ z) (sym c.in-Some.ensures.rest)) in
    record {
      becomes =
          one-gone c.args.screen.now c.loop-live.screen (name_of c.args.spot.above) c.args.spot.end (c.args.walk.now.left ++ c.args.walk.now.rest) (c.loop-live.walk.left ++ c.loop-live.walk.rest) left c.next_left.new.self.rest l list
          c.loop-live.invariant.becomes c.put_away.new.screen (left ++ c.next_left.new.self.rest) refl c.in_ok-put_away.ensures;
      known = λ n asked. (
          sym (gone-known n c.number.result left c.next_left.new.self.rest l c.args.asked.now c.number.ensures asked (sym c.if-stays.false ∙ c.stays.ensures))
          ∙ (sym (ap (known n) (list ∙ sym (append_assoc left (l ∷ []) c.next_left.new.self.rest))) ∙ c.loop-live.invariant.known n asked));
      placed = c.in-Some.ensures.placed ∙ c.loop-live.invariant.placed;
    }
