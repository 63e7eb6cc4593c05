use Rattle.std.proofs.Common.{arith, rules, length-append, ◌+◌, ◌++◌, length, map, [], ◌∷◌, ap, sym, subst, ◌∙◌}
use Rattle.std.proofs.lemmas.List.{map-append, length-map}
use Rattle.sv_value.specs.View.{view_of}
use Rattle.sv_ops.proofs.Cutting.{CutSoFar, cut_more, cut_last}
use Rattle.sv_ops.proofs.texts.split.Goals as goal

pub loop-piece-preserved : goal.loop-piece-preserved
loop-piece-preserved c =
    let made = c.loop-piece.pieces.items in
    let more = ap (map view_of) c.in_ok-push.ensures.items ∙ map-append view_of made (c.in_ok-piece_of.field-0 ∷ []) ∙ ap (λ v. map view_of made ++ v ∷ []) c.in_ok-piece_of.ensures in (
      search rules,
      subst (λ m. CutSoFar c.args.between.now c.args.text.now m (c.loop-piece.bytes + length c.in-Some.piece.now) c.in-Some.behind.now) (sym more)
          (cut_more c.args.between.now c.args.text.now (map view_of made) c.loop-piece.bytes c.loop-piece.rest.now c.in-Some.piece.now c.in-Some.behind.now c.requires c.loop-piece.invariant.1 c.in-Some.ensures.cases),
    )

pub returns : goal.returns
returns c =
    let made = c.loop-piece.pieces.items in
    let more = ap (map view_of) c.in_ok-push-2.ensures.items ∙ map-append view_of made (c.in_ok-piece_of-2.field-0 ∷ []) ∙ ap (λ v. map view_of made ++ v ∷ []) c.in_ok-piece_of-2.ensures in
    let last = cut_last c.args.between.now c.args.text.now (map view_of made) c.loop-piece.bytes c.loop-piece.rest.now c.loop-piece.invariant.1 c.in_default.ensures.cases in
    record {
      pieces = (more ∙ last.0, last.1);
      few = omega (arith, c.loop-piece.invariant.1.room, length-map made view_of, ap length c.in_ok-push-2.ensures.items, length-append made (c.in_ok-piece_of-2.field-0 ∷ []));
    }
