use Rattle.std.proofs.Common.{◌≡◌, ◌∙◌, ◌<◌, ℕ, zero, suc, List, [], ◌∷◌, ap, refl, length, map, take, drop, get_or, slice_set, arith}
use Rattle.std.proofs.lemmas.List.{length-map, length-append, length-take, length-drop}
use Rattle.std.proofs.lemmas.List.Edits.{map_over_more}
use Rattle.sv_instance.specs.Subscriptions.{placed}
use Rattle.sv_instance.proofs.subscriptions.move_in.Goals as goal

get_or-either : {A : Type 0} (xs : List A) (i : ℕ) (d e : A) → i < length xs → get_or xs i d ≡ get_or xs i e
get_or-either [] i d e h = absurd (omega arith)
get_or-either (x ∷ xs) zero d e h = refl
get_or-either (x ∷ xs) (suc i) d e h = get_or-either xs i d e (omega arith)

pub loop-index-preserved : goal.loop-index-preserved
loop-index-preserved c =
    let now = c.loop-index.list in
    let at = c.loop-index.index in
    let inside : at < length now = omega arith in
    let f = placed c.args.cell c.args.store in
    let old = c.args.list.now in
    let long : at < length old = omega (arith, inside, ap length c.loop-index.invariant, length-append (map f (take at old)) (drop at old), length-map (take at old) f, length-take at old, length-drop at old) in
    ap (slice_set now at) c.place.ensures ∙ map_over_more f old now at _ long c.loop-index.invariant (get_or-either now at _ _ inside)
