use Rattle.std.proofs.Common.{rules, ◌≡◌, ◌+◌, ◌-◌, ◌++◌, ◌∷◌, [], sym, ap, ◌∙◌, arith}
use Rattle.std.specs.Option.{is_some}
use Rattle.sv_keyed.specs.declared.step.KeyStep.TheVariants.{Make, Shift}
use Rattle.sv_keyed.proofs.Times.{get_at, place_below}
use Rattle.sv_keyed.proofs.Repeats.{distinct_of, finds-absent, finds-at}
use Rattle.sv_keyed.proofs.Marking.{marked-set}
use Rattle.sv_keyed.proofs.Walking.{IsBehind, behind-end, behind-next, placing-start, placing-absent}
use Rattle.sv_keyed.proofs.Placed.{place_last, place_inside}
use Rattle.sv_keyed.proofs.arrange.place.Goals as goal
use Rattle.sv_keyed.proofs.arrange.place.Goals.{then-j-new, else-j-new}

pub loop-j-init : goal.loop-j-init
loop-j-init c = record {
  within_new = omega arith;
  within_old = omega arith;
  marked = record { at = λ k le lt. absurd (omega (arith, c.requires.marks)) };
  placing = λ once. placing-start _ _ _ _ once c.requires.dropped;
}

pub loop-j-preserved-in-Continue-branch-2 : goal.loop-j-preserved-in-Continue-branch-2
loop-j-preserved-in-Continue-branch-2 c =
    let j = c.loop-j.j - 1 in
    let e : c.loop-j.j ≡ j + 1 = omega arith in
    let key = c.index-new-j.result in
    let here = get_at c.args.new.now j key (omega (arith, c.loop-j.invariant.within_new)) c.index-new-j.is in
    let items : c.push.new.self.items ≡ c.loop-j.steps.items ++ Make j c.if-j-new.before ∷ [] = search rules in
    let behind : IsBehind j c.args.new.now c.if-j-new.before = elim c.if-j-new.branch [
      | then-j-new w ↦ rw w.before-is (behind-next j c.loop-j.j c.args.new.now e (omega (arith, w.if-j-new.true)))
      | else-j-new w ↦ rw w.before-is (behind-end j c.args.new.now (omega (arith, w.if-j-new.false)))
    ] in
    let absent = finds-absent _ _ _ key c.in_ok-in_old.ensures.finds (sym (ap is_some c.place_in.ensures) ∙ ap is_some c.in-None.is) in
    record {
      within_new = omega (arith, c.loop-j.invariant.within_new);
      within_old = omega (arith, c.loop-j.invariant.within_old, c.end_of_left-end.ensures.within);
      marked = c.end_of_left-end.ensures.marked;
      placing = λ once. rw items (placing-absent _ _ _ _ j key here (distinct_of _ c.requires.once) (rw e at (c.loop-j.invariant.placing once)) c.if-j-new.before behind absent);
    }

pub overflow_add-at : goal.overflow_add-at
overflow_add-at c = omega (arith, place_below c.args.old.now c.in-Some.at c.index-new-j.result (finds-at _ _ _ c.index-new-j.result c.in-Some.at c.in_ok-in_old.ensures.finds (sym c.place_in.ensures ∙ c.in-Some.is)), c.requires.few_old)

pub loop-j-preserved-then-at-end : goal.loop-j-preserved-then-at-end
loop-j-preserved-then-at-end c =
    let j = c.loop-j.j - 1 in
    let e : c.loop-j.j ≡ j + 1 = omega arith in
    let key = c.index-new-j.result in
    let here = get_at c.args.new.now j key (omega (arith, c.loop-j.invariant.within_new)) c.index-new-j.is in
    let there = finds-at _ _ _ key c.in-Some.at c.in_ok-in_old.ensures.finds (sym c.place_in.ensures ∙ c.in-Some.is) in
    record {
      within_new = omega (arith, c.loop-j.invariant.within_new);
      within_old = omega (arith, c.loop-j.invariant.within_old, c.end_of_left-end.ensures.within);
      marked = marked-set _ _ _ c.end_of_left-end.ensures.marked;
      placing = λ once. place_last c.args.old.now c.args.new.now c.loop-j.steps.items c.loop-j.gone j key here (distinct_of _ c.requires.once) once (rw e at (c.loop-j.invariant.placing once)) c.in-Some.at there c.end_of_left-end.result c.end_of_left-end.ensures.marked c.if-at-end.true;
    }

pub bounds-gone-at-in-Some-2 : goal.bounds-gone-at-in-Some-2
bounds-gone-at-in-Some-2 c = omega (arith, place_below c.args.old.now c.in-Some.at c.index-new-j.result (finds-at _ _ _ c.index-new-j.result c.in-Some.at c.in_ok-in_old.ensures.finds (sym c.place_in.ensures ∙ c.in-Some.is)), c.requires.marks)

pub loop-j-preserved : goal.loop-j-preserved
loop-j-preserved c =
    let j = c.loop-j.j - 1 in
    let e : c.loop-j.j ≡ j + 1 = omega arith in
    let key = c.index-new-j.result in
    let here = get_at c.args.new.now j key (omega (arith, c.loop-j.invariant.within_new)) c.index-new-j.is in
    let there = finds-at _ _ _ key c.in-Some.at c.in_ok-in_old.ensures.finds (sym c.place_in.ensures ∙ c.in-Some.is) in
    let items : c.push-in-Some-2.new.self.items ≡ c.loop-j.steps.items ++ Shift j c.if-j-new.before ∷ [] = search rules in
    let behind : IsBehind j c.args.new.now c.if-j-new.before = elim c.if-j-new.branch [
      | then-j-new w ↦ rw w.before-is (behind-next j c.loop-j.j c.args.new.now e (omega (arith, w.if-j-new.true)))
      | else-j-new w ↦ rw w.before-is (behind-end j c.args.new.now (omega (arith, w.if-j-new.false)))
    ] in
    record {
      within_new = omega (arith, c.loop-j.invariant.within_new);
      within_old = omega (arith, c.loop-j.invariant.within_old, c.end_of_left-end.ensures.within);
      marked = marked-set _ _ _ c.end_of_left-end.ensures.marked;
      placing = λ once. rw items (place_inside c.args.old.now c.args.new.now c.loop-j.steps.items c.loop-j.gone j key here (distinct_of _ c.requires.once) once (rw e at (c.loop-j.invariant.placing once)) c.in-Some.at there c.end_of_left-end.result c.end_of_left-end.ensures.marked
          (omega (arith, c.requires.marks)) (omega (arith, c.loop-j.invariant.within_old, c.end_of_left-end.ensures.within)) c.end_of_left-end.ensures.left c.if-at-end.false c.if-j-new.before behind);
    }
