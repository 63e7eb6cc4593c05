use Rattle.std.proofs.Common.{rules, ◌≡◌, ◌++◌, ◌∷◌, [], true, false, length, sym, ap, ◌∙◌, arith}
use Rattle.std.specs.Option.{is_some}
use Rattle.std.proofs.lemmas.List.{length-append}
use Rattle.sv_keyed.specs.declared.step.KeyStep.TheVariants.{Drop}
use Rattle.sv_keyed.proofs.Times.{get_at}
use Rattle.sv_keyed.proofs.Repeats.{finds-absent, finds-present}
use Rattle.sv_keyed.proofs.Marking.{left-keep, left-drop}
use Rattle.sv_keyed.proofs.Walking.{dropping-start, dropping-keep, dropping-drop}
use Rattle.sv_keyed.proofs.arrange.drop_gone.Goals as goal
use Rattle.sv_keyed.proofs.arrange.drop_gone.Goals.{in-Some+in_ok-push-in-Some, in-None+in_ok-push-in-None+in_ok-push-in-None-2}

pub loop-i-init : goal.loop-i-init
loop-i-init c = record {
  marks = ap length c.new-gone.ensures.items;
  dropped = rw (c.requires.none_yet, c.new-gone.ensures.items) (dropping-start c.args.old.now c.args.new.now);
}

pub loop-i-preserved : goal.loop-i-preserved
loop-i-preserved c =
    let key = c.index-old-i.result in
    let here = get_at c.args.old.now c.loop-i.i c.index-old-i.result c.loop-i-test.true c.index-old-i.is in
    let long = c.loop-i.invariant.marks in
    elim c.match-place_in.branch [
      | in-Some+in_ok-push-in-Some w ↦
          (let items : w.push.new.self.items ≡ c.loop-i.gone.items ++ false ∷ [] = search rules in
          let known = finds-present _ _ _ key c.in_ok-in_new.ensures.finds (sym (ap is_some c.place_in.ensures) ∙ ap is_some w.in-Some.is) in
          rw (w.steps-is, w.gone-is, items) record {
            marks = omega (arith, long, length-append c.loop-i.gone.items (false ∷ []));
            dropped = rw (left-keep c.loop-i.gone.items c.args.old.now c.loop-i.i key long here) (dropping-keep c.args.old.now c.args.new.now c.loop-i.steps.items _ c.loop-i.i key here c.loop-i.invariant.dropped known);
          })
      | in-None+in_ok-push-in-None+in_ok-push-in-None-2 w ↦
          (let items : w.push-in-None.new.self.items ≡ c.loop-i.gone.items ++ true ∷ [] = search rules in
          let more : w.push-in-None-2.new.self.items ≡ c.loop-i.steps.items ++ Drop c.loop-i.i ∷ [] = search rules in
          let absent = finds-absent _ _ _ key c.in_ok-in_new.ensures.finds (sym (ap is_some c.place_in.ensures) ∙ ap is_some w.in-None.is) in
          rw (w.steps-is, w.gone-is, items, more) record {
            marks = omega (arith, long, length-append c.loop-i.gone.items (true ∷ []));
            dropped = rw (left-drop c.loop-i.gone.items c.args.old.now c.loop-i.i key long here) (dropping-drop c.args.old.now c.args.new.now c.loop-i.steps.items _ c.loop-i.i key here c.loop-i.invariant.dropped absent);
          })
    ]
