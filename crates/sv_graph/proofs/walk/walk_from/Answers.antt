use Rattle.std.proofs.Common.{◌<◌, reverse, ap, sym, ◌∙◌, subst, arith, refl}
use Rattle.sv_graph.specs.Links.{links_of}
use Rattle.sv_graph.specs.Walk.{mark_of, Enters, work_left}
use Rattle.sv_graph.proofs.Underway.{IsUnderway, reverse_push, start-underway, place-underway, enter-underway, done-visits}
use Rattle.sv_graph.proofs.Walking.{rest-some, top_within, new_from_read, old_from_read}
use Rattle.sv_graph.proofs.Work.{less-placed, less-met}
use Rattle.sv_graph.proofs.walk.walk_from.Goals as goal

pub loop-frame-init : goal.loop-frame-init
loop-frame-init c =
    start-underway c.args.links.now c.args.walk.now c.enter.new.walk c.args.start c.enter.new.stack.items c.requires.walk c.requires.within
    (new_from_read c.args.walk.now.marks.items c.args.start _ _ (omega (arith, c.requires.walk.size, c.requires.within)) c.index.ensures c.is_new.ensures c.if-not-is_new.false) c.requires.known
    (subst (λ z. Enters (mark_of c.args.walk.now.marks.items c.args.start) c.args.start c.args.walk.now z c.enter.new.walk c.enter.new.stack.items) c.new-stack.ensures.items c.in_ok-enter.ensures)

pub next_link-requires : goal.next_link-requires
next_link-requires c =
    let top = ap reverse c.in-Some.ensures.items ∙ reverse_push c.pop.new.self.items c.in-Some.frame in
    let u = subst (IsUnderway c.args.links.now c.args.walk.now c.args.start c.loop-frame.walk) top c.loop-frame.invariant in
    omega (arith, top_within _ _ _ _ u.marked, u.marked.size)

pub place-requires : goal.place-requires
place-requires c =
    let top = ap reverse c.in-Some.ensures.items ∙ reverse_push c.pop.new.self.items c.in-Some.frame in
    let u = subst (IsUnderway c.args.links.now c.args.walk.now c.args.start c.loop-frame.walk) top c.loop-frame.invariant in
    top_within _ _ _ _ u.marked

pub loop-frame-preserved-in-Continue-branch-2 : goal.loop-frame-preserved-in-Continue-branch-2
loop-frame-preserved-in-Continue-branch-2 c =
    let top = ap reverse c.in-Some.ensures.items ∙ reverse_push c.pop.new.self.items c.in-Some.frame in
    let u = subst (IsUnderway c.args.links.now c.args.walk.now c.args.start c.loop-frame.walk) top c.loop-frame.invariant in
    place-underway _ _ _ _ _ _ _ u (sym c.in-None.ensures.point) c.in_ok-place-in-None.ensures.marks c.in_ok-place-in-None.ensures.order c.place.ensures.cyclic

pub loop-frame-smaller-in-Continue-branch-2 : goal.loop-frame-smaller-in-Continue-branch-2
loop-frame-smaller-in-Continue-branch-2 c =
    let top = ap reverse c.in-Some.ensures.items ∙ reverse_push c.pop.new.self.items c.in-Some.frame in
    let u = subst (IsUnderway c.args.links.now c.args.walk.now c.args.start c.loop-frame.walk) top c.loop-frame.invariant in
    subst (λ z. work_left c.args.links.now c.place.new.walk (reverse c.pop.new.self.items) < work_left c.args.links.now c.loop-frame.walk z) (sym top)
    (less-placed c.args.links.now c.loop-frame.walk c.place.new.walk c.in-Some.frame (reverse c.pop.new.self.items) u.marked c.in_ok-place-in-None.ensures.marks)

pub overflow_add-frame : goal.overflow_add-frame
overflow_add-frame c =
    omega (arith, c.in-Some-next_link.ensures.small refl)

pub enter-requires-in-Some-next_link : goal.enter-requires-in-Some-next_link
enter-requires-in-Some-next_link c =
    let top = ap reverse c.in-Some.ensures.items ∙ reverse_push c.pop.new.self.items c.in-Some.frame in
    let u = subst (IsUnderway c.args.links.now c.args.walk.now c.args.start c.loop-frame.walk) top c.loop-frame.invariant in
    let here = rest-some (links_of c.args.links.now c.in-Some.frame.point) c.in-Some.frame.next c.in-Some-next_link.point (sym c.in-Some-next_link.ensures.point) in
    omega (arith, c.requires.whole.within c.in-Some.frame.point c.in-Some-next_link.point here.1, u.marked.size)

pub loop-frame-preserved : goal.loop-frame-preserved
loop-frame-preserved c =
    let top = ap reverse c.in-Some.ensures.items ∙ reverse_push c.pop.new.self.items c.in-Some.frame in
    let u = subst (IsUnderway c.args.links.now c.args.walk.now c.args.start c.loop-frame.walk) top c.loop-frame.invariant in
    enter-underway _ _ _ _ _ _ _ _ c.push.new.self.items _ c.requires.whole u (sym c.in-Some-next_link.ensures.point)
    (ap reverse c.in_ok-push-in-Some-next_link.ensures.items ∙ reverse_push c.pop.new.self.items _) _ refl c.in_ok-enter-in-Some-next_link.ensures

pub loop-frame-smaller : goal.loop-frame-smaller
loop-frame-smaller c =
    let top = ap reverse c.in-Some.ensures.items ∙ reverse_push c.pop.new.self.items c.in-Some.frame in
    let u = subst (IsUnderway c.args.links.now c.args.walk.now c.args.start c.loop-frame.walk) top c.loop-frame.invariant in
    subst (λ z. work_left c.args.links.now c.enter-in-Some-next_link.new.walk (reverse c.enter-in-Some-next_link.new.stack.items) < work_left c.args.links.now c.loop-frame.walk z) (sym top)
    (less-met _ _ _ _ _ _ c.push.new.self.items _ u.marked c.requires.whole (sym c.in-Some-next_link.ensures.point)
    (ap reverse c.in_ok-push-in-Some-next_link.ensures.items ∙ reverse_push c.pop.new.self.items _) _ refl c.in_ok-enter-in-Some-next_link.ensures)

pub returns-then-not-is_new-clause-visited : goal.returns-then-not-is_new-clause-visited
returns-then-not-is_new-clause-visited c = λ calm. done-visits c.args.links.now c.args.walk.now c.args.start c.requires.walk
    (old_from_read c.args.walk.now.marks.items c.args.start _ _ (omega (arith, c.requires.walk.size, c.requires.within)) c.index.ensures c.is_new.ensures c.if-not-is_new.true)
