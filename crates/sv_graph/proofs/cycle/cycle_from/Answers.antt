use Rattle.std.proofs.Common.{rules, ◌≡◌, ◌<◌, ◌∷◌, ◌++◌, [], map, ap, sym, ◌∙◌, subst, arith, refl}
use Rattle.sv_graph.specs.Links.{links_of}
use Rattle.sv_graph.specs.declared.marks.Frame.{Frame}
use Rattle.sv_graph.specs.Search.{IsSearch, IsCycleOf, Meets, met_at, search_left}
use Rattle.sv_graph.proofs.Walking.{rest-some}
use Rattle.sv_graph.proofs.Searching.{search-start, search_within, search-done, search-met, search-none, search-found}
use Rattle.sv_graph.proofs.Flooding.{stays-not}
use Rattle.sv_graph.proofs.SearchWork.{less-met}
use Rattle.sv_graph.proofs.cycle.cycle_from.Goals as goal

pub loop-frame-init : goal.loop-frame-init
loop-frame-init c =
    subst (IsSearch c.args.links.now c.args.start c.in_ok-met.met.items) (sym (c.in_ok-push.ensures.items ∙ ap (λ z. z ++ record { point = c.args.start; next = 0 } ∷ []) c.new-stack.ensures.items))
    (search-start c.args.links.now c.args.start c.in_ok-met.met.items (c.in_ok-met.ensures.items_if_clones_equal (λ y h. h)))

pub next_link-requires : goal.next_link-requires
next_link-requires c =
    let s = subst (IsSearch c.args.links.now c.args.start c.loop-frame.met.items) c.in-Some.ensures.items c.loop-frame.invariant in
    search_within c.args.links.now c.args.start c.loop-frame.met.items c.pop.new.self.items c.in-Some.frame c.requires.whole c.requires.within s

pub returns-then-point-start : goal.returns-then-point-start
returns-then-point-start c =
    let s = subst (IsSearch c.args.links.now c.args.start c.loop-frame.met.items) c.in-Some.ensures.items c.loop-frame.invariant in
    let items = c.in_ok-points_of.ensures ∙ ap (map (λ (f : Frame). f.point)) (c.deref.ensures.value ∙ c.in_ok-push-2.ensures.items) in
    subst (IsCycleOf c.args.links.now c.args.start) (sym items) (search-found c.args.links.now c.args.start c.in-Some-next_link.point c.loop-frame.met.items c.pop.new.self.items c.in-Some.frame s (sym c.in-Some-next_link.ensures.point) c.if-point-start.true)

pub meet-requires : goal.meet-requires
meet-requires c =
    let s = subst (IsSearch c.args.links.now c.args.start c.loop-frame.met.items) c.in-Some.ensures.items c.loop-frame.invariant in
    let here = rest-some (links_of c.args.links.now c.in-Some.frame.point) c.in-Some.frame.next c.in-Some-next_link.point (sym c.in-Some-next_link.ensures.point) in
    omega (arith, c.requires.whole.within c.in-Some.frame.point c.in-Some-next_link.point here.1, s.size)

pub loop-frame-preserved-in_ok-meet : goal.loop-frame-preserved-in_ok-meet
loop-frame-preserved-in_ok-meet c =
    let s = subst (IsSearch c.args.links.now c.args.start c.loop-frame.met.items) c.in-Some.ensures.items c.loop-frame.invariant in
    search-met c.args.links.now c.args.start c.loop-frame.met.items c.meet.new.met.items c.in-Some-next_link.point c.pop.new.self.items c.in-Some.frame c.meet.new.stack.items c.requires.whole s (sym c.in-Some-next_link.ensures.point) c.if-point-start.false
    _ refl (subst (λ z. Meets (met_at c.loop-frame.met.items c.in-Some-next_link.point) c.in-Some-next_link.point c.loop-frame.met.items z c.meet.new.met.items c.meet.new.stack.items) c.in_ok-push-2.ensures.items c.in_ok-meet.ensures)

pub loop-frame-smaller-in_ok-meet : goal.loop-frame-smaller-in_ok-meet
loop-frame-smaller-in_ok-meet c =
    let s = subst (IsSearch c.args.links.now c.args.start c.loop-frame.met.items) c.in-Some.ensures.items c.loop-frame.invariant in
    subst (λ z. search_left c.args.links.now c.meet.new.met.items c.meet.new.stack.items < search_left c.args.links.now c.loop-frame.met.items z) (sym c.in-Some.ensures.items)
    (less-met c.args.links.now c.loop-frame.met.items c.meet.new.met.items c.in-Some-next_link.point c.pop.new.self.items c.in-Some.frame c.meet.new.stack.items c.requires.whole s.size (sym c.in-Some-next_link.ensures.point)
    _ refl (subst (λ z. Meets (met_at c.loop-frame.met.items c.in-Some-next_link.point) c.in-Some-next_link.point c.loop-frame.met.items z c.meet.new.met.items c.meet.new.stack.items) c.in_ok-push-2.ensures.items c.in_ok-meet.ensures))

pub loop-frame-preserved : goal.loop-frame-preserved
loop-frame-preserved c =
    let s = subst (IsSearch c.args.links.now c.args.start c.loop-frame.met.items) c.in-Some.ensures.items c.loop-frame.invariant in
    search-done c.args.links.now c.args.start c.loop-frame.met.items c.pop.new.self.items c.in-Some.frame s (sym c.next_link.ensures.point ∙ c.in_default-next_link.is)

pub returns : goal.returns
returns c =
    search-none c.args.links.now c.args.start c.loop-frame.met.items
    (let none : c.loop-frame.stack.items ≡ [] = search rules in subst (IsSearch c.args.links.now c.args.start c.loop-frame.met.items) none c.loop-frame.invariant)

pub returns-then-not-stays : goal.returns-then-not-stays
returns-then-not-stays c = stays-not c.args.links.now c.args.groups.now c.args.start c.requires.falls (sym c.stays.ensures ∙ c.if-not-stays.true)
