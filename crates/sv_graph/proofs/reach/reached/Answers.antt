use Rattle.std.proofs.Common.{rules, ◌≡◌, ◌<◌, ◌+◌, ◌*◌, List, ℕ, [], length, get_or, ap, sym, ◌∙◌, subst, arith}
use Rattle.std.specs.Prelude.{not, count_by}
use Rattle.std.proofs.lemmas.List.{get_or_read, length_push, length-replicate}
use Rattle.sv_graph.specs.Links.{links_of}
use Rattle.sv_graph.specs.Reached.{IsReaching, Reaches}
use Rattle.sv_graph.proofs.Turning.{links_within}
use Rattle.sv_graph.proofs.Reaching.{reaching-start, reaching-next, reaching-within, reaching-end}
use Rattle.sv_graph.proofs.reach.reached.Goals as goal

pub meet_all-requires : goal.meet_all-requires
meet_all-requires c =
    let size : length c.in_ok-met.met.items ≡ length c.args.links.now = ap length (c.in_ok-met.ensures.items_if_clones_equal (λ y h. h)) ∙ length-replicate (length c.args.links.now) _ in
    λ k d lt. subst (λ (n : ℕ). get_or c.args.starts.now k d < n) (sym size) (c.requires.within k d lt)

pub loop-point-init : goal.loop-point-init
loop-point-init c =
    reaching-start (links_of c.args.links.now) c.args.starts.now (length c.args.links.now) c.in_ok-met.met.items c.meet_all.new.met.items c.meet_all.new.stack.items (c.in_ok-met.ensures.items_if_clones_equal (λ y h. h))
    (subst (λ (z : List ℕ). Reaches c.args.starts.now c.in_ok-met.met.items z c.meet_all.new.met.items c.meet_all.new.stack.items) c.new-stack.ensures.items c.in_ok-meet_all.ensures)

pub bounds-links-point : goal.bounds-links-point
bounds-links-point c = reaching-within (links_of c.args.links.now) c.args.starts.now (length c.args.links.now) c.loop-point.met.items c.loop-point.stack.items c.pop.new.self.items c.in-Some.point c.loop-point.invariant c.in-Some.ensures.items

pub meet_all-requires-in-Some : goal.meet_all-requires-in-Some
meet_all-requires-in-Some c =
    let within = reaching-within (links_of c.args.links.now) c.args.starts.now (length c.args.links.now) c.loop-point.met.items c.loop-point.stack.items c.pop.new.self.items c.in-Some.point c.loop-point.invariant c.in-Some.ensures.items in
    let is = subst (λ (z : List ℕ). z ≡ get_or c.args.links.now c.in-Some.point z) (sym c.as_slice.ensures) c.index-links-point.is in
    links_within c.args.links.now c.in-Some.point c.as_slice.result.now (length c.loop-point.met.items) c.requires.whole within is c.loop-point.invariant.size

pub loop-point-preserved : goal.loop-point-preserved
loop-point-preserved c =
    let within = reaching-within (links_of c.args.links.now) c.args.starts.now (length c.args.links.now) c.loop-point.met.items c.loop-point.stack.items c.pop.new.self.items c.in-Some.point c.loop-point.invariant c.in-Some.ensures.items in
    let items = c.as_slice.ensures ∙ get_or_read c.args.links.now c.in-Some.point c.index-links-point.result within c.index-links-point.is [] in
    reaching-next (links_of c.args.links.now) c.args.starts.now (length c.args.links.now) c.loop-point.met.items c.meet_all-in-Some.new.met.items c.loop-point.stack.items c.pop.new.self.items c.meet_all-in-Some.new.stack.items c.in-Some.point c.loop-point.invariant c.in-Some.ensures.items
    (subst (λ (z : List ℕ). Reaches z c.loop-point.met.items c.pop.new.self.items c.meet_all-in-Some.new.met.items c.meet_all-in-Some.new.stack.items) items c.in_ok-meet_all-2.ensures)

pub loop-point-smaller : goal.loop-point-smaller
loop-point-smaller c =
    let less : 2 * count_by not c.meet_all-in-Some.new.met.items + length c.meet_all-in-Some.new.stack.items < 2 * count_by not c.loop-point.met.items + length c.loop-point.stack.items =
    omega (arith, c.in_ok-meet_all-2.ensures.less, ap length c.in-Some.ensures.items, length_push c.pop.new.self.items c.in-Some.point) in
    less

pub returns : goal.returns
returns c =
    let none : c.loop-point.stack.items ≡ [] = search rules in
    reaching-end (links_of c.args.links.now) c.args.starts.now (length c.args.links.now) c.loop-point.met.items (subst (λ (z : List ℕ). IsReaching (links_of c.args.links.now) c.args.starts.now (length c.args.links.now) c.loop-point.met.items z) none c.loop-point.invariant)
