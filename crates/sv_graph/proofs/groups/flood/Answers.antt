use Rattle.std.proofs.Common.{rules, ◌≡◌, ◌<◌, ◌+◌, ◌*◌, List, ℕ, [], length, ap, subst, arith, refl}
use Rattle.std.specs.Prelude.{count_by}
use Rattle.std.proofs.lemmas.List.{length_push}
use Rattle.sv_graph.specs.Groups.{group_at, is_free, Takes, IsFlooding}
use Rattle.sv_graph.proofs.Flooding.{flooding-root, flooding-next, flooding-end, popped}
use Rattle.sv_graph.proofs.groups.flood.Goals as goal

pub take-requires : goal.take-requires
take-requires c = omega (arith, c.requires.within, c.requires.earlier.size)

pub loop-point-init : goal.loop-point-init
loop-point-init c = (
  c.args.root,
  flooding-root c.args.links.now c.args.groups.now.items c.take.new.groups.items c.take.new.stack.items c.args.group c.args.root _ c.requires.small c.requires.within c.requires.earlier refl
      (subst (λ (z : List ℕ). Takes (is_free (group_at c.args.groups.now.items c.args.root)) c.args.root c.args.group c.args.groups.now.items z c.take.new.groups.items c.take.new.stack.items) c.new-stack.ensures.items c.in_ok-take.ensures),
)

pub take_all-requires : goal.take_all-requires
take_all-requires c =
    let l = c.loop-point.invariant in
    let own = popped c.args.links.now c.loop-point.groups.items c.loop-point.stack.items c.pop.new.self.items c.args.group l.0 c.in-Some.point l.1 c.in-Some.ensures.items in
    record {
      whole = c.requires.whole;
      within = own.1;
      small = c.requires.small;
      own = own.0;
      flooding = flooding-next c.args.links.now c.loop-point.groups.items c.loop-point.stack.items c.pop.new.self.items c.args.group l.0 c.in-Some.point l.1 c.in-Some.ensures.items;
    }

pub loop-point-preserved : goal.loop-point-preserved
loop-point-preserved c = (c.in-Some.point, c.in_ok-take_all.ensures.flooding)

pub loop-point-smaller : goal.loop-point-smaller
loop-point-smaller c =
    let less : 2 * count_by is_free c.take_all.new.groups.items + length c.take_all.new.stack.items < 2 * count_by is_free c.loop-point.groups.items + length c.loop-point.stack.items =
    omega (arith, c.in_ok-take_all.ensures.less, ap length c.in-Some.ensures.items, length_push c.pop.new.self.items c.in-Some.point) in
    less

pub returns : goal.returns
returns c =
    let l = c.loop-point.invariant in
    let none : c.loop-point.stack.items ≡ [] = search rules in
    flooding-end c.args.links.now c.loop-point.groups.items c.args.group l.0 (subst (λ (z : List ℕ). IsFlooding c.args.links.now c.loop-point.groups.items z c.args.group l.0 []) none l.1)
