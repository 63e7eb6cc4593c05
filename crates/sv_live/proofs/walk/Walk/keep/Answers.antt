use Rattle.std.proofs.Common.{◌≡◌, ap, sym, ◌∙◌, subst, ◌∷◌, List, Option, Some, length, rules}
use Rattle.std.specs.BTreeMap.{Updates}
use Rattle.std.specs.Ordering.{nat_cmp}
use Rattle.sv_live.specs.declared.live.Live.{Live}
use Rattle.sv_live.specs.Known.{number, known}
use Rattle.sv_live.specs.Walk.{Walk, IsIndexed, rest_of}
use Rattle.sv_live.proofs.Slots.{rest-push, indexed-noted, indexed-pushed}
use Rattle.sv_live.proofs.walk.Walk.keep.Goals as goal

pub invariant_of-self-in_err-push : goal.invariant_of-self-in_err-push
invariant_of-self-in_err-push c =
    let full : c.len.result ≡ length c.self.inside.slots.items = search rules in
    let u = subst (λ k. Updates nat_cmp c.self.inside.index c.insert.new.self k (Some (length c.self.inside.slots.items))) c.number.ensures (subst (λ n. Updates nat_cmp c.self.inside.index c.insert.new.self c.number.result (Some n)) full c.in_ok-insert.ensures.updates) in
    subst (λ (ss : List (Option Live)). IsIndexed ss c.self.inside.start c.insert.new.self) (sym c.in_err-push.ensures.items)
    (indexed-noted c.self.inside.slots.items c.self.inside.start c.self.inside.index c.insert.new.self c.self.invariant c.args.live (ap (λ (w : Walk). known (number c.args.live) w.rest) c.self.view_is ∙ c.requires) u)

pub invariant_of-self-2 : goal.invariant_of-self-2
invariant_of-self-2 c =
    let full : c.len.result ≡ length c.self.inside.slots.items = search rules in
    let u = subst (λ k. Updates nat_cmp c.self.inside.index c.insert.new.self k (Some (length c.self.inside.slots.items))) c.number.ensures (subst (λ n. Updates nat_cmp c.self.inside.index c.insert.new.self c.number.result (Some n)) full c.in_ok-insert.ensures.updates) in
    subst (λ (ss : List (Option Live)). IsIndexed ss c.self.inside.start c.insert.new.self) (sym c.in_ok-push.ensures.items)
    (indexed-pushed c.self.inside.slots.items c.self.inside.start c.self.inside.index c.insert.new.self c.self.invariant c.args.live (ap (λ (w : Walk). known (number c.args.live) w.rest) c.self.view_is ∙ c.requires) u)

pub returns-clause-rest : goal.returns-clause-rest
returns-clause-rest c = ap rest_of c.in_ok-push.ensures.items ∙ (rest-push c.self.inside.slots.items c.args.live ∙ ap (λ (w : Walk). c.args.live ∷ w.rest) c.self.view_is)
