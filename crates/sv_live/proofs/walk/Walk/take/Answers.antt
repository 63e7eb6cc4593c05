use Rattle.std.proofs.Common.{◌≡◌, ◌≤◌, length, List, Option, None, ap, sym, ◌∙◌, subst}
use Rattle.std.specs.Prelude.{◌==◌}
use Rattle.sv_live.specs.declared.live.Live.{Live}
use Rattle.sv_live.specs.Known.{known}
use Rattle.sv_live.specs.Walk.{Walk, Takes, KeepsOthers, slot, rest_of}
use Rattle.sv_live.proofs.Slots.{known-missing, take-none, take-known, take-indexed, take-takes, take-others}
use Rattle.sv_live.proofs.walk.Walk.take.Goals as goal

pub returns-in_default-clause-found : goal.returns-in_default-clause-found
returns-in_default-clause-found c = sym (ap (λ (w : Walk). known c.args.number w.rest) (sym c.self.view_is) ∙ known-missing c.self.inside.slots.items c.self.inside.start c.self.inside.index c.self.invariant c.args.number (sym c.in_default.ensures.value))

pub returns-in_default-taken_from-clause-found : goal.returns-in_default-taken_from-clause-found
returns-in_default-taken_from-clause-found c =
    sym (ap (λ (w : Walk). known c.args.number w.rest) (sym c.self.view_is)
    ∙ take-none c.self.inside.slots.items c.self.inside.start c.self.inside.index c.self.invariant c.args.number c.in-Some.found.now c.in-Some.ensures.value c.taken_from.new.slots.items c.taken_from.ensures.after c.in_default-taken_from.ensures.value)

pub invariant_of-self-2 : goal.invariant_of-self-2
invariant_of-self-2 c =
    let later = c.first_full-self-inside in
    take-indexed c.self.inside.slots.items c.self.inside.start c.self.inside.index c.self.invariant c.args.number c.in-Some.found.now c.in-Some.ensures.value c.taken_from.new.slots.items c.taken_from.ensures.after c.in-Some-taken_from.live c.in-Some-taken_from.ensures.value
    later.result (λ j ge lt. subst (λ (ss : List (Option Live)). slot ss j ≡ None) c.deref.ensures.value (later.ensures.empty j ge lt))
    (subst (λ (ss : List (Option Live)). c.self.inside.start ≤ length ss → later.result ≤ length ss) c.deref.ensures.value later.ensures.within)

pub returns-clause-taken : goal.returns-clause-taken
returns-clause-taken c =
    subst (λ (w : Walk). Takes w.rest (rest_of c.taken_from.new.slots.items) c.in-Some-taken_from.live (c.in-Some.found.now == c.self.inside.start)) c.self.view_is
    (take-takes c.self.inside.slots.items c.self.inside.start c.self.inside.index c.self.invariant c.args.number c.in-Some.found.now c.in-Some.ensures.value c.taken_from.new.slots.items c.taken_from.ensures.after c.in-Some-taken_from.live c.in-Some-taken_from.ensures.value)

pub returns-clause-found : goal.returns-clause-found
returns-clause-found c =
    take-known c.self.inside.slots.items c.self.inside.start c.self.inside.index c.self.invariant c.args.number c.in-Some.found.now c.in-Some.ensures.value c.taken_from.new.slots.items c.taken_from.ensures.after c.in-Some-taken_from.live c.in-Some-taken_from.ensures.value
    ∙ ap (λ (w : Walk). known c.args.number w.rest) c.self.view_is

pub returns-clause-others : goal.returns-clause-others
returns-clause-others c =
    subst (λ (w : Walk). KeepsOthers c.args.number w.rest (rest_of c.taken_from.new.slots.items)) c.self.view_is
    (take-others c.self.inside.slots.items c.self.inside.start c.self.inside.index c.self.invariant c.args.number c.in-Some.found.now c.in-Some.ensures.value c.taken_from.new.slots.items c.taken_from.ensures.after c.in-Some-taken_from.live c.in-Some-taken_from.ensures.value)
