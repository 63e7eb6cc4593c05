use Rattle.std.proofs.Common.{◌≡◌, ◌≤◌, ◌<◌, ◌∙◌, length, List, Option, Some, None, ap, sym, subst, true}
use Rattle.std.specs.Prelude.{IfSome, IsSome}
use Rattle.sv_live.specs.declared.live.Live.{Live}
use Rattle.sv_live.specs.Walk.{Walk, Takes, slot, rest_of}
use Rattle.sv_live.proofs.Slots.{last-taken, last-none}
use Rattle.sv_live.proofs.walk.Walk.take_last.Goals as goal

pub returns-clause-taken : goal.returns-clause-taken
returns-clause-taken c = go c.emptied.result c.emptied.ensures.value
  where
    go : (o : Option Live) → o ≡ slot c.self.inside.slots.items c.first_full-self-inside.result → IfSome o (λ l. Takes c.args.self.now.rest (rest_of c.emptied.new.slots.items) l true)
    go None is = tt
    go (Some l) is =
        let later = c.first_full-self-inside in
        subst (λ (w : Walk). Takes w.rest (rest_of c.emptied.new.slots.items) l true) c.self.view_is
        (subst (λ (ss : List (Option Live)). Takes (rest_of c.self.inside.slots.items) (rest_of ss) l true) (sym c.emptied.ensures.after)
        (last-taken c.self.inside.slots.items c.self.inside.start later.result c.self.inside.index c.self.invariant
        (λ j ge lt. subst (λ (ss : List (Option Live)). slot ss j ≡ None) c.deref.ensures.value (later.ensures.empty j ge lt))
        (subst (λ (ss : List (Option Live)). c.self.inside.start ≤ length ss → later.result ≤ length ss) c.deref.ensures.value later.ensures.within) l (sym is)))

pub returns-clause-none : goal.returns-clause-none
returns-clause-none c = λ none. (
    let later = c.first_full-self-inside in
    sym (ap (λ (w : Walk). w.rest) c.self.view_is)
    ∙ last-none c.self.inside.slots.items c.self.inside.start later.result c.self.inside.index c.self.invariant
    (λ j ge lt. subst (λ (ss : List (Option Live)). slot ss j ≡ None) c.deref.ensures.value (later.ensures.empty j ge lt))
    (subst (λ (ss : List (Option Live)). c.self.inside.start ≤ length ss → later.result ≤ length ss) c.deref.ensures.value later.ensures.within)
    (subst (λ (ss : List (Option Live)). later.result < length ss → IsSome (slot ss later.result)) c.deref.ensures.value later.ensures.full) (sym c.emptied.ensures.value ∙ none))
