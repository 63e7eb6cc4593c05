-- The tags in what a patch leaves of an instance: each child there stands as it should.
use Rattle.std.proofs.Common.{◌≡◌, ⊎_elim, ℕ, suc, ◌≤◌, ◌&&◌, List, [], ◌∷◌, Option, Some, None, refl, sym, ap, ap₂, subst, ◌∙◌, arith}
use Rattle.std.proofs.lemmas.Bool.{le-leb, lt-ltb}
use Rattle.std.proofs.lemmas.Option.{none-some}
use Rattle.sv_agree.proofs.Contents.{each_both}
use Rattle.sv_code.proofs.Each.{each_mono}
use Rattle.sv_code.specs.Names.{Each}
use Rattle.sv_code.specs.declared.program.Program.{Program}
use Rattle.sv_course.specs.Watched.{view_cells}
use Rattle.sv_family.proofs.Filled.{any_here}
use Rattle.sv_family.proofs.Held.{each_alone, given_most, held_places, none_yet}
use Rattle.sv_family.proofs.Lending.{any_each, the_one}
use Rattle.sv_family.proofs.Patching.{bare_place, made_at}
use Rattle.sv_family.proofs.Showing.{fit_before}
use Rattle.sv_family.specs.Family.{HoldIsKept, holds_in, markup_in}
use Rattle.sv_family.specs.Kin.{Kin, Kins, tags_in}
use Rattle.sv_family.specs.Pending.{Pending, pending_of}
use Rattle.sv_parts.specs.declared.counters.Counters.{Counters}
use Rattle.sv_parts.specs.declared.tally.Tally.{Tally}
use Rattle.sv_places.specs.Any.{Any}
use Rattle.sv_places.specs.Keeping.{parts_of}
use Rattle.sv_places.specs.Numbers.{count, given}
use Rattle.sv_plan.specs.Patch.{After, old_parts, old_view}
use Rattle.sv_right.specs.Later.{AreAllLater}
use Rattle.sv_shapes.specs.Showing.{Showing, shown_of, child_at}
use Rattle.sv_shapes.specs.declared.shown.Shown.{Shown}
use Rattle.sv_shown.proofs.Onward.{goes_held}
use Rattle.sv_shown.proofs.Patch.{IsPatch, here, holds_were, holds_go_on, plan, same_child}
use Rattle.sv_shown.proofs.Told.{StoodAt, HoldGoesOn}
use Rattle.sv_shown.specs.True.{Modules, ChildIsHeld}
use Rattle.sv_stands.proofs.Patches.{patch_lends, patch_makes}
use Rattle.sv_stands.proofs.Standing.{holds_stand}
use Rattle.sv_stands.proofs.Stands.{places_held}
use Rattle.sv_stands.specs.Holds.{Hold, holds}
use Rattle.sv_stands.specs.Lent.{Makes, GoesOn, IsLent, IsMade}
use Rattle.sv_stands.specs.Standing.{OwnersFor, StandsOn, content_in}
use Rattle.sv_tokens.specs.Counting.{one}
use Rattle.sv_view.specs.Level.{View}

-- a number from the next one on is given, once there was that many
given_next : (next place : ℕ) → next ≤ place → given next (suc place) place ≡ 1
given_next next place le = ap₂ (λ a b. one (a && b)) (le-leb next place le) (lt-ltb place (suc place) (omega arith))

module _ (p : Program) (ms : Modules) (pend : Pending) (n : ℕ) (kin : Kin) (view : View) (ks : Kins) (s : Showing) (counters : Counters) (tally : Tally) (after : After)
    (h : IsPatch p ms pend n kin view ks s counters tally after) where
  abbrev tags : List (Option ℕ)
  tags = tags_in ks view

  abbrev all_pending : Pending
  all_pending = (n, after.effects) ∷ pend

  abbrev news : List Hold
  news = holds p tags (markup_in p ks n) view (plan p ms pend n kin view ks s counters tally after h).parts

  abbrev IsHeldNow : Hold → Type 0
  IsHeldNow new = ChildIsHeld p all_pending ks after.showing n new

  -- of what is shown of it
  parts_are : parts_of after.showing n ≡ (plan p ms pend n kin view ks s counters tally after h).parts
  parts_are = ap old_parts (here p ms pend n kin view ks s counters tally after h)

  there_before : (place c : ℕ) → child_at after.showing place ≡ Some c → child_at s place ≡ Some c
  there_before place c there = sym (same_child p ms pend n kin view ks s counters tally after h place) ∙ there

  -- ---- children that are made

  -- where a child is still to be made, there is none
  made_held : (new : Hold) → IsMade after.effects new → IsHeldNow new
  made_held new made c k there live =
      let due = made_at new (pending_of all_pending n) (any_here (Makes new) pend n after.effects made) in
      absurd (none-some c (sym (none_yet all_pending ks after.showing after.counters.next h.left.0.places [] h.left.0.children n new.place due) ∙ there))

  held_first : shown_of s n ≡ None → Each IsHeldNow news
  held_first none =
      subst (λ parts. Each IsHeldNow (holds p tags (markup_in p ks n) view parts)) parts_are
      (each_mono (IsMade after.effects) IsHeldNow made_held (holds p tags (markup_in p ks n) view (parts_of after.showing n)) (patch_makes p tags n (markup_in p ks n) view s counters tally after none h.patch).made)

  -- ---- tags that go on

  module _ (y : Shown) (is : shown_of s n ≡ Some y) where
    abbrev olds : List Hold
    olds = holds_in p ks n y

    -- what is known of a tag that stood there
    record Stood (old : Hold) : Type 0 where
      held : ChildIsHeld p pend ks s n old
      kept : HoldIsKept ks s old
      owners : OwnersFor p (content_in p old.tag) old.tags old.view.owners

    all_stood : Each Stood olds
    all_stood =
        each_mono (λ old. ChildIsHeld p pend ks s n old × (HoldIsKept ks s old × StandsOn p (markup_in p ks n) (tags_in ks y.view) y.view old)) Stood (λ old k. record { held = k.0; kept = k.1.0; owners = k.1.1.owners }) olds
        (each_both (ChildIsHeld p pend ks s n) (λ old. HoldIsKept ks s old × StandsOn p (markup_in p ks n) (tags_in ks y.view) y.view old) olds (h.was.held n y is)
        (each_both (HoldIsKept ks s) (StandsOn p (markup_in p ks n) (tags_in ks y.view) y.view) olds (h.whole.0.kept n y is)
        (holds_stand p (tags_in ks y.view) (markup_in p ks n) y.view y.parts (h.whole.0.shown n y is).owners)))

    all_lent : Each (IsLent p after.effects after.kept olds) news
    all_lent =
        subst (λ hs. Each (IsLent p after.effects after.kept hs) news) (holds_were p ms pend n kin view ks s counters tally after h y is)
        (subst (λ parts. Each (IsLent p after.effects after.kept (holds p tags (markup_in p ks n) (old_view (shown_of s n) view) (parts_of s n))) (holds p tags (markup_in p ks n) view parts)) parts_are
        (patch_lends p tags n (markup_in p ks n) view s counters tally after (fit_before p pend ks n kin h.live view h.around s counters h.whole.0 (shown_of s n) refl) h.patch).lent)

    module _ (new : Hold) where
      abbrev IsAged : Hold → Type 0
      IsAged old = AreAllLater (view_cells p ks) old.view new.view

      -- each place stands once
      once : count new.place (places_held olds) ≤ 1
      once = omega (arith, h.whole.0.places.once n new.place, given_most counters.next new.place, ap (count new.place) (held_places p ks s n y is (h.whole.0.shown n y is)))

      -- the tag stood there on an earlier view
      old_held : Any (GoesOn p after.effects after.kept new) olds → Any (StoodAt (view_cells p ks) new.place new.view) olds → IsHeldNow new
      old_held any stood c k there live =
          let aged : Each (λ old. old.place ≡ new.place → IsAged old) olds = each_alone new.place IsAged olds once stood in
          let it = the_one _ olds (any_each (GoesOn p after.effects after.kept new) (λ old. Stood old × (old.place ≡ new.place → IsAged old)) olds any (each_both Stood (λ old. old.place ≡ new.place → IsAged old) olds all_stood aged)) in
          let goes : GoesOn p after.effects after.kept new it.0 = it.1.0 in
          let child : child_at s it.0.place ≡ Some c = ap (child_at s) goes.place ∙ there_before new.place c there in
          goes_held p h.compiled.contents ms pend ks s counters.next h.was n h.before after.effects after.kept it.0 new goes (it.1.1.1 goes.place) it.1.1.0.owners c k live
          (it.1.1.0.kept c k child live) (it.1.1.0.held c k child live)

      lent_held : IsLent p after.effects after.kept olds new → HoldGoesOn (view_cells p ks) counters.next olds new → IsHeldNow new
      lent_held lent goes = ⊎_elim (λ made. made_held new made) (λ any. ⊎_elim (λ fresh. none_held fresh) (λ stood. old_held any stood) goes) lent
        where
          none_held : counters.next ≤ new.place → IsHeldNow new
          none_held fresh c k there live =
              let some = given_next counters.next new.place fresh in
              absurd (bare_place ks s pend [] counters.next (suc new.place) new.place c (omega (arith, fresh)) h.whole.0.places h.whole.0.children (omega (arith, some)) (there_before new.place c there))

    held_after : Each IsHeldNow news
    held_after =
        each_mono (λ new. IsLent p after.effects after.kept olds new × HoldGoesOn (view_cells p ks) counters.next olds new) IsHeldNow (λ new k. lent_held new k.0 k.1) news
        (each_both (IsLent p after.effects after.kept olds) (HoldGoesOn (view_cells p ks) counters.next olds) news all_lent (holds_go_on p ms pend n kin view ks s counters tally after h y is))

  -- each tag in what is shown of it now has its child
  pub held_now : Each IsHeldNow news
  held_now = by (shown_of s n) refl
    where
      by : (o : Option Shown) → shown_of s n ≡ o → Each IsHeldNow news
      by None is = held_first is
      by (Some y) is = held_after y is
