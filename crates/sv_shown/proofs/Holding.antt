-- The tag at a place stands on a view: what is so of that view, and of each tag at the place.
use Rattle.std.proofs.Common.{◌≡◌, ℕ, zero, suc, List, [], ◌∷◌, drop, map, Option, Some, refl, sym, ap, subst, ◌∙◌}
use Rattle.std.proofs.lemmas.List.{drop-map}
use Rattle.sv_agree.specs.Agreeing.{AgreesFor}
use Rattle.sv_agree.specs.Scopes.{only}
use Rattle.sv_code.specs.Names.{Each}
use Rattle.sv_code.specs.declared.program.Program.{Program}
use Rattle.sv_family.proofs.Held.{held_alone}
use Rattle.sv_family.proofs.Holding.{any_mono, each_both}
use Rattle.sv_family.proofs.Lending.{each_drop, any_each, the_one}
use Rattle.sv_family.specs.Family.{Family, HasHold, markup_in, holds_in}
use Rattle.sv_family.specs.Kin.{Kins, tag_at, tags_in}
use Rattle.sv_family.specs.Pending.{Pending}
use Rattle.sv_first.proofs.Slots.{found, itself, same_at}
use Rattle.sv_places.specs.Any.{Any}
use Rattle.sv_plan.specs.Slots.{outer}
use Rattle.sv_shapes.specs.Showing.{Showing, shown_of}
use Rattle.sv_shapes.specs.declared.shown.Shown.{Shown}
use Rattle.sv_shown.proofs.Chains.{chain_of_hold}
use Rattle.sv_shown.specs.Chains.{IsChain}
use Rattle.sv_shown.specs.True.{Modules, Agrees, ChildIsHeld, AreTrue}
use Rattle.sv_stands.proofs.Standing.{holds_stand}
use Rattle.sv_stands.specs.Holds.{Hold}
use Rattle.sv_stands.specs.Standing.{OwnersFor, StandsOn, content_in, content_of, outward}
use Rattle.sv_view.specs.Level.{Level, View}
use Rattle.sv_view.specs.View.{insts}

-- the view of an owner has the constants of module files that the view has
outer_modules : (own : Level) (ls : List Level) (ms : Modules) → (outer (record { own = own; owners = ls; modules = ms })).modules ≡ ms
outer_modules own [] ms = refl
outer_modules own (l ∷ ls) ms = refl

outward_modules : (depth : ℕ) (v : View) → (outward depth v).modules ≡ v.modules
outward_modules zero v = refl
outward_modules (suc depth) v = outward_modules depth (outer v) ∙ outer_modules v.own v.owners v.modules

-- a hold stands on this view, whose tags are its own, with the owners that the content of its tag needs
pub record IsOn (p : Program) (ks : Kins) (view : View) (h : Hold) : Type 0 where
  pub view_is : h.view ≡ view
  pub tags_are : h.tags ≡ tags_in ks view
  pub owners : OwnersFor p (content_in p h.tag) h.tags h.view.owners

-- where the view is lent, it agrees with the one on which the tag stands
pub on_agrees : (p : Program) (ks : Kins) (view : View) (h : Hold) → IsOn p ks view h → Agrees p ks h view
on_agrees p ks view h on = λ t is depth.
    let owners : OwnersFor p t.content h.tags h.view.owners = subst (λ o. OwnersFor p (content_of o) h.tags h.view.owners) is on.owners in
    let own : OwnersFor p t.content (tags_in ks view) view.owners = subst (λ (w : View). OwnersFor p t.content (tags_in ks view) w.owners) on.view_is (subst (λ tags. OwnersFor p t.content tags h.view.owners) on.tags_are owners) in
    let agrees : AgreesFor p depth (only t.reads) (tags_in ks view) (tags_in ks view) t.content view view =
    (same_at p (only t.reads) view.own view.owners view.owners view.modules, λ e. itself p depth view.modules (tags_in ks view) view.owners t.content (found p depth t.content e) own) in
    subst (λ (w : View). AgreesFor p depth (only t.reads) (tags_in ks view) h.tags t.content view w) (sym on.view_is)
    (subst (λ tags. AgreesFor p depth (only t.reads) (tags_in ks view) tags t.content view view) (sym on.tags_are) agrees)

-- one that stands at a place on this view
pub record IsThere (p : Program) (pend : Pending) (ks : Kins) (s : Showing) (q place : ℕ) (view : View) (x : Shown) (h : Hold) : Type 0 where
  pub place_is : h.place ≡ place
  pub view_is : h.view ≡ view
  pub on : StandsOn p (markup_in p ks q) (tags_in ks x.view) x.view h
  pub held : ChildIsHeld p pend ks s q h

module _ (p : Program) (ms : Modules) (pend : Pending) (new : Option ℕ) (q place : ℕ) (view : View) (ks : Kins) (s : Showing) (next : ℕ)
    (has : HasHold p ks s q place view) (f : Family p pend new [] ks s next) (h : AreTrue p ms pend ks s next) where
  abbrev shown : Shown
  shown = has.shown

  abbrev IsIt : Hold → Type 0
  IsIt hold = IsThere p pend ks s q place view shown hold

  any_it : Any IsIt (holds_in p ks q shown)
  any_it = any_mono (λ hold. ((hold.place ≡ place) × (hold.view ≡ view)) × (StandsOn p (markup_in p ks q) (tags_in ks shown.view) shown.view hold × ChildIsHeld p pend ks s q hold)) IsIt
      (λ hold k. record { place_is = k.0.0; view_is = k.0.1; on = k.1.0; held = k.1.1 }) (holds_in p ks q shown)
      (any_each (λ hold. (hold.place ≡ place) × (hold.view ≡ view)) (λ hold. StandsOn p (markup_in p ks q) (tags_in ks shown.view) shown.view hold × ChildIsHeld p pend ks s q hold) (holds_in p ks q shown) has.hold
      (each_both (StandsOn p (markup_in p ks q) (tags_in ks shown.view) shown.view) (ChildIsHeld p pend ks s q) (λ hold. StandsOn p (markup_in p ks q) (tags_in ks shown.view) shown.view hold × ChildIsHeld p pend ks s q hold) (λ hold a b. (a, b)) (holds_in p ks q shown)
      (holds_stand p (tags_in ks shown.view) (markup_in p ks q) shown.view shown.parts (f.shown q shown has.is).owners) (h.held q shown has.is)))

  pub it : (hold : Hold) × IsThere p pend ks s q place view has.shown hold
  it = the_one IsIt (holds_in p ks q shown) any_it

  -- ---- the view

  its_insts : insts view ≡ drop it.1.on.depth (insts shown.view)
  its_insts = sym (ap insts it.1.view_is) ∙ it.1.on.insts_are

  pub its_modules : view.modules ≡ ms
  its_modules =
      sym (ap (λ (v : View). v.modules) it.1.view_is)
      ∙ (ap (λ (v : View). v.modules) it.1.on.view_is ∙ (outward_modules it.1.on.depth shown.view ∙ (h.right q shown has.is).modules))

  pub its_chain : IsChain ks (insts view)
  its_chain =
      subst (λ (v : View). IsChain ks (insts v)) it.1.view_is
      (chain_of_hold p ks (markup_in p ks q) (tags_in ks shown.view) shown.view it.0 it.1.on (h.right q shown has.is).chain)

  -- what is so of each instance on whose levels the markup is shown is so of its instances
  pub its_each : (Q : ℕ → Type 0) → Each Q (insts has.shown.view) → Each Q (insts view)
  its_each Q all = subst (Each Q) (sym its_insts) (each_drop Q it.1.on.depth (insts shown.view) all)

  -- ---- the tags at the place

  it_is_on : (hold : Hold) → IsIt hold → IsOn p ks view hold
  it_is_on hold k = record {
    view_is = k.view_is;
    tags_are = k.on.tags_are ∙ (drop-map (tag_at ks) k.on.depth (insts shown.view) ∙ (ap (map (tag_at ks)) (sym k.on.insts_are) ∙ ap (tags_in ks) k.view_is));
    owners = k.on.owners;
  }

  -- each stands on the view
  pub all_on : (r : ℕ) (y : Shown) → shown_of s r ≡ Some y → Each (λ hold. hold.place ≡ place → IsOn p ks view hold) (holds_in p ks r y)
  all_on r y is =
      held_alone pend ks s next f.places p f.shown (IsOn p ks view) place q shown has.is
      (any_mono IsIt (λ hold. (hold.place ≡ place) × IsOn p ks view hold) (λ hold k. (k.place_is, it_is_on hold k)) (holds_in p ks q shown) any_it) r y is
