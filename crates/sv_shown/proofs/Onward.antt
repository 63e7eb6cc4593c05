-- A component's tag goes on: its child is lent the view on which the tag stands now, or the one that it was lent agrees with that too.
use Rattle.std.proofs.Common.{◌≡◌, ⊎_elim, inl, inr, ℕ, suc, true, false, List, [], ◌∷◌, Option, Some, None, option_map, is_some, refl, sym, ap, ap₂, subst, ◌∙◌, slice_get}
use Rattle.std.proofs.lemmas.Bool.{true≢false}
use Rattle.sv_agree.proofs.Onward.{still, in_turn}
use Rattle.sv_agree.proofs.Seeing.{tags_see}
use Rattle.sv_agree.specs.Agreeing.{AgreesAbove, AgreesFor, slot_within}
use Rattle.sv_agree.specs.Scopes.{only}
use Rattle.sv_code.specs.Content.{SeesView, HasView, AreContentsSeen, of_frags}
use Rattle.sv_code.specs.Names.{Each}
use Rattle.sv_code.specs.declared.parts.Reading.{Reading}
use Rattle.sv_code.specs.declared.program.Component.{Component}
use Rattle.sv_code.specs.declared.program.Program.{Program}
use Rattle.sv_code.specs.declared.tags.Tag.{Tag}
use Rattle.sv_course.specs.Watched.{view_cells}
use Rattle.sv_family.proofs.Filled.{any_here}
use Rattle.sv_family.proofs.Going.{pending-none}
use Rattle.sv_family.proofs.Owning.{sees_as_content}
use Rattle.sv_family.specs.Family.{IsKept}
use Rattle.sv_family.specs.Kin.{Kin, Kins, tag_of, tags_in, is_cell_in, takes_view}
use Rattle.sv_family.specs.Pending.{Pending, AreBefore}
use Rattle.sv_first.proofs.Slots.{found, itself}
use Rattle.sv_instance.specs.Standing.{Standing}
use Rattle.sv_local.proofs.Parts.{still_cells}
use Rattle.sv_meaning.specs.Components.{component_at}
use Rattle.sv_meaning.specs.Moved as views
use Rattle.sv_numbered.specs.Numbered.{at}
use Rattle.sv_parts.specs.Sides.{moved}
use Rattle.sv_parts.specs.Tags.{shows_content}
use Rattle.sv_parts.specs.declared.state.Effect.{Effect}
use Rattle.sv_parts.specs.declared.state.Kept.{Kept}
use Rattle.sv_places.specs.Any.{Any}
use Rattle.sv_right.proofs.Lists.{some_same}
use Rattle.sv_right.specs.Later.{AreAllLater}
use Rattle.sv_shapes.specs.Showing.{Showing}
use Rattle.sv_shown.proofs.Later.{later_on}
use Rattle.sv_shown.specs.Chains.{owner_of as owner_in, StandsAt}
use Rattle.sv_shown.specs.True.{Modules, AreTrue, Agrees, IsFollowed, IsHeld}
use Rattle.sv_stands.specs.Holds.{Hold}
use Rattle.sv_stands.specs.Lent.{GoesOn, Lends, StaysLent}
use Rattle.sv_stands.specs.Standing.{OwnersFor, content_of, content_in}
use Rattle.sv_view.specs.Level.{View}
use Rattle.sv_view.specs.View.{owner_of, view_from}

-- who has a cell for its owner's view shows content
takes_shown : (o : Option Component) (cells : ℕ) → takes_view o cells ≡ true → shows_content o ≡ true
takes_shown None cells e = absurd (true≢false (sym e))
takes_shown (Some c) cells e = by c.view e
  where
    by : (v : Option ℕ) → is_cell_in cells v ≡ true → is_some v ≡ true
    by None q = absurd (true≢false (sym q))
    by (Some cell) q = refl

-- nothing moved between two views
not_moved : (reads : Reading) (old new : View) → moved reads (record { old = old; new = new }) ≡ false → views.moved reads old new ≡ false
unfolding moved
not_moved reads old new e = e

-- the child of a tag stands there, in the markup of the instance on whose view the tag stands
record StandsThere (kin : Kin) (h : Hold) : Type 0 where
  standing : Standing
  is : kin.place.standing ≡ Some standing
  tag : standing.tag ≡ h.tag
  owner : standing.owner ≡ h.view.own.inst

stands_there : (kin : Kin) (h : Hold) → tag_of (Some kin) ≡ Some h.tag → owner_in (Some kin) ≡ Some h.view.own.inst → StandsThere kin h
stands_there kin h tag owner = by kin.place.standing refl tag owner
  where
    by : (o : Option Standing) → kin.place.standing ≡ o → option_map (λ (s : Standing). s.tag) o ≡ Some h.tag → option_map (λ (s : Standing). s.owner) o ≡ Some h.view.own.inst → StandsThere kin h
    by None is t q = absurd (cc)
    by (Some stand) is t q = record { standing = stand; is = is; tag = some_same t; owner = some_same q }

-- ---- a tag whose content stays as it is

module _ (p : Program) (contents : AreContentsSeen p) (ks : Kins) (old new : Hold) (tag : old.tag ≡ new.tag) (tags : old.tags ≡ new.tags) (later : AreAllLater (view_cells p ks) old.view new.view)
    (owners : OwnersFor p (content_in p old.tag) old.tags old.view.owners) (c : ℕ) (kin : Kin) (stand : StandsThere kin old) (on : StandsAt p ks c kin stand.standing)
    (t : Tag) (is : slice_get p.tags old.tag ≡ Some t) (unmoved : views.moved t.reads old.view new.view ≡ false) where
  -- where a slot stands in its content
  module _ (depth : ℕ) (e : slot_within p depth t.content ≡ true) where
    -- it looks at the cell for the owner's view
    sees : HasView t.reads (view_cells p ks old.view.own.inst)
    sees =
        let cell : Option ℕ = view_cells p ks stand.standing.owner in
        let content_is : content_in p stand.standing.tag ≡ t.content = ap (λ k. content_in p k) stand.tag ∙ ap content_of is in
        let look : Each (SeesView p.tags cell (suc depth)) (of_frags t.content []) = subst (λ frags. Each (SeesView p.tags cell (suc depth)) (of_frags frags [])) content_is (on.sees (suc depth)) in
        subst (λ m. HasView t.reads (view_cells p ks m)) stand.owner
        (tags_see p cell depth old.tag t contents is e (sees_as_content p cell (suc depth) t.lets t.content look))

    -- which didn't move
    same_owners : old.view.owners ≡ new.view.owners
    same_owners = by (view_cells p ks old.view.own.inst) refl sees
      where
        by : (o : Option ℕ) → view_cells p ks old.view.own.inst ≡ o → HasView t.reads o → old.view.owners ≡ new.view.owners
        by None none has = absurd has
        by (Some cell) there has = later.own.owners cell there (still_cells t.reads old.view new.view cell unmoved has)

    owners_agree : AgreesAbove p depth old.tags old.tags (owner_of old.view) (owner_of old.view)
    owners_agree = itself p depth old.view.modules old.tags old.view.owners t.content (found p depth t.content e) (subst (λ frags. OwnersFor p frags old.tags old.view.owners) (ap content_of is) owners)

    -- so the owners agree
    above : AgreesAbove p depth old.tags new.tags (owner_of old.view) (owner_of new.view)
    above =
        let same : owner_of old.view ≡ owner_of new.view = ap₂ view_from same_owners later.own.versions.one.modules in
        subst (λ o. AgreesAbove p depth old.tags new.tags (owner_of old.view) o) same
        (subst (λ ts. AgreesAbove p depth old.tags ts (owner_of old.view) (owner_of old.view)) tags owners_agree)

  -- the views on which it stood and stands agree
  content_agrees : (depth : ℕ) → AgreesFor p depth (only t.reads) old.tags new.tags t.content old.view new.view
  content_agrees depth = (still t.reads old.view new.view later.own.versions unmoved, λ e. above depth e)

  -- a view that agreed with the one agrees with the other
  still_agrees : (view : View) → Agrees p ks old view → Agrees p ks new view
  still_agrees view was u there depth =
      let own : t ≡ u = some_same (sym is ∙ (ap (slice_get p.tags) tag ∙ there)) in
      subst (λ (z : Tag). AgreesFor p depth (only z.reads) (tags_in ks view) new.tags z.content view new.view) own
      (in_turn p depth (only t.reads) (tags_in ks view) old.tags new.tags t.content view old.view new.view (was t is depth) (content_agrees depth))

-- ---- a tag that goes on

module _ (p : Program) (contents : AreContentsSeen p) (ms : Modules) (pend : Pending) (ks : Kins) (s : Showing) (next : ℕ) (all : AreTrue p ms pend ks s next) (n : ℕ) (before : AreBefore n pend)
    (effects : List Effect) (kept : List Kept) (old new : Hold) (goes : GoesOn p effects kept new old) (later : AreAllLater (view_cells p ks) old.view new.view)
    (owners : OwnersFor p (content_in p old.tag) old.tags old.view.owners) (c : ℕ) (kin : Kin) (live : at ks c ≡ Some kin) (is_kept : IsKept ks old kin c) (held : IsHeld p pend ks n old c kin) where
  stand : StandsThere kin old
  stand = stands_there kin old (sym (ap tag_of live) ∙ is_kept.tag) (sym (ap owner_in live) ∙ held.owner)

  on : StandsAt p ks c kin stand.standing
  on = all.standing c kin stand.standing live stand.is

  module _ (view : View) (lent : kin.lent ≡ Some view) where
    -- who was lent a view shows content
    shows : (t : Tag) → slice_get p.tags new.tag ≡ Some t → shows_content (component_at p t.file) ≡ true
    shows t is =
        let file : kin.place.component ≡ t.file = on.file t (ap (slice_get p.tags) (stand.tag ∙ goes.tag) ∙ is) in
        takes_shown (component_at p t.file) kin.cells (subst (λ f. takes_view (component_at p f) kin.cells ≡ true) file (all.lent c kin view live lent).takes)

    -- nothing was to be lent before
    agreed : Agrees p ks old view
    agreed = ⊎_elim (λ lends. absurd (subst (Any (Lends old)) (pending-none pend n before) lends)) (λ agrees. agrees) (held.followed view lent).agrees

    stays_agreed : StaysLent p new.tag old.view new.view → Agrees p ks new view
    stays_agreed k = ⊎_elim
        (λ none. absurd (true≢false (sym (shows k.tag k.is_tag) ∙ none)))
        (λ unmoved. still_agrees p contents ks old new goes.tag goes.tags later owners c kin stand on k.tag (ap (slice_get p.tags) goes.tag ∙ k.is_tag) (not_moved k.tag.reads old.view new.view unmoved) view agreed)
        k.stays

    now_followed : IsFollowed p ((n, effects) ∷ pend) ks n new view
    now_followed = record {
      later = later_on (view_cells p ks) view old.view new.view (held.followed view lent).later later;
      agrees = ⊎_elim (λ lends. inl (any_here (Lends new) pend n effects lends)) (λ stays. inr (stays_agreed stays)) goes.lent;
    }

  -- its child stands as it should
  pub goes_held : IsHeld p ((n, effects) ∷ pend) ks n new c kin
  goes_held = record { owner = held.owner ∙ ap Some later.own.versions.one.inst; followed = now_followed }
