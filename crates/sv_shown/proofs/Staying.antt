-- What is true stays true of instances that stay in all that counts, while others are made, are lent views, or go.
use Rattle.std.proofs.Common.{◌≡◌, ◌⊎◌, ⊎_elim, inl, inr, ℕ, true, List, [], ◌∷◌, map, Some, is_some, option_map, refl, sym, ap, ap₂, subst, ◌∙◌}
use Rattle.sv_agree.specs.Agreeing.{AgreesFor}
use Rattle.sv_agree.specs.Scopes.{only}
use Rattle.sv_code.proofs.Each.{each_mono}
use Rattle.sv_code.specs.Content.{of_frags, SeesView}
use Rattle.sv_code.specs.Names.{Each}
use Rattle.sv_code.specs.declared.program.Program.{Program}
use Rattle.sv_course.specs.Watched.{view_in, view_cells}
use Rattle.sv_family.proofs.Holding.{each_both}
use Rattle.sv_family.proofs.Staying.{Stay, is_there, still_tag, still_markup, below_stays, above_live}
use Rattle.sv_family.specs.Family.{AreAbove, AreParents, IsShown, component_for, markup_in, holds_in}
use Rattle.sv_family.specs.Kin.{Kin, Kins, IsBelow, tag_of, tag_at, tags_in}
use Rattle.sv_family.specs.Pending.{Pending}
use Rattle.sv_instance.specs.Standing.{Place, Standing}
use Rattle.sv_meaning.specs.Components.{component_at, markup_of}
use Rattle.sv_numbered.specs.Numbered.{at}
use Rattle.sv_right.specs.Staying.{Stands}
use Rattle.sv_shapes.specs.Showing.{Showing, shown_of, child_at}
use Rattle.sv_shapes.specs.declared.shown.Shown.{Shown}
use Rattle.sv_shown.proofs.Later.{Fewer, owners_fewer, all_fewer}
use Rattle.sv_shown.specs.Chains.{owner_of, owner_at, IsOwnedBy, IsChain, StandsAt}
use Rattle.sv_shown.specs.True.{Modules, IsRight, IsBehind, IsLentWell, IsHeld, Agrees, ChildIsHeld, AreTrue}
use Rattle.sv_stands.specs.Holds.{Hold, holds}
use Rattle.sv_stands.specs.Standing.{content_in}
use Rattle.sv_view.specs.Level.{View}
use Rattle.sv_view.specs.View.{insts, levels_of}

-- an instance has the owner, the tag, the markup and the cell for the owner's view that it had
pub record Remains (p : Program) (ks later : Kins) (n : ℕ) : Type 0 where
  pub owner : owner_at later n ≡ owner_at ks n
  pub tag : tag_at later n ≡ tag_at ks n
  pub markup : markup_in p later n ≡ markup_in p ks n
  pub cell : view_cells p later n ≡ view_cells p ks n

module _ (p : Program) (ks later : Kins) where
  -- so it is where it is as it was
  pub remains_same : (n : ℕ) → at later n ≡ at ks n → Remains p ks later n
  remains_same n e = record {
    owner = ap owner_of e;
    tag = ap tag_of e;
    markup = ap (λ z. markup_of (component_for p z)) e;
    cell = ap (λ z. view_in (component_for p z)) e;
  }

  -- and where it stands where it stood
  remains_there : Stay ks later → (n : ℕ) → is_some (at ks n) ≡ true → Remains p ks later n
  remains_there stay n live =
      let k = is_there (at ks n) live in
      let s = stay n k.0 k.1 in
      record {
        owner = ap owner_of s.is ∙ (ap (λ (l : Place). option_map (λ q. q.owner) l.standing) s.place ∙ sym (ap owner_of k.1));
        tag = still_tag k.0 (at later n) s ∙ sym (ap tag_of k.1);
        markup = still_markup p k.0 (at later n) s ∙ sym (ap (λ z. markup_of (component_for p z)) k.1);
        cell = ap (λ z. view_in (component_for p z)) s.is ∙ (ap (λ (l : Place). view_in (component_at p l.component)) s.place ∙ sym (ap (λ z. view_in (component_for p z)) k.1));
      }

  -- ---- what hangs on that

  remaining_tags : (list : List ℕ) → Each (Remains p ks later) list → map (tag_at later) list ≡ map (tag_at ks) list
  remaining_tags [] h = refl
  remaining_tags (n ∷ list) h = ap₂ (λ a b. a ∷ b) h.0.tag (remaining_tags list h.1)

  owner_remains : (n : ℕ) (list : List ℕ) → Remains p ks later n → IsOwnedBy ks n list → IsOwnedBy later n list
  owner_remains n [] r h = h
  owner_remains n (o ∷ list) r h = r.owner ∙ h

  pub chain_remains : (list : List ℕ) → Each (Remains p ks later) list → IsChain ks list → IsChain later list
  chain_remains [] all h = h
  chain_remains (n ∷ list) all h = (owner_remains n list all.0 h.0, chain_remains list all.1 h.1)

  fewer : (list : List ℕ) → Each (Remains p ks later) list → Each (Fewer (view_cells p ks) (view_cells p later)) list
  fewer list all = each_mono (Remains p ks later) (Fewer (view_cells p ks) (view_cells p later)) (λ n r c e. sym r.cell ∙ e) list all

  right_remains : (ms : Modules) (next n : ℕ) (x : Shown) → Each (Remains p ks later) (insts x.view) → IsRight p ms ks next n x → IsRight p ms later next n x
  right_remains ms next n x all h = record {
    stands =
        subst (λ tags. Stands p tags (markup_in p later n) x.view next x.parts) (sym (remaining_tags (insts x.view) all))
        (subst (λ frags. Stands p (tags_in ks x.view) frags x.view next x.parts) (sym (subst (Remains p ks later) h.inst all.0).markup) h.stands);
    inst = h.inst;
    locals = h.locals;
    modules = h.modules;
    chain = chain_remains (insts x.view) all h.chain;
  }

  pub behind_remains : (ms : Modules) (kin : Kin) (x : Shown) → Each (Remains p ks later) (insts x.view) → IsBehind p ks ms kin x → IsBehind p later ms kin x
  behind_remains ms kin x all h =
      owners_fewer (view_cells p ks) (view_cells p later) ms ms x.view.owners (levels_of kin.lent) (fewer (map (λ l. l.inst) x.view.owners) all.1) h

  lent_remains : (ms : Modules) (n : ℕ) (kin : Kin) (view : View) → Remains p ks later n → Each (Remains p ks later) (insts view) → IsLentWell p ms ks n kin view → IsLentWell p ms later n kin view
  lent_remains ms n kin view own all h = record { takes = h.takes; modules = h.modules; chain = chain_remains (n ∷ insts view) (own, all) h.chain }

  pub agrees_remains : (h : Hold) (view : View) → Each (Remains p ks later) (insts view) → Agrees p ks h view → Agrees p later h view
  agrees_remains h view all a = λ t is depth.
      subst (λ tags. AgreesFor p depth (only t.reads) tags h.tags t.content view h.view) (sym (remaining_tags (insts view) all)) (a t is depth)

  held_remains : (pend : Pending) (q : ℕ) (h : Hold) (n : ℕ) (kin : Kin) → Remains p ks later n → ((view : View) → kin.lent ≡ Some view → Each (Remains p ks later) (insts view)) →
      IsHeld p pend ks q h n kin → IsHeld p pend later q h n kin
  held_remains pend q h n kin own all k = record {
    owner = own.owner ∙ k.owner;
    followed = λ view is.
        let f = k.followed view is in
        record {
          later = all_fewer (view_cells p ks) (view_cells p later) view h.view (fewer (insts view) (all view is)) f.later;
          agrees = ⊎_elim (λ lends. inl lends) (λ a. inr (agrees_remains h view (all view is) a)) f.agrees;
        };
  }

  pub standing_remains : (n : ℕ) (kin : Kin) (st : Standing) → Remains p ks later st.owner → IsBelow later st.owner n → StandsAt p ks n kin st → StandsAt p later n kin st
  standing_remains n kin st own below h = record {
    above = below;
    file = h.file;
    sees = λ depth. subst (λ c. Each (SeesView p.tags c depth) (of_frags (content_in p st.tag) [])) (sym own.cell) (h.sees depth);
  }

-- ---- all of it

-- what is shown was shown, of instances that remain, and who is above one that is live remains above it
pub record AllRemain (p : Program) (ks later : Kins) (s t : Showing) : Type 0 where
  pub shown : (n : ℕ) (x : Shown) → shown_of t n ≡ Some x → shown_of s n ≡ Some x
  pub live : (n : ℕ) (x : Shown) → shown_of t n ≡ Some x → (kin : Kin) × (at later n ≡ Some kin)
  pub here : (n : ℕ) (kin : Kin) → at later n ≡ Some kin → is_some (at ks n) ≡ true → Remains p ks later n
  pub above : (o n : ℕ) (kin : Kin) → at later n ≡ Some kin → IsBelow ks o n → IsBelow later o n × Remains p ks later o

-- where all stand where they stood
pub stay_remain : (p : Program) (ks later : Kins) (s t : Showing) → Stay ks later → AreParents ks → ((n : ℕ) → shown_of t n ≡ shown_of s n) → ((n : ℕ) (x : Shown) → shown_of s n ≡ Some x → IsShown p ks n x) →
    AllRemain p ks later s t
stay_remain p ks later s t stay parents same shown = record {
  shown = λ n x is. sym (same n) ∙ is;
  live = λ n x is. let k = shown n x (sym (same n) ∙ is) in let now = stay n k.kin k.live in (now.now, now.is);
  here = λ n kin live was. remains_there p ks later stay n was;
  above = λ o n kin live b. (below_stays ks later stay o n b, remains_there p ks later stay o (above_live ks parents o n b));
}

-- all levels of the views of those that are shown remain, and of those that others were lent
module _ (p : Program) (ks later : Kins) (s t : Showing) (remain : AllRemain p ks later s t) where
  pub shown_remain : ((n : ℕ) (x : Shown) → shown_of s n ≡ Some x → IsShown p ks n x) → (n : ℕ) (x : Shown) → shown_of t n ≡ Some x → Each (Remains p ks later) (insts x.view)
  shown_remain shown n x is =
      let k = remain.live n x is in
      let was = shown n x (remain.shown n x is) in
      each_mono (λ o. (o ≡ n) ⊎ IsBelow ks o n) (Remains p ks later)
      (λ o a. ⊎_elim (λ own. subst (Remains p ks later) (sym own) (remain.here n k.0 k.1 (ap is_some was.live))) (λ below. (remain.above o n k.0 k.1 below).1) a) (insts x.view) was.around

  above_remain : (n : ℕ) (kin : Kin) (list : List ℕ) → at later n ≡ Some kin → AreAbove ks n list → Each (Remains p ks later) list
  above_remain n kin list live all = each_mono (λ o. IsBelow ks o n) (Remains p ks later) (λ o below. (remain.above o n kin live below).1) list all

module _ (p : Program) (ms : Modules) (pend : Pending) (ks later : Kins) (s t : Showing) (next : ℕ) where
  -- who is there was there, and stands where it stood, or is new or was lent a view just now, and that is as it should be
  pub record AreNew (New : ℕ → Kin → Type 0) : Type 0 where
    pub which : (n : ℕ) (kin : Kin) → at later n ≡ Some kin → (at ks n ≡ Some kin) ⊎ New n kin
    pub stood : (place n : ℕ) (kin : Kin) → child_at t place ≡ Some n → at ks n ≡ Some kin → child_at s place ≡ Some n
    pub standing : (n : ℕ) (kin : Kin) (st : Standing) → New n kin → kin.place.standing ≡ Some st → StandsAt p later n kin st
    pub behind : (n : ℕ) (kin : Kin) (x : Shown) → New n kin → shown_of t n ≡ Some x → IsBehind p later ms kin x
    pub lent : (n : ℕ) (kin : Kin) (view : View) → New n kin → kin.lent ≡ Some view → IsLentWell p ms later n kin view
    pub held : (q : ℕ) (x : Shown) → shown_of t q ≡ Some x → Each (λ h. (n : ℕ) (kin : Kin) → child_at t h.place ≡ Some n → New n kin → IsHeld p pend later q h n kin) (holds_in p ks q x)

  module _ (remain : AllRemain p ks later s t) (shown : (n : ℕ) (x : Shown) → shown_of s n ≡ Some x → IsShown p ks n x)
      (above : (n : ℕ) (kin : Kin) (v : View) → at ks n ≡ Some kin → kin.lent ≡ Some v → AreAbove ks n (insts v)) (New : ℕ → Kin → Type 0) (new : AreNew New) (h : AreTrue p ms pend ks s next) where
    levels_remain : (n : ℕ) (x : Shown) → shown_of t n ≡ Some x → Each (Remains p ks later) (insts x.view)
    levels_remain n x is = shown_remain p ks later s t remain shown n x is

    lent_levels : (n : ℕ) (kin : Kin) (view : View) → at later n ≡ Some kin → at ks n ≡ Some kin → kin.lent ≡ Some view → Each (Remains p ks later) (insts view)
    lent_levels n kin view live was is = above_remain p ks later s t remain n kin (insts view) live (above n kin view was is)

    holds_remain : (n : ℕ) (x : Shown) → shown_of t n ≡ Some x → holds_in p later n x ≡ holds_in p ks n x
    holds_remain n x is =
        let all = levels_remain n x is in
        ap₂ (λ tags frags. holds p tags frags x.view x.parts) (remaining_tags p ks later (insts x.view) all) (subst (Remains p ks later) (h.right n x (remain.shown n x is)).inst all.0).markup

    pub true_remain : AreTrue p ms pend later t next
    true_remain = record {
      standing = λ n kin st live is. ⊎_elim
          (λ was.
          let k = h.standing n kin st was is in
          let a = remain.above st.owner n kin live k.above in
          standing_remains p ks later n kin st a.1 a.0 k)
          (λ now. new.standing n kin st now is)
          (new.which n kin live);
      right = λ n x is. right_remains p ks later ms next n x (levels_remain n x is) (h.right n x (remain.shown n x is));
      behind = λ n kin x live is. ⊎_elim
          (λ was. behind_remains p ks later ms kin x (levels_remain n x is) (h.behind n kin x was (remain.shown n x is)))
          (λ now. new.behind n kin x now is)
          (new.which n kin live);
      lent = λ n kin view live is. ⊎_elim
          (λ was. lent_remains p ks later ms n kin view (remain.here n kin live (ap is_some was)) (lent_levels n kin view live was is) (h.lent n kin view was is))
          (λ now. new.lent n kin view now is)
          (new.which n kin live);
      held = λ q x is.
          subst (Each (ChildIsHeld p pend later t q)) (sym (holds_remain q x is))
          (each_both (ChildIsHeld p pend ks s q) (λ hold. (n : ℕ) (kin : Kin) → child_at t hold.place ≡ Some n → New n kin → IsHeld p pend later q hold n kin) (ChildIsHeld p pend later t q)
          (λ hold was now n kin there live. ⊎_elim
          (λ old. held_remains p ks later pend q hold n kin (remain.here n kin live (ap is_some old)) (λ view l. lent_levels n kin view live old l) (was n kin (new.stood hold.place n kin there old) old))
          (λ one. now n kin there one)
          (new.which n kin live))
          (holds_in p ks q x) (h.held q x (remain.shown q x is)) (new.held q x is));
    }
