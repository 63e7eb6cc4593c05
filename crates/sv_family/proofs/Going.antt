-- An instance without children goes: the fact stays for the others.
use Rattle.std.proofs.Common.{◌≡◌, ◌≢◌, ◌⊎◌, ℕ, suc, ◌<◌, ◌≤◌, Bool, true, false, nat_eq, List, [], ◌∷◌, ◌++◌, map, Option, Some, None, is_some, if◌then◌else◌, refl, sym, ap, ap₂, subst, ◌∙◌, arith, ⊎_elim, inl, inr, length-set}
use Rattle.std.specs.Prelude.{slice_set}
use Rattle.std.proofs.lemmas.Bool.{cases_eq, eqb-true, ne_eqb}
use Rattle.std.proofs.lemmas.Option.{none-some}
use Rattle.sv_code.specs.Names.{Each}
use Rattle.sv_code.specs.declared.program.Program.{Program}
use Rattle.sv_family.proofs.Kids.{counts-any, places-are, kid-counts}
use Rattle.sv_family.proofs.Removal.{at-gone, at-other, at-differs, at-before, found-before, found-gone, found-other, sorted-left}
use Rattle.sv_family.specs.Family.{Family, AreSorted, ArePlaces, AreChildren, AreLent, AreParents, AreAbove, AreAround, IsShown, IsKept, HoldIsKept, ArePending, component_for, markup_in, holds_in, is_parent, is_child_of, due}
use Rattle.sv_family.specs.Kin.{Kin, Kins, IsBelow, child, further, tag_at, tags_in, insts_now, tag_of, parent_at, parent_of, depth_at, depth_of}
use Rattle.sv_stands.specs.Standing.{OwnersFor, content_in}
use Rattle.sv_family.specs.Pending.{Pending, pending_of, AreBefore}
use Rattle.sv_meaning.specs.Components.{markup_of}
use Rattle.sv_numbered.specs.Numbered.{at}
use Rattle.sv_places.proofs.Lookups.{found-left}
use Rattle.sv_places.specs.Fits.{Fits}
use Rattle.sv_places.specs.Keeping.{created_at, destroyed_at, parts_of}
use Rattle.sv_places.specs.Numbers.{count}
use Rattle.sv_plan.specs.Patch.{old_parts}
use Rattle.sv_shapes.specs.Places.{places_all}
use Rattle.sv_shapes.specs.Showing.{Showing, child_at, places_of, shown_of, removed}
use Rattle.sv_shapes.specs.declared.shown.Shown.{Shown}
use Rattle.sv_stands.specs.Holds.{Hold, holds}
use Rattle.sv_places.specs.Any.{Any}
use Rattle.sv_stands.specs.Lent.{IsFor}
use Rattle.sv_tokens.specs.Counting.{one}
use Rattle.sv_view.specs.Level.{View}
use Rattle.sv_view.specs.View.{insts, levels_of}

-- ---- effects

-- of an instance that was made after those with effects, none are left
pub pending-none : (pend : Pending) (n : ℕ) → AreBefore n pend → pending_of pend n ≡ []
pending-none [] n h = refl
pending-none (e ∷ pend) n h = by (pending-none pend n h.1) (nat_eq e.0 n) refl where
  by : pending_of pend n ≡ [] → (b : Bool) → nat_eq e.0 n ≡ b → (if b then e.1 else []) ++ pending_of pend n ≡ []
  by rest true is = let same = eqb-true e.0 n is in let lt = h.0 in absurd (omega (arith, same, lt))
  by rest false is = rest

-- ---- nobody has it as parent

earlier-left : (n d : ℕ) (leaving : List ℕ) → Each (λ l. l < n) leaving → Any (λ l. l ≡ d) leaving → d < n
earlier-left n d [] h any = absurd any
earlier-left n d (l ∷ leaving) h any = ⊎_elim (λ same. let lt = h.0 in omega (arith, lt, same)) (λ there. earlier-left n d leaving h.1 there) any

pub childless : (p : Program) (pend : Pending) (leaving : List ℕ) (n : ℕ) (ks : Kins) (s : Showing) (next : ℕ) → AreBefore n pend → Each (λ l. l < n) leaving →
    ((place : ℕ) → Any (λ l. l ≡ place) (places_of s n) → child_at s place ≡ None) → Family p pend None (n ∷ leaving) ks s next → (d : ℕ) → parent_at ks d ≡ Some n → ⊥
childless p pend leaving n ks s next before earlier nobody f d is = ⊎_elim
    (λ going. ⊎_elim
    (λ same. absurd (omega (arith, lt, same)))
    (λ there. let le = earlier-left n d leaving earlier there in absurd (omega (arith, lt, le)))
    going)
    (λ there. none-some d (sym (nobody there.0 (subst (Any (λ l. l ≡ there.0)) (sym (places-are s n)) (counts-any there.0 (places_all (parts_of s n)) (counted there.0 there.1)))) ∙ there.1))
    (f.children.stand d n is)
  where
    lt : n < d
    lt = f.parents.earlier d n is

    counted : (place : ℕ) → child_at s place ≡ Some d → 1 ≤ count place (places_all (parts_of s n))
    counted place stands =
        let a = kid-counts ks s n place d stands is in
        let b = f.places.kids n place in
        let c : count place (destroyed_at (pending_of pend n)) ≡ 0 = ap (λ l. count place (destroyed_at l)) (pending-none pend n before) in
        omega (arith, a, b, c)

-- ---- the others

module _ (ks : Kins) (n : ℕ) (alone : (d : ℕ) → parent_at ks d ≡ Some n → ⊥) where
  abbrev others : Kins
  others = slice_set ks n None

  parent-stays : (m : ℕ) → m ≢ n → parent_at others m ≡ parent_at ks m
  parent-stays m other = ap parent_of (at-other ks n m other)

  tag-stays : (m : ℕ) → m ≢ n → tag_at others m ≡ tag_at ks m
  tag-stays m other = ap tag_of (at-other ks n m other)

  depth-stays : (m : ℕ) → m ≢ n → depth_at others m ≡ depth_at ks m
  depth-stays m other = ap depth_of (at-other ks n m other)

  -- who has something is another one
  differs : (f : Option Kin → Option ℕ) → f None ≡ None → (m q : ℕ) → f (at others m) ≡ Some q → m ≢ n
  differs f none m q is = λ same. none-some q (sym none ∙ (sym (ap f (at-gone ks n)) ∙ (ap (λ k. f (at others k)) (sym same) ∙ is)))

  has-parent : (m q : ℕ) → parent_at others m ≡ Some q → m ≢ n
  has-parent m q is = differs parent_of refl m q is

  parent-was : (m q : ℕ) → parent_at others m ≡ Some q → parent_at ks m ≡ Some q
  parent-was m q is = sym (parent-stays m (has-parent m q is)) ∙ is

  is-another : (m q : ℕ) → parent_at ks m ≡ Some q → q ≢ n
  is-another m q is = λ same. alone m (is ∙ ap Some same)

  parents-stay : AreParents ks → AreParents others
  parents-stay h = record {
    earlier = λ m q is. h.earlier m q (parent-was m q is);
    live = λ m q is. ap is_some (at-other ks n q (is-another m q (parent-was m q is))) ∙ h.live m q (parent-was m q is);
    deeper = λ m q is. depth-stays m (has-parent m q is) ∙ (h.deeper m q (parent-was m q is) ∙ ap (λ d. suc d) (sym (depth-stays q (is-another m q (parent-was m q is)))));
    shallow = λ m. ⊎_elim
        (λ same. let e : depth_at others m ≡ 0 = ap (depth_at others) same ∙ ap depth_of (at-gone ks n) in omega (arith, e))
        (λ other. let e = depth-stays m other in let le = h.shallow m in omega (arith, e, le))
        (cases_eq m n);
    tagged = λ m k is. let other = differs tag_of refl m k is in ap is_some (parent-stays m other) ∙ h.tagged m k (sym (tag-stays m other) ∙ is);
  }

  -- ---- who is below another one

  pub below-other : (o m : ℕ) → IsBelow ks o m → o ≢ n
  below-other o m (child k is) = is-another k o is
  below-other o m (further k q is below) = below-other o q below

  pub below-stays : (o m : ℕ) → m ≢ n → IsBelow ks o m → IsBelow others o m
  below-stays o m other (child k is) = child k (parent-stays k other ∙ is)
  below-stays o m other (further k q is below) = further k q (parent-stays k other ∙ is) (below-stays o q (is-another k q is) below)

  -- ---- views

  -- none of those above another one is it
  above-others : (m : ℕ) (list : List ℕ) → AreAbove ks m list → Each (λ o. o ≢ n) list
  above-others m [] h = h
  above-others m (o ∷ list) h = (below-other o m h.0, above-others m list h.1)

  above-stays : (m : ℕ) (list : List ℕ) → m ≢ n → AreAbove ks m list → AreAbove others m list
  above-stays m [] other h = h
  above-stays m (o ∷ list) other h = (below-stays o m other h.0, above-stays m list other h.1)

  around-others : (m : ℕ) (list : List ℕ) → m ≢ n → AreAround ks m list → Each (λ o. o ≢ n) list
  around-others m [] other h = h
  around-others m (o ∷ list) other h = (⊎_elim (λ same is. other (sym same ∙ is)) (λ below. below-other o m below) h.0, around-others m list other h.1)

  around-stays : (m : ℕ) (list : List ℕ) → m ≢ n → AreAround ks m list → AreAround others m list
  around-stays m [] other h = h
  around-stays m (o ∷ list) other h = (⊎_elim (λ same. inl same) (λ below. inr (below-stays o m other below)) h.0, around-stays m list other h.1)

  tags-stay : (list : List ℕ) → Each (λ o. o ≢ n) list → map (tag_at others) list ≡ map (tag_at ks) list
  tags-stay [] h = refl
  tags-stay (o ∷ list) h = ap₂ (λ a b. a ∷ b) (tag-stays o h.0) (tags-stay list h.1)

  markup-stays : (p : Program) (m : ℕ) → m ≢ n → markup_in p others m ≡ markup_in p ks m
  markup-stays p m other = ap (λ o. markup_of (component_for p o)) (at-other ks n m other)

  -- ---- what the others were lent

  module _ (p : Program) (s : Showing) (sorted : AreSorted s.shown) (lent : AreLent p None ks s) where
    abbrev rest : Showing
    rest = removed s n

    lent-tags : (m : ℕ) (kin : Kin) (v : View) → at ks m ≡ Some kin → kin.lent ≡ Some v → tags_in others v ≡ tags_in ks v
    lent-tags m kin v live is = tags-stay (insts v) (above-others m (insts v) (lent.above m kin v live is))

    lent-stays : AreLent p None others rest
    lent-stays = record {
      above = λ m kin v live is. above-stays m (insts v) (at-differs ks n m kin live) (lent.above m kin v (at-before ks n m kin live) is);
      owners = λ m k kin v live is tag.
          let was = at-before ks n m kin live in
          subst (λ tags. OwnersFor p (content_in p k) tags v.owners) (sym (lent-tags m kin v was is))
          (lent.owners m k kin v was is (sym (tag-stays m (at-differs ks n m kin live)) ∙ tag));
      there = λ m kin live parent takes. lent.there m kin (at-before ks n m kin live) parent takes;
      unseen = λ m is. absurd (none-some m is);
    }

    -- ---- what is shown of them

    is-other : (m : ℕ) (x : Shown) → shown_of rest m ≡ Some x → m ≢ n
    is-other m x is = found-other n m s.shown x sorted is

    was-shown : (m : ℕ) (x : Shown) → shown_of rest m ≡ Some x → shown_of s m ≡ Some x
    was-shown m x is = found-before n m s.shown x sorted is

    shown-tags : (m : ℕ) (x : Shown) → m ≢ n → IsShown p ks m x → tags_in others x.view ≡ tags_in ks x.view
    shown-tags m x other h = tags-stay (insts x.view) (around-others m (insts x.view) other h.around)

    now-others : (m : ℕ) (kin : Kin) → m ≢ n → at ks m ≡ Some kin → Each (λ o. o ≢ n) (insts_now m kin)
    now-others m kin other live = (other, by kin.lent refl) where
      by : (o : Option View) → kin.lent ≡ o → Each (λ o. o ≢ n) (map (λ l. l.inst) (levels_of o))
      by None is = tt
      by (Some v) is = above-others m (insts v) (lent.above m kin v live is)

    shown-stays : (m : ℕ) (x : Shown) → m ≢ n → IsShown p ks m x → IsShown p others m x
    shown-stays m x other h = record {
      kin = h.kin;
      live = at-other ks n m other ∙ h.live;
      around = around-stays m (insts x.view) other h.around;
      owners = subst (λ f. OwnersFor p f (tags_in others x.view) x.view.owners) (sym (markup-stays p m other))
          (subst (λ tags. OwnersFor p (markup_in p ks m) tags x.view.owners) (sym (shown-tags m x other h)) h.owners);
      tags = shown-tags m x other h ∙ (h.tags ∙ sym (tags-stay (insts_now m h.kin) (now-others m h.kin other h.live)));
      fits = subst (λ f. Fits p (tags_in others x.view) f x.parts) (sym (markup-stays p m other))
          (subst (λ tags. Fits p tags (markup_in p ks m) x.parts) (sym (shown-tags m x other h)) h.fits);
    }

    -- so are the tags in it
    pub holds-stay : (m : ℕ) (x : Shown) → m ≢ n → IsShown p ks m x → holds_in p others m x ≡ holds_in p ks m x
    holds-stay m x other h = ap₂ (λ tags f. holds p tags f x.view x.parts) (shown-tags m x other h) (markup-stays p m other)

    held-stays : (holds : List Hold) → Each (HoldIsKept ks s) holds → Each (HoldIsKept others rest) holds
    held-stays [] h = h
    held-stays (x ∷ holds) h = (λ m kin stands live. held-here m kin live (h.0 m kin stands (at-before ks n m kin live)), held-stays holds h.1) where
      held-here : (m : ℕ) (kin : Kin) → at others m ≡ Some kin → IsKept ks x kin m → IsKept others x kin m
      held-here m kin live k = record {
        tag = tag-stays m (at-differs ks n m kin live) ∙ k.tag;
        tags = λ v is. lent-tags m kin v (at-before ks n m kin live) is ∙ k.tags v is;
      }

  -- ---- places

  module _ (pend : Pending) (s : Showing) (sorted : AreSorted s.shown) (before : AreBefore n pend) where
    -- what is shown of another one stays, and nothing is shown of it
    parts-stay : (q : ℕ) → q ≢ n → parts_of (removed s n) q ≡ parts_of s q
    parts-stay q other = ap old_parts (found-left s.shown n q other)

    none-shown : (q place : ℕ) → q ≡ n → count place (places_all (parts_of (removed s n) q)) ≡ 0
    unfolding places_all
    none-shown q place same = ap (λ parts. count place (places_all parts)) (ap (λ k. parts_of (removed s n) k) same ∙ ap old_parts (found-gone n s.shown sorted))

    none-due : (q place : ℕ) → q ≡ n → due pend q place ≡ 0
    none-due q place same = ap (λ l. count place (created_at l)) (ap (pending_of pend) same ∙ pending-none pend n before)

    -- so places count no more often
    shown-less : (q place : ℕ) → count place (places_all (parts_of (removed s n) q)) ≤ count place (places_all (parts_of s q))
    shown-less q place = ⊎_elim
        (λ same. let e = none-shown q place same in omega (arith, e))
        (λ other. let e = ap (λ parts. count place (places_all parts)) (parts-stay q other) in omega (arith, e))
        (cases_eq q n)

    -- a child of another one is one still, and it has none
    child-less : (q : ℕ) (o : Option ℕ) → one (is_child_of others q o) ≤ one (is_child_of ks q o)
    child-less q None = omega arith
    child-less q (Some m) = ⊎_elim
        (λ same. let e : one (is_child_of others q (Some m)) ≡ 0 = ap (λ k. one (is_parent q (parent_at others k))) same ∙ ap (λ k. one (is_parent q (parent_of k))) (at-gone ks n) in omega (arith, e))
        (λ other. let e = ap (λ k. one (is_parent q k)) (parent-stays m other) in omega (arith, e))
        (cases_eq m n)

    no-child : (q : ℕ) (o : Option ℕ) → q ≡ n → one (is_child_of others q o) ≡ 0
    no-child q None same = refl
    no-child q (Some m) same = by (parent_at others m) refl where
      by : (o : Option ℕ) → parent_at others m ≡ o → one (is_parent q o) ≡ 0
      by None is = refl
      by (Some r) is = ap one (ne_eqb q r (λ e. is-another m r (parent-was m r is) (sym e ∙ same)))

    places-stay : (next : ℕ) → ArePlaces pend ks s next → ArePlaces pend others (removed s n) next
    places-stay next h = record {
      once = λ q place. let a = h.once q place in let b = shown-less q place in omega (arith, a, b);
      apart = λ q r place other. let a = h.apart q r place other in let b = shown-less q place in let c = shown-less r place in omega (arith, a, b, c);
      kids = λ q place. ⊎_elim
          (λ same. let a = no-child q (child_at s place) same in let b = none-due q place same in omega (arith, a, b))
          (λ other.
          let a = h.kids q place in
          let b = child-less q (child_at s place) in
          let c = ap (λ parts. count place (places_all parts)) (parts-stay q other) in
          omega (arith, a, b, c))
          (cases_eq q n);
      due = λ q place. ⊎_elim
          (λ same. let b = none-due q place same in omega (arith, b))
          (λ other. let a = h.due q place in let c = ap (λ parts. count place (places_all parts)) (parts-stay q other) in omega (arith, a, c))
          (cases_eq q n);
    }

  children-stay : (leaving : List ℕ) (s : Showing) → AreChildren (n ∷ leaving) ks s → AreChildren leaving others (removed s n)
  children-stay leaving s h = record {
    sorted = h.sorted;
    parent = λ place m stands. ap is_some (parent-stays m (λ same. h.left place m (inl (sym same)) stands)) ∙ h.parent place m stands;
    once = h.once;
    left = λ place m gone stands. h.left place m (inr gone) stands;
    stand = λ m q is. ⊎_elim
        (λ gone. ⊎_elim (λ same. absurd (has-parent m q is (sym same))) (λ later. inl later) gone)
        (λ there. inr there)
        (h.stand m q (parent-was m q is));
  }

  -- ---- effects that are still to run

  module _ (p : Program) (s : Showing) (shown : (m : ℕ) (x : Shown) → shown_of s m ≡ Some x → IsShown p ks m x) (sorted : AreSorted s.shown) (lent : AreLent p None ks s) where
    effects-for : (pend : Pending) → Each (λ e. (x : Shown) → shown_of s e.0 ≡ Some x → Each (IsFor (holds_in p ks e.0 x)) e.1) pend →
        Each (λ e. (x : Shown) → shown_of (removed s n) e.0 ≡ Some x → Each (IsFor (holds_in p others e.0 x)) e.1) pend
    effects-for [] h = h
    effects-for (e ∷ pend) h = (here, effects-for pend h.1) where
      here : (x : Shown) → shown_of (removed s n) e.0 ≡ Some x → Each (IsFor (holds_in p others e.0 x)) e.1
      here x is =
          let was = was-shown p s sorted lent e.0 x is in
          subst (λ holds. Each (IsFor holds) e.1) (sym (holds-stay p s sorted lent e.0 x (is-other p s sorted lent e.0 x is) (shown e.0 x was))) (h.0 x was)

    effects-shown : (pend : Pending) → AreBefore n pend → Each (λ e. e.1 ≡ [] ⊎ (is_some (shown_of s e.0) ≡ true)) pend → Each (λ e. e.1 ≡ [] ⊎ (is_some (shown_of (removed s n) e.0) ≡ true)) pend
    effects-shown [] before h = h
    effects-shown (e ∷ pend) before h = (⊎_elim (λ none. inl none) (λ there. inr (ap is_some (found-left s.shown n e.0 differ) ∙ there)) h.0, effects-shown pend before.1 h.1) where
      differ : e.0 ≢ n
      differ = λ same. let lt = before.0 in absurd (omega (arith, lt, same))

    pending-stays : (pend : Pending) → AreBefore n pend → ArePending p pend ks s → ArePending p pend others (removed s n)
    pending-stays pend before h = record {
      ascend = h.ascend;
      made = subst (λ l. AreBefore l pend) (sym (length-set ks n None)) h.made;
      for = effects-for pend h.for;
      shown = effects-shown pend before h.shown;
    }

    -- ---- all of it

    family-stays : (pend : Pending) (leaving : List ℕ) (next : ℕ) → AreBefore n pend → Family p pend None (n ∷ leaving) ks s next → Family p pend None leaving others (removed s n) next
    family-stays pend leaving next before f = record {
      parents = parents-stay f.parents;
      cells = λ m kin c live is. f.cells m kin c (at-before ks n m kin live) is;
      lent = lent-stays p s sorted lent;
      sorted = sorted-left n s.shown sorted;
      shown = λ m x is. shown-stays p s sorted lent m x (is-other p s sorted lent m x is) (shown m x (was-shown p s sorted lent m x is));
      places = places-stay pend s sorted before next f.places;
      children = children-stay leaving s f.children;
      kept = λ m x is. kept-still m x (is-other p s sorted lent m x is) (was-shown p s sorted lent m x is);
      pending = pending-stays pend before f.pending;
    }
      where
        kept-still : (m : ℕ) (x : Shown) → m ≢ n → shown_of s m ≡ Some x → Each (HoldIsKept others (removed s n)) (holds_in p others m x)
        kept-still m x other was = subst (Each (HoldIsKept others (removed s n))) (sym (holds-stay p s sorted lent m x other (shown m x was))) (held-stays p s sorted lent (holds_in p ks m x) (f.kept m x was))

-- who has no children goes
pub family-gone : (p : Program) (pend : Pending) (leaving : List ℕ) (n : ℕ) (ks : Kins) (s : Showing) (next : ℕ) → AreBefore n pend → Each (λ l. l < n) leaving →
    ((place : ℕ) → Any (λ l. l ≡ place) (places_of s n) → child_at s place ≡ None) → Family p pend None (n ∷ leaving) ks s next → Family p pend None leaving (slice_set ks n None) (removed s n) next
family-gone p pend leaving n ks s next before earlier nobody f =
    family-stays ks n (childless p pend leaving n ks s next before earlier nobody f) p s f.shown f.sorted f.lent pend leaving next before f
