-- The owners on whose views tags stand: each tag stands in markup of its owner, whose slots look at the owner's own cell for a view.
use Rattle.std.proofs.Common.{◌≡◌, ℕ, zero, suc, List, [], ◌∷◌, map, drop, Option, None, Some, option_map, slice_get, refl, sym, subst}
use Rattle.std.proofs.lemmas.Option.{none-some, same_Some}
use Rattle.sv_code.proofs.Each.{each_mono}
use Rattle.sv_code.specs.Content.{ByTag, AreContentsSeen, SeesView, of_frags}
use Rattle.sv_code.specs.Names.{Each}
use Rattle.sv_code.specs.declared.fragments.Frag.{Frag}
use Rattle.sv_code.specs.declared.program.Component.{Component}
use Rattle.sv_code.specs.declared.program.Program.{Program}
use Rattle.sv_code.specs.declared.tags.Tag.{Tag}
use Rattle.sv_course.specs.Watched.{view_in, view_cells}
use Rattle.sv_family.proofs.Owning.{component_sees, content_sees}
use Rattle.sv_family.specs.Family.{IsShown, component_for, markup_in, holds_in}
use Rattle.sv_family.specs.Kin.{Kin, Kins, tag_of, tag_at, tags_in}
use Rattle.sv_instance.specs.Standing.{Standing}
use Rattle.sv_meaning.specs.Components.{component_at, markup_of}
use Rattle.sv_numbered.specs.Numbered.{at}
use Rattle.sv_places.specs.Any.{Any}
use Rattle.sv_shapes.specs.declared.shown.Shown.{Shown}
use Rattle.sv_shown.specs.Chains.{owner_of, IsOwnedBy, IsChain, AreStanding}
use Rattle.sv_stands.proofs.Standing.{holds_stand}
use Rattle.sv_stands.specs.Holds.{Hold}
use Rattle.sv_stands.specs.Standing.{StandsOn, content_of, content_in, frags_at}
use Rattle.sv_view.specs.Level.{View}
use Rattle.sv_view.specs.View.{insts}

-- ---- owners further out

chain_drop : (ks : Kins) (depth : ℕ) (list : List ℕ) → IsChain ks list → IsChain ks (drop depth list)
chain_drop ks zero list h = h
chain_drop ks (suc depth) [] h = tt
chain_drop ks (suc depth) (n ∷ list) h = chain_drop ks depth list h.1

-- so it is with the instances on whose view a tag stands
pub chain_of_hold : (p : Program) (ks : Kins) (frags : List Frag) (tags : List (Option ℕ)) (v : View) (h : Hold) → StandsOn p frags tags v h → IsChain ks (insts v) → IsChain ks (insts h.view)
chain_of_hold p ks frags tags v h on chain = subst (IsChain ks) (sym on.insts_are) (chain_drop ks on.depth (insts v) chain)

module _ (p : Program) (ks : Kins) where
  -- ---- cells for views

  -- each slot in some markup, and in the content of tags in there, looks at an instance's own cell for its owner's view
  abbrev SeesOwn : List Frag → ℕ → Type 0
  SeesOwn frags n = (depth : ℕ) → Each (SeesView p.tags (view_cells p ks n) depth) (of_frags frags [])

  -- so it is with the first of some instances, if there is one
  abbrev FirstSees : List Frag → List ℕ → Type 0
  FirstSees frags [] = Unit {0}
  FirstSees frags (n ∷ list) = SeesOwn frags n

  none_sees : (list : List ℕ) → FirstSees [] list
  none_sees [] = tt
  none_sees (n ∷ list) = λ depth. tt

  markup_sees : AreContentsSeen p → (n : ℕ) → SeesOwn (markup_in p ks n) n
  markup_sees contents n = of_kin (at ks n)
    where
      of_component : (file : ℕ) (o : Option Component) → component_at p file ≡ o → (depth : ℕ) → Each (SeesView p.tags (view_in o) depth) (of_frags (markup_of o) [])
      of_component file None is depth = tt
      of_component file (Some c) is depth = component_sees p contents file c is depth

      of_kin : (k : Option Kin) (depth : ℕ) → Each (SeesView p.tags (view_in (component_for p k)) depth) (of_frags (markup_of (component_for p k)) [])
      of_kin None depth = tt
      of_kin (Some kin) depth = of_component kin.place.component (component_at p kin.place.component) refl depth

  tag_content_sees : (frags : List Frag) (n k : ℕ) → Any (λ look. look.by ≡ ByTag k) (of_frags frags []) → SeesOwn frags n → SeesOwn (content_in p k) n
  tag_content_sees frags n k within see = by (slice_get p.tags k) refl
    where
      by : (o : Option Tag) → slice_get p.tags k ≡ o → SeesOwn (content_of o) n
      by None is = λ depth. tt
      by (Some t) is = content_sees p (view_cells p ks n) frags k t is within see

  module _ (standing : AreStanding p ks) where
    -- the content of the tag at which an instance stands, on the level of its owner
    owner_sees : (n k : ℕ) (list : List ℕ) → tag_at ks n ≡ Some k → IsOwnedBy ks n list → FirstSees (content_in p k) list
    owner_sees n k [] tag owned = tt
    owner_sees n k (o ∷ list) tag owned = by (at ks n) refl tag owned
      where
        stood : (kin : Kin) → at ks n ≡ Some kin → (place : Option Standing) → kin.place.standing ≡ place → option_map (λ s. s.tag) place ≡ Some k → option_map (λ s. s.owner) place ≡ Some o → SeesOwn (content_in p k) o
        stood kin live None is tag owner = absurd (none-some k tag)
        stood kin live (Some s) is tag owner =
            subst (SeesOwn (content_in p k)) (same_Some s.owner o owner) (subst (λ z. SeesOwn (content_in p z) s.owner) (same_Some s.tag k tag) (standing n kin s live is).sees)

        by : (m : Option Kin) → at ks n ≡ m → tag_of m ≡ Some k → owner_of m ≡ Some o → SeesOwn (content_in p k) o
        by None live tag owner = absurd (none-some k tag)
        by (Some kin) live tag owner = stood kin live kin.place.standing refl tag owner

    -- the markup so many levels further out, on the level of the instance there
    sees_along : (depth : ℕ) (frags : List Frag) (list : List ℕ) → IsChain ks list → FirstSees frags list → FirstSees (frags_at p frags (map (tag_at ks) list) depth) (drop depth list)
    sees_along zero frags list chain see = see
    sees_along (suc depth) frags [] chain see = tt
    sees_along (suc depth) frags (n ∷ list) chain see = by (tag_at ks n) refl (λ k is. sees_along depth (content_in p k) list chain.1 (owner_sees n k list is chain.0))
      where
        by : (o : Option ℕ) → tag_at ks n ≡ o → ((k : ℕ) → tag_at ks n ≡ Some k → FirstSees (frags_at p (content_in p k) (map (tag_at ks) list) depth) (drop depth list)) →
            FirstSees (frags_at p frags (o ∷ map (tag_at ks) list) (suc depth)) (drop depth list)
        by None is onward = none_sees (drop depth list)
        by (Some k) is onward = onward k is

    hold_sees : (frags : List Frag) (v : View) → IsChain ks (insts v) → SeesOwn frags v.own.inst → (h : Hold) → StandsOn p frags (tags_in ks v) v h → SeesOwn (content_in p h.tag) h.view.own.inst
    hold_sees frags v chain see h on =
        let there = frags_at p frags (tags_in ks v) on.depth in
        tag_content_sees there h.view.own.inst h.tag on.within (subst (FirstSees there) (sym on.insts_are) (sees_along on.depth frags (insts v) chain see))

-- ---- what is shown

-- each slot in the content of a tag in what is shown looks at the cell for a view of the instance on whose view the tag stands
pub sees_at_makes : (p : Program) → AreContentsSeen p → (ks : Kins) → AreStanding p ks → (q : ℕ) (x : Shown) → IsShown p ks q x → x.view.own.inst ≡ q → IsChain ks (insts x.view) →
    Each (λ h. (depth : ℕ) → Each (SeesView p.tags (view_cells p ks h.view.own.inst) depth) (of_frags (content_in p h.tag) [])) (holds_in p ks q x)
sees_at_makes p contents ks standing q x shown is chain =
    each_mono (StandsOn p (markup_in p ks q) (tags_in ks x.view) x.view) (λ h. SeesOwn p ks (content_in p h.tag) h.view.own.inst)
    (hold_sees p ks standing (markup_in p ks q) x.view chain (subst (SeesOwn p ks (markup_in p ks q)) (sym is) (markup_sees p ks contents q))) (holds_in p ks q x)
    (holds_stand p (tags_in ks x.view) (markup_in p ks q) x.view x.parts shown.owners)
