-- What the patch of an instance does to the children that stand in it, by the counts of their places.
use Rattle.std.proofs.Common.{◌≡◌, inl, inr, ℕ, ◌+◌, ◌≤◌, true, List, [], ◌∷◌, Option, Some, None, Ok, Err, refl, sym, ap, ◌∙◌, nat_eq, nat_lt, is_some, arith}
use Rattle.std.proofs.lemmas.Bool.{eq-eqb}
use Rattle.sv_code.proofs.Each.{each_mono}
use Rattle.sv_code.specs.Names.{Each}
use Rattle.sv_code.specs.declared.fragments.Frag.{Frag}
use Rattle.sv_code.specs.declared.program.Program.{Program}
use Rattle.sv_family.proofs.Kids.{kid-counts}
use Rattle.sv_family.specs.Family.{ArePlaces, AreChildren, IsKept, HoldIsKept}
use Rattle.sv_family.specs.Kin.{Kin, Kins, parent_at}
use Rattle.sv_family.specs.Pending.{Pending}
use Rattle.sv_numbered.specs.Numbered.{at}
use Rattle.sv_parts.specs.State.{Outcome}
use Rattle.sv_parts.specs.declared.counters.Counters.{Counters}
use Rattle.sv_parts.specs.declared.state.Effect.{Effect}
use Rattle.sv_parts.specs.declared.state.Effect.TheVariants.{Create, Set, Destroy}
use Rattle.sv_parts.specs.declared.state.Kept.{Kept}
use Rattle.sv_parts.specs.declared.tally.Tally.{Tally}
use Rattle.sv_places.proofs.Counting.{count-append, given-between, given-below}
use Rattle.sv_places.specs.Keeping.{created_at, created_by}
use Rattle.sv_places.specs.Numbers.{count, given}
use Rattle.sv_plan.specs.Patch.{After, begun, ended, planned, patched}
use Rattle.sv_shapes.specs.Showing.{Showing, shown_of, child_at, recorded}
use Rattle.sv_shapes.specs.declared.shape.Shape.{Shape}
use Rattle.sv_stands.specs.Holds.{Hold}
use Rattle.sv_places.specs.Any.{Any}
use Rattle.sv_stands.specs.Lent.{Makes, GoesOn, IsLent, IsMade}
use Rattle.sv_tokens.proofs.Counting.{one-most}
use Rattle.sv_tokens.specs.Counting.{one}
use Rattle.sv_view.specs.Level.{View}

-- ---- what is recorded

-- a patch records what is shown now of its instance, and changes nothing else
pub record Records (s : Showing) (n : ℕ) (view : View) (after : After) : Type 0 where
  pub parts : List Shape
  pub is : after.showing ≡ recorded s n view parts

records_end : (s : Showing) (n : ℕ) (view : View) (o : Outcome (List Shape)) (after : After) → ended s n view o ≡ Ok after → Records s n view after
records_end s n view (Ok (parts, t)) after e =
    let same : record { effects = t.effects; kept = t.kept; showing = recorded s n view parts; counters = t.counters; tally = t.tally } ≡ after = cc in
    record { parts = parts; is = sym (ap (λ (a : After). a.showing) same) }
records_end s n view (Err r) after e = absurd (cc)

pub patch_records : (p : Program) (tags : List (Option ℕ)) (n : ℕ) (markup : List Frag) (view : View) (s : Showing) (counters : Counters) (tally : Tally) (after : After) →
    patched p tags n markup view s counters tally ≡ Ok after → Records s n view after
unfolding patched
patch_records p tags n markup view s counters tally after e = records_end s n view (planned p tags markup (shown_of s n) view (begun counters tally)) after e

-- ---- children that are made

made_by : (h : Hold) (e : Effect) → Makes h e → 1 ≤ count h.place (created_by e)
made_by h (Create place tag props view) m = let once : one (nat_eq h.place place) ≡ 1 = ap one (eq-eqb h.place place (sym m.0)) in omega (arith, once)
made_by h (Set place props view) m = elim m [ ]
made_by h (Destroy place) m = elim m [ ]

-- the place of a hold whose child is made is one at which a child is made
pub made_at : (h : Hold) (effects : List Effect) → Any (Makes h) effects → 1 ≤ count h.place (created_at effects)
made_at h [] a = elim a [ ]
made_at h (e ∷ effects) (inl m) = omega (arith, count-append h.place (created_by e) (created_at effects), made_by h e m)
made_at h (e ∷ effects) (inr a) = omega (arith, count-append h.place (created_by e) (created_at effects), made_at h effects a)

-- a number that is given now wasn't given before
pub given_later : (next to place : ℕ) → next ≤ to → given 0 next place + given next to place ≡ given 0 to place
given_later next to place more = omega (arith, given-below place next, given-below place to, given-between next to place more)

module _ (ks : Kins) (s : Showing) where
  -- nobody stands at a place that is given now
  pub bare_place : (pend : Pending) (leaving : List ℕ) (next to place c : ℕ) → next ≤ to → ArePlaces pend ks s next → AreChildren leaving ks s → 1 ≤ given next to place → child_at s place ≡ Some c → ⊥
  bare_place pend leaving next to place c more places children new there = by (parent_at ks c) refl (children.parent place c there)
    where
      by : (o : Option ℕ) → parent_at ks c ≡ o → is_some o ≡ true → ⊥
      by None e some = absurd (cc)
      by (Some r) e some = absurd (omega (arith, kid-counts ks s r place c there e, places.kids r place, places.once r place, given_later next to place more, given-below place to, one-most (nat_lt place to), new))

  -- ---- tags

  -- a child whose tag goes on stands as it did
  goes_kept : (p : Program) (effects : List Effect) (kept : List Kept) (new old : Hold) → GoesOn p effects kept new old → HoldIsKept ks s old → HoldIsKept ks s new
  goes_kept p effects kept new old goes h = λ c kin there live. by c kin live (h c kin (ap (child_at s) goes.place ∙ there) live)
    where
      by : (c : ℕ) (kin : Kin) → at ks c ≡ Some kin → IsKept ks old kin c → IsKept ks new kin c
      by c kin live k = record { tag = k.tag ∙ ap Some goes.tag; tags = λ v e. k.tags v e ∙ goes.tags }

  goes_from : (p : Program) (effects : List Effect) (kept : List Kept) (new : Hold) (olds : List Hold) → Any (GoesOn p effects kept new) olds → Each (HoldIsKept ks s) olds → HoldIsKept ks s new
  goes_from p effects kept new [] a h = elim a [ ]
  goes_from p effects kept new (old ∷ olds) (inl goes) h = goes_kept p effects kept new old goes h.0
  goes_from p effects kept new (old ∷ olds) (inr a) h = goes_from p effects kept new olds a h.1

  module _ (effects : List Effect) (bare : (place c : ℕ) → 1 ≤ count place (created_at effects) → child_at s place ≡ Some c → ⊥) where
    -- where a child is still to be made, none stands yet
    made_kept : (h : Hold) → IsMade effects h → HoldIsKept ks s h
    made_kept h made = λ c kin there live. absurd (bare h.place c (made_at h effects made) there)

    pub all_made_kept : (news : List Hold) → Each (IsMade effects) news → Each (HoldIsKept ks s) news
    all_made_kept news all = each_mono (IsMade effects) (HoldIsKept ks s) made_kept news all

    lent_kept : (p : Program) (kept : List Kept) (olds : List Hold) → Each (HoldIsKept ks s) olds → (h : Hold) → IsLent p effects kept olds h → HoldIsKept ks s h
    lent_kept p kept olds were h (inl made) = made_kept h made
    lent_kept p kept olds were h (inr goes) = goes_from p effects kept h olds goes were

    -- those of tags that go on stand as they did
    pub all_lent_kept : (p : Program) (kept : List Kept) (olds news : List Hold) → Each (HoldIsKept ks s) olds → Each (IsLent p effects kept olds) news → Each (HoldIsKept ks s) news
    all_lent_kept p kept olds news were all = each_mono (IsLent p effects kept olds) (HoldIsKept ks s) (lent_kept p kept olds were) news all
