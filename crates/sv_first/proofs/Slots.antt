-- A view agrees with itself, level by level, where it has the owners that its markup needs.
use Rattle.std.proofs.Common.{◌≡◌, ℕ, zero, suc, true, List, [], ◌∷◌, Option, Some, None, refl, sym, ap, inl, inr, slice_get}
use Rattle.std.proofs.lemmas.Bool.{true≢false}
use Rattle.sv_agree.proofs.Looking.{frags_look}
use Rattle.sv_agree.specs.Agreeing.{AgreesAbove, AgreesForTag, slot_in, slot_in_tag, slot_within}
use Rattle.sv_agree.specs.Scopes.{Scope, AgreesAt}
use Rattle.sv_code.proofs.Each.{each_mono}
use Rattle.sv_code.specs.Content.{Look, ByTag, BySlot, of_frags}
use Rattle.sv_code.specs.Names.{Each}
use Rattle.sv_code.specs.declared.fragments.Frag.{Frag}
use Rattle.sv_code.specs.declared.program.Program.{Program}
use Rattle.sv_code.specs.declared.tags.Tag.{Tag}
use Rattle.sv_family.proofs.Holding.{any_mono}
use Rattle.sv_places.specs.Any.{Any}
use Rattle.sv_stands.specs.Standing.{HasSlot, here, inside, OwnersFor, content_of}
use Rattle.sv_value.specs.Value.{Val}
use Rattle.sv_view.specs.Level.{Level}
use Rattle.sv_view.specs.View.{view_from}

-- ---- slots that are found

-- each of some things is one of them
each_among : {A : Type 0} (xs : List A) → Each (λ x. Any (λ y. y ≡ x) xs) xs
each_among [] = tt
each_among (x ∷ xs) = (inl refl, each_mono (λ z. Any (λ y. y ≡ z) xs) (λ z. Any (λ y. y ≡ z) (x ∷ xs)) (λ z a. inr a) xs (each_among xs))

module _ (p : Program) where
  abbrev Among : List Frag → Look → Type 0
  Among frags look = Any (λ l. l ≡ look) (of_frags frags [])

  found_with : (depth : ℕ) (frags : List Frag) → slot_within p depth frags ≡ true → ((k : ℕ) → slot_in_tag p depth k ≡ true → Any (λ l. l.by ≡ ByTag k) (of_frags frags []) → HasSlot p frags) → HasSlot p frags
  found_with depth frags e by_tag =
      frags_look (slot_in_tag p depth) (Among frags) (HasSlot p frags)
      (λ bound reads a. here frags (any_mono (λ l. l ≡ record { by = BySlot; bound = bound; reads = reads }) (λ l. l.by ≡ BySlot) (λ l q. ap (λ (z : Look). z.by) q) (of_frags frags []) a))
      (λ bound k reads q a. by_tag k q (any_mono (λ l. l ≡ record { by = ByTag k; bound = bound; reads = reads }) (λ l. l.by ≡ ByTag k) (λ l r. ap (λ (z : Look). z.by) r) (of_frags frags []) a))
      frags [] e (each_among (of_frags frags []))

  -- a slot in the content of a tag
  in_tag : (depth : ℕ) → ((frags : List Frag) → slot_within p depth frags ≡ true → HasSlot p frags) → (frags : List Frag) (k : ℕ) (o : Option Tag) → slice_get p.tags k ≡ o →
      slot_in (slot_in_tag p depth) o ≡ true → Any (λ l. l.by ≡ ByTag k) (of_frags frags []) → HasSlot p frags
  in_tag depth all frags k None is e a = absurd (true≢false (sym e))
  in_tag depth all frags k (Some t) is e a = inside frags k t a is (all t.content e)

  -- where one stands so many tags deep, one stands
  pub found : (depth : ℕ) (frags : List Frag) → slot_within p depth frags ≡ true → HasSlot p frags
  found zero frags e = found_with zero frags e (λ k q a. absurd (true≢false (sym q)))
  found (suc depth) frags e = found_with (suc depth) frags e (λ k q a. in_tag depth (found depth) frags k (slice_get p.tags k) refl q a)

  -- ---- a view and itself

  pub same_at : (scope : Scope) (own : Level) (ls ls' : List Level) (ms : List (List (Option Val))) → AgreesAt scope (record { own = own; owners = ls; modules = ms }) (record { own = own; owners = ls'; modules = ms })
  same_at scope own ls ls' ms = record { one = record { inst = refl; constants = refl; modules = refl }; cells = λ n e. refl; locals = λ x e. refl }

  module _ (depth : ℕ) (ms : List (List (Option Val))) where
    abbrev Agrees : List (Option ℕ) → List Level → Type 0
    Agrees tags ls = AgreesAbove p depth tags tags (view_from ls ms) (view_from ls ms)

    abbrev AllAgree : List (Option ℕ) → Type 0
    AllAgree tags = (ls : List Level) (frags : List Frag) → HasSlot p frags → OwnersFor p frags tags ls → Agrees tags ls

    tag_agrees : (tags : List (Option ℕ)) → AllAgree tags → (t : Option Tag) (l : Level) (ls : List Level) → OwnersFor p (content_of t) tags ls →
        AgreesForTag p depth t (AgreesAbove p depth tags tags) (view_from (l ∷ ls) ms) (view_from (l ∷ ls) ms)
    tag_agrees tags all None l ls owners = tt
    tag_agrees tags all (Some t) l ls owners = (same_at _ l ls ls ms, λ e. all ls t.content (found depth t.content e) owners)

    -- its owners agree with themselves, where a slot stands
    pub itself : (tags : List (Option ℕ)) → AllAgree tags
    itself [] ls frags s owners = refl
    itself (None ∷ tags) ls frags s owners = refl
    itself (Some k ∷ tags) [] frags s owners = absurd (owners s)
    itself (Some k ∷ tags) (l ∷ ls) frags s owners = (refl, tag_agrees tags (itself tags) (slice_get p.tags k) l ls (owners s))
