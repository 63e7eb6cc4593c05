-- What is shown of instances is right, as they are made and shown.
use Rattle.std.proofs.Common.{◌≡◌, ◌≢◌, ℕ, ◌<◌, ◌≤◌, List, [], ◌∷◌, ◌++◌, length, Option, Some, None, refl, sym, subst, ◌∙◌, arith, ⊎_elim, ◌⊎◌}
use Rattle.std.specs.BTreeMap.{is_at, insert_entry}
use Rattle.std.specs.Map.{lookup}
use Rattle.std.specs.Ordering.{nat_cmp}
use Rattle.std.proofs.lemmas.Bool.{cases_eq}
use Rattle.std.proofs.lemmas.List.{get_or_append_left, length_push}
use Rattle.std.proofs.lemmas.Option.{none-some, same_Some}
use Rattle.sv_code.specs.declared.program.Program.{Program}
use Rattle.sv_flush.proofs.Holding.{lent-added}
use Rattle.sv_flush.specs.Lent.{IsLent}
use Rattle.sv_instance.specs.Standing.{Place}
use Rattle.sv_meaning.specs.Components.{markup_of}
use Rattle.sv_numbered.specs.Numbered.{at}
use Rattle.sv_places.proofs.Lookups.{found-put, found-put_other}
use Rattle.sv_right.specs.Right.{AreRight}
use Rattle.sv_seen.proofs.Spots.{tags_at, component_in, AreMade, made-more, tags-grown}
use Rattle.sv_shapes.specs.declared.shown.Shown.{Shown}
use Rattle.sv_view.specs.Level.{View}

module _ (p : Program) where
  -- an instance is one of those that were made, so are those of the levels of its view, and what is shown of it is right
  pub record OneRight (known : List (Option Place)) (n : ℕ) (x : Shown) : Type 0 where
    pub made : n < length known
    pub levels : AreMade (length known) x.view
    pub right : AreRight p (tags_at known x.view) (markup_of (component_in p (at known n))) x.view x.parts

  -- so many instances were made at least, views that were lent are of such as were made, and each that is shown is shown right
  pub record AllRight (from : ℕ) (known : List (Option Place)) (lent : List (Option (Option View))) (shown : List (ℕ × Shown)) : Type 0 where
    pub grown : from ≤ length known
    pub lends : (v : View) → IsLent lent v → AreMade (length known) v
    pub shows : (n : ℕ) (x : Shown) → lookup (is_at (nat_cmp n)) shown ≡ Some x → OneRight known n x

  -- ---- an instance is made

  module _ (known : List (Option Place)) (place : Place) where
    -- the places with that of one more
    abbrev more : List (Option Place)
    more = known ++ Some place ∷ []

    longer : length known ≤ length more
    longer = let e = length_push known (Some place) in omega (arith, e)

    one-born : (n : ℕ) (x : Shown) → OneRight known n x → OneRight more n x
    one-born n x h = record {
      made = let below = h.made in omega (arith, below, longer);
      levels = made-more (length known) (length more) x.view longer h.levels;
      right = subst (λ ts. AreRight p ts (markup_of (component_in p (at more n))) x.view x.parts) (sym (tags-grown known (Some place) x.view h.levels))
          (subst (λ o. AreRight p (tags_at known x.view) (markup_of (component_in p o)) x.view x.parts) (sym (get_or_append_left known (Some place ∷ []) None n h.made)) h.right);
    }

    -- it was lent no view
    pub all-born : (from : ℕ) (lent : List (Option (Option View))) (shown : List (ℕ × Shown)) → AllRight from known lent shown → AllRight from more (lent ++ Some None ∷ []) shown
    all-born from lent shown h = record {
      grown = let enough = h.grown in omega (arith, enough, longer);
      lends = λ v l. ⊎_elim (λ old. made-more (length known) (length more) v longer (h.lends v old)) (λ new. absurd (none-some v (same_Some None (Some v) new))) (lent-added lent (Some None) v l);
      shows = λ n x e. one-born n x (h.shows n x e);
    }

  -- it isn't shown yet
  pub none-shown : (from : ℕ) (known : List (Option Place)) (lent : List (Option (Option View))) (shown : List (ℕ × Shown)) → AllRight from known lent shown
      → lookup (is_at (nat_cmp (length known))) shown ≡ None
  none-shown from known lent shown h = by (lookup (is_at (nat_cmp (length known))) shown) (λ x e. (h.shows (length known) x e).made) where
    by : (o : Option Shown) → ((x : Shown) → o ≡ Some x → length known < length known) → o ≡ None
    by None k = refl
    by (Some x) k = let below = k x refl in absurd (omega (arith, below))

  -- ---- what else is done

  module _ (from : ℕ) (known : List (Option Place)) (lent : List (Option (Option View))) (shown : List (ℕ × Shown)) (h : AllRight from known lent shown) where
    -- a view is lent
    pub all-lent : (view : View) (lent' : List (Option (Option View))) → AreMade (length known) view → ((v : View) → IsLent lent' v → IsLent lent v ⊎ (view ≡ v)) → AllRight from known lent' shown
    all-lent view lent' made k = record { grown = h.grown; lends = λ v l. ⊎_elim (λ old. h.lends v old) (λ new. subst (AreMade (length known)) new made) (k v l); shows = h.shows }

    -- an instance is shown
    pub all-shown : (n : ℕ) (x : Shown) → OneRight known n x → AllRight from known lent (insert_entry nat_cmp shown n x)
    all-shown n x new = record { grown = h.grown; lends = h.lends; shows = λ q y e. by q y e (cases_eq q n) } where
      by : (q : ℕ) (y : Shown) → lookup (is_at (nat_cmp q)) (insert_entry nat_cmp shown n x) ≡ Some y → (q ≡ n) ⊎ (q ≢ n) → OneRight known q y
      by q y e c = ⊎_elim
          (λ same. subst (λ k. OneRight known k y) (sym same)
          (subst (OneRight known n) (same_Some x y (sym (found-put shown n x) ∙ subst (λ k. lookup (is_at (nat_cmp k)) (insert_entry nat_cmp shown n x) ≡ Some y) same e)) new))
          (λ other. h.shows q y (sym (found-put_other shown n x q other) ∙ e))
          c

    -- what was made stays made
    pub all-from : (new : ℕ) → new ≤ length known → AllRight new known lent shown
    all-from new enough = record { grown = enough; lends = h.lends; shows = h.shows }
