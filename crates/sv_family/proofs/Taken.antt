-- What is found by a number after an entry was taken away.
use Rattle.std.proofs.Common.{◌≡◌, ℕ, ◌<◌, List, [], ◌∷◌, Option, None, Some, Bool, true, false, cond, refl, sym, ap, ◌∙◌, arith}
use Rattle.std.specs.BTreeMap.{is_at}
use Rattle.std.specs.Cmp.{ranks}
use Rattle.std.specs.Map.{lookup, remove_entry}
use Rattle.std.specs.Ordering.{MatchOrdering, nat_cmp, is_eq}
use Rattle.std.specs.Option.{option_map_or}
use Rattle.std.specs.Prelude.{slice_set}
use Rattle.std.specs.declared.cmp.Ordering.{Ordering}
use Rattle.std.specs.declared.cmp.Ordering.TheVariants.{Less, Equal, Greater}
use Rattle.std.proofs.lemmas.Bool.{true≢false}
use Rattle.std.proofs.lemmas.List.{get_or-set_other}
use Rattle.std.proofs.lemmas.Option.{none-some}
use Rattle.sv_family.specs.Kin.{Kins, depth_at, depth_of}
use Rattle.sv_places.proofs.Lookups.{found-left}
use Rattle.sv_shapes.specs.Places.{places_all}
use Rattle.sv_shapes.specs.Showing.{Showing, places_of, removed as unshown}

same_key : (q k : ℕ) → is_eq (nat_cmp q k) ≡ true → q ≡ k
same_key q k e = by (nat_cmp q k) (ranks q k) e where
  by : (r : Ordering) → MatchOrdering r (q < k) (q ≡ k) (k < q) → is_eq r ≡ true → q ≡ k
  by Less h f = absurd (true≢false (sym f))
  by Equal h f = h
  by Greater h f = absurd (true≢false (sym f))

other_key : (q k : ℕ) → q < k → is_eq (nat_cmp q k) ≡ false
other_key q k lt = by (nat_cmp q k) (ranks q k) where
  by : (r : Ordering) → MatchOrdering r (q < k) (q ≡ k) (k < q) → is_eq r ≡ false
  by Less h = refl
  by Equal h = absurd (omega (arith, h, lt))
  by Greater h = refl

module _ {X : Type 0} where
  abbrev found : ℕ → List (ℕ × X) → Option X
  found q es = lookup (is_at (nat_cmp q)) es

  -- what isn't found isn't found then
  pub still-none : (es : List (ℕ × X)) (k q : ℕ) → found q es ≡ None → found q (remove_entry (is_at (nat_cmp k)) es) ≡ None
  still-none [] k q e = e
  still-none (x ∷ es) k q e = by (still-none es k q) (is_eq (nat_cmp k x.0)) (is_eq (nat_cmp q x.0)) refl e where
    by : (found q es ≡ None → found q (remove_entry (is_at (nat_cmp k)) es) ≡ None) → (b : Bool) (c : Bool) → is_eq (nat_cmp q x.0) ≡ c → cond c (Some x.1) (found q es) ≡ None
        → found q (cond b es (x ∷ remove_entry (is_at (nat_cmp k)) es)) ≡ None
    by rest b true is f = absurd (none-some x.1 (sym f))
    by rest true false is f = f
    by rest false false is f = ap (λ c. cond c (Some x.1) (found q (remove_entry (is_at (nat_cmp k)) es))) is ∙ rest f

-- ---- what is shown

-- what earlier instances show stays
pub shown-kept : (s : Showing) (d n : ℕ) → n < d → places_of (unshown s d) n ≡ places_of s n
shown-kept s d n lt = ap (λ o. option_map_or (λ x. places_all x.parts) o []) (found-left s.shown d n (λ e. omega (arith, e, lt)))

-- and so does how deep they are
pub at-kept : (ks : Kins) (d n : ℕ) → n < d → depth_at (slice_set ks d None) n ≡ depth_at ks n
at-kept ks d n lt = ap depth_of (get_or-set_other ks d n None None (λ e. omega (arith, e, lt)))
