-- The place of a number in a list, and the list without it.
use Rattle.std.proofs.Common.{◌≡◌, ℕ, suc, ◌+◌, ◌<◌, ◌≤◌, List, [], ◌∷◌, ◌++◌, map, length, take, drop, get_or, refl, sym, ap, ◌∙◌, nat_eq, true, false, add-one}
use Rattle.std.specs.List.{remove}
use Rattle.std.proofs.lemmas.Bool.{eq-eqb, ne_eqb}
use Rattle.std.proofs.lemmas.List.{append_assoc, append-nil, map-append, take_more, drop_more, take_all, drop_all}
use Rattle.sv_states.specs.Waiting.{without}

module _ {A : Type 0} (f : A → ℕ) (xs : List A) (n : ℕ) where
  -- the first ones, and the others without the number
  abbrev pub Passed : ℕ → Type 0
  Passed i = without (map f xs) n ≡ map f (take i xs) ++ without (map f (drop i xs)) n

  pub passed-more : (i : ℕ) (d : A) → i < length xs → Passed i → (f (get_or xs i d) ≡ n → ⊥) → Passed (i + 1)
  passed-more i d h p other =
      let b : nat_eq (f (get_or xs i d)) n ≡ false = ne_eqb (f (get_or xs i d)) n other in
      p ∙ ap (λ l. map f (take i xs) ++ without (map f l) n) (drop_more xs i d h)
      ∙ rw b (sym (append_assoc (map f (take i xs)) (f (get_or xs i d) ∷ []) (without (map f (drop (i + 1) xs)) n)))
      ∙ ap (λ l. l ++ without (map f (drop (i + 1) xs)) n) (sym (map-append f (take i xs) (get_or xs i d ∷ [])) ∙ ap (map f) (sym (take_more xs i d h)))

  pub passed-found : (i : ℕ) (d : A) → i < length xs → Passed i → f (get_or xs i d) ≡ n → without (map f xs) n ≡ map f (remove xs i)
  passed-found i d h p same =
      p ∙ ap (λ l. map f (take i xs) ++ without (map f l) n) (drop_more xs i d h)
      ∙ (let b : nat_eq (f (get_or xs i d)) n ≡ true = eq-eqb (f (get_or xs i d)) n same in rw b refl)
      ∙ ap (λ k. map f (take i xs) ++ map f (drop k xs)) (add-one i)
      ∙ sym (map-append f (take i xs) (drop (suc i) xs))

  pub passed-all : (i : ℕ) → length xs ≤ i → Passed i → without (map f xs) n ≡ map f xs
  passed-all i h p = p ∙ ap (λ l. map f (take i xs) ++ without (map f l) n) (drop_all i xs h) ∙ append-nil (map f (take i xs)) ∙ ap (map f) (take_all i xs h)
