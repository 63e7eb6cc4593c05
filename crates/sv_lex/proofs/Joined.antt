-- Numbers of texts in two tables, one behind the other.
use Rattle.std.proofs.Common.{◌≡◌, ◌≢◌, ◌≤◌, ℕ, ◌+◌, Bool, true, false, not, ◌||◌, cond, List, [], ◌∷◌, ◌++◌, length, refl, ap, sym, ◌∙◌, subst, arith, append_assoc, length-append}
use Rattle.std.specs.Str.{bytes_eq}
use Rattle.std.specs.List.{list_any, position_or_len, IsDistinct, AllByRecursion}
use Rattle.std.specs.Cmp.Lexicographic.{bytes_decides}
use Rattle.std.proofs.lemmas.List.Folds.{list_any-append}
use Rattle.sv_base.specs.Names.{number_of, with_text, IsTable}
use Rattle.sv_base.specs.declared.limits.TheConstants.{NAME_LIMIT}

pub number_of-le : (t : List ℕ) (xs : List (List ℕ)) → number_of t xs ≤ length xs
unfolding number_of
number_of-le t [] = omega arith
number_of-le t (x ∷ xs) = by (bytes_eq t x) (number_of-le t xs)
  where
    by : (b : Bool) → position_or_len (bytes_eq t) xs ≤ length xs → cond (not b) (1 + position_or_len (bytes_eq t) xs) 0 ≤ length (x ∷ xs)
    by true h = omega arith
    by false h = omega arith

-- in the first
pub number_of-front : (t : List ℕ) (xs ys : List (List ℕ)) → number_of t xs ≢ length xs → number_of t (xs ++ ys) ≡ number_of t xs
unfolding number_of
number_of-front t [] ys h = absurd (h refl)
number_of-front t (x ∷ xs) ys h = by (bytes_eq t x) h (number_of-front t xs ys)
  where
    by : (b : Bool) → cond (not b) (1 + position_or_len (bytes_eq t) xs) 0 ≢ length (x ∷ xs)
        → (position_or_len (bytes_eq t) xs ≢ length xs → position_or_len (bytes_eq t) (xs ++ ys) ≡ position_or_len (bytes_eq t) xs)
        → cond (not b) (1 + position_or_len (bytes_eq t) (xs ++ ys)) 0 ≡ cond (not b) (1 + position_or_len (bytes_eq t) xs) 0
    by true h more = refl
    by false h more = ap (λ n. 1 + n) (more (λ e. h (omega arith)))

-- in the second, or in neither
pub number_of-back : (t : List ℕ) (xs ys : List (List ℕ)) → number_of t xs ≡ length xs → number_of t (xs ++ ys) ≡ length xs + number_of t ys
unfolding number_of
number_of-back t [] ys h = omega arith
number_of-back t (x ∷ xs) ys h = by (bytes_eq t x) h (number_of-back t xs ys)
  where
    by : (b : Bool) → cond (not b) (1 + position_or_len (bytes_eq t) xs) 0 ≡ length (x ∷ xs)
        → (position_or_len (bytes_eq t) xs ≡ length xs → position_or_len (bytes_eq t) (xs ++ ys) ≡ length xs + position_or_len (bytes_eq t) ys)
        → cond (not b) (1 + position_or_len (bytes_eq t) (xs ++ ys)) 0 ≡ length (x ∷ xs) + position_or_len (bytes_eq t) ys
    by true h more = absurd (omega arith)
    by false h more = let e = more (omega arith) in omega arith

absent : (t : List ℕ) (xs : List (List ℕ)) → number_of t xs ≡ length xs → list_any (bytes_eq t) xs ≡ false
unfolding number_of
absent t [] h = refl
absent t (x ∷ xs) h = by (bytes_eq t x) h (absent t xs)
  where
    by : (b : Bool) → cond (not b) (1 + position_or_len (bytes_eq t) xs) 0 ≡ length (x ∷ xs)
        → (position_or_len (bytes_eq t) xs ≡ length xs → list_any (bytes_eq t) xs ≡ false) → (b || list_any (bytes_eq t) xs) ≡ false
    by true h more = absurd (omega arith)
    by false h more = more (omega arith)

other_way : (t x : List ℕ) → bytes_eq t x ≡ false → bytes_eq x t ≡ false
other_way t x h = by (bytes_eq x t) refl
  where
    by : (b : Bool) → bytes_eq x t ≡ b → b ≡ false
    by false e = refl
    by true e = let same : bytes_eq t x ≡ true = (bytes_decides t x).1 (sym ((bytes_decides x t).0 e)) in cc

All-push : (P : List ℕ → Type 0) (xs : List (List ℕ)) (t : List ℕ) → AllByRecursion P xs → P t → AllByRecursion P (xs ++ t ∷ [])
All-push P [] t h p = (p, tt)
All-push P (x ∷ xs) t h p = (h.0, All-push P xs t h.1 p)

IsDistinct-push : (xs : List (List ℕ)) (t : List ℕ) → IsDistinct bytes_eq xs → list_any (bytes_eq t) xs ≡ false → IsDistinct bytes_eq (xs ++ t ∷ [])
unfolding IsDistinct
IsDistinct-push [] t h e = (tt, tt)
IsDistinct-push (x ∷ xs) t h e = by (bytes_eq t x) refl e (IsDistinct-push xs t h.1)
  where
    by : (b : Bool) → bytes_eq t x ≡ b → (b || list_any (bytes_eq t) xs) ≡ false → (list_any (bytes_eq t) xs ≡ false → IsDistinct bytes_eq (xs ++ t ∷ []))
        → AllByRecursion (λ y. bytes_eq x y ≡ false) (xs ++ t ∷ []) × IsDistinct bytes_eq (xs ++ t ∷ [])
    by true d e more = absurd (cc)
    by false d e more = (All-push (λ y. bytes_eq x y ≡ false) xs t h.0 (other_way t x d), more e)

-- a text that neither has may be added
pub IsTable-with_text : (t : List ℕ) (known added new : List (List ℕ)) → IsTable (known ++ added) → number_of t known ≡ length known
    → length known + length added ≢ NAME_LIMIT → new ≡ with_text t added → IsTable (known ++ new)
unfolding with_text
IsTable-with_text t known added new table h room e = subst (λ z. IsTable (known ++ z)) (sym e) (by (list_any (bytes_eq t) added) refl)
  where
    by : (b : Bool) → list_any (bytes_eq t) added ≡ b → IsTable (known ++ cond b added (added ++ t ∷ []))
    by true d = table
    by false d =
        let neither : list_any (bytes_eq t) (known ++ added) ≡ false =
        list_any-append (bytes_eq t) known added ∙ ap (λ b. b || list_any (bytes_eq t) added) (absent t known h) ∙ d in
        let size = length-append known added in let more = length-append (known ++ added) (t ∷ []) in
        let few = table.few in
        subst IsTable (append_assoc known added (t ∷ [])) (record { distinct = IsDistinct-push (known ++ added) t table.distinct neither; few = omega arith })
