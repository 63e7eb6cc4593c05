-- A text up to its first border, and what stands behind it.
use Rattle.std.proofs.Common.{◌≡◌, ℕ, suc, ◌+◌, Bool, true, false, not, cond, List, [], ◌∷◌, take, drop, Option, option_map, Bor, refl, ap, sym, ◌∙◌, subst, arith}
use Rattle.std.specs.Prelude.{Some}
use Rattle.std.specs.List.{position_or_len, before_first}
use Rattle.sv_select.specs.Borders.{is_border, ahead, pieces, pieces_in, rest}
use Rattle.sv_select.specs.Compound.{parted, marked}
use Rattle.sv_select.specs.declared.borders.Border.{Border}
use Rattle.sv_select.specs.declared.borders.Border.TheVariants as border

-- the pieces behind the border with which a text begins
abbrev pub behind_first : Border → List ℕ → List (List ℕ)
behind_first border [] = []
behind_first border (b ∷ z) = pieces border z

abbrev len : Border → List ℕ → ℕ
len border z = position_or_len (is_border border) z

pub cut : (border : Border) (z : List ℕ) → pieces border z ≡ before_first (is_border border) z ∷ behind_first border (rest border z)
cut border [] = refl
cut border (b ∷ z) = by (is_border border b) (cut border z)
  where
    by : (t : Bool) → pieces border z ≡ before_first (is_border border) z ∷ behind_first border (rest border z)
        → cond t ([] ∷ pieces border z) (ahead b (pieces border z))
        ≡ take (cond (not t) (1 + len border z) 0) (b ∷ z) ∷ behind_first border (drop (cond (not t) (1 + len border z) 0) (b ∷ z))
    by true more = refl
    by false more =
        let one : suc (len border z) ≡ 1 + len border z = omega arith in
        subst (λ n. ahead b (pieces border z) ≡ take n (b ∷ z) ∷ behind_first border (drop n (b ∷ z))) one (ap (ahead b) more)

-- the pieces of a text that is there begin with what stands before its first border
pub whole : (border : Border) (left : Option (Bor (List ℕ))) (z : Bor (List ℕ)) (word : List ℕ) → left ≡ Some z → word ≡ before_first (is_border border) z.now
    → pieces_in border (option_map (λ t. t.now) left) ≡ word ∷ behind_first border (rest border z.now)
whole border left z word here is = ap (λ l. pieces_in border (option_map (λ t. t.now) l)) here ∙ cut border z.now ∙ ap (λ w. w ∷ behind_first border (rest border z.now)) (sym is)

abbrev Parted : Type 0
Parted = List ℕ × List (ℕ × List ℕ)

abbrev split_at : ℕ → List ℕ → Parted
split_at n z = (take n z, marked (drop n z))

abbrev one_ahead : ℕ → Parted → Parted
one_ahead b p = (b ∷ p.0, p.1)

abbrev none_ahead : ℕ → Parted → Parted
none_ahead b p = ([], (b, p.0) ∷ p.1)

pub parted_at : (z : List ℕ) → parted z ≡ split_at (len border.Part z) z
parted_at [] = refl
parted_at (b ∷ z) = by (is_border border.Part b) (parted_at z)
  where
    by : (t : Bool) → parted z ≡ split_at (len border.Part z) z
        → cond t (none_ahead b (parted z)) (one_ahead b (parted z)) ≡ split_at (cond (not t) (1 + len border.Part z) 0) (b ∷ z)
    by true more = refl
    by false more =
        let one : suc (len border.Part z) ≡ 1 + len border.Part z = omega arith in
        subst (λ m. one_ahead b (parted z) ≡ split_at m (b ∷ z)) one (ap (one_ahead b) more)
