-- Words, cut off a text one by one.
use Rattle.std.proofs.Common.{◌≡◌, ℕ, ◌<◌, ◌≤◌, List, [], ◌∷◌, ◌++◌, length, get_or, refl, sym, ap, ◌∙◌, append_assoc, arith, Bool, true, false, not}
use Rattle.std.proofs.lemmas.List.{append-nil, get_or_default}
use Rattle.std.proofs.lemmas.List.Sums.{list_all-from_AllPass}
use Rattle.std.proofs.lemmas.Str.{NoCharPasses-byte}
use Rattle.std.proofs.lemmas.Grind.{common_steps}
use Rattle.std.specs.Char.{is_ascii_whitespace}
use Rattle.std.specs.List.{list_all, AllPass}
use Rattle.std.specs.Str.{NoCharPasses}
use Rattle.std.specs.Str.Iter.{IsAsciiSeparator}
use Rattle.sv_attributes.specs.Words.{words, words_from}

abbrev white : ℕ → Bool
white c = is_ascii_whitespace c

abbrev is_black : ℕ → Bool
is_black c = not (white c)

first : (p : ℕ → Bool) (c : ℕ) (t : List ℕ) → list_all p (c ∷ t) ≡ true → p c ≡ true
first p c t h = grind (arith, common_steps)

rest_of : (p : ℕ → Bool) (c : ℕ) (t : List ℕ) → list_all p (c ∷ t) ≡ true → list_all p t ≡ true
rest_of p c t h = grind (arith, common_steps)

black : (c : ℕ) → is_black c ≡ true → white c ≡ false
black c h = grind (arith, common_steps)

-- no byte of a longer character is white space
low : (c : ℕ) → (c < 128 → white c ≡ false) → white c ≡ false
low c h = grind (arith, common_steps)

-- white space in front goes
over_white : (gap t : List ℕ) → list_all white gap ≡ true → words (gap ++ t) ≡ words t
over_white [] t h = refl
over_white (c ∷ gap) t h = rw (first white c gap h) (over_white gap t (rest_of white c gap h))

-- what isn't white space belongs to the present word
over_black : (w x t : List ℕ) → list_all is_black x ≡ true → words_from w (x ++ t) ≡ words_from (w ++ x) t
over_black w [] t h = ap (λ v. words_from v t) (sym (append-nil w))
over_black w (c ∷ x) t h = rw (black c (first is_black c x h)) (over_black (w ++ c ∷ []) x t (rest_of is_black c x h) ∙ ap (λ v. words_from v t) (append_assoc w (c ∷ []) x))

-- a word that isn't empty ends at white space, and at the end of the text
ends : (x sep rest : List ℕ) → 0 < length x → list_all white sep ≡ true → length sep ≤ 1 → (length sep ≡ 0 → length rest ≡ 0) → words_from x (sep ++ rest) ≡ x ∷ words rest
ends [] sep rest lt h le e = absurd (omega arith)
ends (c ∷ x) [] [] lt h le e = refl
ends (c ∷ x) [] (d ∷ rest) lt h le e = absurd (let q : length (d ∷ rest) ≡ 0 = e refl in omega arith)
ends (c ∷ x) (d ∷ []) rest lt h le e = rw (first white d [] h) refl
ends (c ∷ x) (d ∷ (f ∷ sep)) rest lt h le e = absurd (omega arith)

each_black : (x : List ℕ) (k d : ℕ) → NoCharPasses is_ascii_whitespace x → k < length x → is_black (get_or x k d) ≡ true
each_black x k d h lt = rw (get_or_default x k d 0 lt, low (get_or x k 0) (λ small. NoCharPasses-byte is_ascii_whitespace x k h lt small)) refl

visible : (x : List ℕ) → NoCharPasses is_ascii_whitespace x → list_all is_black x ≡ true
visible x h = list_all-from_AllPass is_black x (λ k d lt. each_black x k d h lt)

pub cut : (t x rest gap sep : List ℕ) → 0 < length x → NoCharPasses is_ascii_whitespace x → t ≡ gap ++ (x ++ (sep ++ rest)) → AllPass is_ascii_whitespace gap → IsAsciiSeparator sep rest →
    words t ≡ x ∷ words rest
cut t x rest gap sep lt black_x is white_gap s =
    rw is (over_white gap (x ++ (sep ++ rest)) (list_all-from_AllPass white gap white_gap) ∙ over_black [] x (sep ++ rest) (visible x black_x)
    ∙ ends x sep rest lt (list_all-from_AllPass white sep s.0) s.1 s.2)

pub cut_off : (t : List ℕ) → AllPass is_ascii_whitespace t → words t ≡ []
cut_off t h = sym (ap words (append-nil t)) ∙ over_white t [] (list_all-from_AllPass white t h)

-- one more word
pub more : (all before now : List (List ℕ)) (t x rest : List ℕ) → all ≡ before ++ words t → words t ≡ x ∷ words rest → now ≡ before ++ x ∷ [] → all ≡ now ++ words rest
more all before now t x rest h e is = rw (h, e, is) (sym (append_assoc before (x ∷ []) (words rest)))
