-- The rule of white space doesn't look at what nodes are.
use Rattle.std.proofs.Common.{◌≡◌, ℕ, Bool, true, false, List, [], ◌∷◌, ◌++◌, map, reverse, refl, ap, sym, ◌∙◌}
use Rattle.std.proofs.lemmas.List.{map-append}
use mathlib.Core.List.{reverse-cons}
use Rattle.sv_white.specs.declared.pieces.Piece.{Piece}
use Rattle.sv_white.specs.declared.pieces.Piece.TheVariants.{Words, Apart, Other}
use Rattle.sv_white.specs.White.{text_ahead, joined_behind, joined, words, trimmed, stripped, trim_start, trim_end, kept}
use Rattle.sv_fragments.specs.Pieces.{lifted}

text_ahead_lifted : {A B : Type 0} (f : A → B) (pieces : List (Piece A)) → text_ahead (map (lifted f) pieces) ≡ text_ahead pieces
text_ahead_lifted f [] = refl
text_ahead_lifted f (Words text ∷ pieces) = ap (λ t. text ++ t) (text_ahead_lifted f pieces)
text_ahead_lifted f (Apart x ∷ pieces) = text_ahead_lifted f pieces
text_ahead_lifted f (Other x ∷ pieces) = refl

joined_behind_lifted : {A B : Type 0} (f : A → B) (behind : Bool) (pieces : List (Piece A)) → joined_behind behind (map (lifted f) pieces) ≡ map (lifted f) (joined_behind behind pieces)
joined_behind_lifted f behind [] = refl
joined_behind_lifted f true (Words text ∷ pieces) = joined_behind_lifted f true pieces
joined_behind_lifted f false (Words text ∷ pieces) = rw (text_ahead_lifted f pieces, joined_behind_lifted f true pieces) refl
joined_behind_lifted f behind (Apart x ∷ pieces) = ap (λ l. Apart (f x) ∷ l) (joined_behind_lifted f behind pieces)
joined_behind_lifted f behind (Other x ∷ pieces) = ap (λ l. Other (f x) ∷ l) (joined_behind_lifted f false pieces)

words_lifted : {A B : Type 0} (f : A → B) (text : List ℕ) → words text ≡ map (lifted f) (words text)
words_lifted f [] = refl
words_lifted f (b ∷ bytes) = refl

trimmed_lifted : {A B : Type 0} (f : A → B) (trim : List ℕ → List ℕ) (pieces : List (Piece A)) → trimmed trim (map (lifted f) pieces) ≡ map (lifted f) (trimmed trim pieces)
trimmed_lifted f trim [] = refl
trimmed_lifted f trim (Words text ∷ pieces) = ap (λ w. w ++ map (lifted f) pieces) (words_lifted f (trim text)) ∙ sym (map-append (lifted f) (words (trim text)) pieces)
trimmed_lifted f trim (Apart x ∷ pieces) = ap (λ l. Apart (f x) ∷ l) (trimmed_lifted f trim pieces)
trimmed_lifted f trim (Other x ∷ pieces) = refl

reverse_map : {A B : Type 0} (f : A → B) (xs : List A) → reverse (map f xs) ≡ map f (reverse xs)
reverse_map f [] = refl
reverse_map f (x ∷ xs) =
    reverse-cons (f x) (map f xs) ∙ ap (λ l. l ++ f x ∷ []) (reverse_map f xs) ∙ sym (map-append f (reverse xs) (x ∷ [])) ∙ ap (map f) (sym (reverse-cons x xs))

stripped_lifted : {A B : Type 0} (f : A → B) (pieces : List (Piece A)) → stripped (map (lifted f) pieces) ≡ map (lifted f) (stripped pieces)
stripped_lifted f pieces =
    ap (λ l. reverse (trimmed trim_end (reverse l))) (trimmed_lifted f trim_start pieces)
    ∙ ap (λ l. reverse (trimmed trim_end l)) (reverse_map (lifted f) (trimmed trim_start pieces))
    ∙ ap reverse (trimmed_lifted f trim_end (reverse (trimmed trim_start pieces)))
    ∙ reverse_map (lifted f) (trimmed trim_end (reverse (trimmed trim_start pieces)))

-- what is kept of pieces of something else are the same pieces of it
pub kept_lifted : {A B : Type 0} (f : A → B) (strips : Bool) (pieces : List (Piece A)) → kept strips (map (lifted f) pieces) ≡ map (lifted f) (kept strips pieces)
kept_lifted f false pieces = joined_behind_lifted f false pieces
kept_lifted f true pieces = ap stripped (joined_behind_lifted f false pieces) ∙ stripped_lifted f (joined pieces)
