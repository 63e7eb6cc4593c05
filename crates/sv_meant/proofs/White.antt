-- The rule of white space drops and joins texts alone: what is made of all else stays, in its order.
use Rattle.std.proofs.Common.{◌≡◌, ℕ, Bool, true, false, List, [], ◌∷◌, ◌++◌, append-nil, append_assoc, reverse, refl, sym, ap, ◌∙◌}
use mathlib.Core.List.{reverse-cons}
use Rattle.sv_white.specs.declared.pieces.Piece.{Piece}
use Rattle.sv_white.specs.declared.pieces.Piece.TheVariants.{Words, Apart, Other}
use Rattle.sv_white.specs.White.{text_ahead, joined_behind, joined, words, trimmed, trim_start, trim_end, kept}

-- where nothing is made of a text
module _ {T X : Type 0} (f : Piece T → List X) (none : (text : List ℕ) → f (Words text) ≡ []) where
  -- what is made of each in turn, and the same from the last to the first
  abbrev pub all : List (Piece T) → List X
  all [] = []
  all (p ∷ ps) = f p ++ all ps

  abbrev turned : List (Piece T) → List X
  turned [] = []
  turned (p ∷ ps) = turned ps ++ f p

  joined_all : (behind : Bool) (ps : List (Piece T)) → all (joined_behind behind ps) ≡ all ps
  joined_all behind [] = refl
  joined_all true (Words text ∷ ps) = joined_all true ps ∙ sym (ap (λ z. z ++ all ps) (none text))
  joined_all false (Words text ∷ ps) = ap (λ z. f (Words (text ++ text_ahead ps)) ++ z) (joined_all true ps) ∙ ap (λ z. z ++ all ps) (none (text ++ text_ahead ps) ∙ sym (none text))
  joined_all behind (Apart x ∷ ps) = ap (λ z. f (Apart x) ++ z) (joined_all behind ps)
  joined_all behind (Other x ∷ ps) = ap (λ z. f (Other x) ++ z) (joined_all false ps)

  words_all : (text : List ℕ) (ps : List (Piece T)) → all (words text ++ ps) ≡ all ps
  words_all [] ps = refl
  words_all (b ∷ bytes) ps = ap (λ z. z ++ all ps) (none (b ∷ bytes))

  trimmed_all : (trim : List ℕ → List ℕ) (ps : List (Piece T)) → all (trimmed trim ps) ≡ all ps
  trimmed_all trim [] = refl
  trimmed_all trim (Words text ∷ ps) = words_all (trim text) ps ∙ sym (ap (λ z. z ++ all ps) (none text))
  trimmed_all trim (Apart x ∷ ps) = ap (λ z. f (Apart x) ++ z) (trimmed_all trim ps)
  trimmed_all trim (Other x ∷ ps) = refl

  words_turned : (text : List ℕ) (ps : List (Piece T)) → turned (words text ++ ps) ≡ turned ps
  words_turned [] ps = refl
  words_turned (b ∷ bytes) ps = ap (λ z. turned ps ++ z) (none (b ∷ bytes)) ∙ append-nil (turned ps)

  trimmed_turned : (trim : List ℕ → List ℕ) (ps : List (Piece T)) → turned (trimmed trim ps) ≡ turned ps
  trimmed_turned trim [] = refl
  trimmed_turned trim (Words text ∷ ps) = words_turned (trim text) ps ∙ sym (ap (λ z. turned ps ++ z) (none text) ∙ append-nil (turned ps))
  trimmed_turned trim (Apart x ∷ ps) = ap (λ z. z ++ f (Apart x)) (trimmed_turned trim ps)
  trimmed_turned trim (Other x ∷ ps) = refl

  both_all : (ps qs : List (Piece T)) → all (ps ++ qs) ≡ all ps ++ all qs
  both_all [] qs = refl
  both_all (p ∷ ps) qs = ap (λ z. f p ++ z) (both_all ps qs) ∙ sym (append_assoc (f p) (all ps) (all qs))

  both_turned : (ps qs : List (Piece T)) → turned (ps ++ qs) ≡ turned qs ++ turned ps
  both_turned [] qs = sym (append-nil (turned qs))
  both_turned (p ∷ ps) qs = ap (λ z. z ++ f p) (both_turned ps qs) ∙ append_assoc (turned qs) (turned ps) (f p)

  reverse_all : (ps : List (Piece T)) → all (reverse ps) ≡ turned ps
  reverse_all [] = refl
  reverse_all (p ∷ ps) = ap all (reverse-cons p ps) ∙ both_all (reverse ps) (p ∷ []) ∙ ap (λ z. z ++ (f p ++ [])) (reverse_all ps) ∙ ap (λ z. turned ps ++ z) (append-nil (f p))

  reverse_turned : (ps : List (Piece T)) → turned (reverse ps) ≡ all ps
  reverse_turned [] = refl
  reverse_turned (p ∷ ps) = ap turned (reverse-cons p ps) ∙ both_turned (reverse ps) (p ∷ []) ∙ ap (λ z. f p ++ z) (reverse_turned ps)

  stripped_all : (ps : List (Piece T)) → all (reverse (trimmed trim_end (reverse (trimmed trim_start ps)))) ≡ all ps
  stripped_all ps = reverse_all (trimmed trim_end (reverse (trimmed trim_start ps))) ∙ trimmed_turned trim_end (reverse (trimmed trim_start ps)) ∙ reverse_turned (trimmed trim_start ps) ∙ trimmed_all trim_start ps

  pub kept_same : (strips : Bool) (ps : List (Piece T)) → all (kept strips ps) ≡ all ps
  kept_same false ps = joined_all false ps
  kept_same true ps = stripped_all (joined ps) ∙ joined_all false ps
