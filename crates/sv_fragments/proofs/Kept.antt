-- What holds of each node, and of each text, holds of each that is kept.
use Rattle.std.proofs.Common.{ℕ, Bool, true, false, List, [], ◌∷◌, reverse, sym, subst}
use mathlib.Core.List.{reverse-cons}
use Rattle.std.specs.List.{All}
use Rattle.std.proofs.lemmas.List.Elements.{All-nil, All-cons, All-append, All-head, All-tail}
use Rattle.sv_white.specs.declared.pieces.Piece.{Piece}
use Rattle.sv_white.specs.declared.pieces.Piece.TheVariants.{Words, Apart, Other}
use Rattle.sv_white.specs.White.{joined_behind, words, trimmed, trim_start, trim_end, joined, kept}

module _ {T : Type 0} (P : Piece T → Type 0) (text_holds : (text : List ℕ) → P (Words text)) where
  joined_behind_all : (behind : Bool) (pieces : List (Piece T)) → All P pieces → All P (joined_behind behind pieces)
  joined_behind_all behind [] all = all
  joined_behind_all true (Words text ∷ pieces) all = joined_behind_all true pieces (All-tail P (Words text) pieces all)
  joined_behind_all false (Words text ∷ pieces) all = All-cons P _ _ (text_holds _) (joined_behind_all true pieces (All-tail P (Words text) pieces all))
  joined_behind_all behind (Apart x ∷ pieces) all = All-cons P (Apart x) _ (All-head P (Apart x) pieces all) (joined_behind_all behind pieces (All-tail P (Apart x) pieces all))
  joined_behind_all behind (Other x ∷ pieces) all = All-cons P (Other x) _ (All-head P (Other x) pieces all) (joined_behind_all false pieces (All-tail P (Other x) pieces all))

  words_all : (text : List ℕ) → All P (words text)
  words_all [] = All-nil P
  words_all (b ∷ bytes) = All-cons P (Words (b ∷ bytes)) [] (text_holds (b ∷ bytes)) (All-nil P)

  trimmed_all : (trim : List ℕ → List ℕ) (pieces : List (Piece T)) → All P pieces → All P (trimmed trim pieces)
  trimmed_all trim [] all = all
  trimmed_all trim (Words text ∷ pieces) all = All-append P (words (trim text)) pieces (words_all (trim text)) (All-tail P (Words text) pieces all)
  trimmed_all trim (Apart x ∷ pieces) all = All-cons P (Apart x) _ (All-head P (Apart x) pieces all) (trimmed_all trim pieces (All-tail P (Apart x) pieces all))
  trimmed_all trim (Other x ∷ pieces) all = all

  reverse_all : (pieces : List (Piece T)) → All P pieces → All P (reverse pieces)
  reverse_all [] all = all
  reverse_all (p ∷ pieces) all =
      subst (All P) (sym (reverse-cons p pieces))
      (All-append P (reverse pieces) (p ∷ []) (reverse_all pieces (All-tail P p pieces all)) (All-cons P p [] (All-head P p pieces all) (All-nil P)))

  pub kept_all : (strips : Bool) (pieces : List (Piece T)) → All P pieces → All P (kept strips pieces)
  kept_all false pieces all = joined_behind_all false pieces all
  kept_all true pieces all = reverse_all _ (trimmed_all trim_end _ (reverse_all _ (trimmed_all trim_start (joined pieces) (joined_behind_all false pieces all))))
