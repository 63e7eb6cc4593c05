-- Texts that are joined: those of some parts are evaluated, and the others stay.
use Rattle.std.proofs.Common.{◌≡◌, ◌⊎◌, inl, inr, ℕ, suc, ◌+◌, length, nat_lt, Bool, true, false, ◌||◌, List, [], ◌∷◌, ◌++◌, Option, Some, None, option_and_then, refl, sym, ap, ◌∙◌, subst, append_assoc, Ok, map, true≢false}
use Rattle.std.proofs.lemmas.List.{append-nil}
use Rattle.std.specs.Prelude.{slice_get}
use Rattle.sv_attributes.specs.Values.{is_literal}
use Rattle.sv_base.specs.declared.limits.TheConstants.{VALUE_DEPTH_LIMIT, VALUE_SIZE_LIMIT}
use Rattle.sv_base.specs.declared.span.Span.{Span}
use Rattle.sv_code.proofs.Each.{each_front, each_back}
use Rattle.sv_code.specs.Names.{Each}
use Rattle.sv_code.specs.Parts.{in_turn, of_value_part}
use Rattle.sv_code.specs.Within.{IsWithin}
use Rattle.sv_code.specs.declared.fragments.FragValuePart.{FragValuePart}
use Rattle.sv_code.specs.declared.fragments.FragValuePart.TheVariants as piece
use Rattle.sv_code.specs.declared.program.Program.{Program}
use Rattle.sv_fresh.specs.Values.{piece_text, texts_after, texts_at}
use Rattle.sv_local.specs.Versions.{AreVersions}
use Rattle.sv_ops.specs.Answer.{within}
use Rattle.sv_ops.specs.Texts.{between}
use Rattle.sv_parts.specs.Sides.{Sides}
use Rattle.sv_parts.specs.State.{andThen}
use Rattle.sv_parts.specs.Values.{part_due, due_from, is_due, part_text, part_texts, answered, joined, joined_anew, joined_step}
use Rattle.sv_parts.specs.declared.state.State.{State}
use Rattle.sv_parts.specs.declared.values.Valued.{Valued}
use Rattle.sv_right.proofs.Lists.{Along, Matched, along_shift, along_both, along_unshift, plain_after, some_same}
use Rattle.sv_right.proofs.Steps.{After, then_after, if_after, Grows, grows_same, grows_on}
use Rattle.sv_right.proofs.Values.{text_step_after, still_value}
use Rattle.sv_value.specs.Value.{Val, text, depth, size}
use Rattle.sv_value.specs.Words.{text_of}
use Rattle.sv_view.specs.Level.{View}

-- ---- the texts of parts on a view

-- a part has a text on a view
abbrev IsPiece : Program → View → FragValuePart → ℕ → List ℕ → Type 0
IsPiece p v x i t = piece_text p v x ≡ Some t

-- each part has the text at its place
abbrev pub ArePieces : Program → View → ℕ → List FragValuePart → List (List ℕ) → Type 0
ArePieces p v i parts texts = Matched (IsPiece p v) i parts texts

pieces_after : (p : Program) (v : View) (i : ℕ) (parts : List FragValuePart) (passed texts : List (List ℕ)) → ArePieces p v i parts texts → texts_after p v passed parts ≡ Some (passed ++ texts)
pieces_after p v i [] passed [] h = ap Some (sym (append-nil passed))
pieces_after p v i [] passed (t ∷ texts) h = absurd h
pieces_after p v i (x ∷ parts) passed [] h = absurd h
pieces_after p v i (x ∷ parts) passed (t ∷ texts) h =
    ap (option_and_then (λ u. texts_after p v (passed ++ u ∷ []) parts)) h.0 ∙ pieces_after p v (suc i) parts (passed ++ t ∷ []) texts h.1 ∙ ap Some (append_assoc passed (t ∷ []) texts)

pub pieces_given : (p : Program) (v : View) (i : ℕ) (parts : List FragValuePart) (texts : List (List ℕ)) → ArePieces p v i parts texts → texts_at p v parts ≡ Some texts
pieces_given p v i parts texts h = pieces_after p v i parts [] texts h

-- texts that were found behind some
record Pieces (p : Program) (v : View) (i : ℕ) (parts : List FragValuePart) (passed all : List (List ℕ)) : Type 0 where
  texts : List (List ℕ)
  are : ArePieces p v i parts texts
  whole : all ≡ passed ++ texts

found_pieces : (p : Program) (v : View) (i : ℕ) (parts : List FragValuePart) (passed all : List (List ℕ)) → texts_after p v passed parts ≡ Some all → Pieces p v i parts passed all
found_pieces p v i [] passed all e = record { texts = []; are = tt; whole = sym (some_same e) ∙ sym (append-nil passed) }
found_pieces p v i (x ∷ parts) passed all e = by (piece_text p v x) refl e (λ t. found_pieces p v (suc i) parts (passed ++ t ∷ []) all)
  where
    by : (o : Option (List ℕ)) → piece_text p v x ≡ o → option_and_then (λ t. texts_after p v (passed ++ t ∷ []) parts) o ≡ Some all →
        ((t : List ℕ) → texts_after p v (passed ++ t ∷ []) parts ≡ Some all → Pieces p v (suc i) parts (passed ++ t ∷ []) all) → Pieces p v i (x ∷ parts) passed all
    by None is q found = absurd (cc)
    by (Some t) is q found =
        let r : Pieces p v (suc i) parts (passed ++ t ∷ []) all = found t q in
        record { texts = t ∷ r.texts; are = (is, r.are); whole = r.whole ∙ append_assoc passed (t ∷ []) r.texts }

pub pieces_found : (p : Program) (v : View) (parts : List FragValuePart) (texts : List (List ℕ)) → texts_at p v parts ≡ Some texts → ArePieces p v 0 parts texts
pieces_found p v parts texts e = let r : Pieces p v 0 parts [] texts = found_pieces p v 0 parts [] texts e in subst (ArePieces p v 0 parts) (sym r.whole) r.are

-- texts that are written are there on each view
pub literal_there : (p : Program) (v : View) (parts : List FragValuePart) (passed : List (List ℕ)) → is_literal parts ≡ true → texts_after p v passed parts ≡ None → ⊥
literal_there p v [] passed h e = absurd (cc)
literal_there p v (piece.Text t ∷ parts) passed h e = literal_there p v parts (passed ++ t ∷ []) h e
literal_there p v (piece.Show part ∷ parts) passed h e = absurd (cc)

-- ---- what was kept

-- texts of which none was kept, or those that the parts gave on the old view
abbrev pub WereTexts : Program → List FragValuePart → Sides → List (List ℕ) → Type 0
WereTexts p parts at olds = (olds ≡ []) ⊎ (AreVersions at.old at.new × ArePieces p at.old 0 parts olds)

-- what is kept of the part with a number is its text on the old view
abbrev WasPiece : Program → Sides → List (List ℕ) → FragValuePart → ℕ → Type 0
WasPiece p at olds x i = (t : List ℕ) → slice_get olds i ≡ Some t → AreVersions at.old at.new × (piece_text p at.old x ≡ Some t)

no_pieces : (p : Program) (at : Sides) (i : ℕ) (parts : List FragValuePart) → Along (WasPiece p at []) i parts
no_pieces p at i [] = tt
no_pieces p at i (x ∷ parts) = ((λ t e. absurd (cc)), no_pieces p at (suc i) parts)

old_pieces : (p : Program) (at : Sides) (k : ℕ) (parts : List FragValuePart) (olds : List (List ℕ)) → AreVersions at.old at.new → ArePieces p at.old k parts olds → Along (WasPiece p at olds) 0 parts
old_pieces p at k [] olds all h = tt
old_pieces p at k (x ∷ parts) [] all h = absurd h
old_pieces p at k (x ∷ parts) (t ∷ olds) all h =
    ((λ u e. (all, h.0 ∙ e)), along_shift (WasPiece p at (t ∷ olds)) 0 parts (old_pieces p at (suc k) parts olds all h.1))

were_pieces : (p : Program) (at : Sides) (parts : List FragValuePart) (olds : List (List ℕ)) → WereTexts p parts at olds → Along (WasPiece p at olds) 0 parts
were_pieces p at parts olds (inl e) = subst (λ xs. Along (WasPiece p at xs) 0 parts) (sym e) (no_pieces p at 0 parts)
were_pieces p at parts olds (inr h) = old_pieces p at 0 parts olds h.0 h.1

-- ---- evaluated

-- the parts in the texts of a value are within what they look at
abbrev pub PiecesWithin : Program → List FragValuePart → Type 0
PiecesWithin p parts = Along (λ x i. Each (IsWithin p) (of_value_part x)) 0 parts

piece_after : (p : Program) (at : Sides) (x : FragValuePart) (held : Option (List ℕ)) (s : State) → Each (IsWithin p) (of_value_part x) →
    ((t : List ℕ) → held ≡ Some t → AreVersions at.old at.new × (piece_text p at.old x ≡ Some t)) → After (part_text p at x held s) (λ t u. (piece_text p at.new x ≡ Some t) × Grows s u)
piece_after p at (piece.Text t) held s within was = (refl, grows_same s)
piece_after p at (piece.Show part) held s within was = text_step_after p part held at s within.0 was

texts_of_parts : (p : Program) (at : Sides) (parts : List FragValuePart) (olds : List (List ℕ)) (s : State) → PiecesWithin p parts → WereTexts p parts at olds →
    After (part_texts p at olds parts s) (λ texts u. ArePieces p at.new 0 parts texts × Grows s u)
texts_of_parts p at parts olds s within were =
    plain_after (λ x i u. part_text p at x (slice_get olds i) u) (λ x i. Each (IsWithin p) (of_value_part x) × WasPiece p at olds x i) (IsPiece p at.new)
    (λ x i u h. piece_after p at x (slice_get olds i) u h.0 h.1) 0 parts s (both_along 0 parts within (were_pieces p at parts olds were))
  where
    both_along : (i : ℕ) (xs : List FragValuePart) → Along (λ x j. Each (IsWithin p) (of_value_part x)) i xs → Along (WasPiece p at olds) i xs →
        Along (λ x j. Each (IsWithin p) (of_value_part x) × WasPiece p at olds x j) i xs
    both_along i xs h k = along_both (λ x j. Each (IsWithin p) (of_value_part x)) (WasPiece p at olds) (λ x j. Each (IsWithin p) (of_value_part x) × WasPiece p at olds x j) (λ x j a b. (a, b)) i xs h k

-- ---- joined

made_text : (t : List ℕ) (cost : ℕ) (deep large : Bool) (span : Span) (s : State) → After (answered span (within deep large cost (text t)) s) (λ x u. (x ≡ text t) × Grows s u)
made_text t cost true large span s = tt
made_text t cost false true span s = tt
made_text t cost false false span s = (refl, grows_same s)

pub joined_text : (span : Span) (texts : List (List ℕ)) (s : State) → After (joined span texts s) (λ x u. (x ≡ text (between [] texts)) × Grows s u)
joined_text span texts s = made_text (between [] texts) (0 + length (between [] texts)) (nat_lt VALUE_DEPTH_LIMIT (depth (text (between [] texts)))) (nat_lt VALUE_SIZE_LIMIT (size (text (between [] texts)))) span s

-- the texts that the parts have on a view, and the whole of them, or nothing where those that were kept stay
pub record IsJoined (p : Program) (at : Sides) (parts : List FragValuePart) (olds : List (List ℕ)) (wanted : Bool) (s : State) (x : Valued) (u : State) : Type 0 where
  pub texts : texts_at p at.new parts ≡ Some x.texts
  pub whole : (whole : Val) → x.value ≡ Some whole → whole ≡ text (between [] x.texts)
  pub stay : x.value ≡ None → (x.texts ≡ olds) × (texts_at p at.old parts ≡ Some olds)
  pub given : wanted ≡ true → x.value ≡ None → ⊥
  pub grows : Grows s u

joined_new : (p : Program) (span : Span) (parts : List FragValuePart) (olds : List (List ℕ)) (wanted : Bool) (at : Sides) (s : State) → PiecesWithin p parts → WereTexts p parts at olds →
    After (joined_anew p span parts olds at s) (IsJoined p at parts olds wanted s)
joined_new p span parts olds wanted at s within were =
    then_after (part_texts p at olds parts s) (λ texts v. andThen (joined span texts v) (λ whole u. Ok (record { texts = texts; value = Some whole }, u)))
    (λ texts u. ArePieces p at.new 0 parts texts × Grows s u) (IsJoined p at parts olds wanted s) (texts_of_parts p at parts olds s within were)
    (λ texts v h. then_after (joined span texts v) (λ whole u. Ok (record { texts = texts; value = Some whole }, u)) (λ x u. (x ≡ text (between [] texts)) × Grows v u)
    (IsJoined p at parts olds wanted s) (joined_text span texts v)
    (λ whole u q. record {
      texts = pieces_given p at.new 0 parts texts h.0;
      whole = λ z e. sym (some_same e) ∙ q.0;
      stay = λ e. absurd (cc);
      given = λ _ e. absurd (cc);
      grows = grows_on s v u h.1 q.1;
    }))

-- ---- not evaluated

pub or_left : (a b : Bool) → (a || b) ≡ false → a ≡ false
or_left true b e = absurd (cc)
or_left false b e = refl

pub or_right : (a b : Bool) → (a || b) ≡ false → b ≡ false
or_right true b e = absurd (cc)
or_right false b e = e

not_due : (at : Sides) (olds : List (List ℕ)) (i : ℕ) (parts : List FragValuePart) → due_from at olds i parts ≡ false → Along (λ x j. part_due at x (slice_get olds j) ≡ false) i parts
not_due at olds i [] e = tt
not_due at olds i (x ∷ parts) e =
    (or_left (part_due at x (slice_get olds i)) (due_from at olds (suc i) parts) e, not_due at olds (suc i) parts (or_right (part_due at x (slice_get olds i)) (due_from at olds (suc i) parts) e))

still_piece : (p : Program) (at : Sides) (x : FragValuePart) (t : List ℕ) → Each (IsWithin p) (of_value_part x) → AreVersions at.old at.new → part_due at x (Some t) ≡ false →
    piece_text p at.old x ≡ Some t → piece_text p at.new x ≡ Some t
still_piece p at (piece.Text u) t within all due h = h
still_piece p at (piece.Show part) t within all due h = ap (option_and_then text_of) (sym (still_value p part at within.0 all due)) ∙ h

still_pieces : (p : Program) (at : Sides) (k : ℕ) (parts : List FragValuePart) (olds : List (List ℕ)) → PiecesWithin p parts → AreVersions at.old at.new →
    Along (λ x j. part_due at x (slice_get olds j) ≡ false) 0 parts → ArePieces p at.old k parts olds → ArePieces p at.new k parts olds
still_pieces p at k [] [] within all due h = tt
still_pieces p at k [] (t ∷ olds) within all due h = h
still_pieces p at k (x ∷ parts) [] within all due h = h
still_pieces p at k (x ∷ parts) (t ∷ olds) within all due h = (
  still_piece p at x t within.0 all due.0 h.0,
  still_pieces p at (suc k) parts olds (along_unshift (λ y j. Each (IsWithin p) (of_value_part y)) 0 parts within.1) all
      (along_unshift (λ y j. part_due at y (slice_get (t ∷ olds) j) ≡ false) 0 parts due.1) h.1,
)

-- where no text is kept, each expression is to be evaluated
none_due : (at : Sides) (i : ℕ) (parts : List FragValuePart) → due_from at [] i parts ≡ false → is_literal parts ≡ true
none_due at i [] e = refl
none_due at i (piece.Text t ∷ parts) e = none_due at (suc i) parts e
none_due at i (piece.Show part ∷ parts) e = absurd (cc)

-- no text is kept, and some is wanted or there is an expression; or those are kept that the parts gave on the old view
abbrev pub WereKept : Program → List FragValuePart → Sides → Bool → List (List ℕ) → Type 0
WereKept p parts at wanted olds = ((olds ≡ []) × (wanted ≡ false → is_literal parts ≡ true → ⊥)) ⊎ (AreVersions at.old at.new × ArePieces p at.old 0 parts olds)

were_texts : (p : Program) (parts : List FragValuePart) (at : Sides) (wanted : Bool) (olds : List (List ℕ)) → WereKept p parts at wanted olds → WereTexts p parts at olds
were_texts p parts at wanted olds (inl h) = inl h.0
were_texts p parts at wanted olds (inr h) = inr h

-- texts that are kept, where none is to be evaluated
kept_texts : (p : Program) (parts : List FragValuePart) (at : Sides) (wanted : Bool) (olds : List (List ℕ)) → PiecesWithin p parts → WereKept p parts at wanted olds → wanted ≡ false →
    is_due at olds parts ≡ false → texts_at p at.new parts ≡ Some olds
kept_texts p parts at wanted olds fits (inl h) idle due = absurd (h.1 idle (none_due at 0 parts (subst (λ xs. is_due at xs parts ≡ false) h.0 due)))
kept_texts p parts at wanted olds fits (inr h) idle due = pieces_given p at.new 0 parts olds (still_pieces p at 0 parts olds fits h.0 (not_due at olds 0 parts due) h.1)

kept_before : (p : Program) (parts : List FragValuePart) (at : Sides) (wanted : Bool) (olds : List (List ℕ)) → WereKept p parts at wanted olds → wanted ≡ false → is_due at olds parts ≡ false →
    texts_at p at.old parts ≡ Some olds
kept_before p parts at wanted olds (inl h) idle due = absurd (h.1 idle (none_due at 0 parts (subst (λ xs. is_due at xs parts ≡ false) h.0 due)))
kept_before p parts at wanted olds (inr h) idle due = pieces_given p at.old 0 parts olds h.1

pub joined_after : (p : Program) (span : Span) (parts : List FragValuePart) (olds : List (List ℕ)) (wanted : Bool) (at : Sides) (s : State) → PiecesWithin p parts → WereKept p parts at wanted olds →
    After (joined_step p span parts olds wanted at s) (IsJoined p at parts olds wanted s)
joined_after p span parts olds wanted at s within were =
    if_after (wanted || is_due at olds parts) (joined_anew p span parts olds at s) (Ok (record { texts = olds; value = None }, s)) (IsJoined p at parts olds wanted s)
    (λ _. joined_new p span parts olds wanted at s within (were_texts p parts at wanted olds were))
    (λ e. record {
      texts = kept_texts p parts at wanted olds within were (or_left wanted (is_due at olds parts) e) (or_right wanted (is_due at olds parts) e);
      whole = λ z q. absurd (cc);
      stay = λ _. (refl, kept_before p parts at wanted olds were (or_left wanted (is_due at olds parts) e) (or_right wanted (is_due at olds parts) e));
      given = λ q _. absurd (true≢false (sym q ∙ or_left wanted (is_due at olds parts) e));
      grows = grows_same s;
    })

-- the parts of a value are within what they look at
pub pieces_within : (p : Program) (parts : List FragValuePart) → Each (IsWithin p) (in_turn (map of_value_part parts)) → PiecesWithin p parts
pieces_within p parts h = go 0 parts h
  where
    go : (i : ℕ) (xs : List FragValuePart) → Each (IsWithin p) (in_turn (map of_value_part xs)) → Along (λ x j. Each (IsWithin p) (of_value_part x)) i xs
    go i [] k = tt
    go i (x ∷ xs) k = (each_front (IsWithin p) (of_value_part x) (in_turn (map of_value_part xs)) k, go (suc i) xs (each_back (IsWithin p) (of_value_part x) (in_turn (map of_value_part xs)) k))
