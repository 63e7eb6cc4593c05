-- The frame of texts that stand in a file.
use Rattle.std.proofs.Common.{◌≡◌, ◌≤◌, ◌<◌, ◌+◌, ◌*◌, ◌-◌, ℕ, zero, suc, Bool, true, false, ◌&&◌, cond, List, [], ◌∷◌, ◌++◌, length, take, drop, refl, ap, sym, ◌∙◌, arith, append_assoc, length-drop}
use Rattle.std.specs.Prelude.{slice_index, ◌==◌, nat_le, Ok, Err}
use Rattle.std.proofs.Math.Seq.{drop-nil}
use Rattle.std.proofs.lemmas.List.{take-append-drop}
use Rattle.std.proofs.lemmas.Grind.{common_steps}
use Rattle.sv_base.specs.declared.limits.TheConstants.{NEST_LIMIT, LINK_LIMIT}
use Rattle.sv_ast.specs.declared.refusals.Kind.TheVariants.{Syntax, TooDeep, NumberTooWide}
use Rattle.sv_lex.specs.declared.cursor.Run.{Run}
use Rattle.sv_lex.specs.declared.digits.Base.TheVariants.{Ten}
use Rattle.sv_lex.specs.declared.lexeme.Lexeme.TheVariants as k
use Rattle.sv_lex.specs.declared.pieces.Piece.TheVariants.{Written}
use Rattle.sv_lex.specs.declared.strings.Quote.TheVariants.{Back}
use Rattle.sv_lex.specs.Digits as digits
use Rattle.sv_lex.specs.Literals.{run, run_of, ends_at, end_len, moved}
use Rattle.sv_lex.specs.Look.{skip, first, first_len, past}
use Rattle.sv_lex.specs.Pieces.{rest, run_len}
use Rattle.sv_lex.specs.Reader.{Input, Outcome, refusal, sees, next, start, len, span_from, spelling}
use Rattle.sv_lex.specs.Token.{token}
use Rattle.sv_lex.proofs.Progress.{token_moves}
use Rattle.sv_blame.specs.Places.{Placed}
use Rattle.sv_blame.specs.Signs.{signs}
use Rattle.sv_blame.specs.Signs as byte
use Rattle.sv_blame.specs.Stands.{Stands, IsWider}
use Rattle.sv_blame.proofs.Frame.{is_sign, Any, Tells, IsFrame, tells_if, goes, stops, Since}
use Rattle.sv_blame.proofs.Lengths.{token_within, some_byte, rest-short, rest-is, skip-short, skip-is, equal}
use Rattle.sv_blame.proofs.Numerals.{numeral_all}
use Rattle.sv_blame.proofs.Signs.{token_good, signs_up, signs_step}

-- so many constructs may be opened behind a place, since so many signs stand before it; and one more, or so many links of a chain
abbrev pub Room : List ℕ → ℕ → ℕ → Type 0
Room bytes d p = NEST_LIMIT ≤ 2 * signs (take p bytes) + d

abbrev pub Tight : List ℕ → ℕ → ℕ → Type 0
Tight bytes d p = NEST_LIMIT + 1 ≤ 2 * signs (take p bytes) + d

abbrev pub Links : List ℕ → ℕ → ℕ → Type 0
Links bytes n p = LINK_LIMIT ≤ signs (take p bytes) + n

drop_drop : (m n : ℕ) (z : List ℕ) → drop n (drop m z) ≡ drop (m + n) z
drop_drop zero n z = let e : n ≡ 0 + n = omega arith in ap (λ k. drop k z) e
drop_drop (suc m) n [] = drop-nil n ∙ sym (drop-nil (suc m + n))
drop_drop (suc m) n (b ∷ z) = let e : suc (m + n) ≡ suc m + n = omega arith in drop_drop m n z ∙ ap (λ k. drop k (b ∷ z)) e

pub drop_front : (n : ℕ) (a b : List ℕ) → n ≤ length a → drop n a ++ b ≡ drop n (a ++ b)
drop_front zero a b h = refl
drop_front (suc n) [] b h = absurd (omega arith)
drop_front (suc n) (x ∷ a) b h = drop_front n a b (omega arith)

index_drop : (m n : ℕ) (z : List ℕ) → slice_index (drop m z) n ≡ slice_index z (m + n)
index_drop zero n z = let e : n ≡ 0 + n = omega arith in ap (slice_index z) e
index_drop (suc m) n [] = refl
index_drop (suc m) n (b ∷ z) = let e : suc (m + n) ≡ suc m + n = omega arith in index_drop m n z ∙ ap (slice_index (b ∷ z)) e

index_front : (n : ℕ) (a b : List ℕ) → n < length a → slice_index (a ++ b) n ≡ slice_index a n
index_front n [] b h = absurd (omega arith)
index_front zero (x ∷ a) b h = refl
index_front (suc n) (x ∷ a) b h = index_front n a b (omega arith)

-- the end of a run is no longer than the text
end_within : (z : List ℕ) → end_len z ≤ length z
end_within [] = omega arith
end_within (b ∷ z) = by (b == 96) (b == 36) (slice_index z 0 == 123) refl
  where
    by : (t u v : Bool) → (slice_index z 0 == 123) ≡ v → cond t 1 (cond (u && v) 2 0) ≤ suc (length z)
    by true u v e = omega arith
    by false true true e =
        let same = equal (slice_index z 0) 123 e in let there = some_byte z 0 (λ none. absurd (let no : 0 ≡ 123 = sym none ∙ same in omega arith)) in omega arith
    by false true false e = omega arith
    by false false v e = omega arith

two_end : (z : List ℕ) → end_len z ≡ 2 → slice_index z 1 ≡ 123
two_end z h = by (slice_index z 0 == 96) (slice_index z 0 == 36) (slice_index z 1 == 123) refl h
  where
    by : (t u v : Bool) → (slice_index z 1 == 123) ≡ v → ◌≡◌ {A = ℕ} (cond t 1 (cond (u && v) 2 0)) 2 → slice_index z 1 ≡ 123
    by true u v e h = absurd (omega arith)
    by false true true e h = equal (slice_index z 1) 123 e
    by false true false e h = absurd (omega arith)
    by false false v e h = absurd (omega arith)

pub above : (n most : ℕ) → nat_le n most ≡ false → most < n
above n most h = grind (arith, common_steps)

pub nest_is : NEST_LIMIT ≡ 32
nest_is = refl

pub links_are : LINK_LIMIT ≡ 1000
links_are = refl

module _ (bytes beyond : List ℕ) (number : ℕ) where
  -- the same, so many bytes further on
  pub stands_on : (n : ℕ) (i j : Input) → Stands bytes beyond number i → n ≤ length i.text → j.text ≡ drop n i.text → j.at ≡ i.at + n → j.file ≡ i.file
      → Stands bytes beyond number j
  stands_on n i j s le text at file =
      let size = s.size in let less = length-drop n i.text in let same = ap length text in
      record {
        text = ap (λ z. z ++ beyond) text ∙ drop_front n i.text beyond le ∙ ap (drop n) s.text ∙ drop_drop i.at n bytes ∙ ap (λ p. drop p bytes) (sym at);
        size = omega arith;
        file = file ∙ s.file;
      }

  pub stands_moved : (n : ℕ) (i : Input) → Stands bytes beyond number i → n ≤ length i.text → Stands bytes beyond number (moved n i)
  stands_moved n i s le = stands_on n i (moved n i) s le refl refl refl

  pub byte_at : (n : ℕ) (i : Input) → Stands bytes beyond number i → n < length i.text → slice_index bytes (i.at + n) ≡ slice_index i.text n
  byte_at n i s le = sym (index_drop i.at n bytes) ∙ ap (λ z. slice_index z n) (sym s.text) ∙ index_front n i.text beyond le

  abbrev blanks : Input → ℕ
  blanks i = length i.text - length (skip i.text)

  next_stands : (i : Input) → Stands bytes beyond number i → Stands bytes beyond number (next i)
  unfolding next start len first_len past
  next_stands i s =
      let short = skip-short i.text in let fits = token_within (skip i.text) in
      stands_on (blanks i + (token (skip i.text)).1) i (next i) s (omega arith)
      (ap (drop (token (skip i.text)).1) (skip-is i.text) ∙ drop_drop (blanks i) (token (skip i.text)).1 i.text) (omega arith) refl

  token_ends : (i : Input) → Stands bytes beyond number i → start i + len i ≤ length bytes
  unfolding start len first_len
  token_ends i s = let short = skip-short i.text in let fits = token_within (skip i.text) in let size = s.size in omega arith

  -- a sign is one more
  counted : (i : Input) → Stands bytes beyond number i → is_sign (sees i) ≡ true → signs (take i.at bytes) + 1 ≤ signs (take (next i).at bytes)
  unfolding sees first next start len first_len
  counted i s h =
      let z = skip i.text in
      let n = blanks i in
      let good : byte.is_sign (slice_index z 0) ≡ true = token_good z h in
      let here : slice_index i.text n ≡ slice_index z 0 = (let one : n ≡ n + 0 = omega arith in ap (slice_index i.text) one ∙ sym (index_drop n 0 i.text) ∙ ap (λ z. slice_index z 0) (sym (skip-is i.text))) in
      let there : n < length i.text = some_byte i.text n (λ none. (let no : byte.is_sign 0 ≡ true = ap byte.is_sign (sym none ∙ here) ∙ good in absurd (cc))) in
      let sign : byte.is_sign (slice_index bytes (i.at + n)) ≡ true = ap byte.is_sign (byte_at n i s there ∙ here) ∙ good in
      let step = signs_step (i.at + n) bytes sign in
      let low = signs_up i.at (i.at + n) bytes (omega arith) in
      let moves = token_moves z (λ e. (let no : false ≡ true = ap is_sign (sym e) ∙ h in absurd (cc))) in
      let high = signs_up (suc (i.at + n)) (i.at + n + (token z).1) bytes (omega arith) in
      omega arith

  syntax_placed : (i : Input) → Stands bytes beyond number i → Placed bytes number (refusal Syntax i)
  unfolding refusal
  syntax_placed i s = record { file = s.file; order = omega arith; within = token_ends i s; written = tt }

  spanned_placed : (from : ℕ) (i : Input) → Stands bytes beyond number i → Since (Stands bytes beyond number) from i.at
      → Placed bytes number (record { kind = Syntax; at = span_from from i })
  spanned_placed from i s le = let size = s.size in record { file = s.file; order = le.le; within = omega arith; written = tt }

  pub start-up : (i : Input) → i.at ≤ start i
  unfolding start
  start-up i = omega arith

  deep_placed : (i : Input) → Stands bytes beyond number i → 16 ≤ signs (take i.at bytes) → Placed bytes number (refusal TooDeep i)
  unfolding refusal
  deep_placed i s many = record { file = s.file; order = omega arith; within = token_ends i s; written = (let up = signs_up i.at (start i) bytes (start-up i) in omega arith) }

  wide_written : (i : Input) → Stands bytes beyond number i → sees i ≡ k.Numeral → nat_le (digits.number Ten (spelling i)) 9007199254740991 ≡ false
      → IsWider 9007199254740991 (drop (start i) bytes)
  unfolding sees first spelling start len first_len
  wide_written i s h wide =
      let z = skip i.text in
      let n = (token z).1 in
      let short = skip-short i.text in
      record {
        digits = take n z;
        rest = drop n z ++ beyond;
        is = sym (drop_drop i.at (blanks i) bytes) ∙ ap (drop (blanks i)) (sym s.text) ∙ sym (drop_front (blanks i) i.text beyond (omega arith)) ∙ ap (λ z. z ++ beyond) (sym (skip-is i.text))
            ∙ ap (λ z. z ++ beyond) (sym (take-append-drop n z)) ∙ append_assoc (take n z) (drop n z) beyond;
        all = numeral_all z h;
        wider = above (digits.number Ten (take n z)) 9007199254740991 wide;
      }

  wide_placed : (i : Input) → Stands bytes beyond number i → sees i ≡ k.Numeral → nat_le (digits.number Ten (spelling i)) 9007199254740991 ≡ false
      → Placed bytes number (refusal NumberTooWide i)
  unfolding refusal
  wide_placed i s h wide = record { file = s.file; order = omega arith; within = token_ends i s; written = wide_written i s h wide }

  -- ---- runs of templates

  run_within : (i : Input) → run_len (Written Back) i.text + end_len (rest (Written Back) i.text) ≤ length i.text
  unfolding run_len
  run_within i = let short = rest-short (Written Back) i.text in let end = end_within (rest (Written Back) i.text) in omega arith

  run_tells : (i : Input) → Stands bytes beyond number i → Tells (Stands bytes beyond number) (Placed bytes number) Any i (run i)
  unfolding run
  run_tells i s =
      let n = run_len (Written Back) i.text in
      let ending = end_len (rest (Written Back) i.text) in
      let fits = run_within i in let size = s.size in
      tells_if Any (ending == 0) _ _
      (λ e. stops (record { file = s.file; order = omega arith; within = omega arith; written = tt }))
      (λ e. goes (stands_moved (n + ending) i s fits) (omega arith) tt)

  hole_counted : (i o : Input) (x : Run × Bool) → Stands bytes beyond number i → run i ≡ Ok (x, o) → x.1 ≡ true → signs (take i.at bytes) + 1 ≤ signs (take o.at bytes)
  unfolding run run_len
  hole_counted i o x s h hole = by (end_len z) refl h
    where
      z : List ℕ
      z = rest (Written Back) i.text

      n : ℕ
      n = length i.text - length z

      by : (m : ℕ) → end_len z ≡ m → ◌≡◌ {A = Outcome (Run × Bool)} (ends_at n m i) (Ok (x, o)) → signs (take i.at bytes) + 1 ≤ signs (take o.at bytes)
      by m e g = some m e (m == 0) refl g
        where
          some : (m : ℕ) → end_len z ≡ m → (t : Bool) → (m == 0) ≡ t
              → ◌≡◌ {A = Outcome (Run × Bool)} (cond t (Err (record { kind = Syntax; at = record { file = i.file; from = i.at + n; to = i.at + n } })) (Ok ((run_of n i, m == 2), moved (n + m) i))) (Ok (x, o))
              → signs (take i.at bytes) + 1 ≤ signs (take o.at bytes)
          some m e true t g = absurd (cc)
          some m e false t g =
              let pair : ◌≡◌ {A = (Run × Bool) × Input} ((run_of n i, m == 2), moved (n + m) i) (x, o) = cc in
              let two : (m == 2) ≡ true = ap (λ (p : (Run × Bool) × Input). p.0.1) pair ∙ hole in
              let size : m ≡ 2 = equal m 2 two in
              let at : i.at + (n + m) ≡ o.at = ap (λ (p : (Run × Bool) × Input). p.1.at) pair in
              let brace : slice_index z 1 ≡ 123 = two_end z (e ∙ size) in
              let here : slice_index i.text (n + 1) ≡ 123 = sym (index_drop n 1 i.text) ∙ ap (λ z. slice_index z 1) (sym (rest-is (Written Back) i.text)) ∙ brace in
              let there : n + 1 < length i.text = some_byte i.text (n + 1) (λ none. absurd (let no : 0 ≡ 123 = sym none ∙ here in omega arith)) in
              let sign : byte.is_sign (slice_index bytes (i.at + (n + 1))) ≡ true = ap byte.is_sign (byte_at (n + 1) i s there ∙ here) in
              let step = signs_step (i.at + (n + 1)) bytes sign in
              let low = signs_up i.at (i.at + (n + 1)) bytes (omega arith) in
              let high : signs (take (suc (i.at + (n + 1))) bytes) ≤ signs (take o.at bytes) = signs_up (suc (i.at + (n + 1))) o.at bytes (omega arith) in
              omega arith

  -- ---- the frame

  pub frame : IsFrame (Stands bytes beyond number) (Placed bytes number) (Room bytes) (Tight bytes) (Links bytes) LINK_LIMIT 9007199254740991
  frame = record {
    steps = next_stands;
    knows = λ text i s. record { text = s.text; size = s.size; file = s.file };
    syntax = syntax_placed;
    spanned = spanned_placed;
    wide = wide_placed;
    runs = run_tells;
    deep = λ i s room. deep_placed i s (omega (arith, room, nest_is));
    long = λ i s links. deep_placed i s (omega (arith, links, links_are));
    sign = λ d i s room h. (let more = counted i s h in omega (arith, room));
    hole = λ d i o x s e h room. (let more = hole_counted i o x s e h in omega (arith, room));
    brace = λ d i s room h. (let more = counted i s (ap is_sign h) in omega (arith, room));
    link = λ n i s links h. (let more = counted i s h in omega (arith, links));
    begun = λ p. omega arith;
    more = λ n p links. omega (arith, links);
    room_up = λ d p q le room. (let up = signs_up p q bytes le in omega (arith, room));
    tight_up = λ d p q le room. (let up = signs_up p q bytes le in omega (arith, room));
    links_up = λ n p q le links. (let up = signs_up p q bytes le in omega (arith, links));
    loose = λ d p tight. omega (arith, tight);
    inner = λ d p tight. omega (arith, tight);
  }
