-- The places where lines begin, as a text grows by a byte.
use Rattle.std.proofs.Common.{◌≡◌, ◌≢◌, ◌<◌, ◌≤◌, ℕ, zero, suc, ◌+◌, ◌-◌, ◌&&◌, List, [], ◌∷◌, ◌++◌, length, get_or, take, Bool, true, false, not, refl, ap, sym, ◌∙◌, inl, inr, arith, append-nil, subst, ltb}
use Rattle.std.specs.Prelude.{if◌then◌else◌}
use Rattle.std.specs.List.{suffix_len, All}
use Rattle.std.specs.Cmp.Derive.{both_true}
use Rattle.std.proofs.lemmas.Bool.{lt-ltb, ltb-true}
use Rattle.std.proofs.lemmas.Bool.Decides.{eqb_tells}
use Rattle.std.proofs.lemmas.List.{take_more, length_push, get_or_push, length-take-le, length-drop}
use Rattle.std.proofs.lemmas.List.Elements.{All-nil, All-cons, All-push, All-weaker}
use Rattle.std.proofs.lemmas.List.Sums.{suffix_len-le-length, suffix_len-take_no, suffix_len-take_yes, count_by_more_yes, count_by_more_no}
use Rattle.sv_base.specs.Place.{is_line_feed, last_line, line_of}
use Rattle.sv_lines.specs.Lines.{behind_feeds, line_starts, ascends}

-- an item before a list, or none
chosen : (t : Bool) (x : ℕ) (p q r : List ℕ) → p ≡ q ++ r → (if t then x ∷ p else p) ≡ (if t then x ∷ q else q) ++ r
chosen true x p q r e = ap (λ l. x ∷ l) e
chosen false x p q r e = e

no_more : (at : ℕ) → at ≡ at + 0
no_more at = omega arith

one_more : (at n : ℕ) → suc at + n ≡ at + suc n
one_more at n = omega arith

pub behind_feeds-append : (at : ℕ) (a b : List ℕ) → behind_feeds at (a ++ b) ≡ behind_feeds at a ++ behind_feeds (at + length a) b
behind_feeds-append at [] b = ap (λ n. behind_feeds n b) (no_more at)
behind_feeds-append at (x ∷ a) b =
    chosen (is_line_feed x) (suc at) _ _ _ (behind_feeds-append (suc at) a b ∙ ap (λ n. behind_feeds (suc at) a ++ behind_feeds n b) (one_more at (length a)))

-- a byte of a text that is no line feed
pub no_feed : (b : ℕ) → b ≢ 10 → is_line_feed b ≡ false
no_feed b e = elim (eqb_tells b 10) [ inl p ↦ absurd (e p.1) | inr p ↦ p.0 ]

one_feed : (at b : ℕ) → is_line_feed b ≡ true → behind_feeds at (b ∷ []) ≡ (at + 1) ∷ []
one_feed at b e = rw e (ap (λ n. n ∷ []) (more at))
  where
    more : (n : ℕ) → suc n ≡ n + 1
    more n = omega arith

none_feed : (at b : ℕ) → is_line_feed b ≡ false → behind_feeds at (b ∷ []) ≡ []
none_feed at b e = rw e refl

grown : (bytes : List ℕ) (i : ℕ) → i < length bytes → line_starts (take (i + 1) bytes) ≡ line_starts (take i bytes) ++ behind_feeds i (get_or bytes i 0 ∷ [])
grown bytes i h =
    let size : 0 + length (take i bytes) ≡ i = omega (arith, length-take-le i bytes (omega arith)) in
    ap line_starts (take_more bytes i 0 h)
    ∙ ap (λ l. 0 ∷ l) (behind_feeds-append 0 (take i bytes) (get_or bytes i 0 ∷ []) ∙ ap (λ n. behind_feeds 0 (take i bytes) ++ behind_feeds n (get_or bytes i 0 ∷ [])) size)

-- a line feed begins a line behind it
pub line_starts-feed : (bytes : List ℕ) (i : ℕ) → i < length bytes → is_line_feed (get_or bytes i 0) ≡ true
    → line_starts (take (i + 1) bytes) ≡ line_starts (take i bytes) ++ (i + 1) ∷ []
line_starts-feed bytes i h e = grown bytes i h ∙ ap (λ l. line_starts (take i bytes) ++ l) (one_feed i (get_or bytes i 0) e)

-- another byte begins none
pub line_starts-other : (bytes : List ℕ) (i : ℕ) → i < length bytes → is_line_feed (get_or bytes i 0) ≡ false
    → line_starts (take (i + 1) bytes) ≡ line_starts (take i bytes)
line_starts-other bytes i h e =
    grown bytes i h ∙ ap (λ l. line_starts (take i bytes) ++ l) (none_feed i (get_or bytes i 0) e) ∙ append-nil (line_starts (take i bytes))

-- how many bytes the last line has
abbrev pub last_len : List ℕ → ℕ
last_len text = suffix_len (λ b. not (is_line_feed b)) text

pub length-last_line : (text : List ℕ) → length (last_line text) ≡ last_len text
length-last_line text =
    let h = suffix_len-le-length (λ b. not (is_line_feed b)) text in
    omega (arith, length-drop (length text - last_len text) text)

last_len-feed : (bytes : List ℕ) (i : ℕ) → i < length bytes → is_line_feed (get_or bytes i 0) ≡ true → last_len (take (i + 1) bytes) ≡ 0
last_len-feed bytes i h e =
    let at : i + 1 - 1 ≡ i = omega arith in
    suffix_len-take_no (λ b. not (is_line_feed b)) bytes (i + 1) 0 (omega arith) (omega arith) (ap (λ n. not (is_line_feed (get_or bytes n 0))) at ∙ ap not e)

last_len-other : (bytes : List ℕ) (i : ℕ) → i < length bytes → is_line_feed (get_or bytes i 0) ≡ false → last_len (take (i + 1) bytes) ≡ 1 + last_len (take i bytes)
last_len-other bytes i h e =
    let at : i + 1 - 1 ≡ i = omega arith in
    suffix_len-take_yes (λ b. not (is_line_feed b)) bytes (i + 1) 0 (omega arith) (omega arith) (ap (λ n. not (is_line_feed (get_or bytes n 0))) at ∙ ap not e)
    ∙ ap (λ n. 1 + last_len (take n bytes)) at

-- the lines that begin up to a place: how many there are, where the last one begins, and that none begins behind it
pub record UpTo (bytes : List ℕ) (i : ℕ) (starts : List ℕ) : Type 0 where
  pub count : length starts ≡ line_of bytes i
  pub last : get_or starts (length starts - 1) 0 + last_len (take i bytes) ≡ i
  pub below : All (λ s. s ≤ i) starts

later : (i : ℕ) (starts : List ℕ) → All (λ s. s ≤ i) starts → All (λ s. s ≤ i + 1) starts
later i starts below = All-weaker (λ s. s ≤ i) (λ s. s ≤ i + 1) (λ s h. omega arith) starts below

UpTo-feed : (bytes : List ℕ) (i : ℕ) → i < length bytes → is_line_feed (get_or bytes i 0) ≡ true → (starts : List ℕ) → UpTo bytes i starts
    → UpTo bytes (i + 1) (starts ++ (i + 1) ∷ [])
UpTo-feed bytes i h e starts got =
    let size = length_push starts (i + 1) in
    let more = count_by_more_yes is_line_feed bytes i 0 h e in
    let last_place : length starts ≡ length (starts ++ (i + 1) ∷ []) - 1 = omega arith in
    let at = get_or_push starts (i + 1) 0 _ last_place in
    let none = last_len-feed bytes i h e in
    record {
      count = size ∙ ap (λ n. n + 1) (got.count ∙ sym more);
      last = omega arith;
      below = All-push (λ s. s ≤ i + 1) starts (i + 1) (later i starts got.below) (omega arith);
    }

UpTo-other : (bytes : List ℕ) (i : ℕ) → i < length bytes → is_line_feed (get_or bytes i 0) ≡ false → (starts : List ℕ) → UpTo bytes i starts
    → UpTo bytes (i + 1) starts
UpTo-other bytes i h e starts got =
    let same = count_by_more_no is_line_feed bytes i 0 h e in
    let more = last_len-other bytes i h e in
    let was = got.last in
    record {
      count = got.count ∙ ap (λ n. n + 1) (sym same);
      last = omega arith;
      below = later i starts got.below;
    }

UpTo-first : (bytes : List ℕ) → UpTo bytes 0 (0 ∷ [])
UpTo-first bytes = record { count = refl; last = refl; below = All-cons (λ s. s ≤ 0) 0 [] (omega arith) (All-nil (λ s. s ≤ 0)) }

UpTo-step : (bytes : List ℕ) (i : ℕ) → i < length bytes → UpTo bytes i (line_starts (take i bytes)) → UpTo bytes (i + 1) (line_starts (take (i + 1) bytes))
UpTo-step bytes i h got = by (is_line_feed (get_or bytes i 0)) refl
  where
    by : (t : Bool) → is_line_feed (get_or bytes i 0) ≡ t → UpTo bytes (i + 1) (line_starts (take (i + 1) bytes))
    by true e = subst (λ (s : List ℕ). UpTo bytes (i + 1) s) (sym (line_starts-feed bytes i h e)) (UpTo-feed bytes i h e (line_starts (take i bytes)) got)
    by false e = subst (λ (s : List ℕ). UpTo bytes (i + 1) s) (sym (line_starts-other bytes i h e)) (UpTo-other bytes i h e (line_starts (take i bytes)) got)

pub up_to : (bytes : List ℕ) (i : ℕ) → i ≤ length bytes → UpTo bytes i (line_starts (take i bytes))
up_to bytes zero h = UpTo-first bytes
up_to bytes (suc i) h =
    let at : i + 1 ≡ suc i = omega arith in
    subst (λ (n : ℕ). UpTo bytes n (line_starts (take n bytes))) at (UpTo-step bytes i (omega arith) (up_to bytes i (omega arith)))

above-chosen : (t : Bool) (at : ℕ) (later : List ℕ) → All (λ s. suc at < s) later → All (λ s. at < s) (if t then suc at ∷ later else later)
above-chosen true at later above =
    All-cons (λ s. at < s) (suc at) later (omega arith) (All-weaker (λ s. suc at < s) (λ s. at < s) (λ s h. omega arith) later above)
above-chosen false at later above = All-weaker (λ s. suc at < s) (λ s. at < s) (λ s h. omega arith) later above

-- lines behind a place begin behind it
pub behind_feeds-above : (at : ℕ) (bytes : List ℕ) → All (λ s. at < s) (behind_feeds at bytes)
behind_feeds-above at [] = All-nil (λ s. at < s)
behind_feeds-above at (b ∷ bytes) = above-chosen (is_line_feed b) at (behind_feeds (suc at) bytes) (behind_feeds-above (suc at) bytes)

-- a loop over the bytes keeps the places: behind a line feed
pub starts-feed : (bytes : List ℕ) (i at : ℕ) (lines after : List ℕ) → i < length bytes → is_line_feed (get_or bytes i 0) ≡ true → at ≡ i → lines ≡ line_starts (take i bytes)
    → after ≡ lines ++ (at + 1) ∷ [] → after ≡ line_starts (take (i + 1) bytes)
starts-feed bytes i at lines after h e same before pushed =
    pushed ∙ ap (λ l. l ++ (at + 1) ∷ []) before ∙ ap (λ n. line_starts (take i bytes) ++ (n + 1) ∷ []) same ∙ sym (line_starts-feed bytes i h e)

-- and behind another byte
pub starts-other : (bytes : List ℕ) (i : ℕ) (lines after : List ℕ) → i < length bytes → is_line_feed (get_or bytes i 0) ≡ false → lines ≡ line_starts (take i bytes)
    → after ≡ lines → after ≡ line_starts (take (i + 1) bytes)
starts-other bytes i lines after h e before same = same ∙ before ∙ sym (line_starts-other bytes i h e)

-- ---- lines ascend

left : (a b : Bool) → (a && b) ≡ true → a ≡ true
left true b e = refl
left false b e = e

right : (a b : Bool) → (a && b) ≡ true → b ≡ true
right true b e = e
right false b e = cc

ascends-lower : (at next : ℕ) (starts : List ℕ) → at ≤ next → ascends (next ∷ starts) ≡ true → ascends (at ∷ starts) ≡ true
ascends-lower at next [] h up = refl
ascends-lower at next (s ∷ starts) h up =
    let above = ltb-true next s (left (ltb next s) (ascends (s ∷ starts)) up) in
    both_true (lt-ltb at s (omega arith)) (right (ltb next s) (ascends (s ∷ starts)) up)

ascends-chosen : (t : Bool) (at : ℕ) (later : List ℕ) → ascends (suc at ∷ later) ≡ true → ascends (at ∷ (if t then suc at ∷ later else later)) ≡ true
ascends-chosen true at later up = both_true (lt-ltb at (suc at) (omega arith)) up
ascends-chosen false at later up = ascends-lower at (suc at) later (omega arith) up

ascends-behind : (at : ℕ) (bytes : List ℕ) → ascends (at ∷ behind_feeds at bytes) ≡ true
ascends-behind at [] = refl
ascends-behind at (b ∷ bytes) = ascends-chosen (is_line_feed b) at (behind_feeds (suc at) bytes) (ascends-behind (suc at) bytes)

-- each line of a text begins behind the one before
pub ascends-line_starts : (bytes : List ℕ) → ascends (line_starts bytes) ≡ true
ascends-line_starts bytes = ascends-behind 0 bytes

-- neighbours in places that ascend
pub ascends-next : (starts : List ℕ) (k d : ℕ) → ascends starts ≡ true → k + 1 < length starts → get_or starts k d ≤ get_or starts (k + 1) d
ascends-next [] k d up h = absurd (omega arith)
ascends-next (s ∷ []) k d up h = absurd (omega arith)
ascends-next (s ∷ t ∷ starts) zero d up h = omega (arith, ltb-true s t (left (ltb s t) (ascends (t ∷ starts)) up))
ascends-next (s ∷ t ∷ starts) (suc k) d up h =
    let next : suc k + 1 ≡ suc (k + 1) = omega arith in
    rw next (ascends-next (t ∷ starts) k d (right (ltb s t) (ascends (t ∷ starts)) up) (omega arith))
