-- What cutting white space off both ends of a text leaves.
use Rattle.std.proofs.Common.{arith, tests, ◌≡◌, ◌≤◌, ◌<◌, ◌⊎◌, ⊎_elim, true≢false, ℕ, ◌-◌, Bool, true, false, ◌&&◌, List, [], ◌∷◌, ◌++◌, length, take, drop, reverse, refl, ap, sym, subst, ◌∙◌, append-nil, Some, None, Option, take-append-drop, drop_of_length-le, length-take, take_at, take-take, le_refl, if◌then◌else◌}
use Rattle.std.proofs.Math.Utf8.{scalar, scalars, encode, encodes, low_scalar}
use Rattle.std.proofs.lemmas.List.{reverse-append, reverse-reverse}
use Rattle.std.proofs.lemmas.Str.{chars-nil, chars-append, chars_past_char, encodes-append, encodes-chars, scalars-chars, IsUtf8-encode, IsUtf8-take, IsUtf8-past_char, IsCharBoundary-at_seam, len_utf8_bounds, length-encode}
use Rattle.std.specs.Prelude.{IfSome}
use Rattle.std.specs.Str.{chars, IsUtf8}
use Rattle.std.specs.Str.Pattern.{HasCharAt, FindsPrefixBy, FindsSuffixBy, CutsPrefixes, CutsSuffixes, IsFullyTrimmed, IsTrimMatches}
use Rattle.sv_ops.specs.White.{is_white, without_front, trimmed}

-- what a search at an end of a text tells
abbrev Answers : Type 1
Answers = List ℕ → Option ℕ → Type 0

-- ---- characters

white_bound : (c : ℕ) → is_white c ≡ true → (c < 55296) ⊎ (c ≡ 0xFEFF)
white_bound c h = grind (arith, tests)

white_scalar : (c : ℕ) → is_white c ≡ true → scalar c ≡ true
white_scalar c h = ⊎_elim (λ l. low_scalar c l) (λ e. ap scalar e) (white_bound c h)

and_left : (a b : Bool) → a && b ≡ true → a ≡ true
and_left true b h = refl
and_left false b h = h

and_right : (a b : Bool) → a && b ≡ true → b ≡ true
and_right true b h = h
and_right false b h = absurd (true≢false (sym h))

scalars_last : (cs : List ℕ) (c : ℕ) → scalars (cs ++ c ∷ []) ≡ true → scalar c ≡ true
scalars_last [] c h = and_left (scalar c) true h
scalars_last (d ∷ cs) c h = scalars_last cs c (and_right (scalar d) (scalars (cs ++ c ∷ [])) h)

chars_one : (c : ℕ) → IsUtf8 (encode c) → chars (encode c) ≡ c ∷ []
chars_one c u = chars_past_char (encode c) [] c u (sym (append-nil (encode c))) ∙ ap (λ t. c ∷ t) chars-nil

reverse_cons : (c : ℕ) (cs : List ℕ) → reverse (c ∷ cs) ≡ reverse cs ++ c ∷ []
reverse_cons c cs = reverse-append (c ∷ []) cs

reverse_push : (cs : List ℕ) (c : ℕ) → reverse (cs ++ c ∷ []) ≡ c ∷ reverse cs
reverse_push cs c = reverse-append cs (c ∷ [])

-- ---- the front

front_white : (c : ℕ) (cs : List ℕ) → is_white c ≡ true → without_front (c ∷ cs) ≡ without_front cs
front_white c cs w = ap (λ b. if b then without_front cs else c ∷ cs) w

front_dark : (c : ℕ) (cs : List ℕ) → is_white c ≡ false → without_front (c ∷ cs) ≡ c ∷ cs
front_dark c cs w = ap (λ b. if b then without_front cs else c ∷ cs) w

front_kept : (cs : List ℕ) → ((c : ℕ) (ds : List ℕ) → cs ≡ c ∷ ds → is_white c ≡ false) → without_front cs ≡ cs
front_kept [] h = refl
front_kept (c ∷ cs) h = front_dark c cs (h c cs refl)

dropped : (m : List ℕ) → m ≡ drop 0 m
dropped [] = refl
dropped (b ∷ m) = refl

starts : (c : ℕ) (m : List ℕ) (n : ℕ) → HasCharAt c m 0 n → m ≡ encode c ++ drop n m
starts c m n h = dropped m ∙ h.split

front_cut : (B : Answers) → ((m : List ℕ) (o : Option ℕ) → B m o → FindsPrefixBy is_white m o) → (s r ns : List ℕ) → IsUtf8 s → CutsPrefixes B s ns r → IsUtf8 r × (without_front (chars s) ≡ without_front (chars r))
front_cut B tells s r [] u h = (subst IsUtf8 (sym h) u, ap (λ t. without_front (chars t)) (sym h))
front_cut B tells s r (n ∷ ns) u h =
    let m = h.0 in
    let k = front_cut B tells s m ns u h.1 in
    let p = tells m (Some n) h.2 in
    let e = starts p.0 m n p.2 in (
      subst IsUtf8 (sym h.3) (IsUtf8-past_char m (drop n m) p.0 k.0 e),
      k.1 ∙ ap without_front (chars_past_char m (drop n m) p.0 k.0 e) ∙ front_white p.0 (chars (drop n m)) p.1 ∙ ap (λ t. without_front (chars t)) (sym h.3),
    )

front_done : (m cs : List ℕ) (c : ℕ) (o : Option ℕ) → IsUtf8 m → FindsPrefixBy is_white m o → IfSome o (λ n. n ≡ 0) → chars m ≡ c ∷ cs → is_white c ≡ false
front_done m cs c None u h z e = h c (encodes cs) (and_left (scalar c) (scalars cs) (ap scalars (sym e) ∙ scalars-chars m u)) (sym (encodes-chars m u) ∙ ap encodes e)
front_done m cs c (Some n) u h z e = absurd (omega (arith, h.2.ends, z, (len_utf8_bounds h.0).0))

-- ---- the end

abbrev back : List ℕ → List ℕ
back cs = reverse (without_front (reverse cs))

front_push : (b : Bool) (d : ℕ) (ds : List ℕ) (c : ℕ) → is_white d ≡ b → without_front (ds ++ c ∷ []) ≡ without_front ds ++ c ∷ [] → without_front (d ∷ (ds ++ c ∷ [])) ≡ without_front (d ∷ ds) ++ c ∷ []
front_push true d ds c w h = front_white d (ds ++ c ∷ []) w ∙ h ∙ ap (λ t. t ++ c ∷ []) (sym (front_white d ds w))
front_push false d ds c w h = front_dark d (ds ++ c ∷ []) w ∙ ap (λ t. t ++ c ∷ []) (sym (front_dark d ds w))

front_pushed : (ds : List ℕ) (c : ℕ) → is_white c ≡ false → without_front (ds ++ c ∷ []) ≡ without_front ds ++ c ∷ []
front_pushed [] c w = front_dark c [] w
front_pushed (d ∷ ds) c w = front_push (is_white d) d ds c refl (front_pushed ds c w)

back_dark : (c : ℕ) (cs : List ℕ) → is_white c ≡ false → back (c ∷ cs) ≡ c ∷ back cs
back_dark c cs w = ap (λ t. reverse (without_front t)) (reverse_cons c cs) ∙ ap reverse (front_pushed (reverse cs) c w) ∙ reverse_push (without_front (reverse cs)) c

back_kept : (cs : List ℕ) → ((c : ℕ) (ds : List ℕ) → reverse cs ≡ c ∷ ds → is_white c ≡ false) → back cs ≡ cs
back_kept cs h = ap reverse (front_kept (reverse cs) h) ∙ reverse-reverse cs

ends : (c : ℕ) (m : List ℕ) (i : ℕ) → HasCharAt c m i (length m) → m ≡ take i m ++ encode c
ends c m i h = sym (take-append-drop i m) ∙ ap (λ t. take i m ++ t) (h.split ∙ ap (λ t. encode c ++ t) (drop_of_length-le m (le_refl (length m))) ∙ append-nil (encode c))

before : (m front : List ℕ) (c : ℕ) → IsUtf8 m → IsUtf8 (encode c) → m ≡ front ++ encode c → IsUtf8 front
before m front c u v e = subst IsUtf8 (ap (take (length front)) e ∙ take_at front (encode c) (length front) refl) (IsUtf8-take m (length front) u (IsCharBoundary-at_seam m front (encode c) e v))

last_first : (m front : List ℕ) (c : ℕ) → IsUtf8 front → IsUtf8 (encode c) → m ≡ front ++ encode c → reverse (chars m) ≡ c ∷ reverse (chars front)
last_first m front c u v e = ap reverse (ap chars e ∙ chars-append front (encode c) u ∙ ap (λ t. chars front ++ t) (chars_one c v)) ∙ reverse_push (chars front) c

back_white : (m front : List ℕ) (c : ℕ) → IsUtf8 m → m ≡ front ++ encode c → is_white c ≡ true → IsUtf8 front × (back (chars m) ≡ back (chars front))
back_white m front c u e w =
    let v = IsUtf8-encode c (white_scalar c w) in
    let f = before m front c u v e in
    (f, ap (λ t. reverse (without_front t)) (last_first m front c f v e) ∙ ap reverse (front_white c (reverse (chars front)) w))

back_cut : (E : Answers) → ((m : List ℕ) (o : Option ℕ) → E m o → FindsSuffixBy is_white m o) → (s r ns : List ℕ) → IsUtf8 s → CutsSuffixes E s ns r → IsUtf8 r × (back (chars s) ≡ back (chars r))
back_cut E tells s r [] u h = (subst IsUtf8 (sym h) u, ap (λ t. back (chars t)) (sym h))
back_cut E tells s r (n ∷ ns) u h =
    let m = h.0 in
    let k = back_cut E tells s m ns u h.1 in
    let p = tells m (Some n) h.2 in
    let i = length m - n in
    let q = back_white m (take i m) p.0 k.0 (ends p.0 m i p.2) p.1 in
    (subst IsUtf8 (sym h.3) q.0, k.1 ∙ q.1 ∙ ap (λ t. back (chars t)) (sym h.3))

back_done : (m cs : List ℕ) (c : ℕ) (o : Option ℕ) → IsUtf8 m → FindsSuffixBy is_white m o → IfSome o (λ n. n ≡ 0) → reverse (chars m) ≡ c ∷ cs → is_white c ≡ false
back_done m cs c None u h z e =
    let whole = sym (reverse-reverse (chars m)) ∙ ap reverse e ∙ reverse_cons c cs in
    h c (encodes (reverse cs)) (scalars_last (reverse cs) c (ap scalars (sym whole) ∙ scalars-chars m u))
    (sym (encodes-chars m u) ∙ ap encodes whole ∙ encodes-append (reverse cs) (c ∷ []) ∙ ap (λ t. encodes (reverse cs) ++ t) (append-nil (encode c)))
back_done m cs c (Some n) u h z e = absurd (omega (arith, h.2.ends, z, (len_utf8_bounds h.0).0))

-- ---- both

no_take : (r : List ℕ) → r ≡ take (length r) [] → r ≡ []
no_take [] e = refl
no_take (b ∷ r) e = absurd (omega (arith, ap length e, length-take {A = ℕ} (length (b ∷ r)) []))

module _ (E : Answers) (tells : (m : List ℕ) (o : Option ℕ) → E m o → FindsSuffixBy is_white m o) where
  behind : (m r : List ℕ) (c w : ℕ) → IsUtf8 m → r ≡ take (length r) m → HasCharAt c m 0 w → w ≤ length r → is_white c ≡ false
      → ((ns : List ℕ) × CutsSuffixes E (drop w m) ns (drop w r)) × IsFullyTrimmed E (drop w r) → r ≡ encodes (back (chars m))
  behind m r c w u cut at le dark h =
      let e = starts c m w at in
      let rest = IsUtf8-past_char m (drop w m) c u e in
      let k = back_cut E tells (drop w m) (drop w r) h.0.0 rest h.0.1 in
      let kept = back_kept (chars (drop w r)) (λ d ds. back_done (drop w r) ds d h.1.0 k.0 (tells (drop w r) h.1.0 h.1.1) h.1.2) in
      let all = ap back (chars_past_char m (drop w m) c u e) ∙ back_dark c (chars (drop w m)) dark ∙ ap (λ t. c ∷ t) (k.1 ∙ kept) in
      let width : length (encode c) ≡ w = omega (arith, length-encode c, at.ends) in
      let first : take w r ≡ encode c = ap (take w) cut ∙ take-take w (length r) m le ∙ ap (take w) e ∙ take_at (encode c) (drop w m) w width in
      sym (take-append-drop w r) ∙ ap (λ t. t ++ drop w r) first ∙ ap (λ t. encode c ++ t) (sym (encodes-chars (drop w r) k.0)) ∙ ap encodes (sym all)

  -- the front was cut, and of what is left the end behind its first character
  left : (m r : List ℕ) → IsUtf8 m → ((c : ℕ) (cs : List ℕ) → chars m ≡ c ∷ cs → is_white c ≡ false) → r ≡ take (length r) m
      → (0 < length m → (c : ℕ) × (w : ℕ) × HasCharAt c m 0 w × (w ≤ length r) × (((ns : List ℕ) × CutsSuffixes E (drop w m) ns (drop w r)) × IsFullyTrimmed E (drop w r)))
      → r ≡ encodes (back (chars m))
  left [] r u dark cut more = no_take r cut ∙ sym (ap (λ t. encodes (back t)) chars-nil)
  left (b ∷ bs) r u dark cut more =
      let q = more (omega arith) in
      behind (b ∷ bs) r q.0 q.1 u cut q.2 q.3 (dark q.0 (chars (drop q.1 (b ∷ bs))) (chars_past_char (b ∷ bs) (drop q.1 (b ∷ bs)) q.0 u (starts q.0 (b ∷ bs) q.1 q.2))) q.4

-- the same of a pattern whose test is known
abbrev ByFront : ((ℕ → Bool) → Type 0) → Answers
ByFront M t o = (k : ℕ → Bool) → M k → FindsPrefixBy k t o

abbrev ByEnd : ((ℕ → Bool) → Type 0) → Answers
ByEnd M t o = (k : ℕ → Bool) → M k → FindsSuffixBy k t o

-- what trimming leaves of a text, where the test is the one for white space
pub trimmed_told : (M : (ℕ → Bool) → Type 0) (s r : List ℕ) → IsTrimMatches (ByFront M) (ByEnd M) s r → IsUtf8 s → M is_white → r ≡ trimmed s
trimmed_told M s r h u white =
    let m = h.0 in
    let k = front_cut (ByFront M) (λ t o a. a is_white white) s m h.1.0.0 u h.1.0.1 in
    let dark : (c : ℕ) (cs : List ℕ) → chars m ≡ c ∷ cs → is_white c ≡ false = λ c cs. front_done m cs c h.1.1.0 k.0 (h.1.1.1 is_white white) h.1.1.2 in
    left (ByEnd M) (λ t o a. a is_white white) m r k.0 dark h.2 h.3 ∙ ap (λ t. encodes (back t)) (sym (k.1 ∙ front_kept (chars m) dark))
