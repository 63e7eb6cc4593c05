-- Nodes that go, or go elsewhere, with what child components show.
use Rattle.std.proofs.Common.{◌≡◌, ◌≢◌, ◌≤◌, ◌<◌, ◌+◌, ℕ, List, [], ◌∷◌, ◌++◌, length, take, drop, get_or, Option, ap, sym, ◌∙◌, arith, subst, append_assoc}
use Rattle.std.proofs.lemmas.List.{take_more, drop_more, take-append-drop, take_all}
use Rattle.sv_tokens.specs.Counting.{Has}
use Rattle.sv_tokens.specs.Token.{Name, Token, Anchor, begins, parent_at, IsBeside}
use Rattle.sv_tokens.specs.Edit.{Removed, Moved}
use Rattle.sv_live.specs.declared.live.Named.{Named}
use Rattle.sv_live.specs.declared.live.Live.{Live}
use Rattle.sv_live.specs.declared.live.Live.TheVariants as live
use Rattle.sv_live.specs.declared.node.Own.{Own}
use Rattle.sv_live.specs.Shown.{Numbers, drawn, drawn_all}
use Rattle.sv_live.specs.Stands.{State, place, Tells, Within, Among, Cuts, Relocates, Goes, Gone}
use Rattle.sv_live.proofs.Shown.{drawn-Hole, drawn-nil, drawn-one, drawn_all-append, Single, lone_anchor, single-Text, single-Element}
use Rattle.sv_live.proofs.Stands.{Once}
use Rattle.sv_live.proofs.Steps.{stands, not-root, parent-is, place-beside, relocated, cut-out, Relocates-two, Cuts-two}

-- ---- lists that are drawn alike

abbrev pub AreAlike : List Live → List Live → Type 0
AreAlike xs ys = (numbers : Numbers) (above : Name) → drawn_all numbers xs above ≡ drawn_all numbers ys above

pub Within-as : (tokens : List Token) (above : Name) (xs ys : List Live) → AreAlike xs ys → Within tokens above xs → Within tokens above ys
Within-as tokens above xs ys same w = record { numbers = w.numbers; front = w.front; back = w.back; page = w.page; was = w.was ∙ ap (λ z. w.front ++ (z ++ w.back)) (same w.numbers above) }

pub Gone-as : (old new : State) (above : Name) (xs ys : List Live) → AreAlike xs ys → Gone old new above xs → Gone old new above ys
Gone-as old new above xs ys same g =
    record { tokens = λ numbers. (subst (λ z. Cuts old.page.tokens new.page.tokens z) (same numbers above) (g.tokens numbers)); later = g.later; tells = g.tells }

pub Among-as : (tokens : List Token) (above : Name) (before : Option ℕ) (xs ys : List Live) → AreAlike xs ys → Among tokens above before xs → Among tokens above before ys
Among-as tokens above before xs ys same a = record {
  numbers = a.numbers;
  front = a.front;
  middle = a.middle;
  back = a.back;
  page = a.page;
  here = a.here;
  was = a.was ∙ ap (λ z. a.front ++ (z ++ (a.middle ++ a.back))) (same a.numbers above);
}

pub Goes-as : (old new : State) (above : Name) (before : Option ℕ) (xs ys : List Live) → AreAlike xs ys → Goes old new above before xs → Goes old new above before ys
Goes-as old new above before xs ys same g =
    record { tokens = λ numbers. (subst (λ z. Relocates old.page.tokens new.page.tokens above before z) (same numbers above) (g.tokens numbers)); later = g.later; tells = g.tells }

-- ---- going

pub Gone-none : (a : State) (above : Name) → Gone a a above []
Gone-none a above = record { tokens = λ numbers front back was. (was ∙ ap (λ z. front ++ (z ++ back)) (drawn-nil numbers above)); later = omega arith; tells = λ start e. e }

pub Gone-two : (a b c : State) (above : Name) (xs ys : List Live) → Gone a b above xs → Gone b c above ys → Gone a c above (xs ++ ys)
Gone-two a b c above xs ys p q = record {
  tokens = λ numbers. (subst (λ z. Cuts a.page.tokens c.page.tokens z) (sym (drawn_all-append numbers above xs ys)) (Cuts-two a.page.tokens b.page.tokens c.page.tokens _ _ (p.tokens numbers) (q.tokens numbers)));
  later = (let e = p.later in let f = q.later in omega (arith, e, f));
  tells = λ start e. q.tells start (p.tells start e);
}

pub Within-left : (tokens : List Token) (above : Name) (xs ys : List Live) → Within tokens above (xs ++ ys) → Within tokens above xs
Within-left tokens above xs ys w = record {
  numbers = w.numbers;
  front = w.front;
  back = drawn_all w.numbers ys above ++ w.back;
  page = w.page;
  was = w.was ∙ ap (λ z. w.front ++ z) (ap (λ z. z ++ w.back) (drawn_all-append w.numbers above xs ys) ∙ append_assoc (drawn_all w.numbers xs above) (drawn_all w.numbers ys above) w.back);
}

pub Within-rest : (a b : State) (above : Name) (xs ys : List Live) → Within a.page.tokens above (xs ++ ys) → Gone a b above xs → Within b.page.tokens above ys
unfolding Within-left
Within-rest a b above xs ys w g =
    let l = Within-left a.page.tokens above xs ys w in
    record { numbers = w.numbers; front = w.front; back = w.back; page = w.page; was = g.tokens w.numbers w.front (drawn_all w.numbers ys above ++ w.back) l.was }

-- ---- going elsewhere

pub Goes-none : (a : State) (above : Name) (before : Option ℕ) → Goes a a above before []
Goes-none a above before = record {
  tokens = λ numbers front middle back here was. (was ∙ (ap (λ z. front ++ (z ++ (middle ++ back))) (drawn-nil numbers above) ∙ ap (λ z. front ++ (middle ++ (z ++ back))) (sym (drawn-nil numbers above))));
  later = omega arith;
  tells = λ start e. e;
}

pub Goes-two : (a b c : State) (above : Name) (before : Option ℕ) (xs ys : List Live) → Goes a b above before xs → Goes b c above before ys → Goes a c above before (xs ++ ys)
Goes-two a b c above before xs ys p q = record {
  tokens = λ numbers. (subst (λ z. Relocates a.page.tokens c.page.tokens above before z) (sym (drawn_all-append numbers above xs ys)) (Relocates-two a.page.tokens b.page.tokens c.page.tokens above before _ _ (p.tokens numbers) (q.tokens numbers)));
  later = (let e = p.later in let f = q.later in omega (arith, e, f));
  tells = λ start e. q.tells start (p.tells start e);
}

pub Among-left : (tokens : List Token) (above : Name) (before : Option ℕ) (xs ys : List Live) → Among tokens above before (xs ++ ys) → Among tokens above before xs
Among-left tokens above before xs ys a =
    let x = drawn_all a.numbers xs above in
    let y = drawn_all a.numbers ys above in
    record {
      numbers = a.numbers;
      front = a.front;
      middle = y ++ a.middle;
      back = a.back;
      page = a.page;
      here = a.here;
      was = a.was ∙ ap (λ z. a.front ++ z) (ap (λ z. z ++ (a.middle ++ a.back)) (drawn_all-append a.numbers above xs ys) ∙ (append_assoc x y (a.middle ++ a.back) ∙ ap (λ z. x ++ z) (sym (append_assoc y a.middle a.back))));
    }

pub Among-rest : (a b : State) (above : Name) (before : Option ℕ) (xs ys : List Live) → Among a.page.tokens above before (xs ++ ys) → Goes a b above before xs → Among b.page.tokens above before ys
unfolding Among-left
Among-rest a b above before xs ys s g =
    let x = drawn_all s.numbers xs above in
    let y = drawn_all s.numbers ys above in
    let l = Among-left a.page.tokens above before xs ys s in
    record {
      numbers = s.numbers;
      front = s.front;
      middle = s.middle ++ x;
      back = s.back;
      page = s.page;
      here = s.here;
      was = g.tokens s.numbers s.front (y ++ s.middle) s.back s.here l.was ∙ ap (λ z. s.front ++ z) (append_assoc y s.middle (x ++ s.back) ∙ ap (λ z. y ++ z) (sym (append_assoc s.middle x s.back)));
    }

-- ---- one of them

abbrev pub IsLone : ℕ → Live → Type 0
IsLone key l = (numbers : Numbers) (above : Name) → Single key above (drawn_all numbers (l ∷ []) above)

lone-drawn : (numbers : Numbers) (above : Name) (key : ℕ) (l : Live) → Single key above (drawn numbers l above) → Single key above (drawn_all numbers (l ∷ []) above)
lone-drawn numbers above key l one = subst (Single key above) (sym (drawn-one numbers above l)) one

pub lone-Text : (mark : ℕ) (n : Named) (text : List ℕ) → IsLone n.key (live.Text mark n text)
lone-Text mark n text numbers above = lone-drawn numbers above n.key (live.Text mark n text) (single-Text numbers above mark n text)

pub lone-Element : (n : Named) (own : Own) (parts : List Live) → IsLone n.key (live.Element n own parts)
lone-Element n own parts numbers above = lone-drawn numbers above n.key (live.Element n own parts) (single-Element numbers above n own parts)

pub drawn-bare : (numbers : Numbers) (above : Name) (place anchor : ℕ) → drawn_all numbers (live.Hole place anchor [] ∷ []) above ≡ Anchor anchor above ∷ []
drawn-bare numbers above place anchor = drawn-one numbers above (live.Hole place anchor []) ∙ (drawn-Hole numbers above place anchor [] ∙ ap (λ z. z ++ (Anchor anchor above ∷ [])) (drawn-nil numbers above))

pub lone-Hole : (place anchor : ℕ) → IsLone anchor (live.Hole place anchor [])
lone-Hole place anchor numbers above = subst (Single anchor above) (sym (drawn-bare numbers above place anchor)) (lone_anchor anchor above)

-- a child component is what it shows, and the node that marks its place
pub hole-alike : (place other anchor : ℕ) (parts : List Live) → AreAlike (parts ++ live.Hole other anchor [] ∷ []) (live.Hole place anchor parts ∷ [])
hole-alike place other anchor parts numbers above =
    drawn_all-append numbers above parts (live.Hole other anchor [] ∷ [])
    ∙ (ap (λ z. drawn_all numbers parts above ++ z) (drawn-bare numbers above other anchor)
    ∙ (sym (drawn-Hole numbers above place anchor parts) ∙ sym (drawn-one numbers above (live.Hole place anchor parts))))

-- the same of one that is known to be that
pub hole-whole : (l : Live) (place other anchor : ℕ) (parts shown : List Live) → l ≡ live.Hole place anchor parts → shown ≡ parts → AreAlike (shown ++ live.Hole other anchor [] ∷ []) (l ∷ [])
hole-whole l place other anchor parts shown is same numbers above =
    ap (λ z. drawn_all numbers (z ++ live.Hole other anchor [] ∷ []) above) same ∙ (hole-alike place other anchor parts numbers above ∙ ap (λ z. drawn_all numbers (z ∷ []) above) (sym is))

pub hole-parts : (l : Live) (place other anchor : ℕ) (parts shown : List Live) → l ≡ live.Hole place anchor parts → shown ≡ parts → AreAlike (l ∷ []) (shown ++ live.Hole other anchor [] ∷ [])
hole-parts l place other anchor parts shown is same numbers above = sym (hole-whole l place other anchor parts shown is same numbers above)

pub lone-is-Text : (l : Live) (mark : ℕ) (n : Named) (text : List ℕ) → l ≡ live.Text mark n text → IsLone n.key l
lone-is-Text l mark n text is = subst (λ (z : Live). IsLone n.key z) (sym is) (lone-Text mark n text)

pub lone-is-Element : (l : Live) (n : Named) (own : Own) (parts : List Live) → l ≡ live.Element n own parts → IsLone n.key l
lone-is-Element l n own parts is = subst (λ (z : Live). IsLone n.key z) (sym is) (lone-Element n own parts)

module _ (old : State) (above : Name) (key : ℕ) (l : Live) (one : IsLone key l) (w : Within old.page.tokens above (l ∷ [])) (once : Once old.page.tokens) where
  pub within-stands : Has (begins key) old.page.tokens
  within-stands = stands old.page.tokens above key (drawn_all w.numbers (l ∷ []) above) w.front w.back (one w.numbers above) w.was w.page once

  pub within-below : key ≢ 0
  within-below = not-root old.page.tokens above key (drawn_all w.numbers (l ∷ []) above) w.front w.back (one w.numbers above) w.was w.page once

  pub within-gone : (new : State) → Removed old.page.tokens new.page.tokens key → new.page.next ≡ old.page.next → Tells old new → Gone old new above (l ∷ [])
  within-gone new r next tells = record { tokens = λ numbers. (cut-out old.page.tokens new.page.tokens above key (drawn_all numbers (l ∷ []) above) (one numbers above) r); later = omega (arith, next); tells = tells }

module _ (old : State) (above : Name) (before : Option ℕ) (key : ℕ) (l : Live) (one : IsLone key l) (a : Among old.page.tokens above before (l ∷ [])) (once : Once old.page.tokens) where
  abbrev own : List Token
  own = drawn_all a.numbers (l ∷ []) above

  pub among-stands : Has (begins key) old.page.tokens
  among-stands = stands old.page.tokens above key own a.front (a.middle ++ a.back) (one a.numbers above) a.was a.page once

  pub among-below : key ≢ 0
  among-below = not-root old.page.tokens above key own a.front (a.middle ++ a.back) (one a.numbers above) a.was a.page once

  pub among-beside : IsBeside old.page.tokens key before
  among-beside = place-beside old.page.tokens above key own a.front a.middle a.back (one a.numbers above) a.was a.page once before a.here

  pub among-goes : (new : State) → Moved old.page.tokens new.page.tokens key (parent_at key old.page.tokens).key before → new.page.next ≡ old.page.next → Tells old new → Goes old new above before (l ∷ [])
  among-goes new m next tells =
      let parent = parent-is old.page.tokens above key own a.front (a.middle ++ a.back) (one a.numbers above) a.was a.page once in
      record { tokens = λ numbers. (relocated old.page.tokens new.page.tokens above before key (drawn_all numbers (l ∷ []) above) (one numbers above) parent m); later = omega (arith, next); tells = tells }

-- ---- a list, from its first one on

-- the list, round one
pub around : (xs : List Live) (i : ℕ) (x : Live) → i < length xs → x ≡ get_or xs i x → xs ≡ take i xs ++ (x ∷ drop (i + 1) xs)
around xs i x lt is = sym (take-append-drop i xs) ∙ ap (λ z. take i xs ++ z) (drop_more xs i x lt ∙ ap (λ z. z ∷ drop (i + 1) xs) (sym is))

pub one-more : (xs : List Live) (i : ℕ) (x : Live) → i < length xs → x ≡ get_or xs i x → take i xs ++ (x ∷ []) ≡ take (i + 1) xs
one-more xs i x lt is = ap (λ z. take i xs ++ (z ∷ [])) is ∙ sym (take_more xs i x lt)

module _ (start old : State) (above : Name) (xs : List Live) (i : ℕ) (x : Live) (lt : i < length xs) (is : x ≡ get_or xs i x) where
  pub within-next : Within start.page.tokens above xs → Gone start old above (take i xs) → Within old.page.tokens above (x ∷ [])
  within-next w g = Within-left old.page.tokens above (x ∷ []) (drop (i + 1) xs) (Within-rest start old above (take i xs) (x ∷ drop (i + 1) xs) (subst (λ (ys : List Live). Within start.page.tokens above ys) (around xs i x lt is) w) g)

  pub gone-next : (new : State) → Gone start old above (take i xs) → Gone old new above (x ∷ []) → Gone start new above (take (i + 1) xs)
  gone-next new g h = subst (λ (ys : List Live). Gone start new above ys) (one-more xs i x lt is) (Gone-two start old new above (take i xs) (x ∷ []) g h)

  pub among-next : (before : Option ℕ) → Among start.page.tokens above before xs → Goes start old above before (take i xs) → Among old.page.tokens above before (x ∷ [])
  among-next before a g =
      Among-left old.page.tokens above before (x ∷ []) (drop (i + 1) xs) (Among-rest start old above before (take i xs) (x ∷ drop (i + 1) xs) (subst (λ (ys : List Live). Among start.page.tokens above before ys) (around xs i x lt is) a) g)

  pub goes-next : (new : State) (before : Option ℕ) → Goes start old above before (take i xs) → Goes old new above before (x ∷ []) → Goes start new above before (take (i + 1) xs)
  goes-next new before g h = subst (λ (ys : List Live). Goes start new above before ys) (one-more xs i x lt is) (Goes-two start old new above before (take i xs) (x ∷ []) g h)

pub gone-all : (a b : State) (above : Name) (xs : List Live) (i : ℕ) → length xs ≤ i → Gone a b above (take i xs) → Gone a b above xs
gone-all a b above xs i le g = subst (λ (ys : List Live). Gone a b above ys) (take_all i xs le) g

pub goes-all : (a b : State) (above : Name) (before : Option ℕ) (xs : List Live) (i : ℕ) → length xs ≤ i → Goes a b above before (take i xs) → Goes a b above before xs
goes-all a b above before xs i le g = subst (λ (ys : List Live). Goes a b above before ys) (take_all i xs le) g
