-- What becomes of what an element shows, and of what stands inside it.
use Rattle.std.proofs.Common.{◌≡◌, ◌≤◌, ℕ, List, [], ◌∷◌, ◌++◌, true, Option, Some, None, refl, ap, sym, ◌∙◌, arith, subst, append_assoc}
use Rattle.std.proofs.lemmas.Bool.{eq-eqb, and_from}
use Rattle.std.specs.Prelude.{◌==◌, ◌&&◌}
use Rattle.sv_tokens.specs.Counting.{times, Has}
use Rattle.sv_tokens.specs.Token.{Name, Token, Open, Text, Anchor, Close, Page, begins, opens, texts}
use Rattle.sv_tokens.specs.Edit.{Rewritten, with_text}
use Rattle.sv_tokens.proofs.Counting.{times-append, has-left, has-right, has-here}
use Rattle.sv_live.specs.declared.live.Named.{Named}
use Rattle.sv_live.specs.declared.live.Live.{Live}
use Rattle.sv_live.specs.declared.live.Live.TheVariants as live
use Rattle.sv_live.specs.declared.node.Own.{Own}
use Rattle.sv_live.specs.Shown.{name_of, element_of, Numbers, drawn_all}
use Rattle.sv_live.specs.Stands.{State, place, Stands, Swaps, Becomes, Dresses}
use Rattle.sv_live.proofs.Shown.{drawn-Text, drawn-Element, drawn-Hole}
use Rattle.sv_live.proofs.Stands.{Once, name-here, name-front, opens-begins}
use Rattle.sv_live.proofs.Steps.{round}

-- the tokens round what is inside an element
in-Element : (numbers : Numbers) (above : Name) (rest placed : List Live) (n : Named) (own : Own) (parts : List Live) (pre post : List Token)
    → pre ++ (drawn_all numbers (rest ++ live.Element n own parts ∷ placed) above ++ post)
    ≡ (pre ++ drawn_all numbers rest above) ++ (Open (name_of n) above (numbers n.serial) (element_of own) ∷ (drawn_all numbers parts (name_of n) ++ (Close (name_of n) own.name ∷ (drawn_all numbers placed above ++ post))))
in-Element numbers above rest placed n own parts pre post =
    let p = drawn_all numbers placed above ++ post in
    let first = Open (name_of n) above (numbers n.serial) (element_of own) in
    let inner = drawn_all numbers parts (name_of n) in
    round numbers above rest placed (live.Element n own parts) pre post
    ∙ (ap (λ z. (pre ++ drawn_all numbers rest above) ++ (z ++ p)) (drawn-Element numbers above n own parts)
    ∙ ap (λ z. (pre ++ drawn_all numbers rest above) ++ (first ∷ z)) (append_assoc inner (Close (name_of n) own.name ∷ []) p))

-- with the first token on the other side
shifted : (a b : List Token) (t : Token) → a ++ (t ∷ b) ≡ (a ++ t ∷ []) ++ b
shifted a b t = sym (append_assoc a (t ∷ []) b)

module _ (page : Page) (above : Name) (end : Option ℕ) (rest placed : List Live) (n : Named) (own : Own) (parts : List Live)
    (s : Stands page above end (rest ++ live.Element n own parts ∷ placed)) (once : Once page.tokens) where
  abbrev first : Token
  first = Open (name_of n) above (s.numbers n.serial) (element_of own)

  abbrev ahead : List Token
  ahead = s.holds.pre ++ drawn_all s.numbers rest above

  abbrev behind : List Token
  behind = Close (name_of n) own.name ∷ (drawn_all s.numbers placed above ++ s.holds.post)

  split : page.tokens ≡ ahead ++ (first ∷ (drawn_all s.numbers parts (name_of n) ++ behind))
  split = s.holds.was ∙ in-Element s.numbers above rest placed n own parts s.holds.pre s.holds.post

  alone : times (begins n.key) (ahead ++ first ∷ []) ≤ 1
  alone =
      let a = once n.key in
      let b = ap (times (begins n.key)) (split ∙ shifted ahead _ first) in
      let c = times-append (begins n.key) (ahead ++ first ∷ []) (drawn_all s.numbers parts (name_of n) ++ behind) in
      omega (arith, a, b, c)

  pub element-opens : Has (opens n.key) page.tokens
  element-opens = subst (Has (opens n.key)) (sym split) (has-right (opens n.key) ahead _ (has-here (opens n.key) first _ (eq-eqb n.key n.key refl)))

  -- what stands inside it
  pub inside : Stands page (name_of n) None parts
  inside = record {
    numbers = s.numbers;
    fresh = s.fresh;
    holds = record {
      pre = ahead ++ first ∷ [];
      post = behind;
      page = has-left (begins 0) ahead _ (has-left (begins 0) s.holds.pre _ s.holds.page);
      opens = has-right (opens n.key) ahead (first ∷ []) (has-here (opens n.key) first [] (eq-eqb n.key n.key refl));
      name = name-here n.key ahead [] first (eq-eqb n.key n.key refl) alone;
      here = eq-eqb n.key n.key refl;
      was = split ∙ shifted ahead _ first;
    };
  }

-- what becomes of what is inside it becomes of it
pub outside : (old new : State) (above : Name) (end : Option ℕ) (rest placed : List Live) (n : Named) (own : Own) (parts now : List Live)
    → Becomes old new (name_of n) None parts now → Becomes old new above end (rest ++ live.Element n own parts ∷ placed) (rest ++ live.Element n own now ∷ placed)
outside old new above end rest placed n own parts now b = record {
  swaps = λ numbers fresh pre post here was. (
      let first = Open (name_of n) above (numbers n.serial) (element_of own) in
      let ahead = pre ++ drawn_all numbers rest above in
      let behind = Close (name_of n) own.name ∷ (drawn_all numbers placed above ++ post) in
      b.swaps numbers fresh (ahead ++ first ∷ []) behind (eq-eqb n.key n.key refl) (was ∙ (in-Element numbers above rest placed n own parts pre post ∙ shifted ahead _ first))
      ∙ (sym (shifted ahead (drawn_all numbers now (name_of n) ++ behind) first) ∙ sym (in-Element numbers above rest placed n own now pre post)));
  later = b.later;
  tells = b.tells;
}

-- an element shows something else of its own
pub dressed : (old new : State) (above : Name) (end : Option ℕ) (rest placed : List Live) (n : Named) (own now : Own) (parts : List Live)
    → now.name ≡ own.name → Dresses old new (name_of n) (element_of own) (element_of now)
    → Becomes old new above end (rest ++ live.Element n own parts ∷ placed) (rest ++ live.Element n now parts ∷ placed)
dressed old new above end rest placed n own now parts same d = record {
  swaps = λ numbers fresh pre post here was. (
      let ahead = pre ++ drawn_all numbers rest above in
      let inner = drawn_all numbers parts (name_of n) in
      let p = drawn_all numbers placed above ++ post in
      d.swaps ahead (inner ++ (Close (name_of n) own.name ∷ p)) above (numbers n.serial) (was ∙ in-Element numbers above rest placed n own parts pre post)
      ∙ (ap (λ z. ahead ++ (Open (name_of n) above (numbers n.serial) (element_of now) ∷ (inner ++ (Close (name_of n) z ∷ p)))) (sym same)
      ∙ sym (in-Element numbers above rest placed n now parts pre post)));
  later = d.later;
  tells = d.tells;
}

-- the tokens round a text
in-Text : (numbers : Numbers) (above : Name) (rest placed : List Live) (mark : ℕ) (n : Named) (text : List ℕ) (pre post : List Token)
    → pre ++ (drawn_all numbers (rest ++ live.Text mark n text ∷ placed) above ++ post)
    ≡ (pre ++ drawn_all numbers rest above) ++ (Text (name_of n) above (numbers n.serial) text ∷ (drawn_all numbers placed above ++ post))
in-Text numbers above rest placed mark n text pre post =
    round numbers above rest placed (live.Text mark n text) pre post
    ∙ ap (λ z. (pre ++ drawn_all numbers rest above) ++ (z ++ (drawn_all numbers placed above ++ post))) (drawn-Text numbers above mark n text)

pub text-stands : (page : Page) (above : Name) (end : Option ℕ) (rest placed : List Live) (mark : ℕ) (n : Named) (text : List ℕ) → Stands page above end (rest ++ live.Text mark n text ∷ placed) → Has (texts n.key) page.tokens
text-stands page above end rest placed mark n text s =
    subst (Has (texts n.key)) (sym (s.holds.was ∙ in-Text s.numbers above rest placed mark n text s.holds.pre s.holds.post))
    (has-right (texts n.key) (s.holds.pre ++ drawn_all s.numbers rest above) _ (has-here (texts n.key) (Text (name_of n) above (s.numbers n.serial) text) _ (eq-eqb n.key n.key refl)))

-- a text is another
pub reworded : (numbers : Numbers) (old new : List Token) (above : Name) (end : Option ℕ) (rest placed : List Live) (mark : ℕ) (n : Named) (text now : List ℕ)
    → Rewritten old new n.key (with_text now) → Swaps old new above end (drawn_all numbers (rest ++ live.Text mark n text ∷ placed) above) (drawn_all numbers (rest ++ live.Text mark n now ∷ placed) above)
reworded numbers old new above end rest placed mark n text now r pre post here was =
    r.only (pre ++ drawn_all numbers rest above) (drawn_all numbers placed above ++ post) (Text (name_of n) above (numbers n.serial) text) (eq-eqb n.key n.key refl) (was ∙ in-Text numbers above rest placed mark n text pre post)
    ∙ sym (in-Text numbers above rest placed mark n now pre post)

-- ---- what a child component shows

-- the tokens round what a child component shows
in-Hole : (numbers : Numbers) (above : Name) (rest placed : List Live) (place anchor : ℕ) (parts : List Live) (pre post : List Token)
    → pre ++ (drawn_all numbers (rest ++ live.Hole place anchor parts ∷ placed) above ++ post)
    ≡ (pre ++ drawn_all numbers rest above) ++ (drawn_all numbers parts above ++ (Anchor anchor above ∷ (drawn_all numbers placed above ++ post)))
in-Hole numbers above rest placed place anchor parts pre post =
    let p = drawn_all numbers placed above ++ post in
    round numbers above rest placed (live.Hole place anchor parts) pre post
    ∙ (ap (λ z. (pre ++ drawn_all numbers rest above) ++ (z ++ p)) (drawn-Hole numbers above place anchor parts)
    ∙ ap (λ z. (pre ++ drawn_all numbers rest above) ++ z) (append_assoc (drawn_all numbers parts above) (Anchor anchor above ∷ []) p))

child : (key parent : ℕ) → ((key == key) && (parent == parent)) ≡ true
child key parent = and_from (key == key) (parent == parent) (eq-eqb key key refl) (eq-eqb parent parent refl)

pub inside-hole : (page : Page) (above : Name) (end : Option ℕ) (rest placed : List Live) (place anchor : ℕ) (parts : List Live) → Stands page above end (rest ++ live.Hole place anchor parts ∷ placed) → Stands page above (Some anchor) parts
inside-hole page above end rest placed place anchor parts s = record {
  numbers = s.numbers;
  fresh = s.fresh;
  holds = record {
    pre = s.holds.pre ++ drawn_all s.numbers rest above;
    post = Anchor anchor above ∷ (drawn_all s.numbers placed above ++ s.holds.post);
    page = has-left (begins 0) s.holds.pre _ s.holds.page;
    opens = has-left (opens above.key) s.holds.pre _ s.holds.opens;
    name = name-front above.key s.holds.pre _ (opens-begins above.key s.holds.pre s.holds.opens) ∙ s.holds.name;
    here = child anchor above.key;
    was = s.holds.was ∙ in-Hole s.numbers above rest placed place anchor parts s.holds.pre s.holds.post;
  };
}

-- what becomes of what a child component shows becomes of the whole
pub outside-hole : (old new : State) (above : Name) (end : Option ℕ) (rest placed : List Live) (place anchor : ℕ) (parts now : List Live)
    → Becomes old new above (Some anchor) parts now → Becomes old new above end (rest ++ live.Hole place anchor parts ∷ placed) (rest ++ live.Hole place anchor now ∷ placed)
outside-hole old new above end rest placed place anchor parts now b = record {
  swaps = λ numbers fresh pre post here was. (
      b.swaps numbers fresh (pre ++ drawn_all numbers rest above) (Anchor anchor above ∷ (drawn_all numbers placed above ++ post)) (child anchor above.key) (was ∙ in-Hole numbers above rest placed place anchor parts pre post)
      ∙ sym (in-Hole numbers above rest placed place anchor now pre post));
  later = b.later;
  tells = b.tells;
}
