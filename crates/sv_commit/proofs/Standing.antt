-- A node that stands before those that are placed.
use Rattle.std.proofs.Common.{◌≡◌, ◌+◌, ℕ, List, [], ◌∷◌, ◌++◌, Bool, true, Option, Some, None, IfSome, refl, ap, sym, ◌∙◌, arith, subst, append_assoc}
use Rattle.std.proofs.lemmas.List.{append-nil}
use Rattle.sv_tokens.specs.Counting.{leads}
use Rattle.sv_tokens.proofs.Counting.{has-left}
use Rattle.sv_tokens.specs.Token.{Name, Token, Text, Anchor, Open, Close, begins, name_at, IsPlace}
use Rattle.sv_tokens.specs.Edit.{Rewritten, with_text}
use Rattle.sv_tokens.specs.Replay.{Gains, element_tokens, bare}
use Rattle.sv_live.specs.declared.live.Named.{Named}
use Rattle.sv_live.specs.declared.live.Live.{Live}
use Rattle.sv_live.specs.declared.live.Live.TheVariants as live
use Rattle.sv_live.specs.declared.node.Own.{Own}
use Rattle.sv_live.specs.Shown.{name_of, Numbers, drawn, drawn_all}
use Rattle.sv_live.specs.Stands.{State, Stands, Tells, Becomes, cursor, place, Within, Among, Relocates, Goes, Gone}
use Rattle.sv_live.specs.Walk.{Walk, Takes}
use Rattle.sv_live.proofs.Shown.{drawn-Text, drawn-Element, drawn-nil, drawn-one, drawn_all-append}
use Rattle.sv_live.proofs.Stands.{Once, place-cursor, Becomes-refl, Becomes-then, Stands-then, parent-name, place-placed}
use Rattle.sv_live.proofs.Steps.{inserted, removed, moved, round}
use Rattle.sv_live.proofs.Regions.{drawn-bare}
use Rattle.sv_live.proofs.Inside.{reworded}

-- ---- one that was taken out is moved

module _ (old : State) (above : Name) (end : Option ℕ) (was now : Walk) (l : Live) (last : Bool) (k : Takes was.rest now.rest l last) (same : now.placed ≡ was.placed) (s : Stands old.page above end (was.rest ++ was.placed)) where
  split : Stands old.page above end ((k.front ++ l ∷ k.back) ++ was.placed)
  split = subst (λ (xs : List Live). Stands old.page above end (xs ++ was.placed)) k.was s

  abbrev pre : List Token
  pre = s.holds.pre

  pub taken-among : (before : Option ℕ) → before ≡ cursor now.placed end → Among old.page.tokens above before (l ∷ [])
  taken-among before at =
      let p = drawn_all s.numbers was.placed above ++ s.holds.post in
      let f = pre ++ drawn_all s.numbers k.front above in
      let b = drawn_all s.numbers k.back above in
      let e = at ∙ ap (λ xs. cursor xs end) same in
      record {
        numbers = s.numbers;
        front = f;
        middle = b;
        back = p;
        page = has-left (begins 0) pre _ s.holds.page;
        here = subst (λ (z : Option ℕ). leads (place above.key z) p ≡ true) (sym e) (place-cursor s.numbers above was.placed end s.holds.post s.holds.here);
        was = s.holds.was
            ∙ (ap (λ z. pre ++ (drawn_all s.numbers z above ++ s.holds.post)) (ap (λ z. z ++ was.placed) k.was ∙ append_assoc k.front (l ∷ k.back) was.placed)
            ∙ (round s.numbers above k.front (k.back ++ was.placed) l pre s.holds.post
            ∙ (ap (λ z. f ++ (drawn s.numbers l above ++ z)) (ap (λ z. z ++ s.holds.post) (drawn_all-append s.numbers above k.back was.placed) ∙ append_assoc b (drawn_all s.numbers was.placed above) s.holds.post)
            ∙ ap (λ z. f ++ (z ++ (b ++ p))) (sym (drawn-one s.numbers above l)))));
      }

  -- those before and after
  lists : (new : State) → Becomes old new above end ((k.front ++ l ∷ k.back) ++ was.placed) ((k.front ++ k.back) ++ l ∷ was.placed) → Becomes old new above end (was.rest ++ was.placed) (now.rest ++ l ∷ now.placed)
  lists new b =
      subst (λ (xs : List Live). Becomes old new above end xs (now.rest ++ l ∷ now.placed)) (ap (λ z. z ++ was.placed) (sym k.was))
      (subst (λ (ys : List Live). Becomes old new above end ((k.front ++ l ∷ k.back) ++ was.placed) ys) (λ i. sym k.is i ++ l ∷ sym same i) b)

  pub taken-moved : (new : State) (before : Option ℕ) → before ≡ cursor now.placed end → Goes old new above before (l ∷ []) → Becomes old new above end (was.rest ++ was.placed) (now.rest ++ l ∷ now.placed)
  taken-moved new before at g =
      lists new (record {
        swaps = λ numbers fresh. (
            moved numbers old.page.tokens new.page.tokens above end k.front k.back was.placed l
            (subst (λ (b : Option ℕ). Relocates old.page.tokens new.page.tokens above b (drawn_all numbers (l ∷ []) above)) (at ∙ ap (λ xs. cursor xs end) same) (g.tokens numbers)));
        later = g.later;
        tells = g.tells;
      })

  pub taken-last : last ≡ true → Becomes old old above end (was.rest ++ was.placed) (now.rest ++ l ∷ now.placed)
  taken-last e =
      let none = k.end e in
      let one : (k.front ++ l ∷ k.back) ++ was.placed ≡ (k.front ++ k.back) ++ l ∷ was.placed =
      ap (λ z. (k.front ++ l ∷ z) ++ was.placed) none ∙ (append_assoc k.front (l ∷ []) was.placed ∙ ap (λ z. z ++ l ∷ was.placed) (sym (append-nil k.front) ∙ ap (λ z. k.front ++ z) (sym none))) in
      lists old (subst (λ (ys : List Live). Becomes old old above end ((k.front ++ l ∷ k.back) ++ was.placed) ys) one (Becomes-refl old above end ((k.front ++ l ∷ k.back) ++ was.placed)))

-- ---- one is made

element-shape : (numbers : Numbers) (n : Named) (above : Name) (name : List ℕ) → numbers n.serial ≡ None
    → Open (name_of n) above (numbers n.serial) (bare name) ∷ (drawn_all numbers [] (name_of n) ++ (Close (name_of n) name ∷ [])) ≡ element_tokens (name_of n) above name
element-shape numbers n above name none = (λ i. Open (name_of n) above (none i) (bare name) ∷ (drawn-nil numbers (name_of n) i ++ (Close (name_of n) name ∷ [])))

module _ (old new : State) (above : Name) (end : Option ℕ) (rest placed : List Live) (s : Stands old.page above end (rest ++ placed)) (once : Once old.page.tokens) (before : Option ℕ) (at : before ≡ cursor placed end) where
  pub made-place : IsPlace old.page.tokens above.key before
  made-place = subst (λ (b : Option ℕ). IsPlace old.page.tokens above.key b) (sym at) (place-placed old.page above end rest placed s once)

  pub made-text : (mark : ℕ) (n : Named) (text : List ℕ) → Gains old.page new.page above.key before n.key (Text (name_of n) (name_at above.key old.page.tokens) None text ∷ []) → n.serial ≡ old.page.next
      → new.page.next ≡ old.page.next + 1 → Tells old new → Becomes old new above end (rest ++ placed) (rest ++ live.Text mark n text ∷ placed)
  made-text mark n text g serial next tells =
      let g1 = subst (λ (b : Option ℕ). Gains old.page new.page above.key b n.key (Text (name_of n) (name_at above.key old.page.tokens) None text ∷ [])) at g in
      let g2 = subst (λ (x : Name). Gains old.page new.page above.key (cursor placed end) n.key (Text (name_of n) x None text ∷ [])) (parent-name old.page above end rest placed s once) g1 in
      record {
        swaps = λ numbers fresh. inserted numbers old.page.tokens new.page.tokens above end rest placed (live.Text mark n text) (Text (name_of n) above None text ∷ [])
            (drawn-Text numbers above mark n text ∙ ap (λ z. Text (name_of n) above z text ∷ []) (ap numbers serial ∙ fresh old.page.next (omega arith))) g2.tokens;
        later = omega (arith, next);
        tells = tells;
      }

  pub made-element : (n : Named) (mark : ℕ) (own : Own) (parts : List Live) (name : List ℕ) → own ≡ record { mark = mark; name = name; attributes = []; typed = None } → parts ≡ []
      → Gains old.page new.page above.key before n.key (element_tokens (name_of n) (name_at above.key old.page.tokens) name) → n.serial ≡ old.page.next → new.page.next ≡ old.page.next + 1 → Tells old new
      → Becomes old new above end (rest ++ placed) (rest ++ live.Element n own parts ∷ placed)
  made-element n mark own parts name plain none g serial next tells =
      let g1 = subst (λ (b : Option ℕ). Gains old.page new.page above.key b n.key (element_tokens (name_of n) (name_at above.key old.page.tokens) name)) at g in
      let g2 = subst (λ (x : Name). Gains old.page new.page above.key (cursor placed end) n.key (element_tokens (name_of n) x name)) (parent-name old.page above end rest placed s once) g1 in
      subst (λ (ps : List Live). Becomes old new above end (rest ++ placed) (rest ++ live.Element n own ps ∷ placed)) (sym none)
      (subst (λ (o : Own). Becomes old new above end (rest ++ placed) (rest ++ live.Element n o [] ∷ placed)) (sym plain) (record {
        swaps = λ numbers fresh. inserted numbers old.page.tokens new.page.tokens above end rest placed (live.Element n (record { mark = mark; name = name; attributes = []; typed = None }) []) (element_tokens (name_of n) above name)
            (drawn-Element numbers above n (record { mark = mark; name = name; attributes = []; typed = None }) [] ∙ element-shape numbers n above name (ap numbers serial ∙ fresh old.page.next (omega arith))) g2.tokens;
        later = omega (arith, next);
        tells = tells;
      }))

-- ---- a child component's place is made

pub made-hole : (old new : State) (above : Name) (end : Option ℕ) (rest placed : List Live) (s : Stands old.page above end (rest ++ placed)) (once : Once old.page.tokens) (before : Option ℕ) (at : before ≡ cursor placed end) (place key : ℕ) (parts : List Live) → parts ≡ []
    → Gains old.page new.page above.key before key (Anchor key (name_at above.key old.page.tokens) ∷ []) → new.page.next ≡ old.page.next → Tells old new → Becomes old new above end (rest ++ placed) (rest ++ live.Hole place key parts ∷ placed)
made-hole old new above end rest placed s once before at place key parts none g next tells =
    let g1 = subst (λ (b : Option ℕ). Gains old.page new.page above.key b key (Anchor key (name_at above.key old.page.tokens) ∷ [])) at g in
    let g2 = subst (λ (x : Name). Gains old.page new.page above.key (cursor placed end) key (Anchor key x ∷ [])) (parent-name old.page above end rest placed s once) g1 in
    subst (λ (ps : List Live). Becomes old new above end (rest ++ placed) (rest ++ live.Hole place key ps ∷ placed)) (sym none) (record {
      swaps = λ numbers fresh. inserted numbers old.page.tokens new.page.tokens above end rest placed (live.Hole place key []) (Anchor key above ∷ []) (sym (drawn-one numbers above (live.Hole place key [])) ∙ drawn-bare numbers above place key) g2.tokens;
      later = omega (arith, next);
      tells = tells;
    })

-- ---- a text is another

pub text-set : (old mid new : State) (above : Name) (end : Option ℕ) (xs rest placed : List Live) (mark : ℕ) (n : Named) (text now : List ℕ) → Becomes old mid above end xs (rest ++ live.Text mark n text ∷ placed)
    → Rewritten mid.page.tokens new.page.tokens n.key (with_text now) → new.page.next ≡ mid.page.next → Tells mid new → Becomes old new above end xs (rest ++ live.Text mark n now ∷ placed)
text-set old mid new above end xs rest placed mark n text now b r next tells = Becomes-then old mid new above end xs (rest ++ live.Text mark n text ∷ placed) (rest ++ live.Text mark n now ∷ placed) b (record {
  swaps = λ numbers fresh. reworded numbers mid.page.tokens new.page.tokens above end rest placed mark n text now r;
  later = omega (arith, next);
  tells = tells;
})

-- ---- one goes

pub between-within : (old : State) (above : Name) (end : Option ℕ) (front back : List Live) (l : Live) → Stands old.page above end (front ++ l ∷ back) → Within old.page.tokens above (l ∷ [])
between-within old above end front back l s = record {
  numbers = s.numbers;
  front = s.holds.pre ++ drawn_all s.numbers front above;
  back = drawn_all s.numbers back above ++ s.holds.post;
  page = has-left (begins 0) s.holds.pre _ s.holds.page;
  was = s.holds.was
      ∙ (round s.numbers above front back l s.holds.pre s.holds.post
      ∙ ap (λ z. (s.holds.pre ++ drawn_all s.numbers front above) ++ (z ++ (drawn_all s.numbers back above ++ s.holds.post))) (sym (drawn-one s.numbers above l)));
}

between-gone : (old new : State) (above : Name) (end : Option ℕ) (front back : List Live) (l : Live) → Gone old new above (l ∷ []) → Becomes old new above end (front ++ l ∷ back) (front ++ back)
between-gone old new above end front back l g = record {
  swaps = λ numbers fresh. (removed numbers old.page.tokens new.page.tokens above end front back l (g.tokens numbers));
  later = g.later;
  tells = g.tells;
}

module _ (start old : State) (above : Name) (end : Option ℕ) (xs ys front back : List Live) (l : Live) (is : ys ≡ front ++ l ∷ back) (b : Becomes start old above end xs ys) where
  pub one-within : Stands start.page above end xs → Within old.page.tokens above (l ∷ [])
  one-within s = between-within old above end front back l (subst (λ (zs : List Live). Stands old.page above end zs) is (Stands-then start old above end xs ys s b))

  pub one-gone : (new : State) (zs : List Live) → zs ≡ front ++ back → Gone old new above (l ∷ []) → Becomes start new above end xs zs
  one-gone new zs left g =
      subst (λ (ws : List Live). Becomes start new above end xs ws) (sym left)
      (Becomes-then start old new above end xs (front ++ l ∷ back) (front ++ back) (subst (λ (ws : List Live). Becomes start old above end xs ws) is b) (between-gone old new above end front back l g))

-- the lists round one that was taken
pub taken-list : (old new placed : List Live) (l : Live) (last : Bool) (k : Takes old new l last) → old ++ placed ≡ k.front ++ l ∷ (k.back ++ placed)
taken-list old new placed l last k = ap (λ z. z ++ placed) k.was ∙ append_assoc k.front (l ∷ k.back) placed

pub taken-rest : (old new placed : List Live) (l : Live) (last : Bool) (k : Takes old new l last) → new ++ placed ≡ k.front ++ (k.back ++ placed)
taken-rest old new placed l last k = ap (λ z. z ++ placed) k.is ∙ append_assoc k.front k.back placed

-- ---- what was taken is not what is to be shown, and goes

module _ (start mid : State) (above : Name) (end : Option ℕ) (xs rest placed : List Live) (l other : Live) (same : other ≡ l) (b : Becomes start mid above end xs (rest ++ l ∷ placed)) where
  pub put-within : Stands start.page above end xs → Within mid.page.tokens above (other ∷ [])
  put-within s = subst (λ (z : Live). Within mid.page.tokens above (z ∷ [])) (sym same) (one-within start mid above end xs (rest ++ l ∷ placed) rest placed l refl b s)

  pub put-gone : (new : State) → Gone mid new above (other ∷ []) → Becomes start new above end xs (rest ++ placed)
  put-gone new g = one-gone start mid above end xs (rest ++ l ∷ placed) rest placed l refl b new (rest ++ placed) refl (subst (λ (z : Live). Gone mid new above (z ∷ [])) same g)

-- nothing was taken
pub from-same : (old mid new : State) (above : Name) (end : Option ℕ) (rest placed rest' placed' ys : List Live) → mid ≡ old → rest' ≡ rest → placed' ≡ placed → Becomes mid new above end (rest' ++ placed') ys → Becomes old new above end (rest ++ placed) ys
from-same old mid new above end rest placed rest' placed' ys e f g b =
    subst (λ (s : State). Becomes s new above end (rest ++ placed) ys) e (subst (λ (zs : List Live). Becomes mid new above end zs ys) (λ i. f i ++ g i) b)

pub at_some : {A : Type 0} (P : A → Type 0) (o : Option A) (x : A) → o ≡ Some x → IfSome o P → P x
at_some {A} P o x e h = let Q : Option A → Type 0 = λ z. IfSome z P in subst Q e h
