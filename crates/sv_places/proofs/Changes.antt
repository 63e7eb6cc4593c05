-- What steps change, counted for one number.
use Rattle.std.proofs.Common.{◌≡◌, ℕ, ◌+◌, ◌≤◌, Bool, true, false, List, [], ◌++◌, Ok, Err, sym, ap, ◌∙◌, append_assoc, arith, subst, if◌then◌else◌}
use Rattle.std.proofs.lemmas.List.{append-nil}
use Rattle.sv_parts.specs.State.{Outcome, Run, andThen}
use Rattle.sv_parts.specs.declared.state.Effect.{Effect}
use Rattle.sv_parts.specs.declared.state.Kept.{Kept}
use Rattle.sv_parts.specs.declared.state.State.{State}
use Rattle.sv_places.proofs.Counting.{below, given-between}
use Rattle.sv_places.specs.Keeping.{created_at, set_at, destroyed_at, kept_at}
use Rattle.sv_places.specs.Numbers.{count}

-- how often a number stands among the places of shapes, and among all their numbers
pub record Load : Type 0 where
  pub places : ℕ
  pub numbers : ℕ

abbrev pub nowhere : Load
nowhere = record { places = 0; numbers = 0 }

abbrev pub both : Load → Load → Load
both a b = record { places = a.places + b.places; numbers = a.numbers + b.numbers }

-- effects and places that stay are added behind
pub record Grows (s t : State) : Type 0 where
  pub effects : List Effect
  pub kept : List Kept
  pub effects_are : t.effects ≡ s.effects ++ effects
  pub kept_are : t.kept ≡ s.kept ++ kept

module _ (n : ℕ) where
  abbrev pub created : State → ℕ
  created s = count n (created_at s.effects)

  abbrev pub set : State → ℕ
  set s = count n (set_at s.effects)

  abbrev pub destroyed : State → ℕ
  destroyed s = count n (destroyed_at s.effects)

  abbrev pub stays : State → ℕ
  stays s = count n (kept_at s.kept)

  abbrev pub taken : State → ℕ
  taken s = below n s.counters.next

-- what becomes of a load on the way from one state to another
pub record Change (n : ℕ) (old new : Load) (s t : State) : Type 0 where
  pub grows : Grows s t
  pub lost : (new.places + destroyed n t) + created n s ≡ (old.places + created n t) + destroyed n s
  pub there : new.places + (stays n s + created n s) ≡ stays n t + created n t
  pub set : set n t + stays n s ≤ set n s + stays n t
  pub next : s.counters.next ≤ t.counters.next
  pub numbers : new.numbers + taken n s ≤ old.numbers + taken n t
  pub made : created n t + taken n s ≤ created n s + taken n t

-- neither effects nor places are added
pub record Quiet (s t : State) : Type 0 where
  pub effects : t.effects ≡ s.effects
  pub kept : t.kept ≡ s.kept
  pub next : s.counters.next ≤ t.counters.next

-- ---- one after another

pub grown-not : (s t : State) → t.effects ≡ s.effects → t.kept ≡ s.kept → Grows s t
grown-not s t e k = record { effects = []; kept = []; effects_are = e ∙ sym (append-nil s.effects); kept_are = k ∙ sym (append-nil s.kept) }

pub grown-on : (s t u : State) → Grows s t → Grows t u → Grows s u
grown-on s t u g h = record {
  effects = g.effects ++ h.effects;
  kept = g.kept ++ h.kept;
  effects_are = h.effects_are ∙ (ap (λ z. z ++ h.effects) g.effects_are ∙ append_assoc s.effects g.effects h.effects);
  kept_are = h.kept_are ∙ (ap (λ z. z ++ h.kept) g.kept_are ∙ append_assoc s.kept g.kept h.kept);
}

pub change-on : (n : ℕ) (a b c d : Load) (s t u : State) → Change n a b s t → Change n c d t u → Change n (both a c) (both b d) s u
change-on n a b c d s t u k l = record {
  grows = grown-on s t u k.grows l.grows;
  lost = omega (arith, k.lost, l.lost);
  there = omega (arith, k.there, l.there);
  set = omega (arith, k.set, l.set);
  next = omega (arith, k.next, l.next);
  numbers = omega (arith, k.numbers, l.numbers);
  made = omega (arith, k.made, l.made);
}

-- the same of loads of the same numbers
pub change-as : (n : ℕ) (a b c d : Load) (s t : State) → c.places ≡ a.places → c.numbers ≡ a.numbers → d.places ≡ b.places → d.numbers ≡ b.numbers → Change n a b s t → Change n c d s t
change-as n a b c d s t ap an bp bn k = record {
  grows = k.grows;
  lost = omega (arith, k.lost, ap, bp);
  there = omega (arith, k.there, ap, bp);
  set = k.set;
  next = k.next;
  numbers = omega (arith, k.numbers, an, bn);
  made = k.made;
}

-- ---- steps that add nothing

pub quiet-on : (s t u : State) → Quiet s t → Quiet t u → Quiet s u
quiet-on s t u k l = record { effects = l.effects ∙ k.effects; kept = l.kept ∙ k.kept; next = omega (arith, k.next, l.next) }

pub below-mono : (n from to : ℕ) → from ≤ to → below n from ≤ below n to
below-mono n from to le = omega (arith, given-between from to n le)

pub quiet-change : (n : ℕ) (s t : State) → Quiet s t → Change n nowhere nowhere s t
quiet-change n s t q = record {
  grows = grown-not s t q.effects q.kept;
  lost = omega (arith, same_created, same_destroyed);
  there = omega (arith, same_created, same_stays);
  set = omega (arith, same_set, same_stays);
  next = q.next;
  numbers = omega (arith, more);
  made = omega (arith, same_created, more);
}
  where
    same_created : created n t ≡ created n s
    same_created = ap (λ e. count n (created_at e)) q.effects

    same_destroyed : destroyed n t ≡ destroyed n s
    same_destroyed = ap (λ e. count n (destroyed_at e)) q.effects

    same_set : set n t ≡ set n s
    same_set = ap (λ e. count n (set_at e)) q.effects

    same_stays : stays n t ≡ stays n s
    same_stays = ap (λ e. count n (kept_at e)) q.kept

    more : taken n s ≤ taken n t
    more = below-mono n s.counters.next t.counters.next q.next

-- ---- outcomes

-- what comes of a step, if it isn't refused
abbrev pub Ends : {A : Type 0} → (A → State → Type 0) → Outcome A → Type 0
Ends P (Ok x) = P x.0 x.1
Ends P (Err r) = Unit {0}

pub ends-then : {A B : Type 0} (P : A → State → Type 0) (Q : B → State → Type 0) (o : Outcome A) (go : A → Run B) → Ends P o → ((a : A) (t : State) → P a t → Ends Q (go a t)) → Ends Q (andThen o go)
ends-then P Q (Ok x) go h k = k x.0 x.1 h
ends-then P Q (Err r) go h k = tt

pub ends-as : {A : Type 0} (P Q : A → State → Type 0) (o : Outcome A) → ((a : A) (t : State) → P a t → Q a t) → Ends P o → Ends Q o
ends-as P Q (Ok x) k h = k x.0 x.1 h
ends-as P Q (Err r) k h = tt

pub ends-is : {A : Type 0} (P : A → State → Type 0) (o : Outcome A) (a : A) (t : State) → Ends P o → o ≡ Ok (a, t) → P a t
ends-is P o a t h e = subst (Ends P) e h

pub ends-if : {A : Type 0} (P : A → State → Type 0) (b : Bool) (x y : Outcome A) → Ends P x → Ends P y → Ends P (if b then x else y)
ends-if P true x y h k = h
ends-if P false x y h k = k
