-- Effects that change no child, and those that are done: the fact stays.
use Rattle.std.proofs.Common.{◌≡◌, ℕ, ◌+◌, ◌≤◌, Bool, true, false, nat_eq, List, [], ◌∷◌, ◌++◌, Option, None, if◌then◌else◌, refl, sym, ap, subst, ◌∙◌, arith, ⊎_elim, inr}
use Rattle.std.proofs.lemmas.Bool.{eqb-true}
use Rattle.sv_code.specs.declared.program.Program.{Program}
use Rattle.sv_family.proofs.Course.{Passes}
use Rattle.sv_family.proofs.Removal.{left-absent}
use Rattle.sv_family.specs.Family.{Family, ArePlaces, ArePending, is_child_of, load, due, kid}
use Rattle.sv_family.specs.Kin.{Kins}
use Rattle.sv_family.specs.Pending.{Pending, pending_of}
use Rattle.sv_parts.specs.declared.state.Effect.{Effect}
use Rattle.sv_parts.specs.declared.state.Effect.TheVariants.{Create, Set, Destroy}
use Rattle.sv_places.proofs.Counting.{count-append}
use Rattle.sv_places.specs.Keeping.{created_by, destroyed_by, created_at, destroyed_at}
use Rattle.sv_places.specs.Numbers.{count}
use Rattle.sv_shapes.specs.Showing.{Showing, child_at, without_child}
use Rattle.sv_tokens.specs.Counting.{one}

-- ---- counts

-- how often a place of an instance is still to be left
abbrev pub leaving_at : Pending → ℕ → ℕ → ℕ
leaving_at pend r place = count place (destroyed_at (pending_of pend r))

-- an effect counts for its own instance alone
abbrev pub own : Bool → ℕ → ℕ
own true n = n
own false n = 0

-- by its first effect and those after it
pub due-head : (pend : Pending) (q : ℕ) (e : Effect) (es : List Effect) (r place : ℕ) →
    due ((q, e ∷ es) ∷ pend) r place ≡ own (nat_eq q r) (count place (created_by e)) + due ((q, es) ∷ pend) r place
due-head pend q e es r place = by (nat_eq q r) where
  by : (b : Bool) → count place (created_at ((if b then e ∷ es else []) ++ pending_of pend r)) ≡ own b (count place (created_by e)) + count place (created_at ((if b then es else []) ++ pending_of pend r))
  by true = count-append place (created_by e) (created_at (es ++ pending_of pend r))
  by false = omega arith

pub leaving-head : (pend : Pending) (q : ℕ) (e : Effect) (es : List Effect) (r place : ℕ) →
    leaving_at ((q, e ∷ es) ∷ pend) r place ≡ own (nat_eq q r) (count place (destroyed_by e)) + leaving_at ((q, es) ∷ pend) r place
leaving-head pend q e es r place = by (nat_eq q r) where
  by : (b : Bool) → count place (destroyed_at ((if b then e ∷ es else []) ++ pending_of pend r)) ≡ own b (count place (destroyed_by e)) + count place (destroyed_at ((if b then es else []) ++ pending_of pend r))
  by true = count-append place (destroyed_by e) (destroyed_at (es ++ pending_of pend r))
  by false = omega arith

own-none : (b : Bool) (n : ℕ) → n ≡ 0 → own b n ≡ 0
own-none true n e = e
own-none false n e = refl

-- an instance whose effects are done counts no more
pub pending-done : (pend : Pending) (q r : ℕ) → pending_of ((q, []) ∷ pend) r ≡ pending_of pend r
pending-done pend q r = by (nat_eq q r) where
  by : (b : Bool) → (if b then [] else []) ++ pending_of pend r ≡ pending_of pend r
  by true = refl
  by false = refl

-- ---- places

-- fewer are to be made, and as many are to be left
pub places-fewer : (pend less : Pending) (ks : Kins) (s : Showing) (next : ℕ) → ((q place : ℕ) → due less q place ≤ due pend q place) → ((q place : ℕ) → leaving_at pend q place ≡ leaving_at less q place) →
    ArePlaces pend ks s next → ArePlaces less ks s next
places-fewer pend less ks s next fewer same h = record {
  once = λ q place. let a = h.once q place in let b = same q place in omega (arith, a, b);
  apart = λ q r place other. let a = h.apart q r place other in let b = same q place in let c = same r place in omega (arith, a, b, c);
  kids = λ q place. let a = h.kids q place in let b = same q place in let c = fewer q place in omega (arith, a, b, c);
  due = λ q place. let a = h.due q place in let c = fewer q place in omega (arith, a, c);
}

-- no child stands where one was to be left
pub places-left : (pend : Pending) (q place : ℕ) (es : List Effect) (ks : Kins) (s : Showing) (next : ℕ) → child_at s place ≡ None → ArePlaces ((q, Destroy place ∷ es) ∷ pend) ks s next →
    ArePlaces ((q, es) ∷ pend) ks s next
places-left pend q place es ks s next none h = record {
  once = λ r a. let x = h.once r a in let y = less r a in omega (arith, x, y);
  apart = λ r t a other. let x = h.apart r t a other in let y = less r a in let z = less t a in omega (arith, x, y, z);
  kids = λ r a. by r a (nat_eq a place) refl;
  due = λ r a. let x = h.due r a in let y = due-head pend q (Destroy place) es r a in omega (arith, x, y);
}
  where
    nobody : (r a : ℕ) → child_at s a ≡ None → kid ks s r a ≡ 0
    nobody r a e = ap (λ o. one (is_child_of ks r o)) e

    less : (r a : ℕ) → load ((q, es) ∷ pend) s r a ≤ load ((q, Destroy place ∷ es) ∷ pend) s r a
    less r a = let x = leaving-head pend q (Destroy place) es r a in omega (arith, x)

    by : (r a : ℕ) (b : Bool) → nat_eq a place ≡ b → kid ks s r a + due ((q, es) ∷ pend) r a ≤ load ((q, es) ∷ pend) s r a
    by r a true is =
        let x = h.due r a in
        let y = due-head pend q (Destroy place) es r a in
        let z : kid ks s r a ≡ 0 = nobody r a (ap (child_at s) (eqb-true a place is) ∙ none) in
        omega (arith, x, y, z)
    by r a false is =
        let x = h.kids r a in
        let y = due-head pend q (Destroy place) es r a in
        let z = leaving-head pend q (Destroy place) es r a in
        let w : count a (destroyed_by (Destroy place)) ≡ 0 = ap (λ b. one b + 0) is in
        let v = own-none (nat_eq q r) (count a (destroyed_by (Destroy place))) w in
        omega (arith, x, y, z, v)

-- ---- what is pending

-- the first effect is done
pub pending-next : (p : Program) (pend : Pending) (q : ℕ) (e : Effect) (es : List Effect) (ks : Kins) (s : Showing) → ArePending p ((q, e ∷ es) ∷ pend) ks s → ArePending p ((q, es) ∷ pend) ks s
pending-next p pend q e es ks s h = record {
  ascend = h.ascend;
  made = h.made;
  for = (λ x is. (h.for.0 x is).1, h.for.1);
  shown = (⊎_elim (λ none. absurd (cons-nil e es none)) (λ there. inr there) h.shown.0, h.shown.1);
}
  where
    cons-nil : (e : Effect) (es : List Effect) → e ∷ es ≡ [] → ⊥
    cons-nil e es none = cc

-- the effects of an instance are done
pub pending-ends : (p : Program) (pend : Pending) (q : ℕ) (ks : Kins) (s : Showing) → ArePending p ((q, []) ∷ pend) ks s → ArePending p pend ks s
pending-ends p pend q ks s h = record { ascend = h.ascend.1; made = h.made.1; for = h.for.1; shown = h.shown.1 }

-- ---- the whole fact

-- it goes on with other effects
pub family-pending : (p : Program) (pend other : Pending) (new : Option ℕ) (leaving : List ℕ) (ks : Kins) (s : Showing) (next : ℕ) → ArePlaces other ks s next → ArePending p other ks s →
    Family p pend new leaving ks s next → Family p other new leaving ks s next
family-pending p pend other new leaving ks s next places pending f = record {
  parents = f.parents;
  cells = f.cells;
  lent = f.lent;
  sorted = f.sorted;
  shown = f.shown;
  places = places;
  children = f.children;
  kept = f.kept;
  pending = pending;
}

-- an effect that leaves nothing is done
pub family-done : (p : Program) (pend : Pending) (q : ℕ) (e : Effect) (es : List Effect) (new : Option ℕ) (leaving : List ℕ) (ks : Kins) (s : Showing) (next : ℕ) → ((place : ℕ) → count place (destroyed_by e) ≡ 0) →
    Family p ((q, e ∷ es) ∷ pend) new leaving ks s next → Family p ((q, es) ∷ pend) new leaving ks s next
family-done p pend q e es new leaving ks s next none f =
    family-pending p ((q, e ∷ es) ∷ pend) ((q, es) ∷ pend) new leaving ks s next (places-fewer ((q, e ∷ es) ∷ pend) ((q, es) ∷ pend) ks s next fewer same f.places) (pending-next p pend q e es ks s f.pending) f
  where
    fewer : (r place : ℕ) → due ((q, es) ∷ pend) r place ≤ due ((q, e ∷ es) ∷ pend) r place
    fewer r place = let x = due-head pend q e es r place in omega (arith, x)

    same : (r place : ℕ) → leaving_at ((q, e ∷ es) ∷ pend) r place ≡ leaving_at ((q, es) ∷ pend) r place
    same r place = let x = leaving-head pend q e es r place in let y = own-none (nat_eq q r) (count place (destroyed_by e)) (none place) in omega (arith, x, y)

-- nobody leaves a place where no child stands
pub family-left : (p : Program) (pend : Pending) (q place : ℕ) (es : List Effect) (new : Option ℕ) (leaving : List ℕ) (ks : Kins) (s : Showing) (next : ℕ) → child_at s place ≡ None →
    Family p ((q, Destroy place ∷ es) ∷ pend) new leaving ks s next → Family p ((q, es) ∷ pend) new leaving ks s next
family-left p pend q place es new leaving ks s next none f =
    family-pending p ((q, Destroy place ∷ es) ∷ pend) ((q, es) ∷ pend) new leaving ks s next (places-left pend q place es ks s next none f.places) (pending-next p pend q (Destroy place) es ks s f.pending) f

-- to take a child away where none stands changes nothing
pub child-absent : (s : Showing) (place : ℕ) → child_at s place ≡ None → without_child s place ≡ s
child-absent s place none = ap (λ c. record s { children = c }) (left-absent place s.children none)

family-ends : (p : Program) (pend : Pending) (q : ℕ) (ks : Kins) (s : Showing) (next : ℕ) → Family p ((q, []) ∷ pend) None [] ks s next → Family p pend None [] ks s next
family-ends p pend q ks s next f =
    family-pending p ((q, []) ∷ pend) pend None [] ks s next (places-fewer ((q, []) ∷ pend) pend ks s next fewer same f.places) (pending-ends p pend q ks s f.pending) f
  where
    fewer : (r place : ℕ) → due pend r place ≤ due ((q, []) ∷ pend) r place
    fewer r place = let x = ap (λ l. count place (created_at l)) (pending-done pend q r) in omega (arith, x)

    same : (r place : ℕ) → leaving_at ((q, []) ∷ pend) r place ≡ leaving_at pend r place
    same r place = ap (λ l. count place (destroyed_at l)) (pending-done pend q r)

pub family_passes : (p : Program) → Passes p (λ pend new leaving ks s next. Family p pend new leaving ks s next)
family_passes p = record {
  ends = λ pend q ks s next f. family-ends p pend q ks s next f;
  sets = λ pend q place props view es ks s next f. family-done p pend q (Set place props view) es None [] ks s next (λ a. refl) f;
  creates = λ pend q place t props view es ks s next none f. family-done p pend q (Create place t props view) es None [] ks s next (λ a. refl) f;
  destroys = λ pend q place es ks s next none f.
      subst (λ t. Family p ((q, es) ∷ pend) None [] ks t next) (sym (child-absent s place none)) (family-left p pend q place es None [] ks s next none f);
  ascend = λ pend new leaving ks s next f. (f.pending.ascend, f.pending.made);
}
