-- The rows to come of a list: no key stands twice among them.
use Rattle.std.proofs.Common.{◌≡◌, ℕ, suc, ◌≤◌, cond, eqb, pos, List, [], ◌∷◌, ◌++◌, length, Option, Some, None, Ok, Err, refl, sym, ap, subst, ◌∙◌, arith, inl, inr}
use Rattle.sv_code.specs.declared.parts.Part.{Part}
use Rattle.sv_code.specs.declared.program.Program.{Program}
use Rattle.sv_keyed.proofs.Times.{times-append, times-one}
use Rattle.sv_keyed.specs.Keys.{times, repeat_after, first_repeat}
use Rattle.sv_parts.specs.Sides.{Sides}
use Rattle.sv_parts.specs.State.{Outcome, Run, andThen, each, one}
use Rattle.sv_parts.specs.declared.state.State.{State}
use Rattle.sv_places.proofs.Changes.{Quiet, quiet-on, Ends, ends-then, ends-as}
use Rattle.sv_places.proofs.Quiet.{IsQuiet, then_quiet, ok_quiet, each_quiet, one_quiet, row_key_quiet, spent_quiet, numbered_quiet, evaluated_quiet, items_or_quiet}
use Rattle.sv_plan.specs.Lists.{Head, row_key, keys_of, once, refuse, items_in, listing_of, enumerated}
use Rattle.sv_plan.specs.declared.lists.Entry.{Entry}
use Rattle.sv_plan.specs.declared.lists.Listing.{Listing}
use Rattle.sv_value.specs.Value.{Val}
use Rattle.sv_value.specs.declared.key.Key.{Key}
use Rattle.sv_value.specs.declared.key.Key.TheVariants.{Num}

-- ---- rows whose keys are their numbers

abbrev row_numbers : ℕ → List Val → List Key
row_numbers i [] = []
row_numbers i (v ∷ vs) = Num (pos i) ∷ row_numbers (suc i) vs

-- the numbers from one on aren't among some keys
abbrev AreLess : List Key → ℕ → Type 0
AreLess seen i = (j : ℕ) → i ≤ j → times (Num (pos j)) seen ≡ 0

number-of : (i j : ℕ) → Num (pos i) ≡ Num (pos j) → i ≡ j
number-of i j e = cc

less-more : (seen : List Key) (i : ℕ) → AreLess seen i → AreLess (seen ++ Num (pos i) ∷ []) (suc i)
less-more seen i h j le = elim (times-one (Num (pos j)) (Num (pos i))) [
  | inl p ↦ absurd (let q = number-of j i p.0 in omega (arith, q, le))
  | inr p ↦ omega (arith, h j (omega (arith, le)), p, times-append (Num (pos j)) seen (Num (pos i) ∷ []))
]

numbers-once : (seen : List Key) (i : ℕ) (vs : List Val) → AreLess seen i → repeat_after seen (row_numbers i vs) ≡ None
numbers-once seen i [] h = refl
numbers-once seen i (v ∷ vs) h = ap (λ t. cond (eqb t 0) (repeat_after (seen ++ Num (pos i) ∷ []) (row_numbers (suc i) vs)) (Some (Num (pos i)))) (h i (omega arith)) ∙ numbers-once (seen ++ Num (pos i) ∷ []) (suc i) vs (less-more seen i h)

-- the keys where there is no expression for them
numbered-entries : (p : Program) (h : Head) (at : Sides) (n i : ℕ) (vs : List Val) (s : State) →
    Ends (λ es t. keys_of es ≡ row_numbers i vs) (each (λ item j u. one (andThen (row_key p h None at n j item u) (λ key w. Ok (record { key = key; item = item }, w)))) i vs s)
numbered-entries p h at n i [] s = refl
numbered-entries p h at n i (v ∷ vs) s = ends-then (λ es t. keys_of es ≡ row_numbers (suc i) vs) (λ es t. keys_of es ≡ row_numbers i (v ∷ vs)) _ _ (numbered-entries p h at n (suc i) vs s) (λ es t e. ap (λ ks. Num (pos i) ∷ ks) e)

-- ---- all rows to come

-- no key stands twice, and nothing was added
pub record IsListing (s : State) (entries : List Entry) (t : State) : Type 0 where
  pub quiet : Quiet s t
  pub once : first_repeat (keys_of entries) ≡ None

ends-both : {A : Type 0} (P Q : A → State → Type 0) (o : Outcome A) → Ends P o → Ends Q o → Ends (λ a t. P a t × Q a t) o
ends-both P Q (Ok x) h k = (h, k)
ends-both P Q (Err r) h k = tt

refused : (part : Part) (o : Option Key) (s : State) → Ends (λ _ t. (o ≡ None) × (t ≡ s)) (refuse part o s)
refused part None s = (refl, refl)
refused part (Some key) s = tt

abbrev entries_by : Program → Head → Option Part → Sides → ℕ → List Val → Run (List Entry)
entries_by p h key at n vs s = each (λ item j u. one (andThen (row_key p h key at n j item u) (λ k w. Ok (record { key = k; item = item }, w)))) 0 vs s

by_quiet : (p : Program) (h : Head) (key : Option Part) (at : Sides) (n : ℕ) (vs : List Val) → IsQuiet (entries_by p h key at n vs)
by_quiet p h key at n vs = each_quiet 0 vs (λ item i. one_quiet (then_quiet (row_key_quiet p h key at n i item) (λ k. ok_quiet _)))

once-ends : (key : Option Part) (p : Program) (h : Head) (at : Sides) (n : ℕ) (vs : List Val) (s : State) →
    Ends {A = Listing} (λ x t. IsListing s x.entries t) (andThen (entries_by p h key at n vs s) (λ entries u. andThen (once key entries u) (λ _ w. Ok (record { number = n; entries = entries }, w))))
once-ends None p h at n vs s =
    ends-then (λ es t. (keys_of es ≡ row_numbers 0 vs) × Quiet s t) _ (entries_by p h None at n vs s) _
    (ends-both (λ es t. keys_of es ≡ row_numbers 0 vs) (λ _ t. Quiet s t) (entries_by p h None at n vs s) (numbered-entries p h at n 0 vs s) ((by_quiet p h None at n vs).held s))
    (λ es t k. record { quiet = k.1; once = ap first_repeat k.0 ∙ numbers-once [] 0 vs (λ j le. refl) })
once-ends (Some part) p h at n vs s =
    ends-then (λ _ t. Quiet s t) _ (entries_by p h (Some part) at n vs s) _ ((by_quiet p h (Some part) at n vs).held s)
    (λ es t q. ends-then (λ _ u. (first_repeat (keys_of es) ≡ None) × (u ≡ t)) _ (refuse part (first_repeat (keys_of es)) t) _ (refused part (first_repeat (keys_of es)) t)
    (λ _ u k. record { quiet = subst (Quiet s) (sym k.1) q; once = k.0 }))

abbrev pub Lists : State → Listing → State → Type 0
Lists s x t = IsListing s x.entries t

-- after a step that adds nothing
list-after : {A : Type 0} {run : Run A} → IsQuiet run → (go : A → Run Listing) → ((a : A) (t : State) → Ends (Lists t) (go a t)) → (s : State) → Ends (Lists s) (andThen (run s) go)
list-after {run = run} q go k s = ends-then (λ _ t. Quiet s t) (Lists s) (run s) go (q.held s) (λ a t r. ends-as (Lists t) (Lists s) (go a t) (λ x u l. record { quiet = quiet-on s t u r l.quiet; once = l.once }) (k a t))

pub listing-ends : (p : Program) (h : Head) (at : Sides) (vs : List Val) (s : State) → Ends (Lists s) (listing_of p h at vs s)
listing-ends p h at vs s = list-after (spent_quiet (length vs)) _ (λ _ t. list-after numbered_quiet _ (λ n u. once-ends h.key p h at n vs u) t) s

pub enumerated-ends : (p : Program) (h : Head) (at : Sides) (s : State) → Ends (Lists s) (enumerated p h at s)
enumerated-ends p h at s = list-after (evaluated_quiet p h.list at) _ (λ v t. list-after (items_or_quiet h.list (items_in v)) _ (λ vs u. listing-ends p h at vs u) t) s
