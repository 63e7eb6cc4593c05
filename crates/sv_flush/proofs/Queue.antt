-- A task that is done with whoever has waited longest.
use Rattle.std.proofs.Common.{◌≡◌, ℕ, zero, suc, ◌-◌, true, false, List, [], ◌∷◌, refl, sym, ap, subst, ◌∙◌, arith, Result, Ok, Err, Option, Some, None, is_some, option_map, slice_get}
use Rattle.std.specs.Result.{IsErrAnd}
use Rattle.std.proofs.lemmas.Bool.{true≢false}
use Rattle.std.proofs.lemmas.Option.{none-some, same_Some}
use Rattle.sv_flush.proofs.Steps.{handed-on}
use Rattle.sv_flush.specs.Flush.{at_front, while_queued}
use Rattle.sv_flush.specs.Meets.{Meets}
use Rattle.sv_flush.specs.Outcome.{Outcome, Task, and_then}
use Rattle.sv_flush.specs.declared.page.Page.{Page}
use Rattle.sv_parts.specs.declared.refusal.PatchError.{PatchError}
use Rattle.sv_parts.specs.declared.refusal.PatchError.TheVariants.{Refused, NoMemory}
use Rattle.sv_parts.specs.declared.refusal.Refusal.TheVariants.{Budget}
use Rattle.sv_value.specs.declared.value.Inst.{Inst}
use Rattle.sv_view.specs.View.{inst_number}

-- what is left, as often as it may still be done
pub record Settling (task : ℕ → Task) (all : Outcome (Unit {0})) (left : ℕ) (page : Page) : Type 0 where
  pub same : all ≡ while_queued left task page

pub settling-begins : (task : ℕ → Task) (left : ℕ) (page : Page) → Settling task (while_queued left task page) left page
settling-begins task left page = record { same = refl }

nobody : (queue : List ℕ) (a : Outcome (Unit {0})) (b : ℕ → Outcome (Unit {0})) → None ≡ slice_get queue 0 → at_front queue a b ≡ a
nobody [] a b is = refl
nobody (n ∷ queue) a b is = absurd (none-some n is)

somebody : (queue : List ℕ) (n : ℕ) (a : Outcome (Unit {0})) (b : ℕ → Outcome (Unit {0})) → Some n ≡ slice_get queue 0 → at_front queue a b ≡ b n
somebody [] n a b is = absurd (none-some n (sym is))
somebody (m ∷ queue) n a b is = ap b (sym (same_Some n m is))

-- nobody waits any more
pub settling-ends : (task : ℕ → Task) (all : Outcome (Unit {0})) (left : ℕ) (page : Page) → Settling task all left page → None ≡ slice_get page.world.states.queue 0
    → Meets {A = Unit {0}} (Ok tt) page all
settling-ends task all zero page h is = record { meets = h.same ∙ nobody page.world.states.queue _ _ is }
settling-ends task all (suc left) page h is = record { meets = h.same ∙ nobody page.world.states.queue _ _ is }

-- somebody waits, and nothing is left
pub settling-spent : (task : ℕ → Task) (all : Outcome (Unit {0})) (n : ℕ) (page : Page) → Settling task all 0 page → Some n ≡ slice_get page.world.states.queue 0
    → Meets {A = Unit {0}} (Err (Refused Budget)) page all
settling-spent task all n page h is = record { meets = h.same ∙ somebody page.world.states.queue n _ _ is }

once : (task : ℕ → Task) (all : Outcome (Unit {0})) (left n : ℕ) (page : Page) → Settling task all (suc left) page → Some n ≡ slice_get page.world.states.queue 0
    → all ≡ and_then (task n page) (λ _. while_queued left task)
once task all left n page h is = h.same ∙ somebody page.world.states.queue n _ _ is

pub settling-steps : (task : ℕ → Task) (all : Outcome (Unit {0})) (left n : ℕ) (u : Unit {0}) (page next : Page) → Settling task all (suc left) page
    → Some n ≡ slice_get page.world.states.queue 0 → Meets {A = Unit {0}} (Ok u) next (task n page) → Settling task all left next
settling-steps task all left n u page next h is m = record { same = once task all left n page h is ∙ ap (λ o. and_then o (λ _. while_queued left task)) m.meets }

pub settling-stops : (task : ℕ → Task) (all : Outcome (Unit {0})) (left n : ℕ) (e : PatchError) (page next : Page) → Settling task all (suc left) page
    → Some n ≡ slice_get page.world.states.queue 0 → Meets {A = Unit {0}} (Err e) next (task n page) → Meets {A = Unit {0}} (Err e) next all
settling-stops task all left n (Refused r) page next h is m = record { meets = once task all left n page h is ∙ ap (λ o. and_then o (λ _. while_queued left task)) m.meets }
settling-stops task all left n NoMemory page next h is m = record { meets = tt }

-- ---- as loops go

-- somebody waited, and the task answered Ok
pub settling-goes : (task : ℕ → Task) (all : Outcome (Unit {0})) (left n : ℕ) (u : Unit {0}) (page next : Page) (r : Result (Unit {0}) PatchError) → Settling task all left page
    → (left ≡ 0 → ⊥) → Some n ≡ slice_get page.world.states.queue 0 → r ≡ Ok u → Meets r next (task n page) → Settling task all (left - 1) next
settling-goes task all zero n u page next r h some is was m = absurd (some refl)
settling-goes task all (suc left) n u page next r h some is was m =
    let one : left ≡ suc left - 1 = omega arith in
    subst (λ k. Settling task all k next) one (settling-steps task all left n u page next h is (subst (λ z. Meets z next (task n page)) was m))

-- it was refused, and its error is handed on
pub settling-exit : (task : ℕ → Task) (all : Outcome (Unit {0})) (left n : ℕ) (e : PatchError) (page next : Page) (r r' : Result (Unit {0}) PatchError) → Settling task all left page
    → (left ≡ 0 → ⊥) → Some n ≡ slice_get page.world.states.queue 0 → r ≡ Err e → Meets r next (task n page) → IsErrAnd r' (λ y. y ≡ e) → Meets r' next all
settling-exit task all zero n e page next r r' h some is was m k = absurd (some refl)
settling-exit task all (suc left) n e page next r r' h some is was m k =
    handed-on e r' next all (settling-stops task all left n e page next h is (subst (λ z. Meets z next (task n page)) was m)) k

-- ---- a task that is the same for whoever waits, where code asks whether somebody does

module _ (task : Task) (all : Outcome (Unit {0})) (left : ℕ) (page : Page) (first : Option Inst) (h : Settling (λ _. task) all left page)
    (front : option_map inst_number first ≡ slice_get page.world.states.queue 0) where
  pub rounds-go : (u : Unit {0}) (next : Page) (r : Result (Unit {0}) PatchError) → (left ≡ 0 → ⊥) → is_some first ≡ true → r ≡ Ok u → Meets r next (task page)
      → Settling (λ _. task) all (left - 1) next
  rounds-go = go first front where
    go : (o : Option Inst) → option_map inst_number o ≡ slice_get page.world.states.queue 0 → (u : Unit {0}) (next : Page) (r : Result (Unit {0}) PatchError) → (left ≡ 0 → ⊥)
        → is_some o ≡ true → r ≡ Ok u → Meets r next (task page) → Settling (λ _. task) all (left - 1) next
    go None is u next r some t was m = absurd (true≢false (sym t))
    go (Some i) is u next r some t was m = settling-goes (λ _. task) all left i.number u page next r h some is was m

  pub rounds-exit : (e : PatchError) (next : Page) (r r' : Result (Unit {0}) PatchError) → (left ≡ 0 → ⊥) → is_some first ≡ true → r ≡ Err e → Meets r next (task page)
      → IsErrAnd r' (λ y. y ≡ e) → Meets r' next all
  rounds-exit = exit first front where
    exit : (o : Option Inst) → option_map inst_number o ≡ slice_get page.world.states.queue 0 → (e : PatchError) (next : Page) (r r' : Result (Unit {0}) PatchError) → (left ≡ 0 → ⊥)
        → is_some o ≡ true → r ≡ Err e → Meets r next (task page) → IsErrAnd r' (λ y. y ≡ e) → Meets r' next all
    exit None is e next r r' some t was m k = absurd (true≢false (sym t))
    exit (Some i) is e next r r' some t was m k = settling-exit (λ _. task) all left i.number e page next r r' h some is was m k

  pub rounds-spent : left ≡ 0 → is_some first ≡ true → Meets {A = Unit {0}} (Err (Refused Budget)) page all
  rounds-spent none = spent first front where
    spent : (o : Option Inst) → option_map inst_number o ≡ slice_get page.world.states.queue 0 → is_some o ≡ true → Meets {A = Unit {0}} (Err (Refused Budget)) page all
    spent None is t = absurd (true≢false (sym t))
    spent (Some i) is t = settling-spent (λ _. task) all i.number page (subst (λ k. Settling (λ _. task) all k page) none h) is

  pub rounds-end : is_some first ≡ false → Meets {A = Unit {0}} (Ok tt) page all
  rounds-end = ends first front where
    ends : (o : Option Inst) → option_map inst_number o ≡ slice_get page.world.states.queue 0 → is_some o ≡ false → Meets {A = Unit {0}} (Ok tt) page all
    ends None is t = settling-ends (λ _. task) all left page h is
    ends (Some i) is t = absurd (true≢false t)
