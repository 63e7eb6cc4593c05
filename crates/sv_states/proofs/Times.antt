-- How often a number stands in the queue.
use Rattle.std.proofs.Common.{◌≡◌, ◌≢◌, ℕ, suc, ◌+◌, ◌<◌, List, [], ◌∷◌, ◌++◌, length, refl, sym, ap, ◌∙◌, arith, false, nat_eq, cond, ⊎_elim}
use Rattle.std.proofs.lemmas.Bool.{cases_Bool, eqb-true, ne_eqb}
use Rattle.sv_states.specs.Waiting.{without, times}

-- one that doesn't stand there leaves nothing behind
pub without-absent : (queue : List ℕ) (n : ℕ) → times queue n ≡ 0 → without queue n ≡ queue
without-absent [] n h = refl
without-absent (m ∷ queue) n h = ⊎_elim
    (λ b. absurd (let e : suc (times queue n) ≡ 0 = rw b at h in omega arith))
    (λ b. rw b (ap (λ l. m ∷ l) (without-absent queue n (rw b at h))))
    (cases_Bool (nat_eq m n))

pub length-without : (queue : List ℕ) (n : ℕ) → 0 < times queue n → length (without queue n) + 1 ≡ length queue
length-without [] n h = absurd (omega arith)
length-without (m ∷ queue) n h = ⊎_elim
    (λ b. rw b (omega arith))
    (λ b. rw b (let e = length-without queue n (rw b at h) in omega (arith, e)))
    (cases_Bool (nat_eq m n))

pub times-without_same : (queue : List ℕ) (n : ℕ) → 0 < times queue n → times (without queue n) n + 1 ≡ times queue n
times-without_same [] n h = absurd (omega arith)
times-without_same (m ∷ queue) n h = ⊎_elim
    (λ b. rw b (omega arith))
    (λ b. rw b (rw b (times-without_same queue n (rw b at h))))
    (cases_Bool (nat_eq m n))

pub times-without_other : (queue : List ℕ) (n m : ℕ) → m ≢ n → times (without queue n) m ≡ times queue m
times-without_other [] n m h = refl
times-without_other (k ∷ queue) n m h = ⊎_elim
    (λ b. let other : nat_eq k m ≡ false = ne_eqb k m (λ e. h (sym e ∙ eqb-true k n b)) in rw (b, other) refl)
    (λ b. rw b (ap (λ t. cond (nat_eq k m) (suc t) t) (times-without_other queue n m h)))
    (cases_Bool (nat_eq k n))

pub times_push : (queue : List ℕ) (n m : ℕ) → times (queue ++ n ∷ []) m ≡ times queue m + cond (nat_eq n m) 1 0
times_push [] n m = ⊎_elim (λ b. rw b refl) (λ b. rw b refl) (cases_Bool (nat_eq n m))
times_push (k ∷ queue) n m = ⊎_elim
    (λ b. rw b (let e = times_push queue n m in omega (arith, e)))
    (λ b. rw b (times_push queue n m))
    (cases_Bool (nat_eq k m))
