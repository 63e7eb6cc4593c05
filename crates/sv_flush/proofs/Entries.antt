-- The entries of afterUpdate callbacks that are still to be pushed.
use Rattle.std.proofs.Common.{◌≡◌, ℕ, suc, ◌+◌, ◌-◌, ◌<◌, List, [], ◌∷◌, ◌++◌, sym, ap, ◌∙◌, arith, append_assoc, append-nil}
use Rattle.sv_flush.specs.Creation.{after_entries}
use Rattle.sv_flush.specs.Rounds.{Rounds, Waiting, after_update, with_waiting}

-- those from one with a number on are left
pub record Entering (n count : ℕ) (all : Rounds) (at : ℕ) (rounds : Rounds) : Type 0 where
  pub same : all ≡ record rounds { render = rounds.render ++ after_entries n at (count - at) }

pub entering-begins : (n count : ℕ) (rounds : Rounds) → Entering n count (record rounds { render = rounds.render ++ after_entries n 0 count }) 0 rounds
entering-begins n count rounds =
    let all : count ≡ count - 0 = omega arith in
    record { same = ap (λ k. record rounds { render = rounds.render ++ after_entries n 0 k }) all }

pub entering-steps : (n count : ℕ) (all : Rounds) (at : ℕ) (rounds next : Rounds) → Entering n count all at rounds → at < count
    → next ≡ with_waiting rounds (after_update n at) → Entering n count all (at + 1) next
entering-steps n count all at rounds next h lt is =
    let left : count - at ≡ suc (count - (at + 1)) = omega arith in
    let one : at + 1 ≡ suc at = omega arith in
    let rest : List Waiting = after_entries n (at + 1) (count - (at + 1)) in
    let split : rounds.render ++ after_entries n at (count - at) ≡ (rounds.render ++ after_update n at ∷ []) ++ rest =
    ap (λ k. rounds.render ++ after_entries n at k) left ∙ ap (λ k. rounds.render ++ after_update n at ∷ after_entries n k (count - (at + 1))) (sym one)
    ∙ sym (append_assoc rounds.render (after_update n at ∷ []) rest) in
    record { same = h.same ∙ ap (λ r. record rounds { render = r }) split ∙ ap (λ (x : Rounds). record x { render = x.render ++ rest }) (sym is) }

pub entering-ends : (n count : ℕ) (all : Rounds) (at : ℕ) (rounds : Rounds) → Entering n count all at rounds → (at < count → ⊥) → rounds ≡ all
entering-ends n count all at rounds h none =
    let left : count - at ≡ 0 = omega (arith, none) in
    sym (h.same ∙ ap (λ k. record rounds { render = rounds.render ++ after_entries n at k }) left ∙ ap (λ r. record rounds { render = r }) (append-nil rounds.render))
