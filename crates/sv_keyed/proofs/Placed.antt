-- A row that stands in its place, and one that is moved there.
use Rattle.std.proofs.Common.{◌≡◌, ℕ, ◌+◌, ◌-◌, ◌<◌, ◌≤◌, Bool, true, false, List, [], ◌∷◌, ◌++◌, length, get_or, set, arith, Option, Some, inl, inr}
use Rattle.std.specs.List.{slice_get}
use Rattle.std.proofs.lemmas.Bool.{cases_lt}
use Rattle.sv_value.specs.declared.key.Key.{Key}
use Rattle.sv_keyed.specs.Keys.{times, IsDistinct}
use Rattle.sv_keyed.specs.Marks.{left, AreMarked}
use Rattle.sv_keyed.specs.Walk.{Placing}
use Rattle.sv_keyed.specs.declared.step.KeyStep.{KeyStep}
use Rattle.sv_keyed.specs.declared.step.KeyStep.TheVariants.{Shift}
use Rattle.sv_keyed.proofs.Times.{times-at, place_below}
use Rattle.sv_keyed.proofs.Marking.{unmarked, left-set, left-last, left-inside}
use Rattle.sv_keyed.proofs.Walking.{IsBehind, get_some, times-front, placing-last, placing-inside}

module _ (old new : List Key) (steps : List KeyStep) (marks : List Bool) (j : ℕ) (key : Key) (here : slice_get new j ≡ Some key) (distinct : IsDistinct new) (once : IsDistinct old) (h : Placing old new steps (left marks old) (j + 1))
    (at : ℕ) (there : slice_get old at ≡ Some key) (end : ℕ) (marked : AreMarked marks end) where
  on_front : 0 < times key (left marks old)
  on_front = omega (arith, times-front old new steps (left marks old) j key here distinct h, times-at old at key there)

  free : get_or marks at true ≡ false
  free = unmarked marks old at key once there on_front

  pub place_last : at + 1 ≡ end → Placing old new steps (left (set marks at true) old) j
  place_last is =
      placing-last old new steps (left marks old) j key here distinct h (left (set marks at true) old)
      (left-last marks old at key there free (λ k above within. marked.at k (omega arith) within))

  pub place_inside : length marks ≡ length old → end ≤ length old → (0 < end → get_or marks (end - 1) true ≡ false) → (at + 1 ≡ end → ⊥) → (before : Option ℕ) → IsBehind j new before →
      Placing old new (steps ++ Shift j before ∷ []) (left (set marks at true) old) j
  place_inside long within last_free apart before behind = elim (cases_lt at end) [
    | inr after ↦ absurd (let seen : get_or marks at true ≡ true = marked.at at after (omega (arith, place_below old at key there)) in let no = free in cc)
    | inl earlier ↦
        (let last = get_some old (end - 1) (omega arith) in
        placing-inside old new steps (left marks old) j key here distinct h (left (set marks at true) old) before behind (left-set marks old at key once there free) on_front
        (left-inside marks old at (end - 1) key last.0 once there last.1 (λ e. apart (omega arith)) (last_free (omega arith)) (λ k above lt. marked.at k (omega arith) lt)))
  ]
