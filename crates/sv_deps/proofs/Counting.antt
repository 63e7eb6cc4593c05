-- Numbers, one after the other.
use Rattle.std.proofs.Common.{◌≡◌, ◌<◌, ◌+◌, ◌-◌, ℕ, suc, Bool, List, ◌++◌, append_assoc, ap, sym, ◌∙◌, arith}
use Rattle.std.specs.Prelude.{nat_eq}
use Rattle.std.specs.List.{list_any}
use Rattle.sv_deps.specs.Looks.{among_from}
use Rattle.sv_deps.specs.Reading.{number_if}

-- the numbers from one on begin with its own, where it is below the end
pub among_from_next : (n count : ℕ) (numbers : List ℕ) → n < count → among_from n (count - n) numbers ≡ number_if (list_any (nat_eq n) numbers) n ++ among_from (suc n) (count - suc n) numbers
among_from_next n count numbers below = let more : count - n ≡ suc (count - suc n) = omega (arith, below) in ap (λ k. among_from n k numbers) more

-- the numbers from one on follow those before it
pub among_from_onward : (n count : ℕ) (numbers list list' : List ℕ) (is_wanted : Bool) → n < count → is_wanted ≡ list_any (nat_eq n) numbers → list' ≡ list ++ number_if is_wanted n
    → list ++ among_from n (count - n) numbers ≡ list' ++ among_from (n + 1) (count - (n + 1)) numbers
among_from_onward n count numbers list list' is_wanted below wanted added =
    let next : n + 1 ≡ suc n = omega arith in
    let rest = among_from (suc n) (count - suc n) numbers in
    ap (λ z. list ++ z) (among_from_next n count numbers below)
    ∙ sym (append_assoc list (number_if (list_any (nat_eq n) numbers) n) rest)
    ∙ ap (λ z. z ++ rest) (sym (added ∙ ap (λ b. list ++ number_if b n) wanted))
    ∙ ap (λ m. list' ++ among_from m (count - m) numbers) (sym next)
