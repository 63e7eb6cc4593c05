-- How the count of the listed calls grows.
use Rattle.std.proofs.Common.{◌≡◌, ◌<◌, ◌+◌, ◌^◌, ℕ, suc, List, true, arith}
use Rattle.sv_io.specs.Faults.{Rose}
use Rattle.sv_io.specs.Memory.{is_listed, listed_up_to, next_call}

rose-more : (before : ℕ) → Rose before (before + 1)
rose-more before = omega arith

-- a listed call raises the count
pub Rose-listed_up_to : (fail : List ℕ) (calls : ℕ) → next_call calls < 2 ^ 32 → is_listed fail (next_call calls) ≡ true
    → Rose (listed_up_to fail calls) (listed_up_to fail (next_call calls))
Rose-listed_up_to fail calls small listed =
    let next : next_call calls ≡ suc calls = omega arith in
    let here : is_listed fail (suc calls) ≡ true = rw next at listed in
    rw (next, here) (rose-more (listed_up_to fail calls))
