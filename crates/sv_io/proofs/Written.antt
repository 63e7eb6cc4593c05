-- Writing one piece after another.
use Rattle.std.proofs.Common.{◌≡◌, ℕ, ◌+◌, ◌-◌, List, [], ◌++◌, length, take, drop, Option, refl, ap, append_assoc, append-nil, arith}
use Rattle.std.specs.Prelude.{Some, None, Result, Ok, Err, OnErr}
use Rattle.std.proofs.Math.Seq.{take-add}
use Rattle.std.proofs.lemmas.Grind.{common_steps}
use Rattle.sv_io.specs.Sink.{with_bytes}

pub with_bytes-twice : (held : Option (List ℕ)) (a b : List ℕ) → with_bytes (with_bytes held a) b ≡ with_bytes held (a ++ b)
with_bytes-twice None a b = refl
with_bytes-twice (Some held) a b = ap Some (append_assoc held a b)

pub with_bytes-none : (held : Option (List ℕ)) → with_bytes held [] ≡ held
with_bytes-none None = refl
with_bytes-none (Some held) = ap Some (append-nil held)

-- the first n bytes, and then the first m of the rest
pub with_bytes-next : (old mid new : Option (List ℕ)) (bytes : List ℕ) (n m : ℕ) → mid ≡ with_bytes old (take n bytes)
    → new ≡ with_bytes mid (take m (take (length bytes - n) (drop n bytes))) → new ≡ with_bytes old (take (n + m) bytes)
with_bytes-next old mid new bytes n m first then =
    let rest : take (length bytes - n) (drop n bytes) ≡ drop n bytes = grind (arith, common_steps) in
    let second : new ≡ with_bytes mid (take m (drop n bytes)) = rw (← rest) then in
    rw (second, first, take-add n m bytes) (with_bytes-twice old (take n bytes) (take m (drop n bytes)))

-- what holds anyway holds on an error
pub on_err : {T E P : Type 0} (r : Result T E) → P → OnErr r P
on_err (Ok x) p = tt
on_err (Err e) p = p
