-- Truth values, and what one of two gives.
use Rattle.std.proofs.Common.{◌≡◌, Bool, true, false, refl, sym, ◌∙◌, true≢false}
use Rattle.std.specs.Prelude.{◌||◌, ◌&&◌}

pub or_cases : {G : Type 0} (a b : Bool) → (a || b) ≡ true → (a ≡ true → G) → (b ≡ true → G) → G
or_cases true b k f g = f refl
or_cases false b k f g = g k

pub or_first : (a b : Bool) → a ≡ true → (a || b) ≡ true
or_first true b h = refl
or_first false b h = absurd (true≢false (sym h))

pub or_second : (a b : Bool) → b ≡ true → (a || b) ≡ true
or_second true b h = refl
or_second false b h = h

pub not_if : (a b : Bool) → (a ≡ true → b ≡ true) → b ≡ false → a ≡ false
not_if true b f e = absurd (true≢false (sym (f refl) ∙ e))
not_if false b f e = refl

pub and_first : (a b : Bool) → (a && b) ≡ true → a ≡ true
and_first true b h = refl
and_first false b h = h

pub and_second : (a b : Bool) → (a && b) ≡ true → b ≡ true
and_second true b h = h
and_second false b h = absurd (true≢false (sym h))
