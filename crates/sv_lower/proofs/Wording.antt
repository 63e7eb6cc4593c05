-- Words with what they mean.
use Rattle.std.proofs.Common.{◌≡◌, ℕ, List, [], ◌∷◌, length, map, inl, inr, ◌⊎◌, refl, arith, Bor}
use Rattle.sv_base.specs.Names.{Table}
use Rattle.sv_code.specs.declared.known.Method.{Method}
use Rattle.sv_lower.specs.Words.{words_in}

-- where texts or meanings are none, nothing is left
pub ended : (table : Table) (texts : List (Bor (List ℕ))) (methods : List Method) → (length texts ≡ 0) ⊎ (length methods ≡ 0) → words_in table (map (λ text. text.now) texts) methods ≡ []
ended table [] methods h = refl
ended table (text ∷ texts) [] h = refl
ended table (text ∷ texts) (method ∷ methods) (inl h) = absurd (omega (arith, h))
ended table (text ∷ texts) (method ∷ methods) (inr h) = absurd (omega (arith, h))
