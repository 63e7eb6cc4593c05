-- What is asked of instances by their numbers.
use Rattle.std.proofs.Common.{◌≡◌, ℕ, List, [], ◌∷◌, map, refl, ap}
use Rattle.sv_value.specs.declared.value.Inst.{Inst}
use Rattle.sv_view.specs.View.{inst_number}

pub numbers-mapped : {A : Type 0} (g : ℕ → A) (xs : List Inst) → map (λ (i : Inst). g i.number) xs ≡ map g (map inst_number xs)
numbers-mapped g [] = refl
numbers-mapped g (x ∷ xs) = ap (λ ys. g x.number ∷ ys) (numbers-mapped g xs)
