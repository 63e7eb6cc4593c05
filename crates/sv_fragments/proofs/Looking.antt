-- What is looked at is there.
use Rattle.std.proofs.Common.{◌≡◌, ℕ, zero, suc, ◌+◌, ◌<◌, Bool, true, false, List, [], ◌∷◌, length, map, subst, arith}
use Rattle.std.specs.List.{All, list_any}
use Rattle.std.specs.Prelude.{nat_eq}
use Rattle.std.proofs.lemmas.List.Elements.{All-nil, All-cons, All-append, All-map}
use Rattle.sv_ast.specs.declared.names.Ref.{Ref}
use Rattle.sv_code.specs.Numbers.{OfCell, Counts, IsThere, cells_in, of_reading}
use Rattle.sv_code.proofs.Compiled.{all_mono}
use Rattle.sv_names.specs.Distinct.{has}
use Rattle.sv_deps.specs.Looks.{Looked, among_from, gathered}
use Rattle.sv_deps.specs.Reading.{number_if, numbers_from, numbers, reading}
use Rattle.sv_lower.specs.Tops.{Tops}

if_below : (b : Bool) (n top : ℕ) → n < top → All (λ k. k < top) (number_if b n)
if_below true n top h = All-cons (λ k. k < top) n [] h (All-nil (λ k. k < top))
if_below false n top h = All-nil (λ k. k < top)

numbers_below : (n : ℕ) (cells names : List Ref) → All (λ k. k < n + length cells) (numbers_from n cells names)
numbers_below n [] names = All-nil (λ k. k < n + zero)
numbers_below n (cell ∷ cells) names =
    All-append (λ k. k < n + suc (length cells)) (number_if (has cell names) n) (numbers_from (suc n) cells names)
    (if_below (has cell names) n (n + suc (length cells)) (omega arith))
    (all_mono (λ k. k < suc n + length cells) (λ k. k < n + suc (length cells)) (λ k h. omega (arith, h)) (numbers_from (suc n) cells names) (numbers_below (suc n) cells names))

pub among_below : (n count : ℕ) (numbers : List ℕ) → All (λ k. k < n + count) (among_from n count numbers)
among_below n zero numbers = All-nil (λ k. k < n + zero)
among_below n (suc count) numbers =
    All-append (λ k. k < n + suc count) (number_if (list_any (nat_eq n) numbers) n) (among_from (suc n) count numbers)
    (if_below (list_any (nat_eq n) numbers) n (n + suc count) (omega arith))
    (all_mono (λ k. k < suc n + count) (λ k. k < n + suc count) (λ k h. omega (arith, h)) (among_from (suc n) count numbers) (among_below (suc n) count numbers))

-- cells by number are cells
pub numbers_within : (cells names : List Ref) → All (λ k. k < length cells) (numbers cells names)
numbers_within cells names = all_mono (λ k. k < zero + length cells) (λ k. k < length cells) (λ k h. omega (arith, h)) (numbers cells names) (numbers_below zero cells names)

-- numbers below the count of cells are those of cells
cells_there : (counts : Counts) (count : ℕ) (list : List ℕ) → count ≡ cells_in counts.home → All (λ k. k < count) list → All (IsThere counts) (map OfCell list)
cells_there counts count list e h = All-map (IsThere counts) OfCell list (subst (λ c. All (λ k. k < c) list) e h)

pub reading_there : (counts : Counts) (tops : Tops) (cells locals names : List Ref) → length cells ≡ cells_in counts.home → All (IsThere counts) (of_reading (reading tops cells locals names))
reading_there counts tops cells locals names e = cells_there counts (length cells) (reading tops cells locals names).cells e (numbers_within cells _)

pub gathered_there : (counts : Counts) (count : ℕ) (looked : Looked) → count ≡ cells_in counts.home → All (IsThere counts) (of_reading (gathered count looked))
gathered_there counts count looked e =
    cells_there counts count (gathered count looked).cells e (all_mono (λ k. k < zero + count) (λ k. k < count) (λ k h. omega (arith, h)) (gathered count looked).cells (among_below zero count looked.cells))
