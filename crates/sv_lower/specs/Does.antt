-- What is made of the parts of a tree, one after the other, in some surroundings, inside scopes of some locals, where each may add to tables.
use Rattle.std.specs.Prelude.{◌≡◌, Result, Ok, Err, List, [], ◌∷◌, ◌++◌, Option, None, Some}
use Rattle.sv_ast.specs.declared.names.Ref.{Ref}

-- what is made, behind what the tables had before, and the tables then
abbrev pub Does : (E S A : Type 0) → Type 0
Does E S A = E → List Ref → S → A × S

-- what adds nothing
abbrev pub just : {E S A : Type 0} → A → Does E S A
just x around locals before = (x, before)

-- what is made of one part
abbrev pub of_one : {E S A B : Type 0} → (A → B) → Does E S A → Does E S B
of_one make one around locals before = (make (one around locals before).0, (one around locals before).1)

-- what is made of two parts in turn
abbrev pub of_two : {E S A B C : Type 0} → (A → B → C) → Does E S A → Does E S B → Does E S C
of_two make one two around locals before = of_one (make (one around locals before).0) two around locals (one around locals before).1

-- what is made of three parts in turn
abbrev pub of_three : {E S A B C D : Type 0} → (A → B → C → D) → Does E S A → Does E S B → Does E S C → Does E S D
of_three make one two three around locals before = of_two (make (one around locals before).0) two three around locals (one around locals before).1

-- what is made of four parts in turn
abbrev pub of_four : {E S A B C D F : Type 0} → (A → B → C → D → F) → Does E S A → Does E S B → Does E S C → Does E S D → Does E S F
of_four make one two three four around locals before = of_three (make (one around locals before).0) two three four around locals (one around locals before).1

-- each of some parts in turn
abbrev pub each : {E S A : Type 0} → List (Does E S A) → Does E S (List A)
each [] = just []
each (part ∷ parts) = of_two (λ x xs. x ∷ xs) part (each parts)

-- a part that may be absent
abbrev pub given : {E S A : Type 0} → Option (Does E S A) → Does E S (Option A)
given None = just None
given (Some part) = of_one Some part

-- what is put behind what a part added
abbrev pub followed : {E S A B : Type 0} → Does E S A → (A → S → B × S) → Does E S B
followed one next around locals before = next (one around locals before).0 (one around locals before).1

-- what is inside a scope of some names
abbrev pub within : {E S A : Type 0} → List Ref → Does E S A → Does E S A
within names make around locals = make around (names ++ locals)

-- on success what was made and the tables after it are those that are wanted
abbrev pub Makes : {S A E : Type 0} → Result A E → A × S → S → Type 0
Makes (Ok made) wanted after = wanted ≡ (made, after)
Makes (Err e) wanted after = Unit {0}
