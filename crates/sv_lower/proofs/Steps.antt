-- What is made of parts, from what each made.
use Rattle.std.proofs.Common.{◌≡◌, List, sym, ap, subst, ◌∙◌}
use Rattle.std.specs.Prelude.{Result}
use Rattle.sv_ast.specs.declared.names.Ref.{Ref}
use Rattle.sv_lower.specs.Does.{Does, Makes, of_one, of_two, of_three, of_four}

pub one_is : {E S A B : Type 0} (make : A → B) (one : Does E S A) (around : E) (locals : List Ref) (s0 s1 : S) (a : A)
    → one around locals s0 ≡ (a, s1) → of_one make one around locals s0 ≡ (make a, s1)
one_is make one around locals s0 s1 a e = ap (λ p. (make p.0, p.1)) e

pub two_is : {E S A B C : Type 0} (make : A → B → C) (one : Does E S A) (two : Does E S B) (around : E) (locals : List Ref) (s0 s1 s2 : S) (a : A) (b : B)
    → one around locals s0 ≡ (a, s1) → two around locals s1 ≡ (b, s2) → of_two make one two around locals s0 ≡ (make a b, s2)
two_is make one two around locals s0 s1 s2 a b e f =
    ap (λ p. (make p.0 (two around locals p.1).0, (two around locals p.1).1)) e ∙ ap (λ p. (make a p.0, p.1)) f

pub three_is : {E S A B C D : Type 0} (make : A → B → C → D) (one : Does E S A) (two : Does E S B) (three : Does E S C) (around : E) (locals : List Ref) (s0 s1 s2 s3 : S) (a : A) (b : B) (c : C)
    → one around locals s0 ≡ (a, s1) → two around locals s1 ≡ (b, s2) → three around locals s2 ≡ (c, s3) → of_three make one two three around locals s0 ≡ (make a b c, s3)
three_is make one two three around locals s0 s1 s2 s3 a b c e f g =
    ap (λ p. of_two (make p.0) two three around locals p.1) e ∙ two_is (make a) two three around locals s1 s2 s3 b c f g

pub four_is : {E S A B C D F : Type 0} (make : A → B → C → D → F) (one : Does E S A) (two : Does E S B) (three : Does E S C) (four : Does E S D) (around : E) (locals : List Ref) (s0 s1 s2 s3 s4 : S) (a : A) (b : B) (c : C) (d : D)
    → one around locals s0 ≡ (a, s1) → two around locals s1 ≡ (b, s2) → three around locals s2 ≡ (c, s3) → four around locals s3 ≡ (d, s4)
    → of_four make one two three four around locals s0 ≡ (make a b c d, s4)
four_is make one two three four around locals s0 s1 s2 s3 s4 a b c d e f g h =
    ap (λ p. of_three (make p.0) two three four around locals p.1) e ∙ three_is (make a) two three four around locals s1 s2 s3 s4 b c d f g h

-- the same is wanted
pub makes_by : {S A E : Type 0} (r : Result A E) (wanted same : A × S) (after : S) → wanted ≡ same → Makes r same after → Makes r wanted after
makes_by r wanted same after e made = subst (λ z. Makes r z after) (sym e) made
