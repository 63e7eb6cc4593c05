-- What is made of parts in turn, and the functions that it adds, read nothing but what may be read, where each part does.
use Rattle.std.proofs.Common.{◌≡◌, List, [], ◌++◌, append_assoc, append-nil, refl, sym, ap, subst, ◌∙◌}
use Rattle.sv_ast.specs.declared.names.Ref.{Ref}
use Rattle.sv_code.specs.declared.functions.Function.{Function}
use Rattle.sv_code.specs.declared.known.Known.{Known}
use Rattle.sv_code.proofs.Each.{each_append}
use Rattle.sv_code.specs.Names.{Each, of_body}
use Rattle.sv_lower.specs.Does.{just, of_one, of_two, of_three, of_four, followed}
use Rattle.sv_lower.specs.Lower.{Lowers}
use Rattle.sv_lower.specs.Tops.{Tops}

abbrev pub Names : Type 0 → Type 0
Names A = List Function → A → List Known

-- whatever functions there are, the body of a function reads only what may be read
abbrev pub BodyIs : (Q : Known → Type 0) → Function → Type 0
BodyIs Q f = (fs : List Function) → Each Q (of_body fs f.body)

-- what was made behind some functions
pub record Kept (Q : Known → Type 0) {A : Type 0} (names : Names A) (before : List Function) (made : A × List Function) : Type 0 where
  pub added : List Function
  pub is : made.1 ≡ before ++ added
  pub code : (fs : List Function) → Each Q (names fs made.0)
  pub bodies : Each (BodyIs Q) added

abbrev pub Keeps : (Q : Known → Type 0) → Tops → {A : Type 0} → Names A → List Ref → Lowers A → Type 0
Keeps Q tops names locals make = (before : List Function) → Kept Q names before (make tops locals before)

module _ {Q : Known → Type 0} (tops : Tops) (locals : List Ref) where
  pub just_keeps : {A : Type 0} (names : Names A) (x : A) → ((fs : List Function) → Each Q (names fs x)) → Keeps Q tops names locals (just x)
  just_keeps names x h before = record { added = []; is = sym (append-nil before); code = h; bodies = tt }

  pub one_by : {A B : Type 0} (na : Names A) (nb : Names B) (make : A → B) (one : Lowers A) → ((fs : List Function) (a : A) → Each Q (na fs a) → Each Q (nb fs (make a))) → Keeps Q tops na locals one → Keeps Q tops nb locals (of_one make one)
  one_by na nb make one f k before =
      let first = k before in
      record { added = first.added; is = first.is; code = λ fs. f fs (one tops locals before).0 (first.code fs); bodies = first.bodies }

  pub one_keeps : {A B : Type 0} (na : Names A) (nb : Names B) (make : A → B) (one : Lowers A) → ((fs : List Function) (a : A) → nb fs (make a) ≡ na fs a) → Keeps Q tops na locals one → Keeps Q tops nb locals (of_one make one)
  one_keeps na nb make one e = one_by na nb make one (λ fs a h. subst (Each Q) (sym (e fs a)) h)

  pub two_by : {A B C : Type 0} (na : Names A) (nb : Names B) (nc : Names C) (make : A → B → C) (one : Lowers A) (two : Lowers B)
      → ((fs : List Function) (a : A) (b : B) → Each Q (na fs a) → Each Q (nb fs b) → Each Q (nc fs (make a b)))
      → Keeps Q tops na locals one → Keeps Q tops nb locals two → Keeps Q tops nc locals (of_two make one two)
  two_by na nb nc make one two f k l before =
      let first = k before in
      let between = (one tops locals before).1 in
      let second = l between in
      record {
        added = first.added ++ second.added;
        is = second.is ∙ (ap (λ z. z ++ second.added) first.is ∙ append_assoc before first.added second.added);
        code = λ fs. f fs (one tops locals before).0 (two tops locals between).0 (first.code fs) (second.code fs);
        bodies = each_append (BodyIs Q) first.added second.added first.bodies second.bodies;
      }

  pub two_keeps : {A B C : Type 0} (na : Names A) (nb : Names B) (nc : Names C) (make : A → B → C) (one : Lowers A) (two : Lowers B) → ((fs : List Function) (a : A) (b : B) → nc fs (make a b) ≡ na fs a ++ nb fs b)
      → Keeps Q tops na locals one → Keeps Q tops nb locals two → Keeps Q tops nc locals (of_two make one two)
  two_keeps na nb nc make one two e = two_by na nb nc make one two (λ fs a b h k. subst (Each Q) (sym (e fs a b)) (each_append Q (na fs a) (nb fs b) h k))

  pub three_keeps : {A B C D : Type 0} (na : Names A) (nb : Names B) (nc : Names C) (nd : Names D) (make : A → B → C → D) (one : Lowers A) (two : Lowers B) (three : Lowers C)
      → ((fs : List Function) (a : A) (b : B) (c : C) → nd fs (make a b c) ≡ na fs a ++ (nb fs b ++ nc fs c))
      → Keeps Q tops na locals one → Keeps Q tops nb locals two → Keeps Q tops nc locals three → Keeps Q tops nd locals (of_three make one two three)
  three_keeps {B = B} {C = C} na nb nc nd make one two three e k l m before =
      let first = k before in
      let between = (one tops locals before).1 in
      let pair : Names (B × C) = λ fs p. nb fs p.0 ++ nc fs p.1 in
      let rest = two_keeps nb nc pair (λ b c. (b, c)) two three (λ fs b c. refl) l m between in
      record {
        added = first.added ++ rest.added;
        is = rest.is ∙ (ap (λ z. z ++ rest.added) first.is ∙ append_assoc before first.added rest.added);
        code = λ fs. subst (Each Q) (sym (e fs _ _ _)) (each_append Q (na fs (one tops locals before).0) _ (first.code fs) (rest.code fs));
        bodies = each_append (BodyIs Q) first.added rest.added first.bodies rest.bodies;
      }

  pub four_keeps : {A B C D F : Type 0} (na : Names A) (nb : Names B) (nc : Names C) (nd : Names D) (nf : Names F) (make : A → B → C → D → F) (one : Lowers A) (two : Lowers B) (three : Lowers C) (four : Lowers D)
      → ((fs : List Function) (a : A) (b : B) (c : C) (d : D) → nf fs (make a b c d) ≡ na fs a ++ (nb fs b ++ (nc fs c ++ nd fs d)))
      → Keeps Q tops na locals one → Keeps Q tops nb locals two → Keeps Q tops nc locals three → Keeps Q tops nd locals four → Keeps Q tops nf locals (of_four make one two three four)
  four_keeps {B = B} {C = C} {D = D} na nb nc nd nf make one two three four e k l m n before =
      let first = k before in
      let between = (one tops locals before).1 in
      let triple : Names (B × (C × D)) = λ fs p. nb fs p.0 ++ (nc fs p.1.0 ++ nd fs p.1.1) in
      let rest = three_keeps nb nc nd triple (λ b c d. (b, (c, d))) two three four (λ fs b c d. refl) l m n between in
      record {
        added = first.added ++ rest.added;
        is = rest.is ∙ (ap (λ z. z ++ rest.added) first.is ∙ append_assoc before first.added rest.added);
        code = λ fs. subst (Each Q) (sym (e fs _ _ _ _)) (each_append Q (na fs (one tops locals before).0) _ (first.code fs) (rest.code fs));
        bodies = each_append (BodyIs Q) first.added rest.added first.bodies rest.bodies;
      }

  pub followed_keeps : {A B : Type 0} (na : Names A) (nb : Names B) (one : Lowers A) (next : A → List Function → B × List Function)
      → ((s : List Function) (a : A) → ((fs : List Function) → Each Q (na fs a)) → Kept Q nb s (next a s)) → Keeps Q tops na locals one → Keeps Q tops nb locals (followed one next)
  followed_keeps na nb one next f k before =
      let first = k before in
      let between = (one tops locals before).1 in
      let second = f between (one tops locals before).0 first.code in
      record {
        added = first.added ++ second.added;
        is = second.is ∙ (ap (λ z. z ++ second.added) first.is ∙ append_assoc before first.added second.added);
        code = second.code;
        bodies = each_append (BodyIs Q) first.added second.added first.bodies second.bodies;
      }
