-- What is made of parts in turn names what is there, where each part does, and where the tables only grow and stay as they have to be.
use Rattle.std.proofs.Common.{◌≡◌, ℕ, ◌<◌, ◌≤◌, List, [], ◌∷◌, ◌++◌, length, map, refl, sym, ap, subst, ◌∙◌, arith}
use Rattle.std.specs.List.{All}
use Rattle.std.proofs.lemmas.List.Elements.{All-nil, All-append, All-head, All-tail}
use Rattle.sv_ast.specs.declared.names.Ref.{Ref}
use Rattle.sv_code.proofs.Compiled.{all_mono}
use Rattle.sv_code.specs.declared.functions.Function.{Function}
use Rattle.sv_code.specs.declared.functions.TheConstants.{WRITABLE}
use Rattle.sv_code.specs.Numbers.{Number, OfFunction, OfTag, OfHandler, OfFile, OfCell, OfConstant, OfExport, Size, Counts, IsThere, size_at, cells_in, constants_in, given_in, functions_alone, joined, of_function}
use Rattle.sv_lower.specs.Does.{Does, just, of_one, of_two, of_three, of_four, each, followed}

-- ---- more than there was

-- at least as many of each, for the same file of the same program
pub record AtLeast (a b : Counts) : Type 0 where
  pub functions : a.functions ≤ b.functions
  pub tags : a.tags ≤ b.tags
  pub handlers : a.handlers ≤ b.handlers
  pub sizes : a.sizes ≡ b.sizes
  pub home : a.home ≡ b.home

pub no_more : (a : Counts) → AtLeast a a
no_more a = record { functions = omega arith; tags = omega arith; handlers = omega arith; sizes = refl; home = refl }

pub once_more : (a b c : Counts) → AtLeast a b → AtLeast b c → AtLeast a c
once_more a b c h k = record {
  functions = omega (arith, h.functions, k.functions);
  tags = omega (arith, h.tags, k.tags);
  handlers = omega (arith, h.handlers, k.handlers);
  sizes = h.sizes ∙ k.sizes;
  home = h.home ∙ k.home;
}

there_still : (a b : Counts) → AtLeast a b → (n : Number) → IsThere a n → IsThere b n
there_still a b more (OfFunction n) h = omega (arith, more.functions, h)
there_still a b more (OfTag n) h = omega (arith, more.tags, h)
there_still a b more (OfHandler n) h = omega (arith, more.handlers, h)
there_still a b more (OfFile n) h = subst (λ s. n < length s) more.sizes h
there_still a b more (OfCell n) h = subst (λ s. n < cells_in s) more.home h
there_still a b more (OfConstant n) h = subst (λ s. n < constants_in s) more.home h
there_still a b more (OfExport file n) h = subst (λ s. n < given_in (size_at s file)) more.sizes h

-- what was there is there still
pub still_there : (a b : Counts) → AtLeast a b → (numbers : List Number) → All (IsThere a) numbers → All (IsThere b) numbers
still_there a b more numbers h = all_mono (IsThere a) (IsThere b) (there_still a b more) numbers h

-- numbers stand in one of the files of the program, and name what is there
pub record AreSomewhere (counts : Counts) (numbers : List Number) : Type 0 where
  pub file : ℕ
  pub there : All (IsThere (record counts { home = size_at counts.sizes file })) numbers

-- what stood in one of the files stands there still
pub somewhere_still : (a b : Counts) → AtLeast a b → (numbers : List Number) → AreSomewhere a numbers → AreSomewhere b numbers
somewhere_still a b more numbers h =
    let x : Counts = record a { home = size_at a.sizes h.file } in
    let y : Counts = record b { home = size_at b.sizes h.file } in
    record { file = h.file; there = still_there x y (record { functions = more.functions; tags = more.tags; handlers = more.handlers; sizes = more.sizes; home = ap (λ s. size_at s h.file) more.sizes }) numbers h.there }

-- ---- functions

-- what there is for a file, where only functions are numbered
abbrev pub counted_alone : List Size → ℕ → List Function → Counts
counted_alone sizes file functions = functions_alone sizes (size_at sizes file) (length functions)

-- each function names what is there, and `writable` is
pub record AreClosed (sizes : List Size) (functions : List Function) : Type 0 where
  pub writable : WRITABLE < length functions
  pub closed : All (λ f. AreSomewhere (counted_alone sizes 0 functions) (of_function f)) functions

-- ---- what is made

-- what was made behind some tables: they grew and are as they have to be, and what was made names what is there
pub record Kept {S A : Type 0} (counted : S → Counts) (Sound : S → Type 0) (numbers : A → List Number) (before : S) (made : A × S) : Type 0 where
  pub more : AtLeast (counted before) (counted made.1)
  pub there : All (IsThere (counted made.1)) (numbers made.0)
  pub sound : Sound made.1

-- whatever tables were there before
abbrev pub Keeps : {E S A : Type 0} → (S → Counts) → (S → Type 0) → E → List Ref → (A → List Number) → Does E S A → Type 0
Keeps counted Sound around locals numbers make = (before : _) → Sound before → Kept counted Sound numbers before (make around locals before)

module _ {E S : Type 0} (counted : S → Counts) (Sound : S → Type 0) (around : E) (locals : List Ref) where
  pub just_there : {A : Type 0} (numbers : A → List Number) (x : A) → ((s : S) → Sound s → All (IsThere (counted s)) (numbers x)) → Keeps counted Sound around locals numbers (just x)
  just_there numbers x h before sound = record { more = no_more (counted before); there = h before sound; sound = sound }

  pub just_keeps : {A : Type 0} (numbers : A → List Number) (x : A) → numbers x ≡ [] → Keeps counted Sound around locals numbers (just x)
  just_keeps numbers x e = just_there numbers x (λ s sound. subst (All (IsThere (counted s))) (sym e) (All-nil (IsThere (counted s))))

  -- ---- where parts name what is there, so does what is made of them

  pub one_by : {A B : Type 0} (na : A → List Number) (nb : B → List Number) (make : A → B) (one : Does E S A)
      → ((s : S) → Sound s → (a : A) → All (IsThere (counted s)) (na a) → All (IsThere (counted s)) (nb (make a)))
      → Keeps counted Sound around locals na one → Keeps counted Sound around locals nb (of_one make one)
  one_by na nb make one f k before sound =
      let first = k before sound in
      record { more = first.more; there = f (one around locals before).1 first.sound (one around locals before).0 first.there; sound = first.sound }

  pub two_by : {A B C : Type 0} (na : A → List Number) (nb : B → List Number) (nc : C → List Number) (make : A → B → C) (one : Does E S A) (two : Does E S B)
      → ((s : S) → Sound s → (a : A) (b : B) → All (IsThere (counted s)) (na a) → All (IsThere (counted s)) (nb b) → All (IsThere (counted s)) (nc (make a b)))
      → Keeps counted Sound around locals na one → Keeps counted Sound around locals nb two → Keeps counted Sound around locals nc (of_two make one two)
  two_by na nb nc make one two f k l before sound =
      let first = k before sound in
      let between = (one around locals before).1 in
      let second = l between first.sound in
      let after = (two around locals between).1 in
      let still = still_there (counted between) (counted after) second.more (na (one around locals before).0) first.there in
      record {
        more = once_more (counted before) (counted between) (counted after) first.more second.more;
        there = f after second.sound (one around locals before).0 (two around locals between).0 still second.there;
        sound = second.sound;
      }

  pub followed_keeps : {A B : Type 0} (na : A → List Number) (nb : B → List Number) (one : Does E S A) (next : A → S → B × S)
      → ((s : S) → Sound s → (a : A) → All (IsThere (counted s)) (na a) → Kept counted Sound nb s (next a s))
      → Keeps counted Sound around locals na one → Keeps counted Sound around locals nb (followed one next)
  followed_keeps na nb one next f k before sound =
      let first = k before sound in
      let between = (one around locals before).1 in
      let second = f between first.sound (one around locals before).0 first.there in
      let after = (next (one around locals before).0 between).1 in
      record { more = once_more (counted before) (counted between) (counted after) first.more second.more; there = second.there; sound = second.sound }

  -- ---- and names what they name

  pub one_keeps : {A B : Type 0} (na : A → List Number) (nb : B → List Number) (make : A → B) (one : Does E S A) → ((a : A) → nb (make a) ≡ na a)
      → Keeps counted Sound around locals na one → Keeps counted Sound around locals nb (of_one make one)
  one_keeps na nb make one e = one_by na nb make one (λ s sound a h. subst (All (IsThere (counted s))) (sym (e a)) h)

  pub two_keeps : {A B C : Type 0} (na : A → List Number) (nb : B → List Number) (nc : C → List Number) (make : A → B → C) (one : Does E S A) (two : Does E S B) → ((a : A) (b : B) → nc (make a b) ≡ na a ++ nb b)
      → Keeps counted Sound around locals na one → Keeps counted Sound around locals nb two → Keeps counted Sound around locals nc (of_two make one two)
  two_keeps na nb nc make one two e =
      two_by na nb nc make one two (λ s sound a b h k. subst (All (IsThere (counted s))) (sym (e a b)) (All-append (IsThere (counted s)) (na a) (nb b) h k))

  pub each_keeps : {A : Type 0} (of : A → List Number) (parts : List (Does E S A)) → All (Keeps counted Sound around locals of) parts → Keeps counted Sound around locals (λ ys. joined (map of ys)) (each parts)
  each_keeps of [] h = just_keeps (λ ys. joined (map of ys)) [] refl
  each_keeps of (p ∷ parts) h =
      two_keeps of (λ ys. joined (map of ys)) (λ ys. joined (map of ys)) (λ x xs. x ∷ xs) p (each parts) (λ x xs. refl)
      (All-head (Keeps counted Sound around locals of) p parts h) (each_keeps of parts (All-tail (Keeps counted Sound around locals of) p parts h))

  pub three_keeps : {A B C D : Type 0} (na : A → List Number) (nb : B → List Number) (nc : C → List Number) (nd : D → List Number) (make : A → B → C → D) (one : Does E S A) (two : Does E S B) (three : Does E S C)
      → ((a : A) (b : B) (c : C) → nd (make a b c) ≡ na a ++ (nb b ++ nc c))
      → Keeps counted Sound around locals na one → Keeps counted Sound around locals nb two → Keeps counted Sound around locals nc three → Keeps counted Sound around locals nd (of_three make one two three)
  three_keeps {B = B} {C = C} na nb nc nd make one two three e k l m before sound =
      let first = k before sound in
      let a = (one around locals before).0 in
      let between = (one around locals before).1 in
      let pair : B × C → List Number = λ p. nb p.0 ++ nc p.1 in
      let rest = two_keeps nb nc pair (λ b c. (b, c)) two three (λ b c. refl) l m between first.sound in
      let b = (two around locals between).0 in
      let later = (two around locals between).1 in
      let c = (three around locals later).0 in
      let after = (three around locals later).1 in
      record {
        more = once_more (counted before) (counted between) (counted after) first.more rest.more;
        there = subst (All (IsThere (counted after))) (sym (e a b c)) (All-append (IsThere (counted after)) (na a) (nb b ++ nc c) (still_there (counted between) (counted after) rest.more (na a) first.there) rest.there);
        sound = rest.sound;
      }

  pub four_keeps : {A B C D F : Type 0} (na : A → List Number) (nb : B → List Number) (nc : C → List Number) (nd : D → List Number) (nf : F → List Number) (make : A → B → C → D → F) (one : Does E S A) (two : Does E S B) (three : Does E S C) (four : Does E S D)
      → ((a : A) (b : B) (c : C) (d : D) → nf (make a b c d) ≡ na a ++ (nb b ++ (nc c ++ nd d)))
      → Keeps counted Sound around locals na one → Keeps counted Sound around locals nb two → Keeps counted Sound around locals nc three → Keeps counted Sound around locals nd four
      → Keeps counted Sound around locals nf (of_four make one two three four)
  four_keeps {B = B} {C = C} {D = D} na nb nc nd nf make one two three four e k l m n before sound =
      let first = k before sound in
      let a = (one around locals before).0 in
      let between = (one around locals before).1 in
      let triple : B × (C × D) → List Number = λ p. nb p.0 ++ (nc p.1.0 ++ nd p.1.1) in
      let rest = three_keeps nb nc nd triple (λ b c d. (b, (c, d))) two three four (λ b c d. refl) l m n between first.sound in
      let b = (two around locals between).0 in
      let later = (two around locals between).1 in
      let c = (three around locals later).0 in
      let last = (three around locals later).1 in
      let d = (four around locals last).0 in
      let after = (four around locals last).1 in
      record {
        more = once_more (counted before) (counted between) (counted after) first.more rest.more;
        there = subst (All (IsThere (counted after))) (sym (e a b c d)) (All-append (IsThere (counted after)) (na a) (nb b ++ (nc c ++ nd d)) (still_there (counted between) (counted after) rest.more (na a) first.there) rest.there);
        sound = rest.sound;
      }
