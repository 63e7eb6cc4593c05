-- What holds of every parser: what it read lies at the front, and more bytes behind change nothing that was said.
use Rattle.std.proofs.Common.{◌≡◌, ◌<◌, ◌≤◌, ℕ, ◌-◌, Bool, true, false, cond, ltb, List, [], ◌++◌, length, take, drop, Ok, Err, refl, sym, ap, ◌∙◌, append_assoc, arith}
use Rattle.std.proofs.lemmas.Bool.{ltb-true, ltb-false, le-ltb, lt-ltb}
use Rattle.std.proofs.lemmas.List.{take-append-drop, take-append-le, drop-append-le, take_at, drop_at, length-append}
use Rattle.sv_wire.specs.declared.flaw.Flaw.{Flaw}
use Rattle.sv_wire.specs.declared.flaw.Flaw.TheVariants.{Wants, Wrong}
use Rattle.sv_wire.specs.declared.item.TheConstants.{LONGEST_TEXT}
use Rattle.sv_wire.specs.Reading.{Outcome, Parser, go_on, ◌>>=◌, give}

pub record Lawful {A : Type 0} (p : Parser A) : Type 0 where
  pub parts : (bytes : List ℕ) (x : A × List ℕ) → p bytes ≡ Ok x → (own : List ℕ) × (bytes ≡ own ++ x.1)
  pub more : (bytes more : List ℕ) (x : A × List ℕ) → p bytes ≡ Ok x → p (bytes ++ more) ≡ Ok (x.0, x.1 ++ more)
  pub wrong : (bytes more : List ℕ) → p bytes ≡ Err Wrong → p (bytes ++ more) ≡ Err Wrong
  pub small : (bytes : List ℕ) (n : ℕ) → p bytes ≡ Err (Wants n) → n ≤ LONGEST_TEXT
  pub wants : (bytes more : List ℕ) (n : ℕ) → p bytes ≡ Err (Wants n) → length more < n → p (bytes ++ more) ≡ Err (Wants (n - length more))

abbrev pub done : {A : Type 0} → A × List ℕ → Outcome A
done x = Ok x

abbrev pub failed : {A : Type 0} → Flaw → Outcome A
failed flaw = Err flaw

pub ok_is : {A : Type 0} (x y : A × List ℕ) → done x ≡ done y → x ≡ y
ok_is x y e = cc

pub err_is : {A : Type 0} (a b : Flaw) → failed {A = A} a ≡ failed {A = A} b → a ≡ b
err_is a b e = cc

pub wants_is : (a b : ℕ) → Wants a ≡ Wants b → a ≡ b
wants_is a b e = cc

-- ---- one after the other

pub lawful-then : {A B : Type 0} (p : Parser A) (f : A → Parser B) → Lawful p → ((x : A) → Lawful (f x)) → Lawful (p >>= f)
lawful-then {A} {B} p f first next = record {
  parts = λ bytes y e. parts bytes y (p bytes) refl e;
  more = λ bytes after y e. more bytes after y (p bytes) refl e;
  wrong = λ bytes after e. wrong bytes after (p bytes) refl e;
  small = λ bytes n e. small bytes n (p bytes) refl e;
  wants = λ bytes after n e less. wants bytes after n (p bytes) refl e less;
}
  where
    parts : (bytes : List ℕ) (y : B × List ℕ) (o : Outcome A) → p bytes ≡ o → go_on f o ≡ Ok y → (own : List ℕ) × (bytes ≡ own ++ y.1)
    parts bytes y (Ok x) was e =
        let a = first.parts bytes x was in
        let b = (next x.0).parts x.1 y e in
        (a.0 ++ b.0, a.1 ∙ (ap (λ z. a.0 ++ z) b.1 ∙ sym (append_assoc a.0 b.0 y.1)))
    parts bytes y (Err flaw) was e = absurd cc

    more : (bytes after : List ℕ) (y : B × List ℕ) (o : Outcome A) → p bytes ≡ o → go_on f o ≡ Ok y → go_on f (p (bytes ++ after)) ≡ Ok (y.0, y.1 ++ after)
    more bytes after y (Ok x) was e = ap (go_on f) (first.more bytes after x was) ∙ (next x.0).more x.1 after y e
    more bytes after y (Err flaw) was e = absurd cc

    wrong : (bytes after : List ℕ) (o : Outcome A) → p bytes ≡ o → go_on f o ≡ Err Wrong → go_on f (p (bytes ++ after)) ≡ Err Wrong
    wrong bytes after (Ok x) was e = ap (go_on f) (first.more bytes after x was) ∙ (next x.0).wrong x.1 after e
    wrong bytes after (Err flaw) was e = ap (go_on f) (first.wrong bytes after (was ∙ ap Err (err_is {A = B} flaw Wrong e)))

    small : (bytes : List ℕ) (n : ℕ) (o : Outcome A) → p bytes ≡ o → go_on f o ≡ Err (Wants n) → n ≤ LONGEST_TEXT
    small bytes n (Ok x) was e = (next x.0).small x.1 n e
    small bytes n (Err flaw) was e = first.small bytes n (was ∙ ap Err (err_is {A = B} flaw (Wants n) e))

    wants : (bytes after : List ℕ) (n : ℕ) (o : Outcome A) → p bytes ≡ o → go_on f o ≡ Err (Wants n) → length after < n → go_on f (p (bytes ++ after)) ≡ Err (Wants (n - length after))
    wants bytes after n (Ok x) was e less = ap (go_on f) (first.more bytes after x was) ∙ (next x.0).wants x.1 after n e less
    wants bytes after n (Err flaw) was e less = ap (go_on f) (first.wants bytes after n (was ∙ ap Err (err_is {A = B} flaw (Wants n) e)) less)

pub lawful-give : {A : Type 0} (x : A) → Lawful (give x)
lawful-give x = record {
  parts = λ bytes y e. ([], ap (λ z. z.1) (ok_is (x, bytes) y e));
  more = λ bytes after y e. ap (λ z. Ok (z.0, z.1 ++ after)) (ok_is (x, bytes) y e);
  wrong = λ bytes after e. absurd cc;
  small = λ bytes n e. absurd cc;
  wants = λ bytes after n e less. absurd cc;
}

-- ---- so many bytes

-- so many bytes that pass a test, and what they are
abbrev pub fixed : {A : Type 0} → (n : ℕ) → (List ℕ → Bool) → (List ℕ → A) → Parser A
fixed n test value bytes = cond (ltb (length bytes) n) (Err (Wants (n - length bytes))) (cond (test (take n bytes)) (Ok (value (take n bytes), drop n bytes)) (Err Wrong))

-- what is said of them, whatever follows
abbrev pub verdict : {A : Type 0} → Bool → A × List ℕ → Outcome A
verdict b x = cond b (Ok x) (Err Wrong)

abbrev judged : {A : Type 0} → (List ℕ → Bool) → (List ℕ → A) → (own rest : List ℕ) → Outcome A
judged test value own rest = verdict (test own) (value own, rest)

pub fixed-there : {A : Type 0} (n : ℕ) (test : List ℕ → Bool) (value : List ℕ → A) (bytes : List ℕ) → n ≤ length bytes → fixed n test value bytes ≡ judged test value (take n bytes) (drop n bytes)
fixed-there n test value bytes le = ap (λ z. cond z (Err (Wants (n - length bytes))) (judged test value (take n bytes) (drop n bytes))) (le-ltb (length bytes) n le)

fixed-more : {A : Type 0} (n : ℕ) (test : List ℕ → Bool) (value : List ℕ → A) (bytes more : List ℕ) → n ≤ length bytes → fixed n test value (bytes ++ more) ≡ judged test value (take n bytes) (drop n bytes ++ more)
fixed-more n test value bytes more le =
    fixed-there n test value (bytes ++ more) (omega (arith, le, length-append bytes more))
    ∙ (ap (λ z. judged test value z (drop n (bytes ++ more))) (take-append-le n bytes more le) ∙ ap (judged test value (take n bytes)) (drop-append-le n bytes more le))

pub fixed-few : {A : Type 0} (n : ℕ) (test : List ℕ → Bool) (value : List ℕ → A) (bytes : List ℕ) → length bytes < n → fixed n test value bytes ≡ Err (Wants (n - length bytes))
fixed-few n test value bytes less = ap (λ z. cond z (Err (Wants (n - length bytes))) (judged test value (take n bytes) (drop n bytes))) (lt-ltb (length bytes) n less)

judged-more : {A : Type 0} (test : List ℕ → Bool) (value : List ℕ → A) (own rest more : List ℕ) (x : A × List ℕ) → judged test value own rest ≡ Ok x → judged test value own (rest ++ more) ≡ Ok (x.0, x.1 ++ more)
judged-more {A} test value own rest more x e = go (test own) e
  where
    go : (b : Bool) → verdict b (value own, rest) ≡ Ok x → verdict b (value own, rest ++ more) ≡ Ok (x.0, x.1 ++ more)
    go true e = ap (λ z. Ok (z.0, z.1 ++ more)) (ok_is (value own, rest) x e)
    go false e = absurd cc

judged-rest : {A : Type 0} (test : List ℕ → Bool) (value : List ℕ → A) (own rest : List ℕ) (x : A × List ℕ) → judged test value own rest ≡ Ok x → rest ≡ x.1
judged-rest {A} test value own rest x e = go (test own) e
  where
    go : (b : Bool) → verdict b (value own, rest) ≡ Ok x → rest ≡ x.1
    go true e = ap (λ z. z.1) (ok_is (value own, rest) x e)
    go false e = absurd cc

judged-wrong : {A : Type 0} (test : List ℕ → Bool) (value : List ℕ → A) (own rest other : List ℕ) → judged test value own rest ≡ Err Wrong → judged test value own other ≡ Err Wrong
judged-wrong {A} test value own rest other e = go (test own) e
  where
    go : (b : Bool) → verdict b (value own, rest) ≡ Err Wrong → verdict b (value own, other) ≡ Err Wrong
    go true e = absurd cc
    go false e = refl

judged-wants : {A : Type 0} (test : List ℕ → Bool) (value : List ℕ → A) (own rest : List ℕ) (n : ℕ) → judged test value own rest ≡ Err (Wants n) → ⊥
judged-wants {A} test value own rest n e = go (test own) e
  where
    go : (b : Bool) → verdict b (value own, rest) ≡ Err (Wants n) → ⊥
    go true e = absurd cc
    go false e = absurd cc

pub lawful-fixed : {A : Type 0} (n : ℕ) (test : List ℕ → Bool) (value : List ℕ → A) → n ≤ LONGEST_TEXT → Lawful (fixed n test value)
lawful-fixed {A} n test value short = record {
  parts = λ bytes x e. parts bytes x (ltb (length bytes) n) refl e;
  more = λ bytes after x e. more bytes after x (ltb (length bytes) n) refl e;
  wrong = λ bytes after e. wrong bytes after (ltb (length bytes) n) refl e;
  small = λ bytes m e. small bytes m (ltb (length bytes) n) refl e;
  wants = λ bytes after m e less. wants bytes after m (ltb (length bytes) n) refl e less;
}
  where
    parts : (bytes : List ℕ) (x : A × List ℕ) (b : Bool) → ltb (length bytes) n ≡ b → cond b (Err (Wants (n - length bytes))) (judged test value (take n bytes) (drop n bytes)) ≡ Ok x → (own : List ℕ) × (bytes ≡ own ++ x.1)
    parts bytes x true is e = absurd cc
    parts bytes x false is e = (take n bytes, sym (take-append-drop n bytes) ∙ ap (λ z. take n bytes ++ z) (judged-rest test value (take n bytes) (drop n bytes) x e))

    more : (bytes after : List ℕ) (x : A × List ℕ) (b : Bool) → ltb (length bytes) n ≡ b → cond b (Err (Wants (n - length bytes))) (judged test value (take n bytes) (drop n bytes)) ≡ Ok x → fixed n test value (bytes ++ after) ≡ Ok (x.0, x.1 ++ after)
    more bytes after x true is e = absurd cc
    more bytes after x false is e = fixed-more n test value bytes after (ltb-false _ _ is) ∙ judged-more test value (take n bytes) (drop n bytes) after x e

    wrong : (bytes after : List ℕ) (b : Bool) → ltb (length bytes) n ≡ b → cond b (Err (Wants (n - length bytes))) (judged test value (take n bytes) (drop n bytes)) ≡ Err Wrong → fixed n test value (bytes ++ after) ≡ Err Wrong
    wrong bytes after true is e = absurd cc
    wrong bytes after false is e = fixed-more n test value bytes after (ltb-false _ _ is) ∙ judged-wrong test value (take n bytes) (drop n bytes) (drop n bytes ++ after) e

    small : (bytes : List ℕ) (m : ℕ) (b : Bool) → ltb (length bytes) n ≡ b → cond b (Err (Wants (n - length bytes))) (judged test value (take n bytes) (drop n bytes)) ≡ Err (Wants m) → m ≤ LONGEST_TEXT
    small bytes m true is e =
        let same : n - length bytes ≡ m = wants_is _ _ (err_is {A = A} (Wants (n - length bytes)) (Wants m) e) in
        omega (arith, same, short)
    small bytes m false is e = absurd (judged-wants test value (take n bytes) (drop n bytes) m e)

    wants : (bytes after : List ℕ) (m : ℕ) (b : Bool) → ltb (length bytes) n ≡ b → cond b (Err (Wants (n - length bytes))) (judged test value (take n bytes) (drop n bytes)) ≡ Err (Wants m) → length after < m → fixed n test value (bytes ++ after) ≡ Err (Wants (m - length after))
    wants bytes after m true is e less =
        let few = ltb-true _ _ is in
        let same : n - length bytes ≡ m = wants_is _ _ (err_is {A = A} (Wants (n - length bytes)) (Wants m) e) in
        let all = length-append bytes after in
        fixed-few n test value (bytes ++ after) (omega (arith, few, same, all, less)) ∙ ap (λ z. Err (Wants z)) (omega (arith, few, same, all, less))
    wants bytes after m false is e less = absurd (judged-wants test value (take n bytes) (drop n bytes) m e)

-- so many bytes, whatever follows
pub fixed-again : {A : Type 0} (n : ℕ) (test : List ℕ → Bool) (value : List ℕ → A) (own rest : List ℕ) → length own ≡ n → test own ≡ true → fixed n test value (own ++ rest) ≡ Ok (value own, rest)
fixed-again {A} n test value own rest len good =
    fixed-there n test value (own ++ rest) (omega (arith, len, length-append own rest))
    ∙ (ap (λ z. judged test value z (drop n (own ++ rest))) (take_at own rest n len)
    ∙ (ap (judged test value own) (drop_at own rest n len) ∙ ap (λ z. verdict z (value own, rest)) good))
