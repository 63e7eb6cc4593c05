-- What is read of one live.
use Rattle.std.proofs.Common.{◌≡◌, ℕ, List, [], ◌∷◌, Bool, true, false, Option, Some, None, refl, ap, sym, ◌∙◌, arith}
use Rattle.std.specs.Prelude.{if◌then◌else◌}
use Rattle.std.proofs.lemmas.Bool.{eqb-true}
use Rattle.sv_live.specs.declared.live.Named.{Named}
use Rattle.sv_live.specs.declared.live.Live.{Live}
use Rattle.sv_live.specs.declared.live.Live.TheVariants as live
use Rattle.sv_live.specs.declared.node.Own.{Own}
use Rattle.sv_live.specs.Known.{by_mark, by_place, number, number_in, answers, or_else, known, seat, seat_in}

pub number-Text : (mark : ℕ) (n : Named) (text : List ℕ) → number (live.Text mark n text) ≡ by_mark mark
number-Text mark n text = ap number_in (live.outs-Text mark n text)

pub number-Element : (n : Named) (own : Own) (parts : List Live) → number (live.Element n own parts) ≡ by_mark own.mark
number-Element n own parts = ap number_in (live.outs-Element n own parts)

pub number-Hole : (place anchor : ℕ) (parts : List Live) → number (live.Hole place anchor parts) ≡ by_place place
number-Hole place anchor parts = ap number_in (live.outs-Hole place anchor parts)

pub seat-Hole : (place anchor : ℕ) (parts : List Live) → seat (Some (live.Hole place anchor parts)) ≡ Some (record { anchor = anchor; parts = parts })
seat-Hole place anchor parts = ap seat_in (live.outs-Hole place anchor parts)

-- what is known by a number has it
pub known-number : (n : ℕ) (xs : List Live) (l : Live) → known n xs ≡ Some l → number l ≡ n
known-number n [] l e = absurd (never e)
  where
    never : None ≡ Some l → ⊥
    never h = cc
known-number n (x ∷ xs) l e = go (known n xs) refl (known-number n xs l) (answers n x) refl
  where
    never : None ≡ Some l → ⊥
    never h = cc

    same : Some x ≡ Some l → x ≡ l
    same h = cc

    go : (o : Option Live) → known n xs ≡ o → (known n xs ≡ Some l → number l ≡ n) → (b : Bool) → answers n x ≡ b → number l ≡ n
    go (Some m) is deeper b hit = deeper (is ∙ (sym (ap (λ z. or_else z (if answers n x then Some x else None)) is) ∙ e))
    go None is deeper true hit = let h = (λ i. or_else (sym is i) (if sym hit i then Some x else None)) ∙ e in ap number (sym (same h)) ∙ eqb-true (number x) n hit
    go None is deeper false hit = absurd (never ((λ i. or_else (sym is i) (if sym hit i then Some x else None)) ∙ e))

-- the mark, or the place, of what is known by its number
pub mark-Text : (n mark m : ℕ) (named : Named) (text : List ℕ) (xs : List Live) (l : Live) → known n xs ≡ Some l → n ≡ by_mark mark → l ≡ live.Text m named text → m ≡ mark
mark-Text n mark m named text xs l found is shape =
    let a = sym (number-Text m named text) ∙ (ap number (sym shape) ∙ known-number n xs l found) in omega (arith, a, is)

pub place-Hole : (n place p anchor : ℕ) (parts : List Live) (xs : List Live) (l : Live) → known n xs ≡ Some l → n ≡ by_place place → l ≡ live.Hole p anchor parts → p ≡ place
place-Hole n place p anchor parts xs l found is shape =
    let a = sym (number-Hole p anchor parts) ∙ (ap number (sym shape) ∙ known-number n xs l found) in omega (arith, a, is)

-- nothing but a child component is known by the number of a place
pub no-Text : (n place m : ℕ) (named : Named) (text : List ℕ) (xs : List Live) (l : Live) → known n xs ≡ Some l → n ≡ by_place place → l ≡ live.Text m named text → ⊥
no-Text n place m named text xs l found is shape =
    let a = sym (number-Text m named text) ∙ (ap number (sym shape) ∙ known-number n xs l found) in omega (arith, a, is)

pub no-Element : (n place : ℕ) (named : Named) (own : Own) (parts : List Live) (xs : List Live) (l : Live) → known n xs ≡ Some l → n ≡ by_place place → l ≡ live.Element named own parts → ⊥
no-Element n place named own parts xs l found is shape =
    let a = sym (number-Element named own parts) ∙ (ap number (sym shape) ∙ known-number n xs l found) in omega (arith, a, is)
