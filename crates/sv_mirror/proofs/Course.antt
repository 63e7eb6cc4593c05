-- How a stream is printed, piece by piece.
use Rattle.std.proofs.Common.{◌≡◌, ◌≤◌, ◌+◌, ℕ, List, [], ◌++◌, length, Option, Some, None, refl, sym, ap, ◌∙◌, arith, take, drop, take-append-drop}
use Rattle.std.specs.Option.{option_or}
use Rattle.sv_io.specs.Sink.{AppendsFront}
use Rattle.sv_watch.specs.Mirror.{blank}
use Rattle.sv_wire.specs.Stream.{Standing, Begun, Open, Ended, Bad, Told, stands, behind, told, resumed}
use Rattle.sv_wire.specs.declared.item.Placed.{Placed}
use Rattle.sv_mirror.proofs.Showing.{printed_from-page}
use Rattle.sv_mirror.proofs.Telling.{so, told-few, resumed-read, piece-few, resumed-none}
use Rattle.sv_mirror.proofs.Writing.{front-of, prints-none, prints-same, prints-then, prints-front}
use Rattle.sv_mirror.specs.Faults.{bad_of}
use Rattle.sv_mirror.specs.Printed.{Printed, ends, printed}
use Rattle.sv_mirror.specs.Screen.{from_page, printed_on, left, Prints}
use Rattle.sv_mirror.specs.declared.fault.StreamFault.{StreamFault}
use Rattle.sv_mirror.specs.declared.screen.Screen.{Screen}

-- ---- a piece

-- wrong bytes leave nothing
left-bad : (s : Standing) (screen : Screen) (rest : List ℕ) → printed_on screen (resumed s rest) ≡ left (bad_of s) (printed_on screen (resumed s rest))
left-bad (Begun bytes) screen rest = refl
left-bad (Open at bytes) screen rest = refl
left-bad (Ended at) screen rest = refl
left-bad (Bad at) screen rest = refl

left-or : (unfit bad : Option StreamFault) (p : Printed) → p ≡ left bad p → left unfit p ≡ left (option_or unfit bad) p
left-or None bad p is = is
left-or (Some fault) bad p is = refl

module _ (s now : Standing) (piece : List ℕ) (items : List Placed) (is : resumed s piece ≡ so now items) where
  pub piece-prints : (old new : Option (List ℕ)) (was screen : Screen) (unfit bad fault : Option StreamFault) → bad ≡ bad_of now → fault ≡ option_or unfit bad
      → ((t : Told) → Prints old new (printed_on was (behind items t)) (left unfit (printed_on screen t)))
      → (rest : List ℕ) → Prints old new (printed_on was (resumed s (piece ++ rest))) (left fault (printed_on screen (resumed now rest)))
  piece-prints old new was screen unfit bad fault wrong one prints rest =
      let p = printed_on screen (resumed now rest) in
      prints-same (printed_on was (resumed s (piece ++ rest))) (left fault p) (ap (printed_on was) (resumed-read s now piece rest items is))
      (left-or unfit bad p (left-bad now screen rest ∙ ap (λ z. left z p) (sym wrong)) ∙ ap (λ z. left z p) (sym one)) (prints (resumed now rest))

  pub piece-front : (old new : Option (List ℕ)) (was : Screen) → ((t : Told) → AppendsFront old new (printed_on was (behind items t)).turns) → (rest : List ℕ)
      → AppendsFront old new (printed_on was (resumed s (piece ++ rest))).turns
  piece-front old new was front rest =
      front-of (printed_on was (behind items (resumed now rest))).turns (printed_on was (resumed s (piece ++ rest))).turns (ap (λ t. (printed_on was t).turns) (resumed-read s now piece rest items is))
      (front (resumed now rest))

-- ---- pieces

pub split-is : (n : ℕ) (rest piece more : List ℕ) → piece ≡ take n rest → more ≡ drop n rest → rest ≡ piece ++ more
split-is n rest piece more front back = sym (take-append-drop n rest) ∙ (ap (λ z. z ++ drop n rest) (sym front) ∙ ap (λ z. piece ++ z) (sym back))

-- the bytes before the rest were read, and their turns printed
pub record Read (bytes rest : List ℕ) (old now : Option (List ℕ)) (s : Standing) (screen : Screen) : Type 0 where
  pub prints : Prints old now (printed bytes) (printed_on screen (resumed s rest))
  pub settled : resumed s [] ≡ stands s
  pub sound : bad_of s ≡ None
  pub few : screen.turns + length (resumed s rest).items ≤ length bytes

pub read-none : (bytes : List ℕ) (old : Option (List ℕ)) (s : Standing) (screen : Screen) → s ≡ Begun [] → told [] ≡ stands s → screen.page ≡ blank → screen.turns ≡ 0 → Read bytes bytes old old s screen
read-none bytes old s screen begun none page turns =
    let all : resumed s bytes ≡ told bytes = ap (λ z. resumed z bytes) begun in
    let same : printed_on screen (resumed s bytes) ≡ from_page (told bytes).items (told bytes).standing blank 0 =
    ap (printed_on screen) all ∙ (ap (λ v. from_page (told bytes).items (told bytes).standing v screen.turns) page ∙ ap (from_page (told bytes).items (told bytes).standing blank) turns) in
    let count = ap (λ (t : Told). length t.items) all in
    record {
      prints = prints-same (printed bytes) (printed_on screen (resumed s bytes)) (printed_from-page (told bytes).items (told bytes).standing [] 0) (sym same) (prints-none old (from_page (told bytes).items (told bytes).standing blank 0));
      settled = ap (λ z. resumed z []) begun ∙ none;
      sound = ap bad_of begun;
      few = omega (arith, turns, count, told-few bytes);
    }

module _ (bytes rest piece more : List ℕ) (old mid new : Option (List ℕ)) (s now : Standing) (was screen : Screen) (read : Read bytes rest old mid s was) (parts : rest ≡ piece ++ more) where
  abbrev whole : Printed
  whole = printed_on was (resumed s (piece ++ more))

  whole-is : printed_on was (resumed s rest) ≡ whole
  whole-is = ap (λ z. printed_on was (resumed s z)) parts

  pub room : was.turns + length (resumed s piece).items ≤ length bytes
  room =
      let few = read.few in
      let all = ap (λ (z : List ℕ). length (resumed s z).items) parts in
      omega (arith, few, all, piece-few s piece more)

  read-prints : (next : Printed) → Prints mid new whole next → Prints old new (printed bytes) next
  read-prints next p = prints-then read.prints (prints-same (printed_on was (resumed s rest)) next whole-is refl p)

  pub read-front : AppendsFront mid new (printed_on was (resumed s (piece ++ more))).turns → AppendsFront old new (printed bytes).turns
  read-front f = prints-front read.prints (front-of whole.turns (printed_on was (resumed s rest)).turns (ap (λ p. p.turns) whole-is) f)

  module _ (fault : Option StreamFault) (step : (rest : List ℕ) → Prints mid new (printed_on was (resumed s (piece ++ rest))) (left fault (printed_on screen (resumed now rest)))) where
    step-is : (next : Printed) → left fault (printed_on screen (resumed now more)) ≡ next → Prints old new (printed bytes) next
    step-is next is = read-prints next (prints-same whole next refl is (step more))

    -- it was the last
    pub read-last : (last : StreamFault) → fault ≡ Some last → Prints old new (printed bytes) (ends (Some last))
    read-last last is = step-is (ends (Some last)) (ap (λ z. left z (printed_on screen (resumed now more))) is)

    pub read-more : fault ≡ None → now ≡ (resumed s piece).standing → bad_of now ≡ None → screen.turns ≤ was.turns + length (resumed s piece).items → Read bytes more old new now screen
    read-more is stands_so sound few = record {
      prints = step-is (printed_on screen (resumed now more)) (ap (λ z. left z (printed_on screen (resumed now more))) is);
      settled = resumed-none s now piece stands_so;
      sound = sound;
      few =
          let before = read.few in
          let all = ap (λ (z : List ℕ). length (resumed s z).items) parts in
          let next = ap (λ (z : Standing). length (resumed z more).items) stands_so in
          omega (arith, few, before, all, next, piece-few s piece more);
    }
