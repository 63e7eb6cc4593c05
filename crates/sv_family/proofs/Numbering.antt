-- Each mark and each place stands once in what is shown, whatever a flush does.
use Rattle.std.proofs.Common.{◌≡◌, ◌≢◌, ℕ, ◌+◌, ◌≤◌, List, [], Option, Some, None, Ok, refl, sym, ap, subst, ◌∙◌, arith, ◌⊎◌, ⊎_elim, inl, inr}
use Rattle.std.proofs.lemmas.Bool.{cases_eq}
use Rattle.sv_code.specs.declared.program.Program.{Program}
use Rattle.sv_family.proofs.Patching.{patch_records, given_later}
use Rattle.sv_family.proofs.Removal.{found-gone}
use Rattle.sv_family.proofs.Showing.{patches}
use Rattle.sv_family.specs.Family.{AreSorted, Family, markup_in}
use Rattle.sv_family.specs.Kin.{Kin, Kins, tags_in, insts_now}
use Rattle.sv_family.specs.Numbers.{AreNumbers, numbers_in}
use Rattle.sv_family.specs.Pending.{Pending}
use Rattle.sv_numbered.specs.Numbered.{at}
use Rattle.sv_places.proofs.Lookups.{found-put, found-put_other, found-left}
use Rattle.sv_places.proofs.Typing.{numbers-laid}
use Rattle.sv_places.specs.Keeping.{parts_of}
use Rattle.sv_places.specs.Numbers.{count, given, numbers_all}
use Rattle.sv_plan.specs.Patch.{After, old_parts, patched}
use Rattle.sv_parts.specs.declared.counters.Counters.{Counters}
use Rattle.sv_parts.specs.declared.tally.Tally.{Tally}
use Rattle.sv_shapes.specs.Showing.{Showing, nothing, shown_of, laid_in, laid_on, recorded, removed as unshown}
use Rattle.sv_shapes.specs.Typed.{laid_all}
use Rattle.sv_shapes.specs.declared.shape.Shape.{Shape}
use Rattle.sv_shapes.specs.declared.shown.Shown.{Shown}
use Rattle.sv_tokens.specs.declared.element.Typed.{Typed}
use Rattle.sv_view.specs.Level.{View}
use Rattle.sv_view.specs.View.{insts}

-- with fewer of them
numbers_fewer : (s t : Showing) (next : ℕ) → ((q number : ℕ) → count number (numbers_in t q) ≤ count number (numbers_in s q)) → AreNumbers s next → AreNumbers t next
numbers_fewer s t next less h = record {
  once = λ q number. let a = less q number in let b = h.once q number in omega (arith, a, b);
  apart = λ q r number ne. let a = less q number in let b = less r number in let c = h.apart q r number ne in omega (arith, a, b, c);
}

-- with the same
pub numbers_same : (s t : Showing) (next : ℕ) → ((q : ℕ) → numbers_in t q ≡ numbers_in s q) → AreNumbers s next → AreNumbers t next
numbers_same s t next same h = numbers_fewer s t next (λ q number. let e = ap (count number) (same q) in omega (arith, e)) h

none_counted : (number : ℕ) → count number (numbers_all []) ≡ 0
unfolding numbers_all
none_counted number = refl

pub numbers_blank : (next : ℕ) → AreNumbers nothing next
numbers_blank next = record {
  once = λ q number. let a = none_counted number in omega (arith, a);
  apart = λ q r number ne. let a = none_counted number in omega (arith, a);
}

-- ---- what is shown anew, and no more

module _ (s : Showing) (n : ℕ) (view : View) (parts : List Shape) where
  abbrev after : Showing
  after = recorded s n view parts

  numbers_here : numbers_in after n ≡ numbers_all parts
  numbers_here = ap (λ o. numbers_all (old_parts o)) (found-put s.shown n (record { view = view; parts = parts }))

  numbers_other : (q : ℕ) → q ≢ n → numbers_in after q ≡ numbers_in s q
  numbers_other q other = ap (λ o. numbers_all (old_parts o)) (found-put_other s.shown n _ q other)

  -- where each number that is new is given once
  module _ (next to : ℕ) (more : next ≤ to) (new : (number : ℕ) → count number (numbers_all parts) ≤ count number (numbers_in s n) + given next to number) (h : AreNumbers s next) where
    here_most : (number : ℕ) → count number (numbers_in after n) ≤ count number (numbers_in s n) + given next to number
    here_most number = subst (λ l. count number l ≤ count number (numbers_in s n) + given next to number) (sym numbers_here) (new number)

    most : (q number : ℕ) → (count number (numbers_in after q) ≤ count number (numbers_in s q)) ⊎ (q ≡ n)
    most q number = ⊎_elim (λ here. inr here) (λ other. let e = ap (count number) (numbers_other q other) in inl (omega (arith, e))) (cases_eq q n)

    once_after : (q number : ℕ) → count number (numbers_in after q) ≤ given 0 to number
    once_after q number =
        let sum = given_later next to number more in
        ⊎_elim
        (λ less. let b = h.once q number in omega (arith, sum, less, b))
        (λ here. subst (λ k. count number (numbers_in after k) ≤ given 0 to number) (sym here) (let a = here_most number in let b = h.once n number in omega (arith, sum, a, b)))
        (most q number)

    apart_here : (r number : ℕ) → n ≢ r → count number (numbers_in after n) + count number (numbers_in after r) ≤ given 0 to number
    apart_here r number ne =
        let sum = given_later next to number more in
        let e = ap (count number) (numbers_other r (λ same. ne (sym same))) in
        let a = here_most number in
        let b = h.apart n r number ne in
        omega (arith, sum, e, a, b)

    apart_after : (q r number : ℕ) → q ≢ r → count number (numbers_in after q) + count number (numbers_in after r) ≤ given 0 to number
    apart_after q r number ne = ⊎_elim
        (λ here. subst (λ k. count number (numbers_in after k) + count number (numbers_in after r) ≤ given 0 to number) (sym here) (apart_here r number (subst (λ k. k ≢ r) here ne)))
        (λ other. ⊎_elim
        (λ there. subst (λ k. count number (numbers_in after q) + count number (numbers_in after k) ≤ given 0 to number) (sym there)
        (let a = apart_here q number (λ same. other (sym same)) in omega (arith, a)))
        (λ else. let sum = given_later next to number more in let a = ap (count number) (numbers_other q other) in let b = ap (count number) (numbers_other r else) in let c = h.apart q r number ne in
        omega (arith, sum, a, b, c))
        (cases_eq r n))
        (cases_eq q n)

    numbers_recorded : AreNumbers after to
    numbers_recorded = record { once = once_after; apart = apart_after }

-- what is shown of an instance that goes is gone
pub numbers_gone : (s : Showing) (n next : ℕ) → AreSorted s.shown → AreNumbers s next → AreNumbers (unshown s n) next
numbers_gone s n next sorted h = numbers_fewer s (unshown s n) next less h where
  less : (q number : ℕ) → count number (numbers_in (unshown s n) q) ≤ count number (numbers_in s q)
  less q number = ⊎_elim
      (λ here. let a = ap (λ o. count number (numbers_all (old_parts o))) (ap (λ k. shown_of (unshown s n) k) here ∙ found-gone n s.shown sorted) in let b = none_counted number in omega (arith, a, b))
      (λ other. let e = ap (λ o. count number (numbers_all (old_parts o))) (found-left s.shown n q other) in omega (arith, e))
      (cases_eq q n)

-- a state that a user leaves changes no number
pub numbers_lay : (s : Showing) (next n mark : ℕ) (typed : Typed) → AreNumbers s next → AreNumbers (laid_on s n mark typed) next
numbers_lay s next n mark typed h = by (shown_of s n) refl where
  same : (x : Shown) → shown_of s n ≡ Some x → (q : ℕ) → numbers_in (recorded s n x.view (laid_all mark typed x.parts)) q ≡ numbers_in s q
  same x is q = ⊎_elim
      (λ here. subst (λ k. numbers_in (recorded s n x.view (laid_all mark typed x.parts)) k ≡ numbers_in s k) (sym here)
      (numbers_here s n x.view (laid_all mark typed x.parts) ∙ (numbers-laid mark typed x.parts ∙ sym (ap (λ o. numbers_all (old_parts o)) is))))
      (λ other. numbers_other s n x.view (laid_all mark typed x.parts) q other)
      (cases_eq q n)

  by : (o : Option Shown) → shown_of s n ≡ o → AreNumbers (laid_in s n mark typed o) next
  by None e = h
  by (Some x) e = numbers_same s (recorded s n x.view (laid_all mark typed x.parts)) next (same x e) h

-- a patch gives each number that is new once
module _ (p : Program) (pend : Pending) (ks : Kins) (n : ℕ) (kin : Kin) (live : at ks n ≡ Some kin) (view : View) (now : insts view ≡ insts_now n kin) (s : Showing) (counters : Counters) where
  pub numbers_patched : (h : Family p pend None [] ks s counters.next) (tally : Tally) (after : After) → patched p (tags_in ks view) n (markup_in p ks n) view s counters tally ≡ Ok after →
      AreNumbers s counters.next → AreNumbers after.showing after.counters.next
  numbers_patched h tally after e k =
      let r = patch_records p (tags_in ks view) n (markup_in p ks n) view s counters tally after e in
      let gives = (patches p pend ks n kin live view now s counters h tally after e).gives in
      let parts_are : parts_of after.showing n ≡ r.parts = ap (λ t. parts_of t n) r.is ∙ ap old_parts (found-put s.shown n (record { view = view; parts = r.parts })) in
      subst (λ t. AreNumbers t after.counters.next) (sym r.is)
      (numbers_recorded s n view r.parts counters.next after.counters.next gives.next (λ number. subst (λ xs. count number (numbers_all xs) ≤ count number (numbers_in s n) + given counters.next after.counters.next number) parts_are (gives.numbers number)) k)
