-- What bytes tell: item by item, and however they are cut.
use Rattle.std.proofs.Common.{◌≡◌, ◌<◌, ◌≤◌, ◌==◌, ℕ, zero, suc, ◌+◌, ◌-◌, Bool, true, false, cond, List, [], ◌∷◌, ◌++◌, length, drop, Result, Ok, Err, refl, sym, ap, ◌∙◌, arith}
use Rattle.std.proofs.lemmas.List.{length-append, drop-append-le}
use Rattle.sv_wire.specs.declared.flaw.Flaw.{Flaw}
use Rattle.sv_wire.specs.declared.flaw.Flaw.TheVariants.{Wants, Wrong}
use Rattle.sv_wire.specs.declared.item.Item.{Item}
use Rattle.sv_wire.specs.declared.item.Placed.{Placed}
use Rattle.sv_wire.specs.Spelling.{head}
use Rattle.sv_wire.specs.Reading.{Outcome, item_at}
use Rattle.sv_wire.specs.Stream.{Told, behind, after_end, is_end, from_item, from_outcome, told_within, told_at, begun, from_head, told, resumed}
use Rattle.sv_wire.proofs.Items.{item-lawful, shorter}

-- ---- item by item

enough : (n m at : ℕ) (bytes : List ℕ) → length bytes < n → length bytes < m → told_within n at bytes ≡ told_within m at bytes
unfolding told_within
enough zero m at bytes a b = absurd (omega (arith, a))
enough (suc n) zero at bytes a b = absurd (omega (arith, b))
enough (suc n) (suc m) at bytes a b = go (λ next rest. enough n m next rest) (item_at bytes) refl
  where
    go : ((next : ℕ) (rest : List ℕ) → length rest < n → length rest < m → told_within n next rest ≡ told_within m next rest) → (o : Outcome Item) → item_at bytes ≡ o → from_outcome (told_within n) at bytes o ≡ from_outcome (told_within m) at bytes o
    go ih (Ok x) is =
        let less = shorter bytes x is in
        let next : ℕ = at + (length bytes - length x.1) in
        ap (λ z. behind (record { at = at; item = x.0 } ∷ []) (cond (is_end x.0) (after_end next x.1) z)) (ih next x.1 (omega (arith, a, less)) (omega (arith, b, less)))
    go ih (Err Wrong) is = refl
    go ih (Err (Wants count)) is = refl

pub told-by : (at : ℕ) (bytes : List ℕ) → told_at at bytes ≡ from_outcome told_at at bytes (item_at bytes)
unfolding told_at told_within
told-by at bytes = go (item_at bytes) refl
  where
    go : (o : Outcome Item) → item_at bytes ≡ o → from_outcome (told_within (length bytes)) at bytes o ≡ from_outcome told_at at bytes o
    go (Ok x) is =
        let less = shorter bytes x is in
        let next : ℕ = at + (length bytes - length x.1) in
        ap (λ z. behind (record { at = at; item = x.0 } ∷ []) (cond (is_end x.0) (after_end next x.1) z)) (enough (length bytes) (suc (length x.1)) next x.1 less (omega arith))
    go (Err Wrong) is = refl
    go (Err (Wants count)) is = refl

pub told-is : (at : ℕ) (bytes : List ℕ) (o : Outcome Item) → item_at bytes ≡ o → told_at at bytes ≡ from_outcome told_at at bytes o
told-is at bytes o is = told-by at bytes ∙ ap (from_outcome told_at at bytes) is

-- ---- however they are cut

-- what more bytes tell behind what was told
abbrev pub onward : Told → List ℕ → Told
onward t more = behind t.items (resumed t.standing more)

after-cut : (at : ℕ) (rest more : List ℕ) → after_end at (rest ++ more) ≡ onward (after_end at rest) more
after-cut at [] more = refl
after-cut at (b ∷ rest) more = refl

same-next : (bytes rest more : List ℕ) (at : ℕ) → length rest < length bytes → at + (length (bytes ++ more) - length (rest ++ more)) ≡ at + (length bytes - length rest)
same-next bytes rest more at less = omega (arith, less, length-append bytes more, length-append rest more)

cut-within : (n at : ℕ) (bytes more : List ℕ) → length bytes < n → told_at at (bytes ++ more) ≡ onward (told_at at bytes) more
cut-within zero at bytes more a = absurd (omega (arith, a))
cut-within (suc n) at bytes more a = go (λ next rest. cut-within n next rest more) (item_at bytes) refl
  where
    go : ((next : ℕ) (rest : List ℕ) → length rest < n → told_at next (rest ++ more) ≡ onward (told_at next rest) more) → (o : Outcome Item) → item_at bytes ≡ o → told_at at (bytes ++ more) ≡ onward (told_at at bytes) more
    go ih (Ok x) is =
        let less = shorter bytes x is in
        let next : ℕ = at + (length bytes - length x.1) in
        let own : List Placed = record { at = at; item = x.0 } ∷ [] in
        let pick : (e : Bool) → cond e (after_end next (x.1 ++ more)) (told_at next (x.1 ++ more)) ≡ onward (cond e (after_end next x.1) (told_at next x.1)) more =
        λ e. elim e as (λ e. cond e (after_end next (x.1 ++ more)) (told_at next (x.1 ++ more)) ≡ onward (cond e (after_end next x.1) (told_at next x.1)) more) [
          | true ↦ after-cut next x.1 more
          | false ↦ ih next x.1 (omega (arith, a, less))
        ] in
        told-is at (bytes ++ more) (Ok (x.0, x.1 ++ more)) (item-lawful.more bytes more x is)
        ∙ (ap (λ z. from_item told_at at x.0 z (x.1 ++ more)) (same-next bytes x.1 more at less)
        ∙ (ap (behind own) (pick (is_end x.0)) ∙ ap (λ z. onward z more) (sym (told-is at bytes (Ok x) is))))
    go ih (Err Wrong) is =
        told-is at (bytes ++ more) (Err Wrong) (item-lawful.wrong bytes more is) ∙ ap (λ z. onward z more) (sym (told-is at bytes (Err Wrong) is))
    go ih (Err (Wants count)) is = ap (λ z. onward z more) (sym (told-is at bytes (Err (Wants count)) is))

pub cut-at : (at : ℕ) (bytes more : List ℕ) → told_at at (bytes ++ more) ≡ onward (told_at at bytes) more
cut-at at bytes more = cut-within (suc (length bytes)) at bytes more (omega arith)

-- ---- the head

begun-more : (start bytes more : List ℕ) (o : Result (Unit {0}) Flaw) → (o ≡ Err (Wants 1) → ⊥) → begun start bytes ≡ o → begun start (bytes ++ more) ≡ o
begun-more [] bytes more o some e = e
begun-more (h ∷ start) [] more o some e = absurd (some (sym e))
begun-more (h ∷ start) (b ∷ bytes) more o some e = go (begun-more start bytes more o some) (b == h) e
  where
    go : (begun start bytes ≡ o → begun start (bytes ++ more) ≡ o) → (z : Bool) → cond z (begun start bytes) (Err Wrong) ≡ o → cond z (begun start (bytes ++ more)) (Err Wrong) ≡ o
    go ih true e = ih e
    go ih false e = e

pub begun-long : (start bytes : List ℕ) → begun start bytes ≡ Ok tt → length start ≤ length bytes
begun-long [] bytes e = omega arith
begun-long (h ∷ start) [] e = absurd cc
begun-long (h ∷ start) (b ∷ bytes) e = go (begun-long start bytes) (b == h) e
  where
    go : (begun start bytes ≡ Ok tt → length start ≤ length bytes) → (z : Bool) → cond z (begun start bytes) (Err Wrong) ≡ Ok tt → suc (length start) ≤ suc (length bytes)
    go ih true e = let less = ih e in omega (arith, less)
    go ih false e = absurd cc

-- it wants one byte more, or nothing
pub begun-wants : (start bytes : List ℕ) (n : ℕ) → begun start bytes ≡ Err (Wants n) → begun start bytes ≡ Err (Wants 1)
begun-wants [] bytes n e = absurd cc
begun-wants (h ∷ start) [] n e = refl
begun-wants (h ∷ start) (b ∷ bytes) n e = go (begun-wants start bytes n) (b == h) e
  where
    go : (begun start bytes ≡ Err (Wants n) → begun start bytes ≡ Err (Wants 1)) → (z : Bool) → cond z (begun start bytes) (Err Wrong) ≡ Err (Wants n) → cond z (begun start bytes) (Err Wrong) ≡ Err (Wants 1)
    go ih true e = ih e
    go ih false e = absurd cc

pub cut : (bytes more : List ℕ) → told (bytes ++ more) ≡ onward (told bytes) more
unfolding told
cut bytes more = go (begun head bytes) refl
  where
    go : (o : Result (Unit {0}) Flaw) → begun head bytes ≡ o → from_head (bytes ++ more) (begun head (bytes ++ more)) ≡ onward (from_head bytes (begun head bytes)) more
    go (Ok u) is =
        let long : 4 ≤ length bytes = begun-long head bytes is in
        ap (from_head (bytes ++ more)) (begun-more head bytes more (Ok tt) (λ e. absurd cc) is)
        ∙ (ap (told_at 4) (drop-append-le 4 bytes more long) ∙ (cut-at 4 (drop 4 bytes) more ∙ ap (λ z. onward (from_head bytes z) more) (sym is)))
    go (Err Wrong) is = ap (from_head (bytes ++ more)) (begun-more head bytes more (Err Wrong) (λ e. absurd cc) is) ∙ ap (λ z. onward (from_head bytes z) more) (sym is)
    go (Err (Wants n)) is = ap (λ z. onward (from_head bytes z) more) (sym is)
