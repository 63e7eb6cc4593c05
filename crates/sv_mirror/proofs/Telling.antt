-- What the bytes of a stream tell, piece by piece.
use Rattle.std.proofs.Common.{◌≡◌, ◌<◌, ◌≤◌, ◌+◌, ◌-◌, ℕ, zero, suc, Bool, true, false, cond, List, [], ◌∷◌, ◌++◌, length, drop, Result, Ok, Err, refl, sym, ap, ◌∙◌, append_assoc, append-nil, arith}
use Rattle.std.proofs.lemmas.List.{length-append, length-drop, nil_from_length}
use Rattle.sv_wire.proofs.Items.{shorter}
use Rattle.sv_wire.proofs.Streams.{told-is, cut-at, cut, onward}
use Rattle.sv_wire.specs.Reading.{Outcome, item_at}
use Rattle.sv_wire.specs.Spelling.{head}
use Rattle.sv_wire.specs.Stream.{Standing, Begun, Open, Ended, Bad, Told, stands, behind, after_end, is_end, told_at, begun, from_head, told, resumed}
use Rattle.sv_wire.specs.declared.flaw.Flaw.{Flaw}
use Rattle.sv_wire.specs.declared.flaw.Flaw.TheVariants.{Wants, Wrong}
use Rattle.sv_wire.specs.declared.item.Item.{Item}
use Rattle.sv_wire.specs.declared.item.Placed.{Placed}

-- ---- no more items than bytes

few-behind : (at : ℕ) (bytes : List ℕ) (last : Bool) (n : ℕ) → length (told_at at bytes).items ≤ n → length (cond last (after_end at bytes) (told_at at bytes)).items ≤ n
few-behind at [] true n few = omega arith
few-behind at (b ∷ bytes) true n few = omega arith
few-behind at bytes false n few = few

few-within : (n at : ℕ) (bytes : List ℕ) → length bytes < n → length (told_at at bytes).items ≤ length bytes
few-within zero at bytes less = absurd (omega (arith, less))
few-within (suc n) at bytes less = go (λ next rest. few-within n next rest) (item_at bytes) refl
  where
    go : ((next : ℕ) (rest : List ℕ) → length rest < n → length (told_at next rest).items ≤ length rest) → (o : Outcome Item) → item_at bytes ≡ o → length (told_at at bytes).items ≤ length bytes
    go ih (Ok x) is =
        let short = shorter bytes x is in
        let next : ℕ = at + (length bytes - length x.1) in
        let more = few-behind next x.1 (is_end x.0) (length x.1) (ih next x.1 (omega (arith, less, short))) in
        let own = ap (λ (t : Told). length t.items) (told-is at bytes (Ok x) is) in
        omega (arith, short, more, own)
    go ih (Err Wrong) is = let own = ap (λ (t : Told). length t.items) (told-is at bytes (Err Wrong) is) in omega (arith, own)
    go ih (Err (Wants count)) is = let own = ap (λ (t : Told). length t.items) (told-is at bytes (Err (Wants count)) is) in omega (arith, own)

pub told-few : (bytes : List ℕ) → length (told bytes).items ≤ length bytes
unfolding told
told-few bytes = go (begun head bytes)
  where
    go : (o : Result (Unit {0}) Flaw) → length (from_head bytes o).items ≤ length bytes
    go (Ok u) = let rest = few-within (suc (length (drop 4 bytes))) 4 (drop 4 bytes) (omega arith) in omega (arith, rest, length-drop 4 bytes)
    go (Err Wrong) = omega arith
    go (Err (Wants count)) = omega arith

-- ---- pieces

abbrev pub so : Standing → List Placed → Told
so standing items = record { items = items; standing = standing }

-- more bytes may come in two pieces
pub resumed-cut : (s : Standing) (piece more : List ℕ) → resumed s (piece ++ more) ≡ onward (resumed s piece) more
resumed-cut (Begun held) piece more = ap told (sym (append_assoc held piece more)) ∙ cut (held ++ piece) more
resumed-cut (Open at held) piece more = ap (told_at at) (sym (append_assoc held piece more)) ∙ cut-at at (held ++ piece) more
resumed-cut (Ended at) [] more = refl
resumed-cut (Ended at) (b ∷ piece) more = refl
resumed-cut (Bad at) piece more = refl

-- what is told of a piece stands before what more bytes tell
pub resumed-read : (s now : Standing) (piece more : List ℕ) (items : List Placed) → resumed s piece ≡ so now items → resumed s (piece ++ more) ≡ behind items (resumed now more)
resumed-read s now piece more items is = resumed-cut s piece more ∙ ap (λ t. onward t more) is

-- a piece tells no more items than what begins with it
pub piece-few : (s : Standing) (piece more : List ℕ) → length (resumed s piece).items + length (resumed (resumed s piece).standing more).items ≡ length (resumed s (piece ++ more)).items
piece-few s piece more =
    let all = ap (λ (t : Told). length t.items) (resumed-cut s piece more) in
    omega (arith, all, length-append (resumed s piece).items (resumed (resumed s piece).standing more).items)

same-told : (t : Told) (s : Standing) → t.items ≡ [] → t.standing ≡ s → t ≡ stands s
same-told t s none is = ap (so t.standing) none ∙ ap (λ z. so z []) is

-- behind a piece nothing is told before more bytes come
pub resumed-none : (s now : Standing) (piece : List ℕ) → now ≡ (resumed s piece).standing → resumed now [] ≡ stands now
resumed-none s now piece is =
    let t = resumed s piece in
    let next = resumed t.standing [] in
    let whole : t ≡ behind t.items next = ap (resumed s) (sym (append-nil piece)) ∙ resumed-cut s piece [] in
    let all = ap (λ (z : Told). length z.items) whole in
    let none : next.items ≡ [] = nil_from_length next.items (omega (arith, all, length-append t.items next.items)) in
    ap (λ z. resumed z []) is ∙ (same-told next t.standing none (sym (ap (λ (z : Told). z.standing) whole)) ∙ ap stands (sym is))
