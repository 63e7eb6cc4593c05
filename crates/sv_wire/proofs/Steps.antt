-- How a reader comes to how its stream stands.
use Rattle.std.proofs.Common.{◌≡◌, ◌<◌, ◌≤◌, ℕ, ◌+◌, ◌-◌, true, false, cond, List, [], ◌∷◌, ◌++◌, length, take, drop, Result, Ok, Err, refl, sym, ap, subst, ◌∙◌, append_assoc, arith}
use Rattle.std.proofs.lemmas.List.{take_all, append-nil, drop-drop, length-append, length-drop, take_at, nil_from_length}
use Rattle.sv_wire.specs.declared.flaw.Flaw.{Flaw}
use Rattle.sv_wire.specs.declared.flaw.Flaw.TheVariants.{Wants, Wrong}
use Rattle.sv_wire.specs.declared.item.Item.{Item}
use Rattle.sv_wire.specs.declared.item.Placed.{Placed}
use Rattle.sv_wire.specs.declared.state.Part.{Part}
use Rattle.sv_wire.specs.declared.state.Part.TheVariants as part
use Rattle.sv_wire.specs.declared.state.State.{State}
use Rattle.sv_wire.specs.declared.state.State.TheVariants as state
use Rattle.sv_wire.specs.declared.step.Step.{Step}
use Rattle.sv_wire.specs.declared.step.Step.TheVariants as step
use Rattle.sv_wire.specs.declared.flaw.ReadError.{ReadError}
use Rattle.sv_wire.specs.declared.flaw.ReadError.TheVariants as errors
use Rattle.sv_wire.specs.declared.reader.WireError.{WireError}
use Rattle.sv_wire.specs.declared.reader.WireError.TheVariants as wire
use Rattle.sv_wire.specs.Spelling.{head}
use Rattle.sv_wire.specs.Reading.{Outcome, Fails, item_at}
use Rattle.sv_wire.specs.Stream.{Standing, Begun, Open, Ended, Bad, Told, stands, behind, after_end, is_end, from_item, told_at, begun, from_head, told, resumed}
use Rattle.sv_wire.specs.Reader.{standing_in, from_part, WantsMore, standing_of, IsSettled, Grown, IsRead, IsStopped, Steps, Reaches, answer_of, IfRead, IfWants}
use Rattle.sv_wire.proofs.Items.{item-lawful, shorter}
use Rattle.sv_wire.proofs.Streams.{told-is, begun-wants, begun-long, cut, onward}

-- ---- lists

-- told so
abbrev so : Standing → List Placed → Told
so standing items = record { items = items; standing = standing }

behind-behind : (old : List Placed) (own : List Placed) (t : Told) → behind old (behind own t) ≡ behind (old ++ own) t
behind-behind old own t = ap (so t.standing) (sym (append_assoc old own t.items))

pub grown-none : {A : Type 0} (xs : List A) → Grown xs xs
grown-none xs = record { added = []; is = sym (append-nil xs) }

pub grown-by : {A : Type 0} (xs ys own : List A) → ys ≡ xs ++ own → Grown xs ys
grown-by xs ys own is = record { added = own; is = is }

pub grown-then : {A : Type 0} (xs ys zs : List A) → Grown xs ys → Grown ys zs → Grown xs zs
grown-then xs ys zs first second = record {
  added = first.added ++ second.added;
  is = second.is ∙ (ap (λ z. z ++ second.added) first.is ∙ append_assoc xs first.added second.added);
}

pub grown-taken : {A : Type 0} (xs ys : List A) → Grown xs ys → take (length xs) ys ≡ xs
grown-taken xs ys grown = ap (take (length xs)) grown.is ∙ take_at xs grown.added (length xs) refl

-- the bytes from a place on
pub rest-whole : (n : ℕ) (bytes : List ℕ) → take (length bytes - n) (drop n bytes) ≡ drop n bytes
rest-whole n bytes = take_all (length bytes - n) (drop n bytes) (omega (arith, length-drop n bytes))

pub rest-length : (n : ℕ) (bytes : List ℕ) → length (take (length bytes - n) (drop n bytes)) ≡ length bytes - n
rest-length n bytes = ap length (rest-whole n bytes) ∙ length-drop n bytes

-- ---- one item

-- the bytes are wrong, or less than an item
pub fails-so : (error : ReadError) (flaw said : Flaw) (outcome : Outcome Item) → Fails error outcome → error ≡ errors.Flaw flaw → flaw ≡ said → outcome ≡ Err said
fails-so error flaw said outcome fails is same = let h : outcome ≡ Err flaw = subst (λ (z : ReadError). Fails z outcome) is fails in h ∙ ap Err same

pub step-read : (at used : ℕ) (bytes : List ℕ) (s : Step) (count : ℕ) (old new : List Placed) → Steps at (take (length bytes - used) (drop used bytes)) s old new → s ≡ step.Read count
    → IsRead at (drop used bytes) count old new
step-read at used bytes s count old new steps is =
    subst (λ (z : List ℕ). IsRead at z count old new) (rest-whole used bytes) (subst (λ (z : Step). Steps at (take (length bytes - used) (drop used bytes)) z old new) is steps)

pub step-stop : (at used : ℕ) (bytes : List ℕ) (s : Step) (now : State) (old new : List Placed) → Steps at (take (length bytes - used) (drop used bytes)) s old new → s ≡ step.Stop now
    → IsStopped at (drop used bytes) now old new
step-stop at used bytes s now old new steps is =
    subst (λ (z : List ℕ). IsStopped at z now old new) (rest-whole used bytes) (subst (λ (z : Step). Steps at (take (length bytes - used) (drop used bytes)) z old new) is steps)

item-told : (at count : ℕ) (bytes : List ℕ) (x : Item) → item_at bytes ≡ Ok (x, drop count bytes) → count ≤ length bytes → told_at at bytes ≡ from_item told_at at x (at + count) (drop count bytes)
item-told at count bytes x is bound =
    let size : length bytes - length (drop count bytes) ≡ count = omega (arith, length-drop count bytes, bound) in
    told-is at bytes (Ok (x, drop count bytes)) is ∙ ap (λ z. from_item told_at at x (at + z) (drop count bytes)) size

pub read-one : (at count : ℕ) (bytes : List ℕ) (x : Item) (old new : List Placed) → item_at bytes ≡ Ok (x, drop count bytes) → count ≤ length bytes → is_end x ≡ false
    → new ≡ old ++ record { at = at; item = x } ∷ [] → IsRead at bytes count old new
read-one at count bytes x old new is bound goes put =
    let own : List Placed = record { at = at; item = x } ∷ [] in
    let rest : List ℕ = drop count bytes in
    let less = shorter bytes (x, rest) is in
    record {
      some = omega (arith, less, length-drop count bytes, bound);
      bound = bound;
      told = ap (behind old) (item-told at count bytes x is bound ∙ ap (λ z. behind own (cond z (after_end (at + count) rest) (told_at (at + count) rest))) goes)
          ∙ (behind-behind old own (told_at (at + count) rest) ∙ ap (λ z. behind z (told_at (at + count) rest)) (sym put));
    }

pub read-last : (at count : ℕ) (bytes : List ℕ) (x : Item) (now : State) (old new : List Placed) → item_at bytes ≡ Ok (x, drop count bytes) → count ≤ length bytes → is_end x ≡ true
    → new ≡ old ++ record { at = at; item = x } ∷ [] → ((held : List ℕ) → after_end (at + count) (drop count bytes) ≡ stands (standing_of now held)) → ((held : List ℕ) → IsSettled now held)
    → IsStopped at bytes now old new
read-last at count bytes x now old new is bound ends put stood settled =
    let own : List Placed = record { at = at; item = x } ∷ [] in
    let rest : List ℕ = drop count bytes in
    record {
      told = ap (behind old) (item-told at count bytes x is bound ∙ (ap (λ z. behind own (cond z (after_end (at + count) rest) (told_at (at + count) rest))) ends ∙ ap (behind own) (stood bytes)))
          ∙ (behind-behind old own (stands (standing_of now bytes)) ∙ ap (λ z. behind z (stands (standing_of now bytes))) (sym put));
      settled = settled bytes;
    }

pub read-less : (at more : ℕ) (bytes : List ℕ) (items : List Placed) → item_at bytes ≡ Err (Wants more) → IsStopped at bytes (state.Unfinished (part.Item at) (length bytes + more)) items items
read-less at more bytes items is = record {
  told = ap (behind items) (told-is at bytes (Err (Wants more)) is);
  settled = is ∙ ap (λ z. Err (Wants z)) (omega arith);
}

pub read-wrong : (at : ℕ) (bytes : List ℕ) (items : List Placed) → item_at bytes ≡ Err Wrong → IsStopped at bytes (state.Bad at) items items
read-wrong at bytes items is = record { told = ap (behind items) (told-is at bytes (Err Wrong) is); settled = tt }

-- ---- items

-- what bytes tell is what is there, and then what is left of them tells
pub record Reading (was : Told) (bytes : List ℕ) (at used : ℕ) (old new : List Placed) : Type 0 where
  pub told : behind old was ≡ behind new (told_at at (drop used bytes))
  pub bound : used ≤ length bytes

pub reading-more : (was : Told) (bytes : List ℕ) (at used count : ℕ) (old mid new : List Placed) → Reading was bytes at used old mid → IsRead at (drop used bytes) count mid new
    → Reading was bytes (at + count) (used + count) old new
reading-more was bytes at used count old mid new so_far one = record {
  told = so_far.told ∙ (one.told ∙ ap (λ z. behind new (told_at (at + count) z)) (drop-drop count used bytes));
  bound = let a = so_far.bound in let b = one.bound in omega (arith, a, b, length-drop used bytes);
}

pub reading-ends : (was : Told) (bytes : List ℕ) (at used : ℕ) (now : State) (old mid new : List Placed) → Reading was bytes at used old mid → IsStopped at (drop used bytes) now mid new
    → Reaches was bytes now used old new
reading-ends was bytes at used now old mid new so_far one = record {
  told = so_far.told ∙ one.told;
  settled = one.settled;
  bound = so_far.bound;
}

-- ---- the head

told-from : (bytes : List ℕ) (o : Result (Unit {0}) Flaw) → begun head bytes ≡ o → told bytes ≡ from_head bytes o
unfolding told
told-from bytes o is = ap (from_head bytes) is

pub head-there : (bytes : List ℕ) → begun head bytes ≡ Ok tt → told bytes ≡ told_at 4 (drop 4 bytes)
head-there bytes is = told-from bytes (Ok tt) is

pub head-long : (bytes : List ℕ) → begun head bytes ≡ Ok tt → 4 ≤ length bytes
head-long bytes is = begun-long head bytes is

drop-none : (bytes : List ℕ) → drop 0 bytes ≡ bytes
drop-none [] = refl
drop-none (b ∷ bytes) = refl

-- nothing is done with
reaches-none : (was : Told) (bytes : List ℕ) (now : State) (items : List Placed) → was ≡ stands (standing_of now bytes) → IsSettled now bytes → Reaches was bytes now 0 items items
reaches-none was bytes now items is settled = record {
  told = ap (behind items) (is ∙ ap (λ z. stands (standing_of now z)) (sym (drop-none bytes)));
  settled = subst (IsSettled now) (sym (drop-none bytes)) settled;
  bound = omega arith;
}

pub head-less : (bytes : List ℕ) (n : ℕ) (items : List Placed) → begun head bytes ≡ Err (Wants n) → Reaches (told bytes) bytes (state.Unfinished part.Head (length bytes + 1)) 0 items items
head-less bytes n items is =
    reaches-none (told bytes) bytes (state.Unfinished part.Head (length bytes + 1)) items (told-from bytes (Err (Wants n)) is) (begun-wants head bytes n is ∙ ap (λ z. Err (Wants z)) (omega arith))

pub head-wrong : (bytes : List ℕ) (items : List Placed) → begun head bytes ≡ Err Wrong → Reaches (told bytes) bytes (state.Bad 0) 0 items items
head-wrong bytes items is = reaches-none (told bytes) bytes (state.Bad 0) items (told-from bytes (Err Wrong) is) tt

-- what a part tells
pub part-head : (p : Part) (bytes : List ℕ) → p ≡ part.Head → from_part p bytes ≡ told bytes
part-head p bytes is = ap (λ z. from_part z bytes) is

pub part-item : (p : Part) (at : ℕ) (bytes : List ℕ) → p ≡ part.Item at → from_part p bytes ≡ told_at at (drop 0 bytes)
part-item p at bytes is = ap (λ z. from_part z bytes) is ∙ ap (told_at at) (sym (drop-none bytes))

-- ---- what is unfinished

wants-same : (o : Result (Unit {0}) Flaw) (m n : ℕ) → o ≡ Err (Wants m) → o ≡ Err (Wants n) → m ≡ n
wants-same o m n a b = cc

-- as long as less comes than is wanted, it is unfinished
pub wants-on : (p : Part) (held piece : List ℕ) (needs : ℕ) → WantsMore p held (needs - length held) → length (held ++ piece) < needs → WantsMore p (held ++ piece) (needs - length (held ++ piece))
wants-on part.Head held piece needs is less =
    let all = length-append held piece in
    let one : needs - length held ≡ 1 = wants-same (begun head held) (needs - length held) 1 is (begun-wants head held (needs - length held) is) in
    let none : piece ≡ [] = nil_from_length piece (omega (arith, all, less, one)) in
    ap (begun head) (ap (λ z. held ++ z) none ∙ append-nil held) ∙ (is ∙ ap (λ z. Err (Wants (needs - length z))) (sym (ap (λ z. held ++ z) none ∙ append-nil held)))
wants-on (part.Item at) held piece needs is less =
    let all = length-append held piece in
    item-lawful.wants held piece (needs - length held) is (omega (arith, all, less)) ∙ ap (λ z. Err (Wants z)) (omega (arith, all))

-- what is unfinished tells nothing
pub part-stands : (p : Part) (bytes : List ℕ) (n : ℕ) → WantsMore p bytes n → from_part p bytes ≡ stands (standing_in p bytes)
part-stands part.Head bytes n is = told-from bytes (Err (Wants n)) is
part-stands (part.Item at) bytes n is = told-is at bytes (Err (Wants n)) is

pub part-resumed : (p : Part) (held piece : List ℕ) → resumed (standing_in p held) piece ≡ from_part p (held ++ piece)
part-resumed part.Head held piece = refl
part-resumed (part.Item at) held piece = refl

-- ---- all bytes

pub told-whole : (bytes piece : List ℕ) (s now : Standing) (old new : List Placed) → told bytes ≡ record { items = old; standing = s } → behind old (resumed s piece) ≡ behind new (stands now)
    → told (bytes ++ piece) ≡ record { items = new; standing = now }
told-whole bytes piece s now old new was is =
    cut bytes piece ∙ (ap (λ t. onward t piece) was ∙ (is ∙ ap (so now) (append-nil new)))

pub told-none : told [] ≡ stands (Begun [])
told-none = told-from [] (Err (Wants 1)) refl

pub state-resumed : (s : State) (p : Part) (needs : ℕ) (held piece : List ℕ) → s ≡ state.Unfinished p needs → resumed (standing_of s held) piece ≡ from_part p (held ++ piece)
state-resumed s p needs held piece is = ap (λ z. resumed (standing_of z held) piece) is ∙ part-resumed p held piece

-- ---- what is answered

answer-part : (p : Part) (held : List ℕ) → answer_of (standing_in p held) ≡ Ok tt
answer-part part.Head held = refl
answer-part (part.Item at) held = refl

pub answer-unfinished : (s : State) (p : Part) (needs : ℕ) (held : List ℕ) → s ≡ state.Unfinished p needs → Ok tt ≡ answer_of (standing_of s held)
answer-unfinished s p needs held is = sym (ap (λ z. answer_of (standing_of z held)) is ∙ answer-part p held)

pub answer-ended : (s : State) (at : ℕ) (held : List ℕ) → s ≡ state.Ended at → Ok tt ≡ answer_of (standing_of s held)
answer-ended s at held is = sym (ap (λ z. answer_of (standing_of z held)) is)

pub answer-bad : (s : State) (at : ℕ) (held : List ℕ) → s ≡ state.Bad at → Err (wire.Bad at) ≡ answer_of (standing_of s held)
answer-bad s at held is = sym (ap (λ z. answer_of (standing_of z held)) is)

pub if-read : (s : Standing) (r : Result (Unit {0}) WireError) (P : Type 0) → r ≡ answer_of s → P → IfRead r P
if-read s (Ok u) P is p = p
if-read s (Err (wire.Bad at)) P is p = p
if-read s (Err wire.NoMemory) P is p = tt

not-wanted : (s : Standing) → Err wire.NoMemory ≡ answer_of s → ⊥
not-wanted (Begun bytes) is = absurd cc
not-wanted (Open at bytes) is = absurd cc
not-wanted (Ended at) is = absurd cc
not-wanted (Bad at) is = absurd cc

pub if-wants : (s : Standing) (r : Result (Unit {0}) WireError) (P : Type 0) → r ≡ answer_of s → IfWants r P
if-wants s (Ok u) P is = tt
if-wants s (Err (wire.Bad at)) P is = tt
if-wants s (Err wire.NoMemory) P is = absurd (not-wanted s is)
