-- What holds of the readers of fields and items.
use Rattle.std.proofs.Common.{◌≡◌, ◌≤◌, ◌<◌, ◌==◌, ℕ, ◌+◌, ◌-◌, Bool, true, false, cond, ltb, List, [], ◌∷◌, ◌++◌, length, take, drop, Ok, Err, refl, ap, ◌∙◌, arith}
use Rattle.std.specs.Int.{w16, w32, w64, from_be_bytes}
use Rattle.std.specs.Str.{IsUtf8, is_utf8}
use Rattle.std.proofs.lemmas.List.{length-append, drop_at}
use Rattle.std.proofs.lemmas.Bool.{le-ltb, ltb-false}
use Rattle.std.proofs.lemmas.Str.{IsUtf8-from_is_utf8, is_utf8-from_IsUtf8}
use Rattle.sv_wire.specs.declared.item.Item.{Item}
use Rattle.sv_wire.specs.declared.item.Item.TheVariants as item
use Rattle.sv_wire.specs.declared.item.TheConstants.{LONGEST_TEXT}
use Rattle.sv_wire.specs.declared.flaw.Flaw.TheVariants.{Wants, Wrong}
use Rattle.sv_wire.specs.Reading.{Parser, kind_of, serial_at, slot_at, length_at, words_at, text_at, make_at, set_text_at, set_flag_at, set_attr_at, drop_attr_at, untyped_at, typed_text_at, typed_box_at, move_at, remove_at, fields_at, item_at}
use Rattle.sv_wire.proofs.Parsers.{Lawful, lawful-then, lawful-give, lawful-fixed, fixed, fixed-there, err_is, wants_is}

serial-lawful : Lawful serial_at
unfolding serial_at
serial-lawful = lawful-fixed 8 (λ _. true) (from_be_bytes w64) (omega arith)

slot-lawful : Lawful slot_at
unfolding slot_at
slot-lawful = lawful-fixed 2 (λ _. true) (from_be_bytes w16) (omega arith)

length-lawful : Lawful length_at
unfolding length_at
length-lawful = lawful-fixed 4 (λ _. true) (from_be_bytes w32) (omega arith)

nothing-lawful : {A : Type 0} → Lawful {A = A} (λ bytes. Err Wrong)
nothing-lawful = record {
  parts = λ bytes x e. absurd cc;
  more = λ bytes after x e. absurd cc;
  wrong = λ bytes after e. refl;
  small = λ bytes n e. absurd cc;
  wants = λ bytes after n e less. absurd cc;
}

words-lawful : (n : ℕ) → Lawful (words_at n)
unfolding words_at
words-lawful n = go (ltb LONGEST_TEXT n) refl
  where
    go : (b : Bool) → ltb LONGEST_TEXT n ≡ b → Lawful (λ bytes. cond b (Err Wrong) (fixed n is_utf8 (λ t. t) bytes))
    go true is = nothing-lawful
    go false is = lawful-fixed n is_utf8 (λ t. t) (ltb-false LONGEST_TEXT n is)

-- a text that is there
pub words-read : (n : ℕ) (bytes : List ℕ) → n ≤ LONGEST_TEXT → n ≤ length bytes → IsUtf8 (take n bytes) → words_at n bytes ≡ Ok (take n bytes, drop n bytes)
unfolding words_at
words-read n bytes short there utf8 =
    ap (λ z. cond z (Err Wrong) (fixed n is_utf8 (λ t. t) bytes)) (le-ltb LONGEST_TEXT n short)
    ∙ (fixed-there n is_utf8 (λ t. t) bytes there ∙ ap (λ z. cond z (Ok (take n bytes, drop n bytes)) (Err Wrong)) (is_utf8-from_IsUtf8 (take n bytes) utf8))

-- bytes that are there and are no text
pub words-judged : (n : ℕ) (bytes : List ℕ) → n ≤ LONGEST_TEXT → n ≤ length bytes → (IsUtf8 (take n bytes) → ⊥) → words_at n bytes ≡ Err Wrong
unfolding words_at
words-judged n bytes short there other =
    ap (λ z. cond z (Err Wrong) (fixed n is_utf8 (λ t. t) bytes)) (le-ltb LONGEST_TEXT n short)
    ∙ (fixed-there n is_utf8 (λ t. t) bytes there ∙ ap (λ z. cond z (Ok (take n bytes, drop n bytes)) (Err Wrong)) (no (is_utf8 (take n bytes)) refl))
  where
    no : (b : Bool) → is_utf8 (take n bytes) ≡ b → is_utf8 (take n bytes) ≡ false
    no true is = absurd (other (IsUtf8-from_is_utf8 (take n bytes) is))
    no false is = is

text-lawful : Lawful text_at
unfolding text_at
text-lawful = lawful-then length_at words_at length-lawful words-lawful

-- ---- the forms

make-lawful : (b : Bool) → Lawful (make_at (kind_of b))
unfolding make_at
make-lawful b = lawful-then _ _ serial-lawful (λ node. lawful-then _ _ serial-lawful (λ parent. lawful-then _ _ serial-lawful (λ before. lawful-then _ _ text-lawful (λ words. lawful-give _))))

set_text-lawful : Lawful set_text_at
unfolding set_text_at
set_text-lawful = lawful-then _ _ serial-lawful (λ node. lawful-then _ _ text-lawful (λ words. lawful-give _))

set_flag-lawful : Lawful set_flag_at
unfolding set_flag_at
set_flag-lawful = lawful-then _ _ serial-lawful (λ node. lawful-then _ _ slot-lawful (λ at. lawful-then _ _ text-lawful (λ name. lawful-give _)))

set_attr-lawful : Lawful set_attr_at
unfolding set_attr_at
set_attr-lawful = lawful-then _ _ serial-lawful (λ node. lawful-then _ _ slot-lawful (λ at. lawful-then _ _ text-lawful (λ name. lawful-then _ _ text-lawful (λ words. lawful-give _))))

drop_attr-lawful : Lawful drop_attr_at
unfolding drop_attr_at
drop_attr-lawful = lawful-then _ _ serial-lawful (λ node. lawful-then _ _ slot-lawful (λ at. lawful-give _))

untyped-lawful : Lawful untyped_at
unfolding untyped_at
untyped-lawful = lawful-then _ _ serial-lawful (λ node. lawful-give _)

typed_text-lawful : Lawful typed_text_at
unfolding typed_text_at
typed_text-lawful = lawful-then _ _ serial-lawful (λ node. lawful-then _ _ text-lawful (λ words. lawful-give _))

typed_box-lawful : (b : Bool) → Lawful (typed_box_at b)
unfolding typed_box_at
typed_box-lawful b = lawful-then _ _ serial-lawful (λ node. lawful-give _)

move-lawful : Lawful move_at
unfolding move_at
move-lawful = lawful-then _ _ serial-lawful (λ node. lawful-then _ _ serial-lawful (λ before. lawful-give _))

remove-lawful : Lawful remove_at
unfolding remove_at
remove-lawful = lawful-then _ _ serial-lawful (λ node. lawful-give _)

one_of : (b : Bool) (p q : Parser Item) → Lawful p → Lawful q → Lawful (cond b p q)
one_of true p q first other = first
one_of false p q first other = other

fields-lawful : (kind : ℕ) → Lawful (fields_at kind)
unfolding fields_at
fields-lawful kind =
    one_of (kind == 1) _ _ (make-lawful true) (
    one_of (kind == 2) _ _ (make-lawful false) (
    one_of (kind == 3) _ _ set_text-lawful (
    one_of (kind == 4) _ _ set_flag-lawful (
    one_of (kind == 5) _ _ set_attr-lawful (
    one_of (kind == 6) _ _ drop_attr-lawful (
    one_of (kind == 7) _ _ untyped-lawful (
    one_of (kind == 8) _ _ typed_text-lawful (
    one_of (kind == 9) _ _ (typed_box-lawful false) (
    one_of (kind == 10) _ _ (typed_box-lawful true) (
    one_of (kind == 11) _ _ move-lawful (
    one_of (kind == 12) _ _ remove-lawful (
    one_of (kind == 13) _ _ (lawful-give (item.Turn true)) (
    one_of (kind == 14) _ _ (lawful-give (item.Turn false)) (
    one_of (kind == 15) _ _ (lawful-give item.End) nothing-lawful))))))))))))))

pub item-lawful : Lawful item_at
unfolding item_at
item-lawful = record {
  parts = parts;
  more = more;
  wrong = wrong;
  small = small;
  wants = wants;
}
  where
    parts : (bytes : List ℕ) (x : Item × List ℕ) → item_at bytes ≡ Ok x → (own : List ℕ) × (bytes ≡ own ++ x.1)
    parts [] x e = absurd cc
    parts (kind ∷ rest) x e = let a = (fields-lawful kind).parts rest x e in (kind ∷ a.0, ap (λ z. kind ∷ z) a.1)

    more : (bytes after : List ℕ) (x : Item × List ℕ) → item_at bytes ≡ Ok x → item_at (bytes ++ after) ≡ Ok (x.0, x.1 ++ after)
    more [] after x e = absurd cc
    more (kind ∷ rest) after x e = (fields-lawful kind).more rest after x e

    wrong : (bytes after : List ℕ) → item_at bytes ≡ Err Wrong → item_at (bytes ++ after) ≡ Err Wrong
    wrong [] after e = absurd cc
    wrong (kind ∷ rest) after e = (fields-lawful kind).wrong rest after e

    small : (bytes : List ℕ) (n : ℕ) → item_at bytes ≡ Err (Wants n) → n ≤ LONGEST_TEXT
    small [] n e = let one : 1 ≡ n = wants_is 1 n (err_is {A = Item} (Wants 1) (Wants n) e) in omega (arith, one)
    small (kind ∷ rest) n e = (fields-lawful kind).small rest n e

    wants : (bytes after : List ℕ) (n : ℕ) → item_at bytes ≡ Err (Wants n) → length after < n → item_at (bytes ++ after) ≡ Err (Wants (n - length after))
    wants [] [] n e less = e ∙ ap (λ z. Err (Wants z)) (omega arith)
    wants [] (b ∷ after) n e less = let one : 1 ≡ n = wants_is 1 n (err_is {A = Item} (Wants 1) (Wants n) e) in absurd (omega (arith, less, one))
    wants (kind ∷ rest) after n e less = (fields-lawful kind).wants rest after n e less

-- an item has at least one byte
pub shorter : (bytes : List ℕ) (x : Item × List ℕ) → item_at bytes ≡ Ok x → length x.1 < length bytes
unfolding item_at
shorter [] x e = absurd cc
shorter (kind ∷ rest) x e =
    let a = (fields-lawful kind).parts rest x e in
    let all : length rest ≡ length a.0 + length x.1 = ap length a.1 ∙ length-append a.0 x.1 in
    omega (arith, all)

-- so the bytes behind an item are the last of all
pub rest-is : (bytes : List ℕ) (x : Item × List ℕ) → item_at bytes ≡ Ok x → (length x.1 ≤ length bytes) × (drop (length bytes - length x.1) bytes ≡ x.1)
rest-is bytes x e =
    let a = item-lawful.parts bytes x e in
    let all : length bytes ≡ length a.0 + length x.1 = ap length a.1 ∙ length-append a.0 x.1 in
    let at : length bytes - length x.1 ≡ length a.0 = omega (arith, all) in
    (omega (arith, all), ap (λ z. drop z bytes) at ∙ (ap (drop (length a.0)) a.1 ∙ drop_at a.0 x.1 (length a.0) refl))
