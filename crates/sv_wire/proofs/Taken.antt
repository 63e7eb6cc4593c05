-- What is read is spelled so: each byte of it.
use Rattle.std.proofs.Common.{◌≡◌, ◌<◌, ◌≤◌, ◌==◌, ℕ, zero, suc, ◌+◌, ◌-◌, Bool, true, false, cond, ltb, List, [], ◌∷◌, ◌++◌, length, take, drop, Some, Ok, Err, refl, sym, ap, subst, ◌∙◌, append_assoc, arith, inl, inr}
use Rattle.std.specs.Int.{w16, w32, w64, to_be_bytes, from_be_bytes}
use Rattle.std.specs.List.{flat_map}
use Rattle.std.specs.Str.{is_utf8}
use Rattle.std.proofs.lemmas.Bool.{cases_lt, ltb-false, eqb-true}
use Rattle.std.proofs.lemmas.Nat.{be_bytes_2, be_bytes_4, be_bytes_8}
use Rattle.std.proofs.lemmas.List.{append-nil, take-append-drop, length-append, length-take, get_or-drop, get_or-take, get_or_past}
use Rattle.std.proofs.lemmas.List.Concat.{flat_map-cons}
use Rattle.sv_tokens.specs.declared.element.Typed.TheVariants as typed
use Rattle.sv_tokens.specs.declared.change.Change.TheVariants.{Make, SetTyped}
use Rattle.sv_wire.specs.declared.flaw.Flaw.TheVariants.{Wants, Wrong}
use Rattle.sv_wire.specs.declared.item.Item.{Item}
use Rattle.sv_wire.specs.declared.item.Item.TheVariants as item
use Rattle.sv_wire.specs.declared.item.Placed.{Placed}
use Rattle.sv_wire.specs.declared.item.TheConstants.{LONGEST_TEXT}
use Rattle.sv_wire.specs.Spelling.{serial, slot, text, spelled}
use Rattle.sv_wire.specs.Reading.{Outcome, Parser, go_on, ◌>>=◌, give, kind_of, serial_at, slot_at, length_at, words_at, text_at, make_at, set_text_at, set_flag_at, set_attr_at, drop_attr_at, untyped_at, typed_text_at, typed_box_at, move_at, remove_at, fields_at, item_at}
use Rattle.sv_wire.specs.Stream.{Told, after_end, is_end, told_at, placed}
use Rattle.sv_wire.specs.StreamLaws.{IsBytes, IsSpelled}
use Rattle.sv_wire.proofs.Parsers.{ok_is, fixed, verdict}
use Rattle.sv_wire.proofs.Items.{shorter}
use Rattle.sv_wire.proofs.Streams.{told-is}

IsBytes-drop : (n : ℕ) (bytes : List ℕ) → IsBytes bytes → IsBytes (drop n bytes)
IsBytes-drop n bytes h = record { each = λ i. rw get_or-drop (h.each (n + i)) }

IsBytes-take : (n : ℕ) (bytes : List ℕ) → IsBytes bytes → IsBytes (take n bytes)
IsBytes-take n bytes h = record {
  each = λ i. elim (cases_lt i n) [
    | inl lt ↦ rw (get_or-take n bytes i 0 lt) (h.each i)
    | inr le ↦ rw (get_or_past (take n bytes) i 0 (omega (arith, length-take n bytes))) (omega arith)
  ];
}

-- behind `before`, the bytes begin with what makes up `whole`
pub record Taken (before whole bytes rest : List ℕ) : Type 0 where
  pub own : List ℕ
  pub parts : bytes ≡ own ++ rest
  pub makes : before ++ own ≡ whole
  pub fits : IsBytes rest

pub record Takes {A : Type 0} (before : List ℕ) (p : Parser A) (spell : A → List ℕ) : Type 0 where
  pub taken : (bytes : List ℕ) (x : A × List ℕ) → IsBytes bytes → p bytes ≡ Ok x → Taken before (spell x.0) bytes x.1

takes-then : {A B : Type 0} (before : List ℕ) (p : Parser A) (f : A → Parser B) (spell : A → List ℕ) (whole : B → List ℕ) → Takes [] p spell → ((x : A) → Takes (before ++ spell x) (f x) whole)
    → Takes before (p >>= f) whole
takes-then {A} {B} before p f spell whole first next = record { taken = λ bytes y fits e. go bytes y fits (p bytes) refl e }
  where
    go : (bytes : List ℕ) (y : B × List ℕ) → IsBytes bytes → (o : Outcome A) → p bytes ≡ o → go_on f o ≡ Ok y → Taken before (whole y.0) bytes y.1
    go bytes y fits (Ok x) was e =
        let a = first.taken bytes x fits was in
        let b = (next x.0).taken x.1 y a.fits e in
        record {
          own = a.own ++ b.own;
          parts = a.parts ∙ (ap (λ z. a.own ++ z) b.parts ∙ sym (append_assoc a.own b.own y.1));
          makes = sym (append_assoc before a.own b.own) ∙ (ap (λ z. (before ++ z) ++ b.own) a.makes ∙ b.makes);
          fits = b.fits;
        }
    go bytes y fits (Err flaw) was e = absurd cc

takes-give : {A : Type 0} (before : List ℕ) (x : A) (whole : A → List ℕ) → before ≡ whole x → Takes before (give x) whole
takes-give {A} before x whole is = record {
  taken = λ bytes y fits e.
      let same = ok_is (x, bytes) y e in
      record {
        own = [];
        parts = ap (λ z. z.1) same;
        makes = append-nil before ∙ (is ∙ ap (λ z. whole z.0) same);
        fits = subst IsBytes (ap (λ z. z.1) same) fits;
      };
}

-- ---- fields

takes-fixed : {A : Type 0} (before : List ℕ) (n : ℕ) (test : List ℕ → Bool) (value : List ℕ → A) (whole : A → List ℕ)
    → ((own : List ℕ) → length own ≡ n → IsBytes own → before ++ own ≡ whole (value own)) → Takes before (fixed n test value) whole
takes-fixed {A} before n test value whole spells = record { taken = λ bytes x fits e. go bytes x fits (ltb (length bytes) n) refl e }
  where
    judge : (bytes : List ℕ) (x : A × List ℕ) → IsBytes bytes → n ≤ length bytes → (b : Bool) → verdict b (value (take n bytes), drop n bytes) ≡ Ok x → Taken before (whole x.0) bytes x.1
    judge bytes x fits long true e =
        let same = ok_is (value (take n bytes), drop n bytes) x e in
        record {
          own = take n bytes;
          parts = sym (take-append-drop n bytes) ∙ ap (λ z. take n bytes ++ z.1) same;
          makes = spells (take n bytes) (omega (arith, length-take n bytes, long)) (IsBytes-take n bytes fits) ∙ ap (λ z. whole z.0) same;
          fits = subst IsBytes (ap (λ z. z.1) same) (IsBytes-drop n bytes fits);
        }
    judge bytes x fits long false e = absurd cc

    go : (bytes : List ℕ) (x : A × List ℕ) → IsBytes bytes → (b : Bool) → ltb (length bytes) n ≡ b → cond b (Err (Wants (n - length bytes))) (verdict (test (take n bytes)) (value (take n bytes), drop n bytes)) ≡ Ok x
        → Taken before (whole x.0) bytes x.1
    go bytes x fits true is e = absurd cc
    go bytes x fits false is e = judge bytes x fits (ltb-false _ _ is) (test (take n bytes)) e

serial-takes : Takes [] serial_at serial
unfolding serial_at serial
serial-takes = takes-fixed [] 8 (λ _. true) (from_be_bytes w64) (to_be_bytes w64) (λ own len fits. sym (be_bytes_8 own (from_be_bytes w64 own) len fits.each refl))

slot-takes : Takes [] slot_at slot
unfolding slot_at slot
slot-takes = takes-fixed [] 2 (λ _. true) (from_be_bytes w16) (to_be_bytes w16) (λ own len fits. sym (be_bytes_2 own (from_be_bytes w16 own) len fits.each refl))

length-takes : Takes [] length_at (to_be_bytes w32)
unfolding length_at
length-takes = takes-fixed [] 4 (λ _. true) (from_be_bytes w32) (to_be_bytes w32) (λ own len fits. sym (be_bytes_4 own (from_be_bytes w32 own) len fits.each refl))

takes-nothing : {A : Type 0} (before : List ℕ) (whole : A → List ℕ) → Takes before (λ bytes. Err Wrong) whole
takes-nothing before whole = record { taken = λ bytes x fits e. absurd cc }

words-takes : (n : ℕ) → Takes (to_be_bytes w32 n) (words_at n) text
unfolding words_at text
words-takes n = go (ltb LONGEST_TEXT n)
  where
    go : (b : Bool) → Takes (to_be_bytes w32 n) (λ bytes. cond b (Err Wrong) (fixed n is_utf8 (λ t. t) bytes)) text
    go true = takes-nothing (to_be_bytes w32 n) text
    go false = takes-fixed (to_be_bytes w32 n) n is_utf8 (λ t. t) text (λ own len fits. ap (λ z. to_be_bytes w32 z ++ own) (sym len))

text-takes : Takes [] text_at text
unfolding text_at
text-takes = takes-then [] length_at words_at (to_be_bytes w32) text length-takes words-takes

-- ---- the forms

make-takes : (b : Bool) (kind : ℕ) → ((node parent before : ℕ) (words : List ℕ) → spelled (item.Change (Make node parent before (kind_of b words))) ≡ kind ∷ (serial node ++ (serial parent ++ (serial before ++ text words))))
    → Takes (kind ∷ []) (make_at (kind_of b)) spelled
unfolding make_at
make-takes b kind is =
    takes-then _ _ _ _ _ serial-takes (λ node. takes-then _ _ _ _ _ serial-takes (λ parent. takes-then _ _ _ _ _ serial-takes (λ before. takes-then _ _ _ _ _ text-takes (λ words.
    takes-give _ _ spelled (ap (λ z. kind ∷ z) (append_assoc (serial node ++ serial parent) (serial before) (text words) ∙ append_assoc (serial node) (serial parent) (serial before ++ text words)) ∙ sym (is node parent before words))))))

set_text-takes : Takes (3 ∷ []) set_text_at spelled
unfolding set_text_at
set_text-takes = takes-then _ _ _ _ _ serial-takes (λ node. takes-then _ _ _ _ _ text-takes (λ words. takes-give _ _ spelled refl))

set_flag-takes : Takes (4 ∷ []) set_flag_at spelled
unfolding set_flag_at
set_flag-takes = takes-then _ _ _ _ _ serial-takes (λ node. takes-then _ _ _ _ _ slot-takes (λ at. takes-then _ _ _ _ _ text-takes (λ name.
    takes-give _ _ spelled (ap (λ z. 4 ∷ z) (append_assoc (serial node) (slot at) (text name))))))

set_attr-takes : Takes (5 ∷ []) set_attr_at spelled
unfolding set_attr_at
set_attr-takes = takes-then _ _ _ _ _ serial-takes (λ node. takes-then _ _ _ _ _ slot-takes (λ at. takes-then _ _ _ _ _ text-takes (λ name. takes-then _ _ _ _ _ text-takes (λ words.
    takes-give _ _ spelled (ap (λ z. 5 ∷ z) (append_assoc (serial node ++ slot at) (text name) (text words) ∙ append_assoc (serial node) (slot at) (text name ++ text words)))))))

drop_attr-takes : Takes (6 ∷ []) drop_attr_at spelled
unfolding drop_attr_at
drop_attr-takes = takes-then _ _ _ _ _ serial-takes (λ node. takes-then _ _ _ _ _ slot-takes (λ at. takes-give _ _ spelled refl))

untyped-takes : Takes (7 ∷ []) untyped_at spelled
unfolding untyped_at
untyped-takes = takes-then _ _ _ _ _ serial-takes (λ node. takes-give _ _ spelled refl)

typed_text-takes : Takes (8 ∷ []) typed_text_at spelled
unfolding typed_text_at
typed_text-takes = takes-then _ _ _ _ _ serial-takes (λ node. takes-then _ _ _ _ _ text-takes (λ words. takes-give _ _ spelled refl))

typed_box-takes : (b : Bool) (kind : ℕ) → ((node : ℕ) → kind ∷ serial node ≡ spelled (item.Change (SetTyped node (Some (typed.Checked b))))) → Takes (kind ∷ []) (typed_box_at b) spelled
unfolding typed_box_at
typed_box-takes b kind is = takes-then _ _ _ _ _ serial-takes (λ node. takes-give _ _ spelled (is node))

move-takes : Takes (11 ∷ []) move_at spelled
unfolding move_at
move-takes = takes-then _ _ _ _ _ serial-takes (λ node. takes-then _ _ _ _ _ serial-takes (λ before. takes-give _ _ spelled refl))

remove-takes : Takes (12 ∷ []) remove_at spelled
unfolding remove_at
remove-takes = takes-then _ _ _ _ _ serial-takes (λ node. takes-give _ _ spelled refl)

form-takes : (kind n : ℕ) (p q : Parser Item) → Takes (n ∷ []) p spelled → Takes (kind ∷ []) q spelled → Takes (kind ∷ []) (cond (kind == n) p q) spelled
form-takes kind n p q first other = go (kind == n) refl
  where
    go : (b : Bool) → (kind == n) ≡ b → Takes (kind ∷ []) (cond b p q) spelled
    go true is = subst (λ z. Takes (z ∷ []) p spelled) (sym (eqb-true kind n is)) first
    go false is = other

fields-takes : (kind : ℕ) → Takes (kind ∷ []) (fields_at kind) spelled
unfolding fields_at
fields-takes kind =
    form-takes kind 1 _ _ (make-takes true 1 (λ node parent before words. refl)) (
    form-takes kind 2 _ _ (make-takes false 2 (λ node parent before words. refl)) (
    form-takes kind 3 _ _ set_text-takes (
    form-takes kind 4 _ _ set_flag-takes (
    form-takes kind 5 _ _ set_attr-takes (
    form-takes kind 6 _ _ drop_attr-takes (
    form-takes kind 7 _ _ untyped-takes (
    form-takes kind 8 _ _ typed_text-takes (
    form-takes kind 9 _ _ (typed_box-takes false 9 (λ node. refl)) (
    form-takes kind 10 _ _ (typed_box-takes true 10 (λ node. refl)) (
    form-takes kind 11 _ _ move-takes (
    form-takes kind 12 _ _ remove-takes (
    form-takes kind 13 _ _ (takes-give (13 ∷ []) (item.Turn true) spelled refl) (
    form-takes kind 14 _ _ (takes-give (14 ∷ []) (item.Turn false) spelled refl) (
    form-takes kind 15 _ _ (takes-give (15 ∷ []) item.End spelled refl) (takes-nothing (kind ∷ []) spelled)))))))))))))))

tail-fits : (b : ℕ) (bytes : List ℕ) → IsBytes (b ∷ bytes) → IsBytes bytes
tail-fits b bytes h = record { each = λ i. h.each (suc i) }

item-taken : (bytes : List ℕ) (x : Item × List ℕ) → IsBytes bytes → item_at bytes ≡ Ok x → (bytes ≡ spelled x.0 ++ x.1) × IsBytes x.1
unfolding item_at
item-taken [] x fits e = absurd cc
item-taken (kind ∷ bytes) x fits e =
    let a = (fields-takes kind).taken bytes x (tail-fits kind bytes fits) e in
    (ap (λ z. kind ∷ z) a.parts ∙ ap (λ z. z ++ x.1) a.makes, a.fits)

-- ---- a stream

after-none : (at : ℕ) (bytes : List ℕ) → (after_end at bytes).items ≡ []
after-none at [] = refl
after-none at (b ∷ bytes) = refl

none-spelled : (at : ℕ) (bytes : List ℕ) (items : List Placed) → items ≡ [] → IsSpelled at bytes items
none-spelled at bytes items is = record { all = []; rest = bytes; parts = refl; told = is }

more-spelled : (at : ℕ) (bytes : List ℕ) (x : Item) (rest : List ℕ) (items : List Placed) → bytes ≡ spelled x ++ rest → IsSpelled (at + (length bytes - length rest)) rest items
    → IsSpelled at bytes (record { at = at; item = x } ∷ items)
more-spelled at bytes x rest items is more =
    let here : Placed = record { at = at; item = x } in
    let size : at + (length bytes - length rest) ≡ at + length (spelled x) = omega (arith, ap length is, length-append (spelled x) rest) in
    record {
      all = x ∷ more.all;
      rest = more.rest;
      parts = is ∙ (ap (λ z. spelled x ++ z) more.parts ∙ (sym (append_assoc (spelled x) (flat_map spelled more.all) more.rest) ∙ ap (λ z. z ++ more.rest) (sym (flat_map-cons spelled x more.all))));
      told = ap (λ z. here ∷ z) (more.told ∙ ap (λ z. placed z more.all) size);
    }

spelled-within : (n at : ℕ) (bytes : List ℕ) → length bytes < n → IsBytes bytes → IsSpelled at bytes (told_at at bytes).items
spelled-within zero at bytes less fits = absurd (omega (arith, less))
spelled-within (suc n) at bytes less fits = go (λ next rest. spelled-within n next rest) (item_at bytes) refl
  where
    go : ((next : ℕ) (rest : List ℕ) → length rest < n → IsBytes rest → IsSpelled next rest (told_at next rest).items) → (o : Outcome Item) → item_at bytes ≡ o → IsSpelled at bytes (told_at at bytes).items
    go ih (Ok x) is =
        let a = item-taken bytes x fits is in
        let short = shorter bytes x is in
        let next : ℕ = at + (length bytes - length x.1) in
        let more : (b : Bool) → IsSpelled next x.1 (cond b (after_end next x.1) (told_at next x.1)).items =
        λ b. elim b as (λ b. IsSpelled next x.1 (cond b (after_end next x.1) (told_at next x.1)).items) [
          | true ↦ none-spelled next x.1 (after_end next x.1).items (after-none next x.1)
          | false ↦ ih next x.1 (omega (arith, less, short)) a.1
        ] in
        subst (λ (t : Told). IsSpelled at bytes t.items) (sym (told-is at bytes (Ok x) is))
        (more-spelled at bytes x.0 x.1 (cond (is_end x.0) (after_end next x.1) (told_at next x.1)).items a.0 (more (is_end x.0)))
    go ih (Err Wrong) is = none-spelled at bytes (told_at at bytes).items (ap (λ t. t.items) (told-is at bytes (Err Wrong) is))
    go ih (Err (Wants count)) is = none-spelled at bytes (told_at at bytes).items (ap (λ t. t.items) (told-is at bytes (Err (Wants count)) is))

pub told-spelled : (at : ℕ) (bytes : List ℕ) → IsBytes bytes → IsSpelled at bytes (told_at at bytes).items
told-spelled at bytes fits = spelled-within (suc (length bytes)) at bytes (omega arith) fits
