-- What is spelled is read again, whatever follows.
use Rattle.std.proofs.Common.{◌≡◌, ◌<◌, ◌≤◌, ◌^◌, ℕ, ◌+◌, ◌-◌, Bool, true, false, cond, List, [], ◌∷◌, ◌++◌, length, drop, Some, None, Ok, refl, sym, ap, subst, ◌∙◌, append_assoc, arith}
use Rattle.std.specs.Int.{w16, w32, w64, to_be_bytes, from_be_bytes}
use Rattle.std.specs.List.{flat_map, AllByRecursion}
use Rattle.std.specs.Str.{IsUtf8}
use Rattle.std.proofs.lemmas.Nat.{from_be_bytes-to_be_bytes_2, from_be_bytes-to_be_bytes_4, from_be_bytes-to_be_bytes_8}
use Rattle.std.proofs.lemmas.List.{take_at, drop_at, length-append}
use Rattle.std.proofs.lemmas.List.Concat.{flat_map-cons}
use Rattle.sv_tokens.specs.declared.element.Attr.TheVariants as attr
use Rattle.sv_tokens.specs.declared.element.Typed.TheVariants as typed
use Rattle.sv_tokens.specs.declared.change.What.TheVariants as what
use Rattle.sv_tokens.specs.declared.change.Change.TheVariants.{Make, SetText, SetAttr, DropAttr, SetTyped, Move, Remove}
use Rattle.sv_wire.specs.declared.item.Item.{Item}
use Rattle.sv_wire.specs.declared.item.Item.TheVariants as item
use Rattle.sv_wire.specs.declared.item.Placed.{Placed}
use Rattle.sv_wire.specs.Spelling.{head, serial, slot, text, spelled, IsText, CanBePut}
use Rattle.sv_wire.specs.Reading.{Parser, go_on, ◌>>=◌, give, kind_of, serial_at, slot_at, length_at, words_at, text_at, make_at, set_text_at, set_flag_at, set_attr_at, drop_attr_at, untyped_at, typed_text_at, typed_box_at, move_at, remove_at, fields_at, item_at}
use Rattle.sv_wire.specs.Stream.{Open, Ended, stands, behind, after_end, from_item, told_at, told, placed, GoesOn}
use Rattle.sv_wire.proofs.Parsers.{fixed-again, done, ok_is}
use Rattle.sv_wire.proofs.Items.{words-read}
use Rattle.sv_wire.proofs.Streams.{told-is}

-- the value is read of these bytes, whatever follows
pub record Reads {A : Type 0} (p : Parser A) (own : List ℕ) (x : A) : Type 0 where
  pub again : (rest : List ℕ) → p (own ++ rest) ≡ Ok (x, rest)

reads-then : {A B : Type 0} (p : Parser A) (f : A → Parser B) (a b : List ℕ) (x : A) (y : B) → Reads p a x → Reads (f x) b y → Reads (p >>= f) (a ++ b) y
reads-then p f a b x y first second = record {
  again = λ rest. ap (λ z. go_on f (p z)) (append_assoc a b rest) ∙ (ap (go_on f) (first.again (b ++ rest)) ∙ second.again rest);
}

reads-last : {A B : Type 0} (p : Parser A) (g : A → B) (a : List ℕ) (x : A) → Reads p a x → Reads (p >>= (λ z. give (g z))) a (g x)
reads-last p g a x first = record { again = λ rest. ap (go_on (λ z. give (g z))) (first.again rest) }

serial-reads : (n : ℕ) → n < 2 ^ 64 → Reads serial_at (serial n) n
unfolding serial_at serial
serial-reads n less = record {
  again = λ rest. fixed-again 8 (λ _. true) (from_be_bytes w64) (to_be_bytes w64 n) rest refl refl ∙ ap (λ z. Ok (z, rest)) (from_be_bytes-to_be_bytes_8 n less);
}

slot-reads : (n : ℕ) → n < 2 ^ 16 → Reads slot_at (slot n) n
unfolding slot_at slot
slot-reads n less = record {
  again = λ rest. fixed-again 2 (λ _. true) (from_be_bytes w16) (to_be_bytes w16 n) rest refl refl ∙ ap (λ z. Ok (z, rest)) (from_be_bytes-to_be_bytes_2 n less);
}

length-reads : (n : ℕ) → n < 2 ^ 32 → Reads length_at (to_be_bytes w32 n) n
unfolding length_at
length-reads n less = record {
  again = λ rest. fixed-again 4 (λ _. true) (from_be_bytes w32) (to_be_bytes w32 n) rest refl refl ∙ ap (λ z. Ok (z, rest)) (from_be_bytes-to_be_bytes_4 n less);
}

words-reads : (bytes : List ℕ) → IsText bytes → Reads (words_at (length bytes)) bytes bytes
words-reads bytes good = record {
  again = λ rest.
      let there : length bytes ≤ length (bytes ++ rest) = omega (arith, length-append bytes rest) in
      let front = take_at bytes rest (length bytes) refl in
      words-read (length bytes) (bytes ++ rest) good.0 there (subst IsUtf8 (sym front) good.1)
      ∙ (ap (λ z. Ok (z, drop (length bytes) (bytes ++ rest))) front ∙ ap (λ z. Ok (bytes, z)) (drop_at bytes rest (length bytes) refl));
}

text-reads : (bytes : List ℕ) → IsText bytes → Reads text_at (text bytes) bytes
unfolding text_at text
text-reads bytes good =
    let short = good.0 in
    reads-then length_at words_at (to_be_bytes w32 (length bytes)) bytes (length bytes) bytes (length-reads (length bytes) (omega (arith, short))) (words-reads bytes good)

-- ---- the forms

make-reads : (b : Bool) (node parent before : ℕ) (words : List ℕ) → node < 2 ^ 64 → parent < 2 ^ 64 → before < 2 ^ 64 → IsText words
    → Reads (make_at (kind_of b)) (serial node ++ (serial parent ++ (serial before ++ text words))) (item.Change (Make node parent before (kind_of b words)))
unfolding make_at
make-reads b node parent before words n p s t =
    reads-then _ _ _ _ node _ (serial-reads node n) (reads-then _ _ _ _ parent _ (serial-reads parent p) (reads-then _ _ _ _ before _ (serial-reads before s)
    (reads-last text_at (λ z. item.Change (Make node parent before (kind_of b z))) _ words (text-reads words t))))

set_text-reads : (node : ℕ) (words : List ℕ) → node < 2 ^ 64 → IsText words → Reads set_text_at (serial node ++ text words) (item.Change (SetText node words))
unfolding set_text_at
set_text-reads node words n t = reads-then _ _ _ _ node _ (serial-reads node n) (reads-last text_at (λ z. item.Change (SetText node z)) _ words (text-reads words t))

set_flag-reads : (node at : ℕ) (name : List ℕ) → node < 2 ^ 64 → at < 2 ^ 16 → IsText name → Reads set_flag_at (serial node ++ (slot at ++ text name)) (item.Change (SetAttr node at name attr.Flag))
unfolding set_flag_at
set_flag-reads node at name n s t =
    reads-then _ _ _ _ node _ (serial-reads node n) (reads-then _ _ _ _ at _ (slot-reads at s) (reads-last text_at (λ z. item.Change (SetAttr node at z attr.Flag)) _ name (text-reads name t)))

set_attr-reads : (node at : ℕ) (name words : List ℕ) → node < 2 ^ 64 → at < 2 ^ 16 → IsText name → IsText words
    → Reads set_attr_at (serial node ++ (slot at ++ (text name ++ text words))) (item.Change (SetAttr node at name (attr.Text words)))
unfolding set_attr_at
set_attr-reads node at name words n s t u =
    reads-then _ _ _ _ node _ (serial-reads node n) (reads-then _ _ _ _ at _ (slot-reads at s) (reads-then _ _ _ _ name _ (text-reads name t)
    (reads-last text_at (λ z. item.Change (SetAttr node at name (attr.Text z))) _ words (text-reads words u))))

drop_attr-reads : (node at : ℕ) → node < 2 ^ 64 → at < 2 ^ 16 → Reads drop_attr_at (serial node ++ slot at) (item.Change (DropAttr node at))
unfolding drop_attr_at
drop_attr-reads node at n s = reads-then _ _ _ _ node _ (serial-reads node n) (reads-last slot_at (λ z. item.Change (DropAttr node z)) _ at (slot-reads at s))

untyped-reads : (node : ℕ) → node < 2 ^ 64 → Reads untyped_at (serial node) (item.Change (SetTyped node None))
unfolding untyped_at
untyped-reads node n = reads-last serial_at (λ z. item.Change (SetTyped z None)) _ node (serial-reads node n)

typed_text-reads : (node : ℕ) (words : List ℕ) → node < 2 ^ 64 → IsText words → Reads typed_text_at (serial node ++ text words) (item.Change (SetTyped node (Some (typed.Text words))))
unfolding typed_text_at
typed_text-reads node words n t =
    reads-then _ _ _ _ node _ (serial-reads node n) (reads-last text_at (λ z. item.Change (SetTyped node (Some (typed.Text z)))) _ words (text-reads words t))

typed_box-reads : (b : Bool) (node : ℕ) → node < 2 ^ 64 → Reads (typed_box_at b) (serial node) (item.Change (SetTyped node (Some (typed.Checked b))))
unfolding typed_box_at
typed_box-reads b node n = reads-last serial_at (λ z. item.Change (SetTyped z (Some (typed.Checked b)))) _ node (serial-reads node n)

move-reads : (node before : ℕ) → node < 2 ^ 64 → before < 2 ^ 64 → Reads move_at (serial node ++ serial before) (item.Change (Move node before))
unfolding move_at
move-reads node before n s = reads-then _ _ _ _ node _ (serial-reads node n) (reads-last serial_at (λ z. item.Change (Move node z)) _ before (serial-reads before s))

remove-reads : (node : ℕ) → node < 2 ^ 64 → Reads remove_at (serial node) (item.Change (Remove node))
unfolding remove_at
remove-reads node n = reads-last serial_at (λ z. item.Change (Remove z)) _ node (serial-reads node n)

-- ---- an item

pub item-again : (x : Item) → CanBePut x → (rest : List ℕ) → item_at (spelled x ++ rest) ≡ Ok (x, rest)
unfolding item_at fields_at
item-again (item.Change (Make node parent before (what.Element name))) can rest = (make-reads true node parent before name can.serials.0 can.serials.1.0 can.serials.1.1.0 can.texts.0).again rest
item-again (item.Change (Make node parent before (what.Text words))) can rest = (make-reads false node parent before words can.serials.0 can.serials.1.0 can.serials.1.1.0 can.texts.0).again rest
item-again (item.Change (SetText node words)) can rest = (set_text-reads node words can.serials.0 can.texts.0).again rest
item-again (item.Change (SetAttr node at name attr.Flag)) can rest = (set_flag-reads node at name can.serials.0 can.slots.0 can.texts.0).again rest
item-again (item.Change (SetAttr node at name (attr.Text words))) can rest = (set_attr-reads node at name words can.serials.0 can.slots.0 can.texts.0 can.texts.1.0).again rest
item-again (item.Change (DropAttr node at)) can rest = (drop_attr-reads node at can.serials.0 can.slots.0).again rest
item-again (item.Change (SetTyped node None)) can rest = (untyped-reads node can.serials.0).again rest
item-again (item.Change (SetTyped node (Some (typed.Text words)))) can rest = (typed_text-reads node words can.serials.0 can.texts.0).again rest
item-again (item.Change (SetTyped node (Some (typed.Checked false)))) can rest = (typed_box-reads false node can.serials.0).again rest
item-again (item.Change (SetTyped node (Some (typed.Checked true)))) can rest = (typed_box-reads true node can.serials.0).again rest
item-again (item.Change (Move node before)) can rest = (move-reads node before can.serials.0 can.serials.1.0).again rest
item-again (item.Change (Remove node)) can rest = (remove-reads node can.serials.0).again rest
item-again (item.Turn true) can rest = refl
item-again (item.Turn false) can rest = refl
item-again item.End can rest = refl

-- no spelling begins another
pub one-spelling : (a b : Item) (x y : List ℕ) → CanBePut a → CanBePut b → spelled a ++ x ≡ spelled b ++ y → (a ≡ b) × (x ≡ y)
one-spelling a b x y can can' e =
    let both : done (a, x) ≡ done (b, y) = sym (item-again a can x) ∙ (ap item_at e ∙ item-again b can' y) in
    let same = ok_is (a, x) (b, y) both in
    (ap (λ z. z.0) same, ap (λ z. z.1) same)

-- ---- a stream

taken : (own rest : List ℕ) → length (own ++ rest) - length rest ≡ length own
taken own rest = omega (arith, length-append own rest)

told-item : (at : ℕ) (x : Item) (rest : List ℕ) → CanBePut x → told_at at (spelled x ++ rest) ≡ from_item told_at at x (at + length (spelled x)) rest
told-item at x rest can =
    told-is at (spelled x ++ rest) (Ok (x, rest)) (item-again x can rest) ∙ ap (λ z. from_item told_at at x (at + z) rest) (taken (spelled x) rest)

pub told-items : (at : ℕ) (xs : List Item) (rest : List ℕ) → AllByRecursion CanBePut xs → AllByRecursion GoesOn xs
    → told_at at (flat_map spelled xs ++ rest) ≡ behind (placed at xs) (told_at (at + length (flat_map spelled xs)) rest)
told-items at [] rest can go = ap (λ z. told_at z rest) (omega arith)
told-items at (x ∷ xs) rest can go =
    let next : ℕ = at + length (spelled x) in
    let regrouped : flat_map spelled (x ∷ xs) ++ rest ≡ spelled x ++ (flat_map spelled xs ++ rest) = ap (λ z. z ++ rest) (flat_map-cons spelled x xs) ∙ append_assoc (spelled x) (flat_map spelled xs) rest in
    let size : next + length (flat_map spelled xs) ≡ at + length (flat_map spelled (x ∷ xs)) = omega (arith, ap length (flat_map-cons spelled x xs), length-append (spelled x) (flat_map spelled xs)) in
    let own : List Placed = record { at = at; item = x } ∷ [] in
    ap (told_at at) regrouped
    ∙ (told-item at x (flat_map spelled xs ++ rest) can.0
    ∙ (ap (λ z. behind own (cond z (after_end next (flat_map spelled xs ++ rest)) (told_at next (flat_map spelled xs ++ rest)))) go.0
    ∙ (ap (behind own) (told-items next xs rest can.1 go.1) ∙ ap (λ z. behind (placed at (x ∷ xs)) (told_at z rest)) size)))

-- behind the head
pub told-stream : (xs : List Item) (rest : List ℕ) → AllByRecursion CanBePut xs → AllByRecursion GoesOn xs
    → told (head ++ (flat_map spelled xs ++ rest)) ≡ behind (placed 4 xs) (told_at (4 + length (flat_map spelled xs)) rest)
unfolding told
told-stream xs rest can go = told-items 4 xs rest can go

-- nothing more, or the end
pub told-nothing : (at : ℕ) → told_at at [] ≡ stands (Open at [])
unfolding item_at
told-nothing at = told-is at [] _ refl

pub told-end : (at : ℕ) → told_at at (spelled item.End) ≡ record { items = record { at = at; item = item.End } ∷ []; standing = Ended (at + 1) }
told-end at = told-item at item.End [] tt
