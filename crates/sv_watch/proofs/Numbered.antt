-- However a page is changed, each serial number starts once on it, and none from the next one on.
use Rattle.std.proofs.Common.{◌≡◌, ◌≤◌, ◌+◌, ◌==◌, ℕ, zero, suc, List, [], ◌∷◌, ◌++◌, Bool, true, false, Result, Ok, Err, refl, ap, sym, subst, ◌∙◌, arith, map}
use Rattle.std.specs.Prelude.{if◌then◌else◌, ◌&&◌, nat_le, OnOk, OnErr}
use Rattle.std.specs.List.{list_any}
use Rattle.std.proofs.lemmas.Bool.{ne_eqb, eqb-true, leb-true}
use Rattle.sv_base.specs.declared.memory.NoMemory.{NoMemory}
use Rattle.sv_tokens.specs.Counting.{one, times}
use Rattle.sv_tokens.specs.Seen.{Seen, Start, Words, End, View, starts, follows, IsNumbered}
use Rattle.sv_tokens.specs.Edit.{with_attribute, without_slot, with_typed}
use Rattle.sv_tokens.specs.Token.{Element}
use Rattle.sv_tokens.specs.Replay.{made, put_before, rest_of, after, span_of, without, parent_in, moved, at_node, replay, with_words, with_start}
use Rattle.sv_tokens.specs.declared.change.What.{What}
use Rattle.sv_tokens.specs.declared.change.What.TheVariants as what
use Rattle.sv_tokens.specs.declared.change.Change.{Change}
use Rattle.sv_tokens.specs.declared.change.Change.TheVariants.{Make, SetText, SetAttr, DropAttr, SetTyped, Move, Remove}
use Rattle.sv_tokens.proofs.Counting.{times-append, one-most}
use Rattle.sv_watch.specs.Mirror.{blank}
use Rattle.sv_watch.proofs.Edits.{rest-after}

-- ---- how often a test passes

times-put : (q p : Seen → Bool) (own ts : List Seen) → times q (put_before p own ts) ≤ times q ts + times q own
times-put q p own [] = omega arith
times-put q p own (t ∷ ts) = go (times-put q p own ts) (p t)
  where
    go : times q (put_before p own ts) ≤ times q ts + times q own → (b : Bool) → times q (if b then own ++ t ∷ ts else t ∷ put_before p own ts) ≤ times q (t ∷ ts) + times q own
    go rest true = let all = times-append q own (t ∷ ts) in omega (arith, all)
    go rest false = omega (arith, rest)

times-after : (q : Seen → Bool) (t : Seen) (ts : List Seen) → times q (rest_of t ts) + times q (after t ts) ≡ times q ts
times-after q t ts = sym (times-append q (rest_of t ts) (after t ts)) ∙ ap (times q) (rest-after t ts)

times-span : (q : Seen → Bool) (n : ℕ) (ts : List Seen) → times q (span_of n ts) + times q (without n ts) ≡ times q ts
times-span q n [] = refl
times-span q n (t ∷ ts) = go (times-span q n ts) (starts n t)
  where
    go : times q (span_of n ts) + times q (without n ts) ≡ times q ts → (b : Bool) → times q (if b then t ∷ rest_of t ts else span_of n ts) + times q (if b then after t ts else t ∷ without n ts) ≡ times q (t ∷ ts)
    go rest true = let all = times-after q t ts in omega (arith, all)
    go rest false = omega (arith, rest)

times-without : (q : Seen → Bool) (n : ℕ) (ts : List Seen) → times q (without n ts) ≤ times q ts
times-without q n ts = let all = times-span q n ts in omega (arith, all)

times-moved : (q : Seen → Bool) (n before : ℕ) (ts : List Seen) → times q (moved n before ts) ≤ times q ts
times-moved q n before ts = go (list_any p (without n ts))
  where
    p : Seen → Bool
    p = follows (parent_in (span_of n ts)) before

    go : (b : Bool) → times q (if b then put_before p (span_of n ts) (without n ts) else ts) ≤ times q ts
    go true = let all = times-span q n ts in let more = times-put q p (span_of n ts) (without n ts) in omega (arith, all, more)
    go false = omega arith

times-map : (n m : ℕ) (f : Seen → Seen) → ((t : Seen) → starts n (f t) ≡ starts n t) → (ts : List Seen) → times (starts n) (map (at_node m f) ts) ≡ times (starts n) ts
times-map n m f same [] = refl
times-map n m f same (t ∷ ts) =
    let rest = times-map n m f same ts in
    let here = go (starts m t) in
    omega (arith, rest, here)
  where
    go : (b : Bool) → one (starts n (if b then f t else t)) ≡ one (starts n t)
    go true = ap one (same t)
    go false = refl

words-start : (n : ℕ) (bytes : List ℕ) (t : Seen) → starts n (with_words bytes t) ≡ starts n t
words-start n bytes (Start m parent element) = refl
words-start n bytes (Words m parent was) = refl
words-start n bytes (End m name) = refl

start-start : (n : ℕ) (f : Element → Element) (t : Seen) → starts n (with_start f t) ≡ starts n t
start-start n f (Start m parent element) = refl
start-start n f (Words m parent was) = refl
start-start n f (End m name) = refl

made-times : (s serial parent : ℕ) (w : What) → times (starts s) (made serial parent w) ≡ one (serial == s)
made-times s serial parent (what.Element name) = omega arith
made-times s serial parent (what.Text bytes) = omega arith

-- ---- serial numbers

fewer : (old new : List Seen) (next : ℕ) → ((s : ℕ) → times (starts s) new ≤ times (starts s) old) → IsNumbered old next → IsNumbered new next
fewer old new next less n = record {
  once = λ s. let a = less s in let b = n.once s in omega (arith, a, b);
  fresh = λ s late. let a = less s in let b = n.fresh s late in omega (arith, a, b);
}

same-often : (old new : List Seen) (next : ℕ) → ((s : ℕ) → times (starts s) new ≡ times (starts s) old) → IsNumbered old next → IsNumbered new next
same-often old new next same n = fewer old new next (λ s. let a = same s in omega (arith, a)) n

joined : (v : View) (serial parent before : ℕ) (w : What) → v.next ≤ serial → IsNumbered v.tokens v.next
    → IsNumbered (put_before (follows parent before) (made serial parent w) v.tokens) (suc serial)
joined v serial parent before w late n = record {
  once = λ s. all s (serial == s) refl;
  fresh = λ s after.
      let a = times-put (starts s) (follows parent before) (made serial parent w) v.tokens in
      let b = made-times s serial parent w in
      let c = ap one (ne_eqb serial s (λ e. omega (arith, e, after))) in
      let d = n.fresh s (omega (arith, late, after)) in
      omega (arith, a, b, c, d);
}
  where
    all : (s : ℕ) (b : Bool) → (serial == s) ≡ b → times (starts s) (put_before (follows parent before) (made serial parent w) v.tokens) ≤ 1
    all s true e =
        let a = times-put (starts s) (follows parent before) (made serial parent w) v.tokens in
        let b = made-times s serial parent w in
        let c = one-most (serial == s) in
        let d = n.fresh s (omega (arith, late, eqb-true serial s e)) in
        omega (arith, a, b, c, d)
    all s false e =
        let a = times-put (starts s) (follows parent before) (made serial parent w) v.tokens in
        let b = made-times s serial parent w in
        let c = ap one e in
        let d = n.once s in
        omega (arith, a, b, c, d)

pub numbered-one : (c : Change) (v : View) → IsNumbered v.tokens v.next → IsNumbered (replay c v).tokens (replay c v).next
numbered-one (Make serial parent before w) v n = go (nat_le v.next serial) (list_any (follows parent before) v.tokens) refl
  where
    grown : View
    grown = record { tokens = put_before (follows parent before) (made serial parent w) v.tokens; next = suc serial }

    go : (a b : Bool) → nat_le v.next serial ≡ a → IsNumbered (if a && b then grown else v).tokens (if a && b then grown else v).next
    go true true late = joined v serial parent before w (leb-true v.next serial late) n
    go true false late = n
    go false b late = n
numbered-one (SetText zero text) v n = n
numbered-one (SetText (suc m) text) v n = same-often v.tokens _ v.next (λ s. times-map s (suc m) (with_words text) (words-start s text) v.tokens) n
numbered-one (SetAttr zero slot name attr) v n = n
numbered-one (SetAttr (suc m) slot name attr) v n =
    same-often v.tokens _ v.next (λ s. times-map s (suc m) (with_start (with_attribute (record { slot = slot; name = name; value = attr }))) (start-start s _) v.tokens) n
numbered-one (DropAttr zero slot) v n = n
numbered-one (DropAttr (suc m) slot) v n = same-often v.tokens _ v.next (λ s. times-map s (suc m) (with_start (without_slot slot)) (start-start s (without_slot slot)) v.tokens) n
numbered-one (SetTyped zero typed) v n = n
numbered-one (SetTyped (suc m) typed) v n = same-often v.tokens _ v.next (λ s. times-map s (suc m) (with_start (with_typed typed)) (start-start s (with_typed typed)) v.tokens) n
numbered-one (Move zero before) v n = n
numbered-one (Move (suc m) before) v n = fewer v.tokens _ v.next (λ s. times-moved (starts s) (suc m) before v.tokens) n
numbered-one (Remove zero) v n = n
numbered-one (Remove (suc m)) v n = fewer v.tokens _ v.next (λ s. times-without (starts s) (suc m) v.tokens) n

-- so it is on the page with nothing on it
pub numbered-blank : IsNumbered blank.tokens blank.next
numbered-blank = record {
  once = λ s. let a = one-most (0 == s) in omega (arith, a);
  fresh = λ s late. let a = ap one (ne_eqb 0 s (λ e. omega (arith, e, late))) in omega (arith, a);
}

-- and on a page to which a change was brought, or that stayed as it was
pub numbered-kept : (c : Change) (v w : View) (r : Result (Unit {0}) NoMemory) → OnOk r (w ≡ replay c v) → OnErr r (w ≡ v) → IsNumbered v.tokens v.next → IsNumbered w.tokens w.next
numbered-kept c v w (Ok u) ok err n = subst (λ z. IsNumbered z.tokens z.next) (sym ok) (numbered-one c v n)
numbered-kept c v w (Err e) ok err n = subst (λ z. IsNumbered z.tokens z.next) (sym err) n
