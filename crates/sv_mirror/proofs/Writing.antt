-- What was written, and what is left.
use Rattle.std.proofs.Common.{◌≡◌, ℕ, List, [], ◌++◌, Option, Some, refl, sym, ap, ◌∙◌, append_assoc, append-nil}
use Rattle.sv_io.proofs.Written.{with_bytes-twice, with_bytes-none}
use Rattle.sv_io.specs.Sink.{with_bytes, AppendsFront}
use Rattle.sv_mirror.specs.Faults.{fault_line, line_of}
use Rattle.sv_mirror.specs.Printed.{Printed, ends, after, text_of}
use Rattle.sv_mirror.specs.Screen.{Prints}
use Rattle.sv_mirror.specs.declared.fault.StreamFault.{StreamFault}

-- ---- fronts

-- a front of a text that has more behind it
pub front-more : {old new : Option (List ℕ)} (text more : List ℕ) → AppendsFront old new text → AppendsFront old new (text ++ more)
front-more text more f = record {
  front = f.front;
  rest = f.rest ++ more;
  parts = ap (λ t. t ++ more) f.parts ∙ append_assoc f.front f.rest more;
  appended = f.appended;
}

-- a text, and a front of what is behind it
pub front-behind : {old now new : Option (List ℕ)} (text more : List ℕ) → now ≡ with_bytes old text → AppendsFront now new more → AppendsFront old new (text ++ more)
front-behind {old} text more written f = record {
  front = text ++ f.front;
  rest = f.rest;
  parts = ap (λ t. text ++ t) f.parts ∙ sym (append_assoc text f.front f.rest);
  appended = f.appended ∙ (ap (λ w. with_bytes w f.front) written ∙ with_bytes-twice old text f.front);
}

pub front-of : {old new : Option (List ℕ)} (text whole : List ℕ) → whole ≡ text → AppendsFront old new text → AppendsFront old new whole
front-of text whole is f = record { front = f.front; rest = f.rest; parts = is ∙ f.parts; appended = f.appended }

-- ---- what is left

abbrev so : Option StreamFault → List ℕ → Printed
so fault text = record { turns = text; fault = fault }

after-after : (a b : List ℕ) (p : Printed) → after a (after b p) ≡ after (a ++ b) p
after-after a b p = ap (so p.fault) (sym (append_assoc a b p.turns))

pub prints-none : (old : Option (List ℕ)) (whole : Printed) → Prints old old whole whole
prints-none old whole = record { text = []; written = sym (with_bytes-none old); is = refl }

pub prints-same : {old new : Option (List ℕ)} {whole rest : Printed} (all left : Printed) → all ≡ whole → rest ≡ left → Prints old new whole rest → Prints old new all left
prints-same all left same next p = record { text = p.text; written = p.written; is = same ∙ (p.is ∙ ap (after p.text) next) }

pub prints-then : {old mid new : Option (List ℕ)} {whole rest more : Printed} → Prints old mid whole rest → Prints mid new rest more → Prints old new whole more
prints-then {old} {more} a b = record {
  text = a.text ++ b.text;
  written = b.written ∙ (ap (λ w. with_bytes w b.text) a.written ∙ with_bytes-twice old a.text b.text);
  is = a.is ∙ (ap (after a.text) b.is ∙ after-after a.text b.text more);
}

pub prints-front : {old mid new : Option (List ℕ)} {whole rest : Printed} → Prints old mid whole rest → AppendsFront mid new rest.turns → AppendsFront old new whole.turns
prints-front {whole} {rest} a f = front-of (a.text ++ rest.turns) whole.turns (ap (λ p. p.turns) a.is) (front-behind a.text rest.turns a.written f)

-- nothing is left
pub ended-turns : {old new : Option (List ℕ)} {whole : Printed} {fault : Option StreamFault} → Prints old new whole (ends fault) → new ≡ with_bytes old whole.turns
ended-turns {old} p = p.written ∙ ap (with_bytes old) (sym (ap (λ q. q.turns) p.is ∙ append-nil p.text))

-- the line of a fault stands behind the turns
line-is : (p : Printed) (fault : StreamFault) (line : List ℕ) → Some fault ≡ p.fault → line ≡ fault_line fault → text_of p ≡ p.turns ++ line
line-is p fault line is told = ap (λ t. p.turns ++ t) (sym (ap line_of is) ∙ sym told)

pub text-front : {old mid new : Option (List ℕ)} (p : Printed) (fault : StreamFault) (line : List ℕ) → Some fault ≡ p.fault → line ≡ fault_line fault → mid ≡ with_bytes old p.turns → AppendsFront mid new line
    → AppendsFront old new (text_of p)
text-front p fault line is told first f = front-of (p.turns ++ line) (text_of p) (line-is p fault line is told) (front-behind p.turns line first f)
