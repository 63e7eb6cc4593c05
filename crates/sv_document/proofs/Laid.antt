-- What is found among attributes over which something was laid.
use Rattle.std.proofs.Common.{◌≡◌, ◌≤◌, ℕ, ◌+◌, List, [], ◌∷◌, Bool, true, false, Option, refl, ap, sym, ◌∙◌, arith}
use Rattle.std.specs.Prelude.{Some, None, codes, option_and_then, is_some, count_by, if◌then◌else◌}
use Rattle.std.specs.Str.{bytes_eq}
use Rattle.std.proofs.lemmas.List.Sums.{sum_by-cons}
use Rattle.std.specs.Cmp.Lexicographic.{same_text}
use Rattle.sv_html.specs.Html.{lay, strip, laid}
use Rattle.sv_tokens.specs.declared.element.Attr.{Attr}
use Rattle.sv_tokens.specs.declared.element.Attr.TheVariants as attr
use Rattle.sv_tokens.specs.declared.element.Attribute.{Attribute}
use Rattle.sv_tokens.specs.declared.element.Typed.{Typed}
use Rattle.sv_tokens.specs.declared.element.Typed.TheVariants as typed
use Rattle.sv_document.specs.Shown.{value_at, text_of, text_at, typed_or, checked_or}

-- ---- the first of a name

value-by : (name : List ℕ) (x : Attribute) (xs : List Attribute) (b : Bool) → bytes_eq x.name name ≡ b
    → value_at name (x ∷ xs) ≡ (if b then Some x.value else value_at name xs)
value-by name x xs true is = rw is refl
value-by name x xs false is = rw is refl

value-next : (name : List ℕ) (x : Attribute) (xs ys : List Attribute) → value_at name xs ≡ value_at name ys → value_at name (x ∷ xs) ≡ value_at name (x ∷ ys)
value-next name x xs ys same =
    let b = bytes_eq x.name name in
    value-by name x xs b refl ∙ ap (λ rest. if b then Some x.value else rest) same ∙ sym (value-by name x ys b refl)

-- ---- something laid under that name

lay-by : (name : List ℕ) (v : Attr) (x : Attribute) (xs : List Attribute) (b : Bool) → bytes_eq x.name name ≡ b → value_at name (lay name v xs) ≡ Some v
    → value_at name (lay name v (x ∷ xs)) ≡ Some v
lay-by name v x xs true is ih = rw (is, is) refl
lay-by name v x xs false is ih = rw is (value-by name x (lay name v xs) false is ∙ ih)

value-lay : (name : List ℕ) (v : Attr) → bytes_eq name name ≡ true → (xs : List Attribute) → value_at name (lay name v xs) ≡ Some v
value-lay name v same [] = rw same refl
value-lay name v same (x ∷ xs) = lay-by name v x xs (bytes_eq x.name name) refl (value-lay name v same xs)

-- ---- something laid or taken under another name

other-name : (name other : List ℕ) (x : Attribute) → bytes_eq name other ≡ false → bytes_eq x.name name ≡ true → bytes_eq x.name other ≡ false
other-name name other x apart is = ap (λ n. bytes_eq n other) (same_text x.name name (sym is)) ∙ apart

other-by : (name other : List ℕ) (v : Attr) (x : Attribute) (xs : List Attribute) → bytes_eq name other ≡ false → (b : Bool) → bytes_eq x.name name ≡ b
    → value_at other (lay name v xs) ≡ value_at other xs → value_at other (lay name v (x ∷ xs)) ≡ value_at other (x ∷ xs)
other-by name other v x xs apart true is ih =
    let far = other-name name other x apart is in
    rw is (value-by other (record x { value = v }) xs false far ∙ sym (value-by other x xs false far))
other-by name other v x xs apart false is ih = rw is (value-next other x (lay name v xs) xs ih)

value-lay_other : (name other : List ℕ) (v : Attr) → bytes_eq name other ≡ false → (xs : List Attribute) → value_at other (lay name v xs) ≡ value_at other xs
value-lay_other name other v apart [] = rw apart refl
value-lay_other name other v apart (x ∷ xs) = other-by name other v x xs apart (bytes_eq x.name name) refl (value-lay_other name other v apart xs)

strip-by : (name other : List ℕ) (x : Attribute) (xs : List Attribute) → bytes_eq name other ≡ false → (b : Bool) → bytes_eq x.name name ≡ b
    → value_at other (strip name xs) ≡ value_at other xs → value_at other (strip name (x ∷ xs)) ≡ value_at other (x ∷ xs)
strip-by name other x xs apart true is ih = rw is (sym (value-by other x xs false (other-name name other x apart is)))
strip-by name other x xs apart false is ih = rw is (value-next other x (strip name xs) xs ih)

value-strip_other : (name other : List ℕ) → bytes_eq name other ≡ false → (xs : List Attribute) → value_at other (strip name xs) ≡ value_at other xs
value-strip_other name other apart [] = refl
value-strip_other name other apart (x ∷ xs) = strip-by name other x xs apart (bytes_eq x.name name) refl (value-strip_other name other apart xs)

-- ---- one taken that stands once

abbrev times : List ℕ → List Attribute → ℕ
times name xs = count_by (λ (a : Attribute). bytes_eq a.name name) xs

times-next : (name : List ℕ) (x : Attribute) (xs : List Attribute) (b : Bool) → bytes_eq x.name name ≡ b → times name (x ∷ xs) ≡ (if b then 1 else 0) + times name xs
times-next name x xs b is = sum_by-cons (λ (a : Attribute). if bytes_eq a.name name then 1 else 0) x xs ∙ ap (λ c. (if c then 1 else 0) + times name xs) is

never-by : (name : List ℕ) (x : Attribute) (xs : List Attribute) (b : Bool) → bytes_eq x.name name ≡ b → (times name xs ≤ 0 → value_at name xs ≡ None)
    → times name (x ∷ xs) ≤ 0 → value_at name (x ∷ xs) ≡ None
never-by name x xs true is ih few = absurd (omega (arith, times-next name x xs true is, few))
never-by name x xs false is ih few = value-by name x xs false is ∙ ih (omega (arith, times-next name x xs false is, few))

value-never : (name : List ℕ) (xs : List Attribute) → times name xs ≤ 0 → value_at name xs ≡ None
value-never name [] few = refl
value-never name (x ∷ xs) few = never-by name x xs (bytes_eq x.name name) refl (value-never name xs) few

once-by : (name : List ℕ) (x : Attribute) (xs : List Attribute) (b : Bool) → bytes_eq x.name name ≡ b → (times name xs ≤ 1 → value_at name (strip name xs) ≡ None)
    → times name (x ∷ xs) ≤ 1 → value_at name (strip name (x ∷ xs)) ≡ None
once-by name x xs true is ih few = rw is (value-never name xs (omega (arith, times-next name x xs true is, few)))
once-by name x xs false is ih few = rw is (value-by name x (strip name xs) false is ∙ ih (omega (arith, times-next name x xs false is, few)))

value-strip : (name : List ℕ) (xs : List Attribute) → times name xs ≤ 1 → value_at name (strip name xs) ≡ None
value-strip name [] few = refl
value-strip name (x ∷ xs) few = once-by name x xs (bytes_eq x.name name) refl (value-strip name xs) few

-- ---- what was typed

pub value_laid : (t : Option Typed) (xs : List Attribute) → typed_or t (text_at (codes "value") xs) ≡ text_at (codes "value") (laid t xs)
value_laid None xs = refl
value_laid (Some (typed.Text text)) xs = ap (option_and_then text_of) (sym (value-lay (codes "value") (attr.Text text) refl xs))
value_laid (Some (typed.Checked true)) xs = ap (option_and_then text_of) (sym (value-lay_other (codes "checked") (codes "value") attr.Flag refl xs))
value_laid (Some (typed.Checked false)) xs = ap (option_and_then text_of) (sym (value-strip_other (codes "checked") (codes "value") refl xs))

pub check_laid : (t : Option Typed) (xs : List Attribute) → times (codes "checked") xs ≤ 1
    → checked_or t (is_some (value_at (codes "checked") xs)) ≡ is_some (value_at (codes "checked") (laid t xs))
check_laid None xs few = refl
check_laid (Some (typed.Text text)) xs few = ap is_some (sym (value-lay_other (codes "value") (codes "checked") (attr.Text text) refl xs))
check_laid (Some (typed.Checked true)) xs few = ap is_some (sym (value-lay (codes "checked") attr.Flag refl xs))
check_laid (Some (typed.Checked false)) xs few = ap is_some (sym (value-strip (codes "checked") xs few))
