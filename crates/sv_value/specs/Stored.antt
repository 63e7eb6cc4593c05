-- Trees as plain data: each is stored as a tag and its parts, and is read back from them.
use Rattle.std.specs.Prelude.{◌≡◌, ℕ, zero, suc, ℤ, pos, negsuc, Bool, true, false, List, [], ◌∷◌, refl}
use Rattle.std.specs.Coded.{Coded}
use Rattle.std.proofs.Common.{sym, ◌∙◌, ap}
use base.Stored.{Gv, gnil, gnum, gcons}
use Rattle.sv_value.specs.Value.{Val, Vals, Fields, undefined, null, boolean, number, text, list, object, function, store, none, more, bare, field}

abbrev code_text : List ℕ → Gv
code_text [] = gnil
code_text (c ∷ t) = gcons (gnum c) (code_text t)

abbrev code_bool : Bool → Gv
code_bool true = gnum 1
code_bool false = gnum 0

abbrev code_integer : ℤ → Gv
code_integer (pos n) = gcons gnil (gnum n)
code_integer (negsuc n) = gcons (gnum 0) (gnum n)

abbrev mutual
  code_val : Val → Gv
  code_val undefined = gnil
  code_val null = gcons (gnum 0) gnil
  code_val (boolean b) = gcons (gnum 1) (code_bool b)
  code_val (number n) = gcons (gnum 2) (code_integer n)
  code_val (text t) = gcons (gnum 3) (code_text t)
  code_val (list vs) = gcons (gnum 4) (code_vals vs)
  code_val (object fs) = gcons (gnum 5) (code_fields fs)
  code_val (function c o vs) = gcons (gnum 6) (gcons (gnum c) (gcons (gnum o) (code_vals vs)))
  code_val (store s) = gcons (gnum 7) (gnum s)

  code_vals : Vals → Gv
  code_vals none = gnil
  code_vals (more v vs) = gcons (code_val v) (code_vals vs)

  code_fields : Fields → Gv
  code_fields bare = gnil
  code_fields (field k v fs) = gcons (code_text k) (gcons (code_val v) (code_fields fs))

abbrev number_from : Gv → ℕ
number_from (gnum n) = n
number_from _ = 0

abbrev bool_from : Gv → Bool
bool_from (gnum (suc n)) = true
bool_from _ = false

abbrev integer_from : Gv → ℤ
integer_from (gcons gnil k) = pos (number_from k)
integer_from (gcons _ k) = negsuc (number_from k)
integer_from _ = pos 0

abbrev text_from : Gv → List ℕ
text_from (gcons x rest) = number_from x ∷ text_from rest
text_from _ = []

abbrev mutual
  val_from : Gv → Val
  val_from (gcons (gnum zero) x) = null
  val_from (gcons (gnum (suc zero)) x) = boolean (bool_from x)
  val_from (gcons (gnum (suc (suc zero))) x) = number (integer_from x)
  val_from (gcons (gnum (suc (suc (suc zero)))) x) = text (text_from x)
  val_from (gcons (gnum (suc (suc (suc (suc zero))))) x) = list (vals_from x)
  val_from (gcons (gnum (suc (suc (suc (suc (suc zero)))))) x) = object (fields_from x)
  val_from (gcons (gnum (suc (suc (suc (suc (suc (suc zero))))))) (gcons c (gcons o x))) = function (number_from c) (number_from o) (vals_from x)
  val_from (gcons (gnum (suc (suc (suc (suc (suc (suc (suc n)))))))) x) = store (number_from x)
  val_from _ = undefined

  vals_from : Gv → Vals
  vals_from (gcons x rest) = more (val_from x) (vals_from rest)
  vals_from _ = none

  fields_from : Gv → Fields
  fields_from (gcons k (gcons x rest)) = field (text_from k) (val_from x) (fields_from rest)
  fields_from _ = bare

text-back : (t : List ℕ) → text_from (code_text t) ≡ t
text-back [] = refl
text-back (c ∷ t) = ap (λ s. c ∷ s) (text-back t)

bool-back : (b : Bool) → bool_from (code_bool b) ≡ b
bool-back true = refl
bool-back false = refl

integer-back : (z : ℤ) → integer_from (code_integer z) ≡ z
integer-back (pos n) = refl
integer-back (negsuc n) = refl

mutual
  val-back : (v : Val) → val_from (code_val v) ≡ v
  val-back undefined = refl
  val-back null = refl
  val-back (boolean b) = ap boolean (bool-back b)
  val-back (number z) = ap number (integer-back z)
  val-back (text t) = ap text (text-back t)
  val-back (list vs) = ap list (vals-back vs)
  val-back (object fs) = ap object (fields-back fs)
  val-back (function c o vs) = ap (function c o) (vals-back vs)
  val-back (store s) = refl

  vals-back : (vs : Vals) → vals_from (code_vals vs) ≡ vs
  vals-back none = refl
  vals-back (more v vs) = ap (λ x. more x (vals_from (code_vals vs))) (val-back v) ∙ ap (more v) (vals-back vs)

  fields-back : (fs : Fields) → fields_from (code_fields fs) ≡ fs
  fields-back bare = refl
  fields-back (field k v fs) =
      ap (λ x. field x (val_from (code_val v)) (fields_from (code_fields fs))) (text-back k)
      ∙ ap (λ x. field k x (fields_from (code_fields fs))) (val-back v)
      ∙ ap (field k v) (fields-back fs)

pub vals-inj : (x y : Vals) → code_vals x ≡ code_vals y → x ≡ y
vals-inj x y p = sym (vals-back x) ∙ ap vals_from p ∙ vals-back y

pub fields-inj : (x y : Fields) → code_fields x ≡ code_fields y → x ≡ y
fields-inj x y p = sym (fields-back x) ∙ ap fields_from p ∙ fields-back y

pub val-inj : (x y : Val) → code_val x ≡ code_val y → x ≡ y
val-inj x y p = sym (val-back x) ∙ ap val_from p ∙ val-back y

-- how each kind of tree is stored
abbrev pub vals_code : Coded Vals
vals_code = record { code = code_vals; inj = vals-inj }

abbrev pub fields_code : Coded Fields
fields_code = record { code = code_fields; inj = fields-inj }

abbrev pub val_code : Coded Val
val_code = record { code = code_val; inj = val-inj }
