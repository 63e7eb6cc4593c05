-- The bytes at the front that are of a class are text.
use Rattle.std.proofs.Common.{◌≡◌, ◌<◌, ◌+◌, ℕ, zero, suc, Bool, true, false, cond, List, [], ◌∷◌, take, refl, subst, arith}
use Rattle.std.specs.List.{prefix_len}
use Rattle.std.specs.Str.{IsAscii, IsUtf8}
use Rattle.std.proofs.lemmas.Bool.Decides.{nat_tests}
use Rattle.std.proofs.lemmas.Str.{IsUtf8-from_ascii}
use Rattle.sv_tags.specs.declared.classes.Class.{Class}
use Rattle.sv_tags.specs.declared.classes.Class.TheVariants.{Blank, TagRest, AttributeName, Reference}
use Rattle.sv_tags.specs.Classes.{is_in, front_len, front_of}

byte_ascii : (class : Class) (b : ℕ) → is_in class b ≡ true → b < 128
byte_ascii Blank b h = grind (arith, nat_tests)
byte_ascii TagRest b h = grind (arith, nat_tests)
byte_ascii AttributeName b h = grind (arith, nat_tests)
byte_ascii Reference b h = grind (arith, nat_tests)

one_ascii : (b : ℕ) (z : List ℕ) → b < 128 → IsAscii z → IsAscii (b ∷ z)
one_ascii b z h more zero = h
one_ascii b z h more (suc i) = more i

none_ascii : IsAscii []
none_ascii i = omega arith

front_ascii : (class : Class) (z : List ℕ) → IsAscii (take (prefix_len (is_in class) z) z)
front_ascii class [] = none_ascii
front_ascii class (b ∷ z) = by (is_in class b) refl (front_ascii class z)
  where
    by : (t : Bool) → is_in class b ≡ t → IsAscii (take (prefix_len (is_in class) z) z)
        → IsAscii (take (cond t (1 + prefix_len (is_in class) z) 0) (b ∷ z))
    by true e more =
        let one : suc (prefix_len (is_in class) z) ≡ 1 + prefix_len (is_in class) z = omega arith in
        subst (λ n. IsAscii (take n (b ∷ z))) one (one_ascii b (take (prefix_len (is_in class) z) z) (byte_ascii class b e) more)
    by false e more = none_ascii

pub front_utf8 : (class : Class) (z : List ℕ) → IsUtf8 (front_of class z)
unfolding front_len
front_utf8 class z = IsUtf8-from_ascii _ (front_ascii class z)
