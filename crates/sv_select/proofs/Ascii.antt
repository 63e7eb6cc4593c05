-- Words and tags are text.
use Rattle.std.proofs.Common.{◌≡◌, ◌<◌, ℕ, zero, suc, Bool, true, false, ◌&&◌, List, [], ◌∷◌, refl, arith}
use Rattle.std.specs.List.{list_all}
use Rattle.std.specs.Str.{IsAscii, IsUtf8}
use Rattle.std.specs.Char.{is_ascii_lowercase}
use Rattle.std.proofs.lemmas.Bool.Decides.{nat_tests}
use Rattle.std.proofs.lemmas.Str.{IsUtf8-from_ascii}
use Rattle.sv_select.specs.Words.{is_word_byte, is_tag_byte, is_word, is_tag}

byte_ascii : (b : ℕ) → is_word_byte b ≡ true → b < 128
byte_ascii b h = grind (arith, nat_tests)

tag_is_word : (b : ℕ) → is_tag_byte b ≡ true → is_word_byte b ≡ true
tag_is_word b h = grind (arith, nat_tests)

small_is_word : (b : ℕ) → is_ascii_lowercase b ≡ true → is_word_byte b ≡ true
small_is_word b h = grind (arith, nat_tests)

front : (p q : Bool) → p && q ≡ true → p ≡ true
front true q h = refl
front false q h = h

back : (p q : Bool) → p && q ≡ true → q ≡ true
back true q h = h
back false q h = cc

both : (p q : Bool) → p ≡ true → q ≡ true → p && q ≡ true
both p q h k = rw (h, k) refl

one_ascii : (b : ℕ) (z : List ℕ) → b < 128 → IsAscii z → IsAscii (b ∷ z)
one_ascii b z h more zero = h
one_ascii b z h more (suc i) = more i

all_ascii : (z : List ℕ) → list_all is_word_byte z ≡ true → IsAscii z
all_ascii [] h = λ i. omega arith
all_ascii (b ∷ z) h = one_ascii b z (byte_ascii b (front (is_word_byte b) _ h)) (all_ascii z (back (is_word_byte b) _ h))

pub word_utf8 : (z : List ℕ) → list_all is_word_byte z ≡ true → IsUtf8 z
word_utf8 z h = IsUtf8-from_ascii z (all_ascii z h)

all_words : (z : List ℕ) → list_all is_tag_byte z ≡ true → list_all is_word_byte z ≡ true
all_words [] h = refl
all_words (b ∷ z) h = both (is_word_byte b) _ (tag_is_word b (front (is_tag_byte b) _ h)) (all_words z (back (is_tag_byte b) _ h))

-- the name of a tag is made of bytes of words
pub tag_words : (z : List ℕ) → is_tag z ≡ true → list_all is_word_byte z ≡ true
tag_words [] h = refl
tag_words (b ∷ z) h = both (is_word_byte b) _ (small_is_word b (front (is_ascii_lowercase b) _ h)) (all_words z (back (is_ascii_lowercase b) _ h))

-- and so is a word
pub word_words : (z : List ℕ) → is_word z ≡ true → list_all is_word_byte z ≡ true
word_words [] h = refl
word_words (b ∷ z) h = h
