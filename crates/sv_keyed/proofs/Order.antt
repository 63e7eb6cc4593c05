-- The order of keys by which std's maps keep them tells all keys apart.
use Rattle.std.proofs.Common.{◌≡◌, true, false, refl, sym}
use Rattle.std.specs.BTreeMap.{is_at}
use Rattle.std.specs.Cmp.Lexicographic.{texts_ties}
use Rattle.sv_value.specs.declared.key.Key.{Key}
use Rattle.sv_value.specs.declared.key.Key.TheVariants.{Num, Text, Bool as Truth}
use Rattle.sv_keyed.specs.Keys.{same_key}
use Rattle.sv_keyed.specs.Places.{key_order}

pub is_at-same_key : (a b : Key) → is_at (key_order a) b ≡ same_key a b
is_at-same_key (Num a) (Num b) = refl
is_at-same_key (Num a) (Text b) = refl
is_at-same_key (Num a) (Truth b) = refl
is_at-same_key (Text a) (Num b) = refl
is_at-same_key (Text a) (Text b) = sym (texts_ties a b)
is_at-same_key (Text a) (Truth b) = refl
is_at-same_key (Truth a) (Num b) = refl
is_at-same_key (Truth a) (Text b) = refl
is_at-same_key (Truth true) (Truth true) = refl
is_at-same_key (Truth true) (Truth false) = refl
is_at-same_key (Truth false) (Truth true) = refl
is_at-same_key (Truth false) (Truth false) = refl
