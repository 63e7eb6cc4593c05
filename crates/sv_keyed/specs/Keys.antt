-- Lists of keys: how often a key stands in one, and the first that stands there again.
use Rattle.std.specs.Prelude.{ℕ, suc, ◌+◌, ◌≤◌, ◌==◌, Bool, false, List, [], ◌∷◌, ◌++◌, Option, Some, None, if◌then◌else◌}
use Rattle.std.specs.Ordering.{int_eq}
use Rattle.std.specs.Str.{bytes_eq}
use Rattle.std.specs.Bool.{beq}
use Rattle.sv_value.specs.declared.key.Key.{Key}
use Rattle.sv_value.specs.declared.key.Key.TheVariants.{Num, Text, Bool as Truth}

-- whether two keys are one: a number, a text and a truth value differ
abbrev pub same_key : Key → Key → Bool
same_key (Num a) (Num b) = int_eq a b
same_key (Text a) (Text b) = bytes_eq a b
same_key (Truth a) (Truth b) = beq a b
same_key _ _ = false

-- how often a key stands in a list
abbrev pub times : Key → List Key → ℕ
times k [] = 0
times k (x ∷ xs) = if same_key k x then suc (times k xs) else times k xs

-- no key stands twice
abbrev pub IsDistinct : List Key → Type 0
IsDistinct xs = (k : Key) → times k xs ≤ 1

-- the first key that equals an earlier one or one of those seen before
abbrev pub repeat_after : List Key → List Key → Option Key
repeat_after seen [] = None
repeat_after seen (k ∷ ks) = if times k seen == 0 then repeat_after (seen ++ k ∷ []) ks else Some k

-- the first key that equals an earlier one
abbrev pub first_repeat : List Key → Option Key
first_repeat keys = repeat_after [] keys

-- where a key stands last in a list whose first place has a number, or what was found before
abbrev pub place_after : Option ℕ → ℕ → List Key → Key → Option ℕ
place_after found n [] k = found
place_after found n (x ∷ xs) k = place_after (if same_key x k then Some n else found) (n + 1) xs k

-- the place of a key in a list, the last one where there are more
abbrev pub place_of : List Key → Key → Option ℕ
place_of keys k = place_after None 0 keys k
