-- What an import may name.
use Rattle.std.specs.Prelude.{ℕ, Bool, not, ◌-◌, ◌&&◌, ◌||◌, ◌==◌, List, take, drop, length, codes, if◌then◌else◌}
use Rattle.std.specs.Char.{is_ascii_alphanumeric}
use Rattle.std.specs.List.{list_any}
use Rattle.std.specs.Str.{bytes_eq}
use Rattle.sv_base.specs.declared.built_in.TheConstants.{LIFE_MODULE, STORE_MODULE}

-- no ASCII letter, digit, `_` or `-`
abbrev pub is_other_byte : ℕ → Bool
is_other_byte b = not (is_ascii_alphanumeric b || b == 95 || b == 45)

unfoldable pub is_file_name : List ℕ → Bool
is_file_name z = not (length z == 0) && not (list_any (λ b. is_other_byte b) z)

-- a name of a file and the ending
unfoldable pub has_ending : List ℕ → List ℕ → Bool
has_ending ending z = bytes_eq (drop (length z - length ending) z) ending && is_file_name (take (length z - length ending) z)

-- `./`, a name of a file and the ending
unfoldable pub is_path : List ℕ → List ℕ → Bool
is_path ending z = bytes_eq (take 2 z) (codes "./") && has_ending ending (drop 2 z)

-- a component for an import without braces; for one with braces what the language gives, or a module
unfoldable pub is_source : Bool → List ℕ → Bool
is_source is_whole z =
    if is_whole then is_path (codes ".svelte") z
    else (bytes_eq z LIFE_MODULE.now || bytes_eq z STORE_MODULE.now || is_path (codes ".js") z)
