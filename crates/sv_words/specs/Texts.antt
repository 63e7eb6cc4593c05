-- Texts as lists of bytes.
use Rattle.std.specs.Prelude.{ℕ, List, map, String, string_bytes}
use Rattle.std.specs.declared.alloc.Global.{Global}

-- texts as their bytes
abbrev pub bytes_of : List (String Global) → List (List ℕ)
bytes_of texts = map string_bytes texts
