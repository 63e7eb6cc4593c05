-- The keys of an object, as its map has them.
use Rattle.std.proofs.Common.{◌≡◌, ℕ, List, [], ◌∷◌, Bool, refl, ap}
use Rattle.std.specs.Prelude.{String, ◌&&◌, string_bytes}
use Rattle.std.specs.List.{list_all}
use Rattle.std.specs.Map.{keys_of}
use Rattle.std.specs.declared.alloc.Global.{Global}
use Rattle.serde_json.specs.View.{members_view}
use Rattle.serde_json.specs.declared.value.Value.{Value}
use Rattle.sv_events.specs.Members.{keys_pass}

pub keys_passed : (may : List ℕ → Bool) (es : List (String Global × Value)) → list_all (λ key. may (string_bytes key)) (keys_of es) ≡ keys_pass may (members_view es)
keys_passed may [] = refl
keys_passed may (e ∷ es) = ap (λ b. may (string_bytes e.0) && b) (keys_passed may es)
