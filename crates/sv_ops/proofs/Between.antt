-- What is left of texts with another between them.
use Rattle.std.proofs.Common.{◌≡◌, ℕ, zero, suc, List, [], refl}
use Rattle.sv_ops.specs.Texts.{between, behind}

-- those from one with a number on: in front of each but the first stands what is between
abbrev pub onward : List ℕ → ℕ → List (List ℕ) → List ℕ
onward t zero texts = between t texts
onward t (suc n) texts = behind t texts

pub onward-nil : (t : List ℕ) (n : ℕ) → onward t n [] ≡ []
onward-nil t zero = refl
onward-nil t (suc n) = refl
