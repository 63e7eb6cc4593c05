-- Where nobody is live and nothing is shown, all that is shown is true.
use Rattle.std.proofs.Common.{◌≡◌, ℕ, zero, suc, [], ◌∷◌, Some, None}
use Rattle.std.proofs.lemmas.Option.{none-some}
use Rattle.sv_code.specs.declared.program.Program.{Program}
use Rattle.sv_family.specs.Kin.{Kin}
use Rattle.sv_numbered.specs.Numbered.{at}
use Rattle.sv_shapes.specs.Showing.{nothing}
use Rattle.sv_shown.specs.True.{Modules, AreTrue}

none_live : {A : Type 0} (n : ℕ) (kin : Kin) → at (None ∷ []) n ≡ Some kin → A
none_live zero kin e = absurd (none-some kin e)
none_live (suc n) kin e = absurd (none-some kin e)

pub true_blank : (p : Program) (ms : Modules) (next : ℕ) → AreTrue p ms [] (None ∷ []) nothing next
true_blank p ms next = record {
  standing = λ n kin st e f. none_live n kin e;
  right = λ n x e. absurd (none-some x e);
  behind = λ n kin x e f. none_live n kin e;
  lent = λ n kin view e f. none_live n kin e;
  held = λ q x e. absurd (none-some x e);
}
