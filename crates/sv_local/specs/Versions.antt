-- Views whose versions tell the values of one place apart.
use Rattle.std.specs.Prelude.{◌≡◌, ℕ}
use Rattle.sv_base.specs.declared.names.Name.{Name}
use Rattle.sv_local.specs.Looks.{AreOfOne}
use Rattle.sv_view.specs.Level.{View}
use Rattle.sv_view.specs.View.{look, version}
use Rattle.sv_view.specs.declared.view.At.TheVariants as at

-- of two views of one instance, equal versions mean equal values
pub record AreVersions (v v' : View) : Type 0 where
  pub one : AreOfOne v v'
  pub cells : (n : ℕ) → version v (at.Cell n) ≡ version v' (at.Cell n) → look v (at.Cell n) ≡ look v' (at.Cell n)
  pub locals : (x : Name) → version v (at.Local x) ≡ version v' (at.Local x) → look v (at.Local x) ≡ look v' (at.Local x)
