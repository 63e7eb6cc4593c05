-- What loops leave to be found.
use Rattle.std.proofs.Common.{◌≡◌, ◌++◌}
use Rattle.sv_scopes.specs.Parts.{Parts}

-- what is found in all from the start is what is found in the rest, behind what there is now
pub record Leaves (initial now : Parts) (all rest : Parts) : Type 0 where
  pub declares : initial.declares ++ all.declares ≡ now.declares ++ rest.declares
  pub uses : initial.uses ++ all.uses ≡ now.uses ++ rest.uses
  pub scopes : initial.scopes ++ all.scopes ≡ now.scopes ++ rest.scopes
