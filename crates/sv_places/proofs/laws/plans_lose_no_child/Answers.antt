use Rattle.std.proofs.Common.{◌≡◌, true, List, [], ◌∷◌, map, refl}
use Rattle.sv_places.proofs.Patches.{plan-fits, plan-follows}
use Rattle.sv_places.proofs.laws.plans_lose_no_child.Goals as goal
use Rattle.sv_places.specs.Fits.{Fitter, fit_each, fitter, slotted, fits_all}

nothing-fits : (fits : List Fitter) → fit_each fits [] ≡ true
nothing-fits [] = refl
nothing-fits (fit ∷ fits) = refl

pub returns-clause-nothing : goal.returns-clause-nothing
unfolding fits_all
returns-clause-nothing c = λ p tags frags. nothing-fits (map (fitter p (slotted p tags)) frags)

pub returns-clause-fits : goal.returns-clause-fits
returns-clause-fits c = λ p tags frags at old new s s' fit e. plan-fits p tags frags at old new s s' fit e

pub returns-clause-follows : goal.returns-clause-follows
returns-clause-follows c = λ p tags frags at old new s s' fit e. plan-follows p tags frags at old new s s' fit e
