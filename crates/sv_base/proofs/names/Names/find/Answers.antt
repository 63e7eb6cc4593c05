use Rattle.std.proofs.Common.{◌≡◌, ◌<◌, length, refl, sym, arith}
use Rattle.sv_base.specs.Names.{number_of}
use Rattle.sv_base.proofs.Tables.{found, found_within, not_found}
use Rattle.sv_base.proofs.names.Names.find.Goals as goal

pub returns-in-Some-clause-number : goal.returns-in-Some-clause-number
returns-in-Some-clause-number c = (found _ _ _ _ c.self.view_is c.self.invariant c.in-Some.ensures.index c.in-Some.ensures.within).number

pub returns-in-Some-clause-known : goal.returns-in-Some-clause-known
returns-in-Some-clause-known c = (found _ _ _ _ c.self.view_is c.self.invariant c.in-Some.ensures.index c.in-Some.ensures.within).known

pub returns-in-Some-clause-none : goal.returns-in-Some-clause-none
returns-in-Some-clause-none c =
    let number : c.in-Some.at ≡ number_of c.args.text.now c.args.self.now =
    (found _ _ _ _ c.self.view_is c.self.invariant c.in-Some.ensures.index c.in-Some.ensures.within).number in
    let within : c.in-Some.at < length c.args.self.now = found_within _ _ _ c.self.view_is c.in-Some.ensures.within in
    (λ h. absurd (cc), λ h. absurd (omega arith))

pub returns-in-None-clause-none : goal.returns-in-None-clause-none
returns-in-None-clause-none c =
    let all = not_found c.args.text.now _ _ c.self.view_is (sym c.in-None.ensures.found) in
    (λ _. all, λ _. refl)
