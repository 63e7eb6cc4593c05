-- Where code stands.
use Rattle.sv_lower.specs.declared.inside.Inside.{Inside}
use Rattle.sv_lower.specs.Does.{Does}
use Rattle.sv_lower.specs.Tops.{Tops}
use Rattle.sv_names.specs.Locals.{names_of}

-- what is made where code stands
abbrev pub made_in : {S A : Type 0} → Inside → Does Tops S A → S → A × S
made_in inside make = make inside.tops.now (names_of inside.locals.now)
