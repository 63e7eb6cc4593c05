-- The first of some places.
use Rattle.std.specs.Prelude.{Bool, true, false, List, [], ◌∷◌, Option, None, Some, Result, Ok, Err}
use Rattle.sv_base.specs.declared.span.Span.{Span}

abbrev pub is_empty : List Span → Bool
is_empty [] = true
is_empty (place ∷ places) = false

abbrev pub first : List Span → Option Span
first [] = None
first (place ∷ places) = Some place

-- what a look at a part of a tree answers: the first place is its refusal
abbrev pub outcome : List Span → Result (Unit {0}) Span
outcome [] = Ok tt
outcome (place ∷ places) = Err place
