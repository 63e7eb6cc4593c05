-- What is made of the items of a list in turn.
use Rattle.std.proofs.Common.{List, ◌++◌}

-- what was made before, and behind it what is made of the others
abbrev pub ahead : {A S : Type 0} → List A → List A × S → List A × S
ahead done made = (done ++ made.0, made.1)
