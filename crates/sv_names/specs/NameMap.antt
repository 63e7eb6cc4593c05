-- Names with the numbers that they stand for, each once.
use Rattle.std.specs.Prelude.{ℕ, List, [], ◌∷◌, ◌++◌, Option, None, Some, is_some, if◌then◌else◌}
use Rattle.sv_ast.specs.declared.names.Ref.{Ref}
use Rattle.sv_names.specs.Distinct.{same_ref}

abbrev pub Entries : Type 0
Entries = List (Ref × ℕ)

abbrev pub number_of : Entries → Ref → Option ℕ
number_of [] name = None
number_of (k ∷ entries) name = if same_ref name k.0 then Some k.1 else number_of entries name

-- a name stands for the first number that it is given
abbrev pub with_entry : Entries → Ref × ℕ → Entries
with_entry entries k = if is_some (number_of entries k.0) then entries else entries ++ k ∷ []

abbrev pub with_entries : Entries → Entries → Entries
with_entries entries [] = entries
with_entries entries (k ∷ more) = with_entries (with_entry entries k) more
