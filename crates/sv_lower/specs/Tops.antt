-- What names stand for where they are written. What the top of a file declares or imports, and what is given without a declaration, is a
-- table; a scope between a name and the top of the file hides what has its name there.
use Rattle.std.specs.Prelude.{Bool, ◌==◌, List, [], ◌∷◌, ◌++◌, Option, None, Some, is_some, if◌then◌else◌}
use Rattle.sv_ast.specs.declared.names.Ref.{Ref}
use Rattle.sv_base.specs.Names.{Table}
use Rattle.sv_base.specs.declared.names.Name.{Name}
use Rattle.sv_code.specs.declared.known.Known.{Known}
use Rattle.sv_code.specs.declared.known.Known.TheVariants.{Local}
use Rattle.sv_code.specs.declared.known.Method.{Method}
use Rattle.sv_code.specs.declared.known.Property.{Property}
use Rattle.sv_lower.specs.declared.members.Word.{Word}
use Rattle.sv_names.specs.Distinct.{same_ref, has}
use Rattle.sv_names.specs.Locals.{name_of}

-- the texts of all names, names with what they stand for, and words behind a point with what they mean
pub record Tops : Type 0 where
  pub names : Table
  pub known : List (Ref × Known)
  pub words : List Word

-- ---- names

-- what a table says of a name
abbrev pub known_in : List (Ref × Known) → Ref → Option Known
known_in [] name = None
known_in (k ∷ known) name = if same_ref name k.0 then Some k.1 else known_in known name

-- a name stands for the first that it is given
abbrev pub with_known : List (Ref × Known) → Ref × Known → List (Ref × Known)
with_known known k = if is_some (known_in known k.0) then known else known ++ k ∷ []

abbrev pub with_all : List (Ref × Known) → List (Ref × Known) → List (Ref × Known)
with_all known [] = known
with_all known (k ∷ more) = with_all (with_known known k) more

abbrev pub known_or : Option Known → Ref → Known
known_or None name = Local (name_of name)
known_or (Some known) name = known

-- what a name stands for inside scopes of some locals: a local, or what the top says. A name of which it says nothing counts as a local
abbrev pub known_at : Tops → List Ref → Ref → Known
known_at tops locals name = if has name locals then Local (name_of name) else known_or (known_in tops.known name) name

-- ---- words

abbrev pub same_name : Name → Name → Bool
same_name a b = a.0 == b.0

-- what a word means, besides the name of a field
abbrev pub method_in : List Word → Name → Option Method
method_in [] name = None
method_in (w ∷ words) name = if same_name w.name name then Some w.method else method_in words name

abbrev pub property : Tops → Name → Property
property tops name = record { name = name; method = method_in tops.words name }
