-- What is made of markup, where each part may number functions, component tags and handlers.
use Rattle.std.specs.Prelude.{List}
use Rattle.sv_ast.specs.declared.names.Ref.{Ref}
use Rattle.sv_lower.specs.Does.{Does}
use Rattle.sv_lower.specs.Lower.{Lowers}
use Rattle.sv_lower.specs.Tops.{Tops}
use Rattle.sv_names.specs.NameMap.{Entries}
use Rattle.sv_fragments.specs.declared.around.Tables.{Tables}

-- a component, as its markup sees it: what names stand for at the top of its file, its cells, and the files that the names of its tags stand for
pub record Around : Type 0 where
  pub tops : Tops
  pub cells : List Ref
  pub children : Entries

-- what is made in a component, inside scopes of some locals
abbrev pub Builds : Type 0 → Type 0
Builds = Does Around Tables

-- what is put behind what stands in the tables
abbrev pub Numbers : Type 0 → Type 0
Numbers A = Tables → A × Tables

-- code, which numbers functions alone
abbrev pub lowered : {A : Type 0} → Lowers A → Builds A
lowered code around locals tables = ((code around.tops locals tables.functions).0, record tables { functions = (code around.tops locals tables.functions).1 })
