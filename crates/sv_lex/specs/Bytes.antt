-- The steps of rules that go byte by byte, as those of markup do. They stand beside the steps over tokens.
use Rattle.std.specs.Prelude.{◌≡◌, ◌<◌, ◌+◌, ◌++◌, ℕ, List, length, Result, Ok, Err}
use Rattle.sv_base.specs.declared.limits.TheConstants.{TEXT_LIMIT}
use Rattle.sv_base.specs.declared.names.Name.{Name as NameNumber}
use Rattle.sv_base.specs.Names.{IsTable}
use Rattle.sv_ast.specs.declared.refusals.Kind.{Kind}
use Rattle.sv_ast.specs.declared.refusals.Refused.{Refused}
use Rattle.sv_ast.specs.declared.refusals.ParseError.{ParseError}
use Rattle.sv_lex.specs.declared.source.Source.TheInside.{Inside}
use Rattle.sv_lex.specs.Literals.{moved}
use Rattle.sv_lex.specs.Reader.{Input, Outcome, Parser, Fails, name_of, knowing}

-- a refusal at a place of the file, with no bytes
abbrev pub stopped_at : Kind → ℕ → Input → Refused
stopped_at kind from i = record { kind = kind; at = record { file = i.file; from = from; to = from } }

abbrev pub stop_at : {A : Type 0} → Kind → ℕ → Parser A
stop_at kind from = λ i. Err (stopped_at kind from i)

-- a refusal where the rule stands
abbrev pub stop : {A : Type 0} → Kind → Parser A
stop kind = λ i. Err (stopped_at kind i.at i)

-- where the rule stands
abbrev pub place : Parser ℕ
place = λ i. Ok (i.at, i)

-- goes on by so many bytes
abbrev pub pass : ℕ → Parser (Unit {0})
pass n = λ i. Ok (tt, moved n i)

-- the number of a name, which it gets where it has none
abbrev pub numbered : List ℕ → Parser NameNumber
numbered text = λ i. Ok (name_of text i, knowing text i)

-- the same with another text of the file, which begins at this place
abbrev pub standing_at : List ℕ → ℕ → Input → Input
standing_at text at i = record i { text = text; at = at }

-- ---- the cursor

abbrev pub source_of : Inside → Input
source_of s = record { text = s.text.now; at = s.at; file = s.file; known = s.known.now; added = s.added }

-- places that fit, and names that are a table
pub record IsSound (s : Inside) : Type 0 where
  pub places : s.at + length s.text.now < TEXT_LIMIT
  pub names : IsTable (s.known.now ++ s.added)

-- what a function that ends a run of tokens ensures: the outcome of a step that gives nothing but what is left, unless memory fails
abbrev pub Closes : Outcome (Unit {0}) → Result Input ParseError → Type 0
Closes outcome (Ok new) = outcome ≡ Ok (tt, new)
Closes outcome (Err e) = Fails outcome e
