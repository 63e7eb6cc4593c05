-- What code does where a context stands: the definitions at a context's program, view, owner and room for calls.
use Rattle.std.specs.Prelude.{ℕ, List, Option, Some, None, option_copied}
use Rattle.sv_base.specs.declared.span.Span.{Span}
use Rattle.sv_code.specs.declared.code.Code.{Code}
use Rattle.sv_code.specs.declared.code.CodeField.{CodeField}
use Rattle.sv_code.specs.declared.code.CodeItem.{CodeItem}
use Rattle.sv_code.specs.declared.code.CodeKind.{CodeKind}
use Rattle.sv_code.specs.declared.code.CodeLink.{CodeLink}
use Rattle.sv_code.specs.declared.functions.CodeArm.{CodeArm}
use Rattle.sv_code.specs.declared.functions.CodeDecl.{CodeDecl}
use Rattle.sv_code.specs.declared.functions.CodeStmt.{CodeStmt}
use Rattle.sv_code.specs.declared.functions.CodeStmtKind.{CodeStmtKind}
use Rattle.sv_code.specs.declared.program.Program.{Program}
use Rattle.sv_value.specs.Value.{Val}
use Rattle.sv_view.specs.Level.{View}
use Rattle.sv_meaning.specs.Calls.{Caller}
use Rattle.sv_meaning.specs.Derived.{running}
use Rattle.sv_meaning.specs.Functions.{Mode, caller, silent}
use Rattle.sv_meaning.specs.Sight.{Ground}
use Rattle.sv_meaning.specs.Outcome.{Meaning, Flow}
use Rattle.sv_meaning.specs.Statements.{Doing, Arm, run, doing_of, arm_of, decl_of, valued}
use Rattle.sv_meaning.specs.Values.{Expr, Link, Puts, expr_of, value, kind_of, item_of, field_of, link_of}
use Rattle.sv_meaning.specs.declared.context.Context.{Context}

abbrev pub ground_of : Context → Ground
ground_of c = record { program = c.program.now; sight = option_copied c.sight; arrows = c.arrows; is_own = c.is_own }

-- how code runs there
abbrev pub mode_on : Option View → Program → Mode
mode_on None p = running p
mode_on (Some v) p = silent

abbrev pub mode_of : Ground → Mode
mode_of g = mode_on g.sight g.program

-- the calls that code in a context makes
abbrev pub calls_of : Context → Caller
calls_of c = caller (mode_of (ground_of c)) (ground_of c) c.room

module _ (c : Context) where
  -- what expressions and their parts are in a context
  abbrev pub expr_in : Code → Expr
  expr_in e = expr_of (ground_of c) (calls_of c) c.owner.number e

  abbrev pub value_in : Code → Meaning Val
  value_in e = value (ground_of c) (calls_of c) c.owner.number e

  abbrev pub kind_in : CodeKind → Span → Expr
  kind_in k s = kind_of (ground_of c) (calls_of c) c.owner.number k s

  abbrev pub item_in : CodeItem → Puts Val
  item_in i = item_of (ground_of c) (calls_of c) c.owner.number i

  abbrev pub field_in : CodeField → Puts (List ℕ × Val)
  field_in f = field_of (ground_of c) (calls_of c) c.owner.number f

  abbrev pub link_in : CodeLink → Link
  link_in l = link_of (ground_of c) (calls_of c) c.owner.number l

  -- what statements and their parts are
  abbrev pub run_in : CodeStmt → Meaning Flow
  run_in s = run (ground_of c) (calls_of c) c.owner.number s

  abbrev pub doing_in : CodeStmtKind → Doing
  doing_in k = doing_of (ground_of c) (calls_of c) c.owner.number k

  abbrev pub arm_in : CodeArm → Arm
  arm_in a = arm_of (ground_of c) (calls_of c) c.owner.number a

  abbrev pub decl_in : CodeDecl → Meaning Flow
  decl_in d = decl_of (ground_of c) (calls_of c) c.owner.number d

  -- the value of code, where there is some
  abbrev pub valued_in : Option Code → Option (Meaning Val)
  valued_in e = valued (ground_of c) (calls_of c) c.owner.number e
