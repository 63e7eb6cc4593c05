-- The reader and the closed grammar agree.
use Rattle.std.proofs.Common.{◌≡◌, ℕ, zero, suc, false, List, refl, sym, ◌∙◌, subst, arith}
use Rattle.std.specs.Prelude.{Ok}
use Rattle.sv_ast.specs.declared.script_tree.Stmt.{Stmt}
use Rattle.sv_lex.specs.Reader.{Input}
use Rattle.sv_lex.proofs.Ends.{ends_well}
use Rattle.sv_lex.proofs.Steps.{Holds}
use Rattle.sv_expr.specs.Limits.{Limits}
use Rattle.sv_expr.proofs.End.{Limited, too_deep, too_wide}
use Rattle.sv_script.specs.Closed.{IsClosed, ScriptAt, ModuleAt}
use Rattle.sv_script.specs.Grammar as g
use Rattle.sv_script.specs.Laws.{arrow_block, read_expression, IsExpression, Sound, Complete, Blamed}
use Rattle.sv_script.specs.Places.{in_function}
use Rattle.sv_script.specs.Rules.{value}
use Rattle.sv_script.specs.Script.{component, file_module}
use Rattle.sv_script.proofs.ArrowBlocks.{arrow_is}
use Rattle.sv_script.proofs.EndScripts.{Blame, arrow_block_ends, expression_ends, component_ends, module_ends}
use Rattle.sv_script.proofs.Sound.{below_holds, value_holds}
use Rattle.sv_script.proofs.SoundFiles.{component_holds, module_holds}

-- within the same limits nothing stands in the way
nothing : (limits : Limits) → Blame limits limits (λ e. ⊥) (λ d m. d ≡ m)
nothing limits = record {
  full = λ m r i. let e : zero ≡ suc m = r in cc;
  less = λ d m r. let e : suc d ≡ suc m = r in cc;
  links = λ less i. omega (arith, less);
  numbers = λ less i. omega (arith, less);
}

-- within any limits a limit does
limit : (limits wide : Limits) → Blame limits wide Limited (λ d m. Unit {0})
limit limits wide = record {
  full = λ m r i. too_deep i;
  less = λ d m r. tt;
  links = λ less i. too_deep i;
  numbers = λ less i. too_wide i;
}

-- ---- blocks of arrows

only : (limits : Limits) (room : ℕ) (i o : Input) (found : List Stmt) → arrow_block limits room i ≡ Ok (found, o)
    → g.Block limits (arrow_block limits) room in_function i found o
only limits room i o found h =
    subst (Holds (g.Block limits (arrow_block limits) room in_function i)) (sym (arrow_is limits room i) ∙ h) ((below_holds limits room).blocks in_function i)

pub closed : (limits : Limits) → IsClosed limits (arrow_block limits)
closed limits = record {
  only = only limits;
  all = λ room i o found h. ends_well (arrow_block_ends limits limits (arrow_block limits) (only limits) (λ e. ⊥) (λ d m. d ≡ m) (nothing limits) room room refl h);
}

-- ---- scripts

pub script_sound : Sound component ScriptAt
script_sound limits i o x h = record {
  block = arrow_block limits;
  closed = closed limits;
  is = subst (Holds (g.Component limits (arrow_block limits) limits.nest i)) h (component_holds limits i);
}

pub script_complete : Complete component ScriptAt
script_complete limits i o x h = ends_well (component_ends limits limits h.block h.closed.only (λ e. ⊥) (λ d m. d ≡ m) (nothing limits) refl h.is)

pub script_blamed : Blamed component ScriptAt
script_blamed limits wide i o x h = component_ends limits wide h.block h.closed.only Limited (λ d m. Unit {0}) (limit limits wide) tt h.is

-- ---- modules

pub module_sound : Sound file_module ModuleAt
module_sound limits i o x h = record {
  block = arrow_block limits;
  closed = closed limits;
  is = subst (Holds (g.Module limits (arrow_block limits) limits.nest i)) h (module_holds limits i);
}

pub module_complete : Complete file_module ModuleAt
module_complete limits i o x h = ends_well (module_ends limits limits h.block h.closed.only (λ e. ⊥) (λ d m. d ≡ m) (nothing limits) refl h.is)

pub module_blamed : Blamed file_module ModuleAt
module_blamed limits wide i o x h = module_ends limits wide h.block h.closed.only Limited (λ d m. Unit {0}) (limit limits wide) tt h.is

-- ---- expressions

pub expression_sound : Sound read_expression IsExpression
unfolding value
expression_sound within i o x h = record {
  block = arrow_block within.0;
  closed = closed within.0;
  is = subst (Holds (g.Inner within.0 (arrow_block within.0) (suc within.1) i)) h (value_holds within.0 false within.1 i);
}

pub expression_complete : Complete read_expression IsExpression
unfolding value
expression_complete within i o x h =
    ends_well (expression_ends within.0 within.0 h.block h.closed.only (λ e. ⊥) (λ d m. d ≡ m) (nothing within.0) within.1 within.1 refl h.is)

pub expression_blamed : Blamed read_expression IsExpression
unfolding value
expression_blamed within wide i o x h =
    expression_ends within.0 wide.0 h.block h.closed.only Limited (λ d m. Unit {0}) (limit within.0 wide.0) within.1 wide.1 tt h.is
