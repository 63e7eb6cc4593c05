-- Files, blocks of arrows and expressions of the grammar are read, or refused for a cause, where the blocks of arrows in them are blocks of the grammar.
use Rattle.std.proofs.Common.{◌≡◌, ◌≤◌, ◌<◌, ℕ, zero, suc, false, List, arith}
use Rattle.std.specs.Prelude.{Ok}
use Rattle.sv_ast.specs.declared.refusals.Kind.TheVariants.{TooDeep, NumberTooWide}
use Rattle.sv_ast.specs.declared.refusals.Refused.{Refused}
use Rattle.sv_ast.specs.declared.script_tree.Expr.{Expr}
use Rattle.sv_ast.specs.declared.script_tree.Stmt.{Stmt}
use Rattle.sv_lex.specs.declared.lexeme.Lexeme.TheVariants as k
use Rattle.sv_lex.specs.Reader.{Input, Parser, refusal, sees, next}
use Rattle.sv_lex.proofs.Ends.{Ends, ends_at}
use Rattle.sv_expr.specs.Limits.{Limits}
use Rattle.sv_expr.proofs.End.{Cause}
use Rattle.sv_expr.proofs.Shrinks.{shrinking}
use Rattle.sv_script.specs.Grammar as g
use Rattle.sv_script.specs.Places.{in_function}
use Rattle.sv_script.specs.Rules.{value}
use Rattle.sv_script.specs.Script.{bodies, component_item, module_item, component, file_module}
use Rattle.sv_script.proofs.ArrowBlocks.{arrow_is}
use Rattle.sv_script.proofs.EndSteps.{upto_ends}
use Rattle.sv_script.proofs.End.{value_ends, all_variables_end, constants_end, block_ends, item_ends, statement_ends, function_ends, const_comes}
use Rattle.sv_script.proofs.EndFiles.{import_ends, import_comes, component_import_ends, export_ends, reaction_ends, component_function_ends, component_statement_ends, module_import_ends, own_const_ends, own_function_ends, given_const_ends, given_function_ends}
use Rattle.sv_script.proofs.Sound.{readers}
use Rattle.sv_script.proofs.Ways.{IsOnly, blocks_way, component_item_moves, module_item_moves}

function_comes : (limits : Limits) (block : ℕ → Parser (List Stmt)) {d : ℕ} {from i o : Input} {exported : _} {x : Stmt} → g.Function limits block d from exported i x o → sees i ≡ k.Function
function_comes limits block (g.function h n l p b) = h

module _ (limits wide : Limits) (block : ℕ → Parser (List Stmt)) (P : Refused → Type 0) (R : ℕ → ℕ → Type 0) (top : ℕ)
    (cause : Cause limits wide (readers limits) block P R top) (d m : ℕ) (r : R (suc d) (suc m)) where
  component_item_ends : {i o : Input} {x : Stmt} → g.ComponentItem wide block m i x o → Ends P (component_item limits d (bodies limits d) i) (x, o)
  component_item_ends (g.imported {i = i} h) = component_import_ends P limits d (bodies limits d) i _ (import_comes P h) (import_ends P h)
  component_item_ends (g.props {i = i} {j = j} {o = o} h c xs e) =
      export_ends P limits d (bodies limits d) i j o _ h c (all_variables_end limits wide block P R top cause false (next i) xs d r) e
  component_item_ends (g.reacted {i = i} {o = o} h s) = reaction_ends P limits d (bodies limits d) i o _ h (statement_ends limits wide block P R top cause s d r)
  component_item_ends (g.declared_function {i = i} h) =
      component_function_ends P limits d (bodies limits d) i _ (function_comes wide block h) (function_ends limits wide block P R top cause h d r)
  component_item_ends (g.statement {i = i} b s) = component_statement_ends P limits d (bodies limits d) i _ b (item_ends limits wide block P R top cause s d r)

  module_item_ends : {i o : Input} {x : Stmt} → g.ModuleItem wide block m i x o → Ends P (module_item limits d (bodies limits d) i) (x, o)
  module_item_ends (g.module_import {i = i} h) = module_import_ends P limits d (bodies limits d) i _ (import_comes P h) (import_ends P h)
  module_item_ends (g.own_const {i = i} h) = own_const_ends P limits d (bodies limits d) i _ (const_comes wide block h) (constants_end limits wide block P R top cause h d r)
  module_item_ends (g.own_function {i = i} h) = own_function_ends P limits d (bodies limits d) i _ (function_comes wide block h) (function_ends limits wide block P R top cause h d r)
  module_item_ends (g.given_const {i = i} h c) =
      given_const_ends P limits d (bodies limits d) i _ h (const_comes wide block c) (constants_end limits wide block P R top cause c d r)
  module_item_ends (g.given_function {i = i} h c) =
      given_function_ends P limits d (bodies limits d) i _ h (function_comes wide block c) (function_ends limits wide block P R top cause c d r)

-- what may stand in the way where the reader has room for one number of constructs and the tree has another, with what holds of the refusal
pub record Blame (limits wide : Limits) (P : Refused → Type 0) (Room : ℕ → ℕ → Type 0) : Type 0 where
  pub full : (m : ℕ) → Room zero (suc m) → (i : Input) → P (refusal TooDeep i)
  pub less : (d m : ℕ) → Room (suc d) (suc m) → Room d m
  pub links : limits.links < wide.links → (i : Input) → P (refusal TooDeep i)
  pub numbers : limits.number < wide.number → (i : Input) → P (refusal NumberTooWide i)

module _ (limits wide : Limits) (block : ℕ → Parser (List Stmt)) (only : IsOnly wide block) (P : Refused → Type 0) (Room : ℕ → ℕ → Type 0)
    (blame : Blame limits wide P Room) where
  -- where the tree has so much room at most
  abbrev Under : ℕ → ℕ → ℕ → Type 0
  Under top d m = Room d m × (m ≤ top)

  -- the blocks of arrows with less room are read so
  abbrev Known : ℕ → Type 0
  Known top = (d m : ℕ) → m < top → Room d m → (i o : Input) (found : List Stmt) → block m i ≡ Ok (found, o) → Ends P ((readers limits d).block i) (found, o)

  cause : (top : ℕ) → Known top → Cause limits wide (readers limits) block P (Under top) top
  cause top known = record {
    full = λ m r i. blame.full m r.0 i;
    less = λ d m r. (blame.less d m r.0, omega (arith, r.1));
    links = blame.links;
    numbers = blame.numbers;
    blocks = λ d m r i o found h. known d m (omega (arith, r.1)) (blame.less d m r.0) i o found h;
    within = λ d m r. r.1;
    shrinks = λ m lt i o found h. blocks_way shrinking wide block only m i o found h;
  }

  known : (top : ℕ) → Known top
  known zero d m lt r i o found h = absurd (omega (arith, lt))
  known (suc top) d m lt r i o found h =
      ends_at P (arrow_is limits d i) (block_ends limits wide block P (Under top) top (cause top (known top)) (only m i o found h) d (r, omega (arith, lt)))

  causes : (top : ℕ) → Cause limits wide (readers limits) block P (Under top) top
  causes top = cause top (known top)

  pub arrow_block_ends : (d m : ℕ) → Room d m → {i o : Input} {found : List Stmt} → g.Block wide block m in_function i found o → Ends P ((readers limits d).block i) (found, o)
  arrow_block_ends d m r {i = i} h = ends_at P (arrow_is limits d i) (block_ends limits wide block P (Under m) m (causes m) h d (r, omega arith))

  pub expression_ends : (d m : ℕ) → Room (suc d) (suc m) → {i o : Input} {x : Expr} → g.Inner wide block (suc m) i x o → Ends P (value limits d (bodies limits d) false i) (x, o)
  expression_ends d m r {i = i} {o = o} {x = x} h = value_ends limits wide block P (Under (suc m)) (suc m) (causes (suc m)) false m i o x h d (r, omega arith)

  pub component_ends : Room (suc limits.nest) (suc wide.nest) → {i o : Input} {xs : List Stmt} → g.Component wide block wide.nest i xs o → Ends P (component limits i) (xs, o)
  unfolding component
  component_ends r h =
      upto_ends P (component_item limits limits.nest (bodies limits limits.nest)) (g.ComponentItem wide block wide.nest)
      (λ i o x one. component_item_ends limits wide block P (Under (suc wide.nest)) (suc wide.nest) (causes (suc wide.nest)) limits.nest wide.nest (r, omega arith) one)
      (λ i o x one. component_item_moves shrinking wide block only wide.nest one) k.End h

  pub module_ends : Room (suc limits.nest) (suc wide.nest) → {i o : Input} {xs : List Stmt} → g.Module wide block wide.nest i xs o → Ends P (file_module limits i) (xs, o)
  unfolding file_module
  module_ends r h =
      upto_ends P (module_item limits limits.nest (bodies limits limits.nest)) (g.ModuleItem wide block wide.nest)
      (λ i o x one. module_item_ends limits wide block P (Under (suc wide.nest)) (suc wide.nest) (causes (suc wide.nest)) limits.nest wide.nest (r, omega arith) one)
      (λ i o x one. module_item_moves shrinking wide block only wide.nest one) k.End h
