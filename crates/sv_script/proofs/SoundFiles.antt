-- Files that are read are in the grammar.
use Rattle.std.proofs.Common.{◌≡◌, ℕ, Bool, true, false, refl, ap}
use Rattle.std.specs.Prelude.{Ok, codes}
use Rattle.std.specs.Str.{bytes_eq}
use Rattle.sv_ast.specs.declared.script_tree.Stmt.{Stmt}
use Rattle.sv_lex.specs.declared.lexeme.Lexeme.{Lexeme}
use Rattle.sv_lex.specs.declared.lexeme.Lexeme.TheVariants as k
use Rattle.sv_lex.specs.Literals.{string}
use Rattle.sv_lex.specs.Reader.{Input, sees, sees_one, next, start, spelling}
use Rattle.sv_lex.proofs.Sees.{seen}
use Rattle.sv_lex.proofs.Steps.{Holds, holds_then, holds_then_then, holds_weaker, holds_if, holds_test, holds_choice_then}
use Rattle.sv_expr.specs.Grammar.{Params}
use Rattle.sv_expr.specs.Limits.{Limits}
use Rattle.sv_expr.specs.Lists.{listed, parameters}
use Rattle.sv_expr.proofs.SoundLists.{holds_self, parameters_holds, IsList, listed_holds}
use Rattle.sv_script.specs.Files.{is_source}
use Rattle.sv_script.specs.Grammar as g
use Rattle.sv_script.specs.Places.{top, in_function}
use Rattle.sv_script.specs.Rules as r
use Rattle.sv_script.specs.Rules.{func, params, variables, statement}
use Rattle.sv_script.specs.Script as f
use Rattle.sv_script.specs.Script.{bodies, known_as, import_name, source, origin, import_whole, import_names, import_statement, export_let, reaction, component_item, exported, module_item, component, file_module}
use Rattle.sv_script.proofs.SoundSteps.{written, unwritten, holds_word, holds_name, holds_ending, IsUpto, upto_holds}
use Rattle.sv_script.proofs.Sound.{block, Below, below_holds, variables_hold, const_holds, statement_holds, item_holds}

-- ---- imports

import_name_holds : (i : Input) → Holds (g.Known i) (import_name i)
unfolding import_name known_as
import_name_holds i = holds_name (g.Known i) i _ (λ given j n. holds_if (g.Known i) (bytes_eq (spelling j) (codes "as")) _ _
    (λ e. holds_name (g.Known i) (next j) _ (λ local o m. g.known_as n (written (spelling j) (codes "as") e) m))
    (λ e. g.known_same n (unwritten (spelling j) (codes "as") e)))

all_specs : IsList k.RBrace g.Known g.ImportNames
all_specs = record {
  ends = λ i h. g.specs_end h;
  last = λ i j x p h. g.specs_last p h;
  more = λ i j o x xs p h rest. g.specs_more p h rest;
}

origin_holds : (is_whole : Bool) (i : Input) → Holds (g.Origin is_whole i) (origin is_whole i)
unfolding origin source
origin_holds is_whole i =
    let Q = g.Origin is_whole i in
    holds_word Q (codes "from") i _ (λ w. holds_test Q (sees_one k.Quoted (next i)) _ _ _
    (λ e. holds_then_then (λ v j. string (next i) ≡ Ok (v, j)) Q (string (next i)) _ _ (holds_self (string (next i)))
    (λ text j t. holds_choice_then Q (is_source is_whole text) _ _ j _ (λ s. holds_ending Q j _ (λ o n. g.origin w (seen k.Quoted (next i) e) t s n)) (λ s. tt)))
    (λ e. tt))

pub import_holds : (i : Input) → sees i ≡ k.Import → Holds (g.Imports i) (import_statement i)
unfolding import_statement import_names import_whole
import_holds i h =
    let Q = g.Imports i in
    holds_if Q (sees_one k.LBrace (next i)) _ _
    (λ e. holds_then (g.ImportNames (next (next i))) Q (listed import_name k.RBrace (next (next i))) _ (listed_holds import_name k.RBrace g.Known g.ImportNames all_specs import_name_holds (next (next i)))
    (λ found j m. holds_then (g.Origin false j) Q (origin false j) _ (origin_holds false j) (λ text o s. g.import_names h (seen k.LBrace (next i) e) m s)))
    (λ e. holds_name Q (next i) _ (λ found j n. holds_then (g.Origin true j) Q (origin true j) _ (origin_holds true j) (λ text o s. g.import_whole h n s)))

-- ---- items

module _ (limits : Limits) (d : ℕ) where
  abbrev below : r.Bodies
  below = bodies limits d

  holds : Below limits d
  holds = below_holds limits d

  func_holds : (from : Input) (is_exported : Bool) (i : Input) → sees i ≡ k.Function
      → Holds (g.Function limits (block limits) d from is_exported i) (func limits d below (start from) is_exported i)
  unfolding func params
  func_holds from is_exported i h =
      let Q = g.Function limits (block limits) d from is_exported i in
      holds_name Q (next i) _ (λ found j n. holds_test Q (sees_one k.LParen j) _ _ _
      (λ e. holds_then (Params j) Q (parameters j) _ (parameters_holds j)
      (λ given m p. holds_then (g.Block limits (block limits) d in_function m) Q (below.block in_function m) _ (holds.blocks in_function m)
      (λ body o b. g.function h n (seen k.LParen j e) p b)))
      (λ e. tt))

  abbrev ComponentItem : Input → Stmt → Input → Type 0
  ComponentItem = g.ComponentItem limits (block limits) d

  export_holds : (i : Input) → sees i ≡ k.Export → Holds (ComponentItem i) (export_let limits d below i)
  unfolding export_let
  export_holds i h =
      let Q = ComponentItem i in
      holds_if Q (sees_one k.Let (next i)) _ _
      (λ e. holds_then (g.Several (g.Declared limits (block limits) false d) (next (next i))) Q (variables limits d below false (next i)) _ (variables_hold limits d false (next i))
      (λ found j m. holds_ending Q j _ (λ o n. g.props h (seen k.Let (next i) e) m n)))
      (λ e. tt)

  reaction_holds : (i : Input) → sees i ≡ k.React → Holds (ComponentItem i) (reaction limits d below i)
  unfolding reaction
  reaction_holds i h = holds_then (g.Statement limits (block limits) d top (next i)) (ComponentItem i) (statement limits d below top (next i)) _
      (statement_holds limits d holds top (next i)) (λ x o s. g.reacted h s)

  component_item_holds : (i : Input) → Holds (ComponentItem i) (component_item limits d below i)
  unfolding component_item
  component_item_holds i = by (sees i) refl
    where
      by : (l : Lexeme) → sees i ≡ l → Holds (ComponentItem i) (f.component_item_by limits d below l i)
      by k.Import e = holds_weaker (g.Imports i) (ComponentItem i) _ (λ x o h. g.imported h) (import_holds i e)
      by k.Export e = export_holds i e
      by k.React e = reaction_holds i e
      by k.Function e = holds_weaker (g.Function limits (block limits) d i false i) (ComponentItem i) _ (λ x o h. g.declared_function h) (func_holds i false i e)
      by _ e = holds_weaker (g.Item limits (block limits) d top i) (ComponentItem i) _ (λ x o h. g.statement (ap g.begins_top e) h) (item_holds limits d holds top i)

  abbrev ModuleItem : Input → Stmt → Input → Type 0
  ModuleItem = g.ModuleItem limits (block limits) d

  exported_holds : (i : Input) → sees i ≡ k.Export → Holds (ModuleItem i) (exported limits d below i)
  unfolding exported
  exported_holds i h = by (sees (next i)) refl
    where
      by : (l : Lexeme) → sees (next i) ≡ l → Holds (ModuleItem i) (f.exported_by limits d below (start i) l (next i))
      by k.Const e = holds_weaker (g.Constants limits (block limits) d i true (next i)) (ModuleItem i) _ (λ x o c. g.given_const h c) (const_holds limits d i true (next i) e)
      by k.Function e = holds_weaker (g.Function limits (block limits) d i true (next i)) (ModuleItem i) _ (λ x o c. g.given_function h c) (func_holds i true (next i) e)
      by _ e = tt

  module_item_holds : (i : Input) → Holds (ModuleItem i) (module_item limits d below i)
  unfolding module_item
  module_item_holds i = by (sees i) refl
    where
      by : (l : Lexeme) → sees i ≡ l → Holds (ModuleItem i) (f.module_item_by limits d below l i)
      by k.Import e = holds_weaker (g.Imports i) (ModuleItem i) _ (λ x o h. g.module_import h) (import_holds i e)
      by k.Export e = exported_holds i e
      by k.Const e = holds_weaker (g.Constants limits (block limits) d i false i) (ModuleItem i) _ (λ x o c. g.own_const c) (const_holds limits d i false i e)
      by k.Function e = holds_weaker (g.Function limits (block limits) d i false i) (ModuleItem i) _ (λ x o c. g.own_function c) (func_holds i false i e)
      by _ e = tt

-- ---- whole files

upto_is : {A : Type 0} (last : Lexeme) (One : Input → A → Input → Type 0) → IsUpto last One (g.Upto One last)
upto_is last One = record {
  none = λ i h. g.upto_none h;
  more = λ i j o x xs n h rest. g.upto_more n h rest;
}

pub component_holds : (limits : Limits) (i : Input) → Holds (g.Component limits (block limits) limits.nest i) (component limits i)
unfolding component
component_holds limits i = upto_holds (component_item limits limits.nest (bodies limits limits.nest)) k.End (g.ComponentItem limits (block limits) limits.nest)
    (g.Component limits (block limits) limits.nest) (upto_is k.End (g.ComponentItem limits (block limits) limits.nest)) (component_item_holds limits limits.nest) i

pub module_holds : (limits : Limits) (i : Input) → Holds (g.Module limits (block limits) limits.nest i) (file_module limits i)
unfolding file_module
module_holds limits i = upto_holds (module_item limits limits.nest (bodies limits limits.nest)) k.End (g.ModuleItem limits (block limits) limits.nest)
    (g.Module limits (block limits) limits.nest) (upto_is k.End (g.ModuleItem limits (block limits) limits.nest)) (module_item_holds limits limits.nest) i
