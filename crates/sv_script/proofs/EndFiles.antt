-- Imports and items of files of the grammar are read, each from its parts.
use Rattle.std.proofs.Common.{◌≡◌, ◌≤◌, inl, ℕ, Bool, true, false, List, [], ◌++◌, refl, arith}
use Rattle.std.specs.Prelude.{Ok, codes}
use Rattle.sv_ast.specs.declared.refusals.Refused.{Refused}
use Rattle.sv_ast.specs.declared.script_tree.Decl.{Decl}
use Rattle.sv_ast.specs.declared.script_tree.ImportName.{ImportName}
use Rattle.sv_ast.specs.declared.script_tree.Stmt.{Stmt}
use Rattle.sv_ast.specs.declared.script_tree.StmtKind.TheVariants as s
use Rattle.sv_lex.specs.declared.lexeme.Lexeme.{Lexeme}
use Rattle.sv_lex.specs.declared.lexeme.Lexeme.TheVariants as k
use Rattle.sv_lex.specs.Literals.{string}
use Rattle.sv_lex.specs.Reader.{Input, sees, next, start, left, spelling}
use Rattle.sv_lex.proofs.Ends.{Ends, ends_then}
use Rattle.sv_lex.proofs.Sees.{sees_yes, sees_no}
use Rattle.sv_expr.specs.Limits.{Limits}
use Rattle.sv_expr.specs.Lists.{listed_from}
use Rattle.sv_expr.proofs.EndLists.{end_ends, last_ends, listed_ends}
use Rattle.sv_expr.proofs.EndLists as lists
use Rattle.sv_expr.proofs.Shrinks.{shrinking}
use Rattle.sv_script.specs.Files.{is_source}
use Rattle.sv_script.specs.Grammar as g
use Rattle.sv_script.specs.Nodes.{form}
use Rattle.sv_script.specs.Places.{top}
use Rattle.sv_script.specs.Rules.{Bodies, variables, const_statement, statement, item, func}
use Rattle.sv_script.specs.Script as f
use Rattle.sv_script.specs.Script.{known_as, import_name, source, origin, import_whole, import_names, import_statement, export_let, reaction, component_item, exported, module_item}
use Rattle.sv_script.proofs.EndSteps.{spelled, misspelled, word_yes, ending_yes}
use Rattle.sv_script.proofs.Ways.{known_moves}

module _ (P : Refused → Type 0) where
  -- ---- imports

  known_ends : {i o : Input} {x : ImportName} → g.Known i x o → Ends P (import_name i) (x, o)
  unfolding import_name known_as
  known_ends (g.known_same {o = o} n w) = ends_then P _ _ (inl n.gives) (rw (misspelled (spelling o) (codes "as") w) (inl refl))
  known_ends (g.known_as {j = j} n w m) = ends_then P _ _ (inl n.gives) (rw (spelled (spelling j) (codes "as") w) (ends_then P _ _ (inl m.gives) (inl refl)))

  -- a name comes first
  known_comes : {i o : Input} {x : ImportName} → g.Known i x o → sees i ≡ k.Name
  known_comes (g.known_same n w) = n.is
  known_comes (g.known_as n w m) = n.is

  specs_end : {i o : Input} {xs : List ImportName} → g.ImportNames i xs o → (n : ℕ) (found : List ImportName) → left i ≤ n → Ends P (listed_from import_name k.RBrace n found i) (found ++ xs, o)
  specs_end (g.specs_end {i = i} h) n found le = end_ends P import_name k.RBrace n found i le (λ e. cc) h
  specs_end (g.specs_last {i = i} {j = j} x c) n found le =
      let named = known_comes x in
      last_ends P import_name k.RBrace n found i j _ le (λ e. cc) (λ e. cc) (λ e. cc) (known_ends x) c
  specs_end (g.specs_more {i = i} {j = j} {o = o} x c rest) n found le =
      let named = known_comes x in
      lists.more_ends P import_name k.RBrace n found i j o _ _ le (λ e. cc) (λ e. cc) (known_ends x) c (shrinking.weaker (known_moves shrinking x)) (λ m le. specs_end rest m _ le)

  source_ends : (is_whole : Bool) (i j : Input) (text : List ℕ) → sees i ≡ k.Quoted → string i ≡ Ok (text, j) → is_source is_whole text ≡ true → Ends P (source is_whole i) (text, j)
  unfolding source
  source_ends is_whole i j text q t s = rw (sees_yes k.Quoted i q) (ends_then P _ _ (inl t) (rw s (inl refl)))

  origin_ends : {is_whole : Bool} {i o : Input} {text : List ℕ} → g.Origin is_whole i text o → Ends P (origin is_whole i) (text, o)
  unfolding origin
  origin_ends {is_whole = is_whole} (g.origin {i = i} {j = j} w q t s e) =
      ends_then P _ _ (inl (word_yes (codes "from") i w)) (ends_then P _ _ (source_ends is_whole (next i) j _ q t s) (ends_then P _ _ (inl (ending_yes e)) (inl refl)))

  pub import_ends : {i o : Input} {x : Stmt} → g.Imports i x o → Ends P (import_statement i) (x, o)
  unfolding import_statement import_whole import_names
  import_ends (g.import_whole {i = i} h n s) =
      let named = n.is in
      rw (sees_no k.LBrace (next i) (λ e. cc)) (ends_then P _ _ (inl n.gives) (ends_then P _ _ (origin_ends s) (inl refl)))
  import_ends (g.import_names {i = i} {j = j} h c xs s) =
      rw (sees_yes k.LBrace (next i) c) (ends_then P _ _ (listed_ends P import_name k.RBrace (next (next i)) j _ (specs_end xs (left (next (next i))) [] (omega arith)))
      (ends_then P _ _ (origin_ends s) (inl refl)))

  pub import_comes : {i o : Input} {x : Stmt} → g.Imports i x o → sees i ≡ k.Import
  import_comes (g.import_whole h n s) = h
  import_comes (g.import_names h c xs s) = h

  -- ---- items

  module _ (limits : Limits) (room : ℕ) (below : Bodies) where
    pub component_import_ends : (i : Input) (z : Stmt × Input) → sees i ≡ k.Import → Ends P (import_statement i) z → Ends P (component_item limits room below i) z
    unfolding component_item
    component_import_ends i z h hz = rw h hz

    export_yes : (i j o : Input) (found : List Decl) → sees (next i) ≡ k.Let → Ends P (variables limits room below false (next i)) (found, j) → g.End j o
        → Ends P (export_let limits room below i) (form i o (s.Export found), o)
    unfolding export_let
    export_yes i j o found c hv e = rw (sees_yes k.Let (next i) c) (ends_then P _ _ hv (ends_then P _ _ (inl (ending_yes e)) (inl refl)))

    pub export_ends : (i j o : Input) (found : List Decl) → sees i ≡ k.Export → sees (next i) ≡ k.Let → Ends P (variables limits room below false (next i)) (found, j) → g.End j o
        → Ends P (component_item limits room below i) (form i o (s.Export found), o)
    unfolding component_item
    export_ends i j o found h c hv e = rw h (export_yes i j o found c hv e)

    reaction_yes : (i o : Input) (x : Stmt) → Ends P (statement limits room below top (next i)) (x, o) → Ends P (reaction limits room below i) (form i o (s.React x), o)
    unfolding reaction
    reaction_yes i o x hx = ends_then P _ _ hx (inl refl)

    pub reaction_ends : (i o : Input) (x : Stmt) → sees i ≡ k.React → Ends P (statement limits room below top (next i)) (x, o)
        → Ends P (component_item limits room below i) (form i o (s.React x), o)
    unfolding component_item
    reaction_ends i o x h hx = rw h (reaction_yes i o x hx)

    pub component_function_ends : (i : Input) (z : Stmt × Input) → sees i ≡ k.Function → Ends P (func limits room below (start i) false i) z → Ends P (component_item limits room below i) z
    unfolding component_item
    component_function_ends i z h hz = rw h hz

    pub component_statement_ends : (i : Input) (z : Stmt × Input) → g.begins_top (sees i) ≡ false → Ends P (item limits room below top i) z → Ends P (component_item limits room below i) z
    unfolding component_item
    component_statement_ends i z h hz = by (sees i) h
      where
        by : (l : Lexeme) → g.begins_top l ≡ false → Ends P (f.component_item_by limits room below l i) z
        by k.Import b = absurd (cc)
        by k.Export b = absurd (cc)
        by k.React b = absurd (cc)
        by k.Function b = absurd (cc)
        by _ b = hz

    pub module_import_ends : (i : Input) (z : Stmt × Input) → sees i ≡ k.Import → Ends P (import_statement i) z → Ends P (module_item limits room below i) z
    unfolding module_item
    module_import_ends i z h hz = rw h hz

    pub own_const_ends : (i : Input) (z : Stmt × Input) → sees i ≡ k.Const → Ends P (const_statement limits room below (start i) false i) z → Ends P (module_item limits room below i) z
    unfolding module_item
    own_const_ends i z h hz = rw h hz

    pub own_function_ends : (i : Input) (z : Stmt × Input) → sees i ≡ k.Function → Ends P (func limits room below (start i) false i) z → Ends P (module_item limits room below i) z
    unfolding module_item
    own_function_ends i z h hz = rw h hz

    exported_const : (i : Input) (z : Stmt × Input) → sees (next i) ≡ k.Const → Ends P (const_statement limits room below (start i) true (next i)) z → Ends P (exported limits room below i) z
    unfolding exported
    exported_const i z h hz = rw h hz

    exported_function : (i : Input) (z : Stmt × Input) → sees (next i) ≡ k.Function → Ends P (func limits room below (start i) true (next i)) z → Ends P (exported limits room below i) z
    unfolding exported
    exported_function i z h hz = rw h hz

    pub given_const_ends : (i : Input) (z : Stmt × Input) → sees i ≡ k.Export → sees (next i) ≡ k.Const → Ends P (const_statement limits room below (start i) true (next i)) z
        → Ends P (module_item limits room below i) z
    unfolding module_item
    given_const_ends i z h c hz = rw h (exported_const i z c hz)

    pub given_function_ends : (i : Input) (z : Stmt × Input) → sees i ≡ k.Export → sees (next i) ≡ k.Function → Ends P (func limits room below (start i) true (next i)) z
        → Ends P (module_item limits room below i) z
    unfolding module_item
    given_function_ends i z h c hz = rw h (exported_function i z c hz)
