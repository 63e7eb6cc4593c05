-- What holds between a text and what a rule of statements leaves of it, where each token keeps it.
use Rattle.std.proofs.Common.{◌≡◌, ◌≤◌, ◌<◌, ℕ, zero, suc, Bool, true, false, List, arith}
use Rattle.std.specs.Prelude.{Option, Ok}
use Rattle.sv_ast.specs.declared.names.Named.{Named}
use Rattle.sv_ast.specs.declared.script_tree.Arm.{Arm}
use Rattle.sv_ast.specs.declared.script_tree.Decl.{Decl}
use Rattle.sv_ast.specs.declared.script_tree.Expr.{Expr}
use Rattle.sv_ast.specs.declared.script_tree.ImportName.{ImportName}
use Rattle.sv_ast.specs.declared.script_tree.Stmt.{Stmt}
use Rattle.sv_lex.specs.declared.lexeme.Lexeme.{Lexeme}
use Rattle.sv_lex.specs.declared.lexeme.Lexeme.TheVariants as k
use Rattle.sv_lex.specs.Reader.{Input, Parser, next}
use Rattle.sv_expr.specs.Limits.{Limits}
use Rattle.sv_expr.proofs.Ways.{IsWay, step, token, name_moves, string_moves, params_move, inside_moves}
use Rattle.sv_script.specs.declared.place.Place.{Place}
use Rattle.sv_script.specs.Closed.{ScriptAt, ModuleAt, ExpressionAt}
use Rattle.sv_script.specs.Grammar as g
use Rattle.sv_script.specs.Places.{in_function}

-- what these take are blocks of functions in the grammar
abbrev pub IsOnly : Limits → (ℕ → Parser (List Stmt)) → Type 0
IsOnly limits block = (room : ℕ) (i o : Input) (found : List Stmt) → block room i ≡ Ok (found, o) → g.Block limits block room in_function i found o

module _ {Way Move : Input → Input → Type 0} (is : IsWay Way Move) where
  end_way : {i o : Input} → g.End i o → Way i o
  end_way (g.end_sign {i = i} h) = step is i
  end_way (g.end_brace {i = i} h) = is.stays i
  end_way (g.end_text {i = i} h) = is.stays i
  end_way (g.end_line {i = i} n l) = is.stays i

  named_moves : {i o : Input} {found : Named} → g.IsName i found o → Move i o
  named_moves {i = i} {o = o} n = name_moves is i o _ n.gives

  several_move : {A : Type 0} (One : Input → A → Input → Type 0) → ((i o : Input) (x : A) → One i x o → Move i o)
      → {i o : Input} {xs : List A} → g.Several One i xs o → Move i o
  several_move One moves (g.several_last {i = i} {o = o} h c) = moves i o _ h
  several_move One moves (g.several_more {i = i} {j = j} h c rest) = is.on (moves i j _ h) (is.along (step is j) (is.weaker (several_move One moves rest)))

  upto_way : {A : Type 0} (One : Input → A → Input → Type 0) (last : Lexeme) → ((i o : Input) (x : A) → One i x o → Move i o)
      → {i o : Input} {xs : List A} → g.Upto One last i xs o → Way i o
  upto_way One last moves (g.upto_none {i = i} h) = is.stays i
  upto_way One last moves (g.upto_more {i = i} {j = j} n h rest) = is.along (is.weaker (moves i j _ h)) (upto_way One last moves rest)

  module _ (limits : Limits) (block : ℕ → Parser (List Stmt)) (top : ℕ)
      (blocks : (n : ℕ) → n < top → (i o : Input) (found : List Stmt) → block n i ≡ Ok (found, o) → Way i o) where
    -- an expression outside of a construct, and one in it
    outer : {d : ℕ} {i o : Input} {x : Expr} → g.Inner limits block d i x o → d ≤ top → Move i o
    outer x le = inside_moves is limits block top blocks x le

    inner : {d : ℕ} {i o : Input} {x : Expr} → g.Inner limits block d i x o → suc d ≤ top → Move i o
    inner x le = outer x (omega (arith, le))

    value_moves : (is_head : Bool) (d : ℕ) (i o : Input) (x : Expr) → g.Value limits block is_head d i x o → suc d ≤ top → Move i o
    value_moves true d i o x v le = inner v le
    value_moves false d i o x v le = outer v le

    pub declared_moves : (is_head : Bool) {d : ℕ} {i o : Input} {x : Decl} → g.Declared limits block is_head d i x o → suc d ≤ top → Move i o
    declared_moves is_head (g.declared_alone found n c) le = named_moves n
    declared_moves is_head (g.declared_first {j = j} found x n c v) le = is.on (named_moves n) (is.along (step is j) (is.weaker (value_moves is_head _ _ _ _ v le)))

    pub fixed_moves : {d : ℕ} {i o : Input} {x : Decl} → g.Fixed limits block d i x o → suc d ≤ top → Move i o
    fixed_moves (g.fixed {j = j} found x n c v) le = is.on (named_moves n) (is.along (step is j) (is.weaker (outer v le)))

    variables_way : (is_head : Bool) {d : ℕ} {i o : Input} {xs : List Decl} → g.Several (g.Declared limits block is_head d) i xs o → suc d ≤ top → Way i o
    variables_way is_head h le = is.weaker (several_move (g.Declared limits block is_head _) (λ i o x one. declared_moves is_head one le) h)

    constants_move : {d : ℕ} {from i o : Input} {exported : Bool} {x : Stmt} → g.Constants limits block d from exported i x o → suc d ≤ top → Move i o
    constants_move (g.constants {i = i} h m e) le =
        is.on (token is i (λ e. cc)) (is.along (is.weaker (several_move (g.Fixed limits block _) (λ i o x one. fixed_moves one le) m)) (end_way e))

    test_way : {d : ℕ} {i o : Input} {x : Expr} → g.Test limits block d i x o → suc d ≤ top → Way i o
    test_way (g.test {i = i} {j = j} h x c) le = is.along (step is i) (is.along (is.weaker (inner x le)) (step is j))

    first_way : {d : ℕ} {i o : Input} {x : Option Stmt} → g.First limits block d i x o → suc d ≤ top → Way i o
    first_way (g.first_none {i = i} h) le = step is i
    first_way (g.first_let {i = i} {j = j} h m c) le = is.along (step is i) (is.along (variables_way true m le) (step is j))
    first_way (g.first_value {j = j} n b x c) le = is.along (is.weaker (inner x le)) (step is j)

    optional_way : {d : ℕ} {close : Lexeme} {i o : Input} {x : Option Expr} → g.Optional limits block d close i x o → suc d ≤ top → Way i o
    optional_way (g.optional_none {i = i} h) le = step is i
    optional_way (g.optional_some {j = j} n x c) le = is.along (is.weaker (inner x le)) (step is j)

    mutual
      pub block_moves : {d : ℕ} {p : Place} {i o : Input} {xs : List Stmt} → g.Block limits block d p i xs o → d ≤ top → Move i o
      block_moves (g.block_braces {i = i} {o = o} h m) le = is.on (token is i (λ e. cc)) (is.along (items_way m le) (step is o))

      items_way : {d : ℕ} {p : Place} {i o : Input} {xs : List Stmt} → g.Items limits block d p i xs o → suc d ≤ top → Way i o
      items_way (g.items_none {i = i} h) le = is.stays i
      items_way (g.items_more n x rest) le = is.along (is.weaker (item_moves x le)) (items_way rest le)

      pub item_moves : {d : ℕ} {p : Place} {i o : Input} {x : Stmt} → g.Item limits block d p i x o → suc d ≤ top → Move i o
      item_moves (g.item_let {i = i} h m e) le = is.on (token is i (λ e. cc)) (is.along (variables_way false m le) (end_way e))
      item_moves (g.item_const h) le = constants_move h le
      item_moves (g.item_other b s) le = statement_moves s le

      body_way : {d : ℕ} {p : Place} {i o : Input} {x : Stmt} → g.Body limits block d p i x o → suc d ≤ top → Way i o
      body_way (g.body s) le = is.weaker (statement_moves s (omega (arith, le)))

      arms_move : {d : ℕ} {p : Place} {i o : Input} {xs : List Arm} → g.Arms limits block d p i xs o → suc d ≤ top → Move i o
      arms_move (g.arms_last {i = i} h t b n) le = is.on (token is i (λ e. cc)) (is.along (test_way t le) (body_way b le))
      arms_move (g.arms_more {i = i} {m = m} h t b c rest) le =
          is.on (token is i (λ e. cc)) (is.along (test_way t le) (is.along (body_way b le) (is.along (step is m) (is.weaker (arms_move rest le)))))

      otherwise_way : {d : ℕ} {p : Place} {i o : Input} {x : Option Stmt} → g.Otherwise limits block d p i x o → suc d ≤ top → Way i o
      otherwise_way (g.otherwise_none {i = i} n) le = is.stays i
      otherwise_way (g.otherwise_some {i = i} h b) le = is.along (step is i) (body_way b le)

      statement_moves : {d : ℕ} {p : Place} {i o : Input} {x : Stmt} → g.Statement limits block d p i x o → suc d ≤ top → Move i o
      statement_moves (g.empty {i = i} h) le = token is i (λ e. cc)
      statement_moves (g.nested h b) le = block_moves b (omega (arith, le))
      statement_moves (g.choice last a n e) le = is.on (arms_move a le) (otherwise_way e le)
      statement_moves (g.repeated {i = i} h t b) le = is.on (token is i (λ e. cc)) (is.along (test_way t le) (body_way b le))
      statement_moves (g.each {i = i} {j = j} {m = m} h a w n s x c b) le =
          is.on (token is i (λ e. cc)) (is.along (step is (next i)) (is.along (step is (next (next i))) (is.along (is.weaker (named_moves n)) (
          is.along (step is j) (is.along (is.weaker (inner x le)) (is.along (step is m) (body_way b le)))))))
      statement_moves (g.stepped {i = i} first condition step_ h a f c s b) le =
          is.on (token is i (λ e. cc)) (is.along (step is (next i)) (is.along (first_way f le) (is.along (optional_way c le) (is.along (optional_way s le) (body_way b le)))))
      statement_moves (g.broken {i = i} h l e) le = is.on (token is i (λ e. cc)) (end_way e)
      statement_moves (g.continued {i = i} h l e) le = is.on (token is i (λ e. cc)) (end_way e)
      statement_moves (g.returned {i = i} h f n e) le = is.on (token is i (λ e. cc)) (end_way e)
      statement_moves (g.answered {i = i} x h f b v e) le = is.on (token is i (λ e. cc)) (is.along (is.weaker (outer v le)) (end_way e))
      statement_moves (g.evaluated b x e) le = is.on (outer x le) (end_way e)

    func_moves : {d : ℕ} {from i o : Input} {exported : Bool} {x : Stmt} → g.Function limits block d from exported i x o → suc d ≤ top → Move i o
    func_moves (g.function {i = i} {j = j} h n l p b) le =
        is.on (token is i (λ e. cc)) (is.along (is.weaker (named_moves n)) (is.along (is.weaker (params_move is p)) (is.weaker (block_moves b (omega (arith, le))))))

  -- ---- imports

  pub known_moves : {i o : Input} {x : ImportName} → g.Known i x o → Move i o
  known_moves (g.known_same n w) = named_moves n
  known_moves (g.known_as {j = j} n w m) = is.on (named_moves n) (is.along (step is j) (is.weaker (named_moves m)))

  specs_way : {i o : Input} {xs : List ImportName} → g.ImportNames i xs o → Way i o
  specs_way (g.specs_end {i = i} h) = step is i
  specs_way (g.specs_last {j = j} p c) = is.along (is.weaker (known_moves p)) (step is j)
  specs_way (g.specs_more {j = j} p c rest) = is.along (is.weaker (known_moves p)) (is.along (step is j) (specs_way rest))

  origin_way : {is_whole : Bool} {i o : Input} {text : List ℕ} → g.Origin is_whole i text o → Way i o
  origin_way (g.origin {i = i} {j = j} w q t s e) = is.along (step is i) (is.along (is.weaker (string_moves is (next i) j _ q t)) (end_way e))

  import_moves : {i o : Input} {x : Stmt} → g.Imports i x o → Move i o
  import_moves (g.import_whole {i = i} h n s) = is.on (token is i (λ e. cc)) (is.along (is.weaker (named_moves n)) (origin_way s))
  import_moves (g.import_names {i = i} h c m s) = is.on (token is i (λ e. cc)) (is.along (step is (next i)) (is.along (specs_way m) (origin_way s)))

  -- ---- files, and blocks of the grammar

  module _ (limits : Limits) (block : ℕ → Parser (List Stmt)) (only : IsOnly limits block) where
    under : (top n : ℕ) → n < top → (i o : Input) (found : List Stmt) → block n i ≡ Ok (found, o) → Way i o
    under zero n lt i o found h = absurd (omega arith)
    under (suc top) n lt i o found h = is.weaker (block_moves limits block n (λ m less. under top m (omega (arith, lt, less))) (only n i o found h) (omega arith))

    pub blocks_way : (n : ℕ) (i o : Input) (found : List Stmt) → block n i ≡ Ok (found, o) → Way i o
    blocks_way n i o found h = under (suc n) n (omega arith) i o found h

    all : (top n : ℕ) → n < top → (i o : Input) (found : List Stmt) → block n i ≡ Ok (found, o) → Way i o
    all top n lt = blocks_way n

    inner_moves : {d : ℕ} {i o : Input} {x : Expr} → g.Inner limits block d i x o → Move i o
    inner_moves {d = d} x = outer limits block d (all d) x (omega arith)

    module _ (d : ℕ) where
      pub component_item_moves : {i o : Input} {x : Stmt} → g.ComponentItem limits block d i x o → Move i o
      component_item_moves (g.imported h) = import_moves h
      component_item_moves (g.props {i = i} h c m e) =
          is.on (token is i (λ e. cc)) (is.along (step is (next i)) (is.along (variables_way limits block (suc d) (all (suc d)) false m (omega arith)) (end_way e)))
      component_item_moves (g.reacted {i = i} h s) = is.on (token is i (λ e. cc)) (is.weaker (statement_moves limits block (suc d) (all (suc d)) s (omega arith)))
      component_item_moves (g.declared_function h) = func_moves limits block (suc d) (all (suc d)) h (omega arith)
      component_item_moves (g.statement b s) = item_moves limits block (suc d) (all (suc d)) s (omega arith)

      pub module_item_moves : {i o : Input} {x : Stmt} → g.ModuleItem limits block d i x o → Move i o
      module_item_moves (g.module_import h) = import_moves h
      module_item_moves (g.own_const h) = constants_move limits block (suc d) (all (suc d)) h (omega arith)
      module_item_moves (g.own_function h) = func_moves limits block (suc d) (all (suc d)) h (omega arith)
      module_item_moves (g.given_const {i = i} h c) = is.on (token is i (λ e. cc)) (is.weaker (constants_move limits block (suc d) (all (suc d)) c (omega arith)))
      module_item_moves (g.given_function {i = i} h c) = is.on (token is i (λ e. cc)) (is.weaker (func_moves limits block (suc d) (all (suc d)) c (omega arith)))

      component_way : {i o : Input} {xs : List Stmt} → g.Component limits block d i xs o → Way i o
      component_way h = upto_way (g.ComponentItem limits block d) k.End (λ i o x one. component_item_moves one) h

      file_way : {i o : Input} {xs : List Stmt} → g.Module limits block d i xs o → Way i o
      file_way h = upto_way (g.ModuleItem limits block d) k.End (λ i o x one. module_item_moves one) h

  -- ---- the closed grammar

  pub script_way : (limits : Limits) {i o : Input} {xs : List Stmt} → ScriptAt limits i xs o → Way i o
  script_way limits h = component_way limits h.block h.closed.only limits.nest h.is

  pub module_way : (limits : Limits) {i o : Input} {xs : List Stmt} → ModuleAt limits i xs o → Way i o
  module_way limits h = file_way limits h.block h.closed.only limits.nest h.is

  pub expression_moves : (limits : Limits) (room : ℕ) {i o : Input} {x : Expr} → ExpressionAt limits room i x o → Move i o
  expression_moves limits room h = inner_moves limits h.block h.closed.only h.is
