-- Scripts, modules and expressions tell.
use Rattle.std.proofs.Common.{◌≤◌, ℕ, zero, suc, Bool, true, false, arith}
use Rattle.std.specs.Prelude.{codes}
use Rattle.std.specs.Str.{bytes_eq}
use Rattle.sv_ast.specs.declared.names.Named.{Named}
use Rattle.sv_ast.specs.declared.refusals.Refused.{Refused}
use Rattle.sv_lex.specs.declared.lexeme.Lexeme.{Lexeme}
use Rattle.sv_lex.specs.declared.lexeme.Lexeme.TheVariants as k
use Rattle.sv_lex.specs.Literals.{string}
use Rattle.sv_lex.specs.Reader.{Input, sees, sees_one, next, start, spelling, ending, name}
use Rattle.sv_expr.specs.declared.form.Form.{Form}
use Rattle.sv_expr.specs.declared.form.Form.TheVariants.{Whole}
use Rattle.sv_expr.specs.Limits.{Limits}
use Rattle.sv_expr.specs.Lists.{listed}
use Rattle.sv_script.specs.declared.place.Place.{Place}
use Rattle.sv_script.specs.Files.{is_source}
use Rattle.sv_script.specs.Places.{top, in_function}
use Rattle.sv_script.specs.Rules.{Bodies, word_as, statement, variables}
use Rattle.sv_script.specs.Script as r
use Rattle.sv_script.specs.Script.{known_as, import_name, source, origin, import_whole, import_names, import_statement, export_let, reaction, component_item, exported, module_item, bodies, component, file_module, expression}
use Rattle.sv_blame.proofs.Frame.{Any, Tells, IsFrame, next-up, tells_from, tells_then, tells_choice, tells_if, goes, stops}
use Rattle.sv_blame.proofs.Names.{listed_tells}
use Rattle.sv_blame.proofs.Leaves.{Fine}
use Rattle.sv_blame.proofs.Levels.{level_tells}
use Rattle.sv_blame.proofs.Rows.{upto_tells}
use Rattle.sv_blame.proofs.Statements.{Bodied, name_on, word_as_tells, ending_tells, const_tells, exported_let, statement_tells, item_tells, braced_tells, func_tells}

-- ---- imports

module _ {At : Input → Type 0} {Bad : Refused → Type 0} {Room Tight Links : ℕ → ℕ → Type 0} {most widest : ℕ} (f : IsFrame At Bad Room Tight Links most widest) where
  known_as_tells : (given : Named) (b i : Input) → At i → b.at ≤ i.at → Tells At Bad Any b (known_as given i)
  unfolding known_as
  known_as_tells given b i at le =
      let up = next-up i in
      tells_if Any (bytes_eq (spelling i) (codes "as")) _ _
      (λ e. tells_then Any Any (name (next i)) _ (name_on f b (next i) (f.steps i at) (omega arith)) (λ x j s le q. goes s le tt)) (λ e. goes at le tt)

  import_name_tells : (i : Input) → At i → Unit {0} → Tells At Bad Any i (import_name i)
  unfolding import_name
  import_name_tells i at u = tells_then Any Any (name i) _ (name_on f i i at (omega arith)) (λ given j s le q. known_as_tells given i j s le)

  source_tells : (is_whole : Bool) (b i : Input) → At i → b.at ≤ i.at → Tells At Bad Any b (source is_whole i)
  unfolding source string
  source_tells is_whole b i at le =
      let up = next-up i in
      tells_if Any (sees_one k.Quoted i) _ _
      (λ e. tells_choice Any (is_source is_whole _) _ _ (next i) (λ e. goes (f.steps i at) (omega arith) tt) (λ e. stops (f.syntax i at))) (λ e. stops (f.syntax i at))

  origin_tells : (is_whole : Bool) (b i : Input) → At i → b.at ≤ i.at → Tells At Bad Any b (origin is_whole i)
  unfolding origin
  origin_tells is_whole b i at le =
      tells_then Any Any (word_as (codes "from") i) _ (word_as_tells f (codes "from") b i at le)
      (λ u j s le q. tells_then Any Any (source is_whole j) _ (source_tells is_whole b j s le)
      (λ x m s le q. tells_then Any Any (ending m) _ (ending_tells f b m s le) (λ u o s le q. goes s le tt)))

  import_whole_tells : (from : ℕ) (b i : Input) → At i → b.at ≤ i.at → Tells At Bad Any b (import_whole from i)
  unfolding import_whole
  import_whole_tells from b i at le =
      tells_then Any Any (name i) _ (name_on f b i at le)
      (λ x j s le q. tells_then Any Any (origin true j) _ (origin_tells true b j s le) (λ y o s le q. goes s le tt))

  import_names_tells : (from : ℕ) (b i : Input) → At i → b.at ≤ i.at → Tells At Bad Any b (import_names from i)
  unfolding import_names
  import_names_tells from b i at le =
      let up = next-up i in
      tells_then Any Any (listed import_name k.RBrace (next i)) _
      (tells_from Any (listed import_name k.RBrace (next i)) (omega arith)
      (listed_tells f import_name k.RBrace (λ p. Unit {0}) (λ p q le u. tt) import_name_tells (next i) (f.steps i at) tt))
      (λ x j s le q. tells_then Any Any (origin false j) _ (origin_tells false b j s le) (λ y o s le q. goes s le tt))

  import_tells : (i : Input) → At i → Tells At Bad Any i (import_statement i)
  unfolding import_statement
  import_tells i at = tells_if Any (sees_one k.LBrace (next i)) _ _
      (λ e. import_names_tells (start i) i (next i) (f.steps i at) (next-up i)) (λ e. import_whole_tells (start i) i (next i) (f.steps i at) (next-up i))

-- ---- what stands at the top of a file

module _ {At : Input → Type 0} {Bad : Refused → Type 0} {Room Tight Links : ℕ → ℕ → Type 0} (limits : Limits)
    (f : IsFrame At Bad Room Tight Links limits.links limits.number) where
  module _ (d : ℕ) (below : Bodies) (reads : Bodied At Bad Room Tight d below) where
    export_let_tells : (i : Input) → At i → Room d i.at → Tells At Bad Any i (export_let limits d below i)
    unfolding export_let
    export_let_tells i at room = tells_if Any (sees_one k.Let (next i)) _ _
        (λ e. tells_then Any Any (variables limits d below false (next i)) _ (exported_let limits f d below reads i (next i) (f.steps i at) (next-up i) room)
        (λ x j s le q. tells_then Any Any (ending j) _ (ending_tells f i j s le) (λ u o s le q. goes s le tt)))
        (λ e. stops (f.syntax (next i) (f.steps i at)))

    reaction_tells : (i : Input) → At i → Room d i.at → Tells At Bad Any i (reaction limits d below i)
    unfolding reaction
    reaction_tells i at room =
        tells_then Any Any (statement limits d below top (next i)) _
        (tells_from Any (statement limits d below top (next i)) (next-up i)
        (statement_tells limits f d below reads top (next i) (f.steps i at) (f.room_up d i.at (next i).at (next-up i) room)))
        (λ x o s le q. goes s le tt)

    component_item_tells : (i : Input) → At i → Room d i.at → Tells At Bad Any i (component_item limits d below i)
    unfolding component_item
    component_item_tells i at room = by (sees i)
      where
        by : (l : Lexeme) → Tells At Bad Any i (r.component_item_by limits d below l i)
        by k.Import = import_tells f i at
        by k.Export = export_let_tells i at room
        by k.React = reaction_tells i at room
        by k.Function = func_tells limits f d below reads (start i) false i at room
        by _ = item_tells limits f d below reads top i at room

    exported_tells : (i : Input) → At i → Room d i.at → Tells At Bad Any i (exported limits d below i)
    unfolding exported
    exported_tells i at room = tells_from Any _ (next-up i) (by (sees (next i)))
      where
        more : Room d (next i).at
        more = f.room_up d i.at (next i).at (next-up i) room

        by : (l : Lexeme) → Tells At Bad Any (next i) (r.exported_by limits d below (start i) l (next i))
        by k.Const = const_tells limits f d below reads (start i) true (next i) (f.steps i at) more
        by k.Function = func_tells limits f d below reads (start i) true (next i) (f.steps i at) more
        by _ = stops (f.syntax (next i) (f.steps i at))

    module_item_tells : (i : Input) → At i → Room d i.at → Tells At Bad Any i (module_item limits d below i)
    unfolding module_item
    module_item_tells i at room = by (sees i)
      where
        by : (l : Lexeme) → Tells At Bad Any i (r.module_item_by limits d below l i)
        by k.Import = import_tells f i at
        by k.Export = exported_tells i at room
        by k.Const = const_tells limits f d below reads (start i) false i at room
        by k.Function = func_tells limits f d below reads (start i) false i at room
        by _ = stops (f.syntax i at)

  -- ---- what stands in constructs

  inside_tells : (d : ℕ) → Bodied At Bad Room Tight d (bodies limits d) → (form : Form) (i : Input) → At i → Tight (suc d) i.at
      → Tells At Bad (Fine Bad) (next i) ((bodies limits (suc d)).exprs.inside form i)
  unfolding bodies
  inside_tells d below form i at tight = level_tells limits f d (bodies limits d).exprs below.exprs form i at (f.inner d i.at tight)

  arrow_tells : (d : ℕ) → Bodied At Bad Room Tight d (bodies limits d) → (i : Input) → At i → Room (suc d) i.at → Tells At Bad Any i ((bodies limits (suc d)).exprs.block i)
  unfolding bodies
  arrow_tells d below i at room = braced_tells limits f d (bodies limits d) below in_function i at room

  block_tells : (d : ℕ) → Bodied At Bad Room Tight d (bodies limits d) → (place : Place) (i : Input) → At i → Room (suc d) i.at
      → Tells At Bad Any i ((bodies limits (suc d)).block place i)
  unfolding bodies
  block_tells d below place i at room = braced_tells limits f d (bodies limits d) below place i at room

  body_tells : (d : ℕ) → Bodied At Bad Room Tight d (bodies limits d) → (place : Place) (i : Input) → At i → Tight (suc d) i.at
      → Tells At Bad Any i ((bodies limits (suc d)).body place i)
  unfolding bodies
  body_tells d below place i at tight = statement_tells limits f d (bodies limits d) below place i at (f.inner d i.at tight)

  nothing_tells : Bodied At Bad Room Tight zero (bodies limits zero)
  unfolding bodies
  nothing_tells = record {
    exprs = record { inside = λ form i at tight. stops (f.deep i at (f.loose 0 i.at tight)); block = λ i at room. stops (f.deep i at room) };
    block = λ place i at room. stops (f.deep i at room);
    body = λ place i at tight. stops (f.deep i at (f.loose 0 i.at tight));
  }

  pub bodies_tell : (d : ℕ) → Bodied At Bad Room Tight d (bodies limits d)
  bodies_tell zero = nothing_tells
  bodies_tell (suc d) =
      let below = bodies_tell d in
      record {
        exprs = record { inside = λ form i at tight. inside_tells d below form i at tight; block = λ i at room. arrow_tells d below i at room };
        block = λ place i at room. block_tells d below place i at room;
        body = λ place i at tight. body_tells d below place i at tight;
      }

  -- ---- whole texts

  pub component_tells : (i : Input) → At i → Room limits.nest i.at → Tells At Bad Any i (component limits i)
  unfolding component
  component_tells i at room =
      let d = limits.nest in
      upto_tells f (component_item limits d (bodies limits d)) (Room d) (f.room_up d) (component_item_tells d (bodies limits d) (bodies_tell d)) k.End i at room

  pub module_tells : (i : Input) → At i → Room limits.nest i.at → Tells At Bad Any i (file_module limits i)
  unfolding file_module
  module_tells i at room =
      let d = limits.nest in
      upto_tells f (module_item limits d (bodies limits d)) (Room d) (f.room_up d) (module_item_tells d (bodies limits d) (bodies_tell d)) k.End i at room

  pub expression_tells : (d : ℕ) (i : Input) → At i → Room d i.at → Tells At Bad (Fine Bad) (next i) (expression limits d i)
  expression_tells d i at room =
      let below = bodies_tell d in level_tells limits f d (bodies limits d).exprs below.exprs Whole i at room
