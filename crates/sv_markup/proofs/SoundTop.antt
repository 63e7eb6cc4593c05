-- Files that are read are in the grammar.
use Rattle.std.proofs.Common.{◌≡◌, ℕ, zero, suc, Bool, true, false, List, ◌∷◌, refl, sym, ◌∙◌, subst}
use Rattle.std.specs.Prelude.{◌==◌, Option, Some, None}
use Rattle.sv_ast.specs.declared.markup_tree.Markup.{Markup}
use Rattle.sv_ast.specs.declared.script_tree.Stmt.{Stmt}
use Rattle.sv_lex.specs.Reader.{Input, left}
use Rattle.sv_lex.proofs.Steps.{Holds, holds_then, holds_weaker, holds_if}
use Rattle.sv_expr.specs.Limits.{Limits}
use Rattle.sv_script.specs.Script.{component}
use Rattle.sv_tags.specs.Grammar.{ScriptTagAt, StyleAt}
use Rattle.sv_script.specs.Script.{expression}
use Rattle.sv_tags.specs.Raw.{script, style}
use Rattle.sv_script.specs.Closed.{ExpressionAt, ScriptAt}
use Rattle.sv_tags.proofs.Bytes.{same}
use Rattle.sv_tags.proofs.SoundRaw.{script_holds, style_holds}
use Rattle.sv_markup.specs.declared.file.Parts.{Parts}
use Rattle.sv_markup.specs.declared.pieces.Piece.{Piece}
use Rattle.sv_markup.specs.declared.pieces.Piece.TheVariants as p
use Rattle.sv_markup.specs.Files as f
use Rattle.sv_markup.specs.Files.{nothing, part, parts_from, top}
use Rattle.sv_markup.specs.Grammar as g
use Rattle.sv_markup.specs.Nodes.{with_node}
use Rattle.sv_markup.specs.Pieces.{piece_at}
use Rattle.sv_markup.specs.Rules.{piece, inside}
use Rattle.sv_markup.proofs.Found.{joined, IsApart, joined_nothing, apart_nothing, with_nodes, with_stmts, with_mark, joined_node, joined_script, joined_style, apart_node, apart_script, apart_style}
use Rattle.sv_markup.proofs.SoundNodes.{IsPiece, no_node, one_node, piece_holds, inside_holds}

module _ (limits : Limits) (holding : (d : ℕ) (i : Input) → Holds (ExpressionAt limits d i) (expression limits d i))
    (scripts : (i : Input) → Holds (ScriptAt limits i) (component limits i)) where
  abbrev APiece : Input → Option Markup → Input → Type 0
  APiece = IsPiece limits holding limits.nest (inside limits limits.nest) (inside_holds limits holding limits.nest) false

  -- what a part adds to what was found
  data IsPart (found : Parts) (i : Input) : Parts → Input → Type 0 where
    is_piece : {x : Option Markup} {o : Input} → APiece i x o → IsPart found i (with_nodes (with_node x found.nodes) found) o
    is_script : {stmts : List Stmt} {o : Input} → piece_at i.text ≡ p.Script → found.script ≡ None → ScriptTagAt limits i stmts o → IsPart found i (with_stmts stmts found) o
    is_style : {o : Input} → piece_at i.text ≡ p.Style → found.has_style ≡ false → StyleAt i o → IsPart found i (with_mark found) o

  part_holds : (found : Parts) (i : Input) → Holds (IsPart found i) (part limits found i)
  unfolding part
  part_holds found i = by (piece_at i.text) refl
    where
      script_by : (s : Option (List Stmt)) → found.script ≡ s → piece_at i.text ≡ p.Script → Holds (IsPart found i) (f.with_script limits found s i)
      script_by None e h = holds_then (ScriptTagAt limits i) (IsPart found i) (script limits i) _ (script_holds limits scripts i) (λ stmts o t. is_script h e t)
      script_by (Some stmts) e h = tt

      style_by : (b : Bool) → found.has_style ≡ b → piece_at i.text ≡ p.Style → Holds (IsPart found i) (f.with_style limits found b i)
      style_by false e h = holds_then (λ x o. StyleAt i o) (IsPart found i) (style i) _ (style_holds i) (λ x o t. is_style h e t)
      style_by true e h = tt

      other : (x : Piece) → piece_at i.text ≡ x
          → Holds (IsPart found i) (f.with_piece limits found x i)
      other x e = holds_then (APiece i) (IsPart found i) (piece limits limits.nest (inside limits limits.nest) false x i) _
          (subst (λ y. Holds (APiece i) (piece limits limits.nest (inside limits limits.nest) false y i)) e
          (piece_holds limits holding limits.nest (inside limits limits.nest) (inside_holds limits holding limits.nest) false i)) (λ n o h. is_piece h)

      by : (x : Piece) → piece_at i.text ≡ x → Holds (IsPart found i) (f.part_by limits found x i)
      by p.Script e = script_by found.script refl e
      by p.Style e = style_by found.has_style refl e
      by p.End e = other p.End e
      by p.Comment e = other p.Comment e
      by (p.Node x) e = other (p.Node x) e
      by p.LeftOut e = other p.LeftOut e
      by p.Unread e = other p.Unread e

  -- what is read is what was found with what the grammar has behind it
  abbrev Rest : Parts → Input → Parts → Input → Type 0
  Rest found i all o = (rest : Parts) × (all ≡ joined found rest) × IsApart found rest × g.TopAt limits i rest o

  further : (found next all : Parts) (i j o : Input) → IsPart found i next j → Rest next j all o → Rest found i all o
  further found next all i j o (is_piece (no_node e c)) m = (m.0, m.1, m.2, g.top_comment e c m.3)
  further found next all i j o (is_piece (one_node {x = x} e n)) m =
      (with_nodes (x ∷ m.0.nodes) m.0, m.1 ∙ joined_node x found m.0, apart_node x found m.0 m.2, g.top_node e n m.3)
  further found next all i j o (is_script {stmts = stmts} e s t) m =
      (with_stmts stmts m.0, m.1 ∙ joined_script stmts found m.0 s, apart_script stmts found m.0 s m.2, g.top_script e t m.3 (m.2.script stmts refl))
  further found next all i j o (is_style e s t) m = (with_mark m.0, m.1 ∙ joined_style found m.0 s, apart_style found m.0 s m.2, g.top_style e t m.3 (m.2.style refl))

  parts_from_hold : (n : ℕ) (found : Parts) (i : Input) → Holds (Rest found i) (parts_from limits n found i)
  unfolding parts_from
  parts_from_hold zero found i = holds_if (Rest found i) (left i == 0) _ _ (λ e. (nothing, joined_nothing found, apart_nothing found, g.top_end (same (left i) 0 e))) (λ e. tt)
  parts_from_hold (suc n) found i =
      let Q = Rest found i in
      holds_if Q (left i == 0) _ _ (λ e. (nothing, joined_nothing found, apart_nothing found, g.top_end (same (left i) 0 e)))
      (λ e. holds_then (IsPart found i) Q (part limits found i) _ (part_holds found i)
      (λ next j h. holds_weaker (Rest next j) Q _ (λ all o m. further found next all i j o h m) (parts_from_hold n next j)))

  pub top_holds : (i : Input) → Holds (g.TopAt limits i) (top limits i)
  unfolding top
  top_holds i = holds_weaker (Rest nothing i) (g.TopAt limits i) _ (λ all o m. subst (λ x. g.TopAt limits i x o) (sym m.1) m.3) (parts_from_hold (left i) nothing i)
