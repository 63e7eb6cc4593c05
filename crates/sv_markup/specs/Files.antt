-- The reader: whole files.
use Rattle.std.specs.Prelude.{ℕ, zero, suc, ◌==◌, Bool, true, false, List, [], Option, Some, None, Ok, if◌then◌else◌}
use Rattle.sv_ast.specs.declared.refusals.Kind.TheVariants.{Syntax, OutOfScope}
use Rattle.sv_ast.specs.declared.script_tree.Stmt.{Stmt}
use Rattle.sv_lex.specs.Bytes.{stop}
use Rattle.sv_lex.specs.Reader.{Parser, ◌>>=◌, ◌>>◌, pure, left}
use Rattle.sv_expr.specs.Limits.{Limits}
use Rattle.sv_tags.specs.Raw.{script, style}
use Rattle.sv_markup.specs.declared.file.Parts.{Parts}
use Rattle.sv_markup.specs.declared.pieces.Piece.{Piece}
use Rattle.sv_markup.specs.declared.pieces.Piece.TheVariants.{Script, Style}
use Rattle.sv_markup.specs.Nodes.{with_node}
use Rattle.sv_markup.specs.Pieces.{piece_at}
use Rattle.sv_markup.specs.Rules.{piece, inside}

abbrev pub nothing : Parts
nothing = record { nodes = []; script = None; has_style = false }

module _ (limits : Limits) where
  -- the script, where there was none yet
  abbrev pub with_script : Parts → Option (List Stmt) → Parser Parts
  with_script found None = script limits >>= (λ stmts. pure (record found { script = Some stmts }))
  with_script found (Some stmts) = stop OutOfScope

  -- the style, where there was none yet
  abbrev pub with_style : Parts → Bool → Parser Parts
  with_style found false = style >> pure (record found { has_style = true })
  with_style found true = stop OutOfScope

  -- a node, or a comment
  abbrev pub with_piece : Parts → Piece → Parser Parts
  with_piece found at = piece limits limits.nest (inside limits limits.nest) false at >>= (λ x. pure (record found { nodes = with_node x found.nodes }))

  abbrev pub part_by : Parts → Piece → Parser Parts
  part_by found Script = with_script found found.script
  part_by found Style = with_style found found.has_style
  part_by found other = with_piece found other

  -- one part more of what stands at the top
  unfoldable pub part : Parts → Parser Parts
  part found = λ i. part_by found (piece_at i.text) i

  -- the parts up to the end of the text, behind those that were found; the number bounds how many come
  unfoldable pub parts_from : ℕ → Parts → Parser Parts
  parts_from zero found = λ i. if left i == 0 then Ok (found, i) else stop Syntax i
  parts_from (suc n) found = λ i. if left i == 0 then Ok (found, i) else (part found >>= parts_from n) i

  -- the parts of a component
  unfoldable pub top : Parser Parts
  top = λ i. parts_from (left i) nothing i
