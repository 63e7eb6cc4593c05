-- Whole components tell.
use Rattle.std.proofs.Common.{◌≡◌, ℕ, zero, suc, Bool, true, false, List, drop, refl, ap, sym, ◌∙◌, subst, arith}
use Rattle.std.specs.Prelude.{◌==◌, codes, Option, Some, None}
use Rattle.sv_ast.specs.declared.script_tree.Stmt.{Stmt}
use Rattle.sv_lex.specs.Reader.{Input, left}
use Rattle.sv_expr.specs.Limits.{real}
use Rattle.sv_tags.specs.Raw.{script, style}
use Rattle.sv_markup.specs.declared.file.Parts.{Parts}
use Rattle.sv_markup.specs.declared.pieces.Piece.{Piece}
use Rattle.sv_markup.specs.declared.pieces.Piece.TheVariants as p
use Rattle.sv_markup.specs.Files as r
use Rattle.sv_markup.specs.Files.{part, parts_from, top, nothing}
use Rattle.sv_markup.specs.Pieces.{piece_at}
use Rattle.sv_markup.specs.Rules.{piece, inside}
use Rattle.sv_blame.specs.LeftOut.{is_left_out_piece, BeginsLeftOut}
use Rattle.sv_blame.specs.LeftOut as out
use Rattle.sv_blame.proofs.Frame.{Any, stay, tells_from, tells_then, tells_if, goes, goes_on, stops}
use Rattle.sv_blame.proofs.Nodes.{piece_tells, inside_tells}
use Rattle.sv_blame.proofs.Onward.{At, Fits, here, syntax, left_out}
use Rattle.sv_blame.proofs.Pieces.{Shows, piece_shows, opens, named_fits}
use Rattle.sv_blame.proofs.Raw.{script_tells, style_tells}
use Rattle.sv_blame.proofs.Stands.{Room}

module _ (bytes : List ℕ) (number : ℕ) where
  room : (p : ℕ) → Room bytes real.nest p
  room p = omega arith

  part_tells : (found : Parts) (i : Input) → At bytes number i → Fits bytes number i (part real found i)
  unfolding part
  part_tells found i at = by (piece_at i.text) refl (piece_shows i.text)
    where
      gone : (x : Piece) → piece_at i.text ≡ x → is_left_out_piece x ≡ true → BeginsLeftOut i.text
      gone x e h = out.piece (ap is_left_out_piece e ∙ h)

      stop : (x : Piece) → piece_at i.text ≡ x → is_left_out_piece x ≡ true → BeginsLeftOut (drop i.at bytes)
      stop x e h = subst BeginsLeftOut (sym (here bytes number i at)) (gone x e h)

      scripts : piece_at i.text ≡ p.Script → Shows p.Script i.text → (x : Option (List Stmt)) → Fits bytes number i (r.with_script real found x i)
      scripts e is None =
          tells_then Any Any (script real i) _ (script_tells bytes number i at (named_fits i.text (codes "script") is.0.less is.1) (opens is.0) (gone p.Script e refl)) (λ x o s le q. goes s le tt)
      scripts e is (Some x) = stops (left_out bytes number i.at i at (omega arith) (stop p.Script e refl))

      styles : piece_at i.text ≡ p.Style → Shows p.Style i.text → (x : Bool) → Fits bytes number i (r.with_style real found x i)
      styles e is false = tells_then Any Any (style i) _ (style_tells bytes number i at (named_fits i.text (codes "style") is.0.less is.1) (opens is.0)) (λ x o s le q. goes s le tt)
      styles e is true = stops (left_out bytes number i.at i at (omega arith) (stop p.Style e refl))

      other : (x : Piece) → piece_at i.text ≡ x → Fits bytes number i (r.with_piece real found x i)
      other x e =
          tells_then Any Any (piece real real.nest (inside real real.nest) false x i) _
          (subst (λ x. Fits bytes number i (piece real real.nest (inside real real.nest) false x i)) e
          (piece_tells bytes number real.nest (inside real real.nest) (λ owned j s tight. inside_tells bytes number real.nest owned j s tight) false i at (room i.at)))
          (λ x o s le q. goes s le tt)

      by : (x : Piece) → piece_at i.text ≡ x → Shows x i.text → Fits bytes number i (r.part_by real found x i)
      by p.Script e is = scripts e is found.script
      by p.Style e is = styles e is found.has_style
      by p.Comment e is = other p.Comment e
      by (p.Node x) e is = other (p.Node x) e
      by p.LeftOut e is = other p.LeftOut e
      by p.End e is = other p.End e
      by p.Unread e is = other p.Unread e

  parts_from_tells : (n : ℕ) (found : Parts) (i : Input) → At bytes number i → Fits bytes number i (parts_from real n found i)
  unfolding parts_from
  parts_from_tells zero found i at = tells_if Any (left i == 0) _ _ (λ e. goes_on (stay i at) tt) (λ e. stops (syntax bytes number i.at i at (omega arith)))
  parts_from_tells (suc n) found i at = tells_if Any (left i == 0) _ _ (λ e. goes_on (stay i at) tt)
      (λ e. tells_then Any Any (part real found i) _ (part_tells found i at) (λ x j s le q. tells_from Any (parts_from real n x j) le (parts_from_tells n x j s)))

  pub top_tells : (i : Input) → At bytes number i → Fits bytes number i (top real i)
  unfolding top
  top_tells i at = parts_from_tells (left i) nothing i at
