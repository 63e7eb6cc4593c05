-- What begins at the front of a text, told by its first byte.
use Rattle.std.proofs.Common.{◌≡◌, ◌≢◌, ◌≤◌, ℕ, Bool, true, false, cond, List, [], ◌∷◌, length, refl, sym, arith}
use Rattle.std.specs.Prelude.{◌==◌, slice_index, codes}
use Rattle.std.specs.Str.{bytes_eq}
use Rattle.sv_lex.specs.Reader.{Input, left}
use Rattle.sv_tags.specs.Classes.{first, begins}
use Rattle.sv_tags.proofs.Bytes.{same}
use Rattle.sv_markup.specs.declared.pieces.Form.TheVariants as form
use Rattle.sv_markup.specs.declared.pieces.Piece.{Piece}
use Rattle.sv_markup.specs.declared.pieces.Piece.TheVariants as p
use Rattle.sv_markup.specs.Pieces.{tag, brace, piece_at, is_end, is_small, is_capital, tag_name}

pub is_ended : (x : Piece) → is_end x ≡ true → x ≡ p.End
is_ended p.End h = refl
is_ended _ h = let no : true ≡ false = sym h in absurd (cc)

-- where something begins there is a byte
some_piece : (z : List ℕ) (x : Piece) → piece_at z ≡ x → x ≢ p.End → 1 ≤ length z
unfolding piece_at
some_piece [] x e n = absurd (n (sym e))
some_piece (b ∷ z) x e n = omega arith

pub some_left : (i : Input) {x : Piece} → piece_at i.text ≡ x → x ≢ p.End → 1 ≤ left i
unfolding left
some_left i e n = some_piece i.text _ e n

pub unended : (x : Piece) → x ≢ p.End → is_end x ≡ false
unended p.End n = absurd (n refl)
unended _ n = refl

either : (b : Bool) (x y z : Piece) → x ≢ z → y ≢ z → cond b x y ≢ z
either true x y z n m = n
either false x y z n m = m

no_hole : (z : List ℕ) → tag z ≢ p.Node form.Hole
no_hole z = let Q = p.Node form.Hole in
    either (begins (codes "<!--") z) _ _ Q (λ e. cc) (either (begins (codes "</") z) _ _ Q (λ e. cc) (either (begins (codes "<svelte:") z) _ _ Q (λ e. cc)
    (either (is_small (slice_index z 1)) _ _ Q
    (either (bytes_eq (tag_name z) (codes "script")) _ _ Q (λ e. cc) (either (bytes_eq (tag_name z) (codes "style")) _ _ Q (λ e. cc)
    (either (bytes_eq (tag_name z) (codes "slot")) _ _ Q (λ e. cc) (either (bytes_eq (tag_name z) (codes "textarea")) _ _ Q (λ e. cc) (λ e. cc)))))
    (either (is_capital (slice_index z 1)) _ _ Q (λ e. cc) (λ e. cc)))))

-- an expression in braces begins with one
pub hole_first : (z : List ℕ) → piece_at z ≡ p.Node form.Hole → first z ≡ 123
unfolding piece_at
hole_first z h = by (length z == 0) (first z == 60) (first z == 123) (first z == 125) refl h
  where
    by : (a b c d : Bool) → (first z == 123) ≡ c → cond a p.End (cond b (tag z) (cond c (brace z) (cond d p.Unread (p.Node form.Text)))) ≡ p.Node form.Hole → first z ≡ 123
    by true b c d e h = absurd (cc)
    by false true c d e h = absurd (no_hole z h)
    by false false true d e h = same (first z) 123 e
    by false false false true e h = absurd (cc)
    by false false false false e h = absurd (cc)
