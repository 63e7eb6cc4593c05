-- What a file and an expression leave know the same names.
use Rattle.std.proofs.Common.{◌≡◌, ℕ, refl, ◌∙◌, subst}
use Rattle.std.specs.Prelude.{◌==◌, Ok}
use Rattle.sv_lex.specs.declared.pieces.Piece.TheVariants.{Written}
use Rattle.sv_lex.specs.declared.strings.Quote.TheVariants.{Back}
use Rattle.sv_lex.specs.Literals.{run, end_len}
use Rattle.sv_lex.specs.Pieces.{rest}
use Rattle.sv_lex.specs.Reader.{Input, Parser}
use Rattle.sv_lex.proofs.Steps.{Holds, holds_if}
use Rattle.sv_expr.specs.Limits.{Limits}
use Rattle.sv_expr.proofs.Ways.{IsWay}
use Rattle.sv_script.specs.Script.{component, file_module, expression}
use Rattle.sv_script.proofs.Agree.{script_sound, module_sound, expression_sound}
use Rattle.sv_script.proofs.Ways.{script_way, module_way, expression_moves}

-- what a parser leaves knows what it was given
abbrev pub Keeps : {A : Type 0} → Parser A → Type 0
Keeps {A = A} p = (i o : Input) (a : A) → p i ≡ Ok (a, o) → o.known ≡ i.known

abbrev pub Knows : Input → Input → Type 0
Knows i o = o.known ≡ i.known

run_keeps : Keeps run
unfolding run
run_keeps i o x h = subst (Holds (λ x o. Knows i o)) h (holds_if (λ x o. Knows i o) (end_len (rest (Written Back) i.text) == 0) _ _ (λ e. tt) (λ e. refl))

-- each token does
pub keeping : IsWay Knows Knows
keeping = record {
  stays = λ i. refl;
  weaker = λ h. h;
  along = λ h g. g ∙ h;
  on = λ h g. g ∙ h;
  passes = λ i o e known. known;
  takes = λ i o some e known. known;
  runs = λ i o x h. run_keeps i o x h;
}

pub component_keeps : (limits : Limits) → Keeps (component limits)
component_keeps limits i o xs h = script_way keeping limits (script_sound limits i o xs h)

pub module_keeps : (limits : Limits) → Keeps (file_module limits)
module_keeps limits i o xs h = module_way keeping limits (module_sound limits i o xs h)

pub expression_keeps : (limits : Limits) (room : ℕ) → Keeps (expression limits room)
expression_keeps limits room i o x h = expression_moves keeping limits room (expression_sound (limits, room) i o x h)
