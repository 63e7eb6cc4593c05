-- The reader and the grammar agree.
use Rattle.std.proofs.Common.{◌≡◌, ◌-◌, ℕ, Bool, refl, subst, inl}
use Rattle.std.specs.Prelude.{Ok, ◌↔◌}
use Rattle.sv_lex.specs.Reader.{Input}
use Rattle.sv_lex.proofs.Ends.{ends_well}
use Rattle.sv_lex.proofs.Steps.{Holds, holds_weaker}
use Rattle.sv_expr.specs.Limits.{Limits}
use Rattle.sv_expr.proofs.End.{Limited}
use Rattle.sv_expr.proofs.EndLists.{le_true}
use Rattle.sv_expr.proofs.Shrinks.{shrinking}
use Rattle.sv_expr.proofs.SoundLists.{holds_self}
use Rattle.sv_script.specs.Closed.{ExpressionAt, ScriptAt}
use Rattle.sv_script.specs.Laws.{Sound, Complete, Blamed}
use Rattle.sv_script.specs.Script.{expression, component}
use Rattle.sv_script.proofs.Agree.{expression_sound, expression_complete, expression_blamed, script_sound, script_complete, script_blamed}
use Rattle.sv_script.proofs.Ways.{expression_moves}
use Rattle.sv_tags.specs.declared.directives.Tag.{Tag}
use Rattle.sv_tags.specs.declared.holes.Filling.{Filling}
use Rattle.sv_tags.specs.Grammar as g
use Rattle.sv_tags.specs.Laws.{read_braces, IsBraces, IsBracesThere, read_opening, IsOpening}
use Rattle.sv_tags.specs.Raw.{comment, script, style}
use Rattle.sv_tags.proofs.EndRaw.{comment_read, script_ends, style_read}
use Rattle.sv_tags.proofs.EndTags.{opening_ends}
use Rattle.sv_tags.proofs.EndValues.{Cause, braces_ends}
use Rattle.sv_tags.proofs.SoundRaw.{comment_holds, script_holds, style_holds}
use Rattle.sv_tags.proofs.SoundTags.{opening_holds}
use Rattle.sv_tags.proofs.SoundValues.{braces_holds}

-- ---- expressions and scripts

pub expression_holds : (limits : Limits) (d : ℕ) (i : Input) → Holds (ExpressionAt limits d i) (expression limits d i)
expression_holds limits d i = holds_weaker (λ x o. expression limits d i ≡ Ok (x, o)) (ExpressionAt limits d i) (expression limits d i)
    (λ x o h. expression_sound (limits, d) i o x h) (holds_self (expression limits d i))

pub component_holds : (limits : Limits) (i : Input) → Holds (ScriptAt limits i) (component limits i)
component_holds limits i = holds_weaker (λ x o. component limits i ≡ Ok (x, o)) (ScriptAt limits i) (component limits i)
    (λ x o h. script_sound limits i o x h) (holds_self (component limits i))

-- within the same limits nothing stands in the way
pub nothing : (limits : Limits) (d : ℕ) → Cause limits limits (λ e. ⊥) d d
nothing limits d = record {
  full = λ i none some. (let yes_ = le_true 1 d some in cc);
  inner = λ i o x h. inl (expression_complete (limits, d - 1) i o x h);
  shorter = λ n i o x h. shrinking.weaker (expression_moves shrinking limits n h);
}

-- within any limits a limit does
pub limit : (limits wide : Limits) (d m : ℕ) → Cause limits wide Limited d m
limit limits wide d m = record {
  full = λ i none some. inl refl;
  inner = λ i o x h. expression_blamed (limits, d - 1) (wide, m - 1) i o x h;
  shorter = λ n i o x h. shrinking.weaker (expression_moves shrinking wide n h);
}

-- ---- braces

pub braces_sound : (filling : Filling) → Sound (read_braces filling) (IsBracesThere filling)
braces_sound filling within i o x h there =
    subst (Holds (IsBraces filling within i)) h (braces_holds within.0 (expression_holds within.0) filling within.1 i there)

pub braces_complete : (filling : Filling) → Complete (read_braces filling) (IsBraces filling)
braces_complete filling within i o x h =
    ends_well (braces_ends within.0 within.0 (λ e. ⊥) within.1 within.1 (nothing within.0 within.1) h)

pub braces_blamed : (filling : Filling) → Blamed (read_braces filling) (IsBraces filling)
braces_blamed filling within wide i o x h =
    braces_ends within.0 wide.0 Limited within.1 wide.1 (limit within.0 wide.0 within.1 wide.1) h

-- ---- openings

pub opening_sound : (tag : Tag) (owned : Bool) (from : ℕ) → Sound (read_opening tag owned from) (IsOpening tag owned)
opening_sound tag owned from within i o x h =
    subst (Holds (IsOpening tag owned within i)) h (opening_holds within.0 (expression_holds within.0) within.1 tag owned from i)

pub opening_complete : (tag : Tag) (owned : Bool) (from : ℕ) → Complete (read_opening tag owned from) (IsOpening tag owned)
opening_complete tag owned from within i o x h =
    ends_well (opening_ends within.0 within.0 (λ e. ⊥) within.1 within.1 (nothing within.0 within.1) tag owned from h)

pub opening_blamed : (tag : Tag) (owned : Bool) (from : ℕ) → Blamed (read_opening tag owned from) (IsOpening tag owned)
opening_blamed tag owned from within wide i o x h =
    opening_ends within.0 wide.0 Limited within.1 wide.1 (limit within.0 wide.0 within.1 wide.1) tag owned from h

-- ---- scripts

pub script_tag_sound : Sound script g.ScriptTagAt
script_tag_sound limits i o x h = subst (Holds (g.ScriptTagAt limits i)) h (script_holds limits (component_holds limits) i)

pub script_tag_complete : Complete script g.ScriptTagAt
script_tag_complete limits i o x h = ends_well (script_ends limits limits (λ e. ⊥) (λ i o found s. inl (script_complete limits i o found s)) h)

pub script_tag_blamed : Blamed script g.ScriptTagAt
script_tag_blamed limits wide i o x h = script_ends limits wide Limited (λ i o found s. script_blamed limits wide i o found s) h

-- ---- comments and styles

pub comments : (i o : Input) → (comment i ≡ Ok (tt, o)) ↔ g.CommentAt i o
comments i o = (λ h. subst (Holds (λ x o. g.CommentAt i o)) h (comment_holds i), λ h. comment_read h)

pub styles : (i o : Input) → (style i ≡ Ok (tt, o)) ↔ g.StyleAt i o
styles i o = (λ h. subst (Holds (λ x o. g.StyleAt i o)) h (style_holds i), λ h. style_read h)
