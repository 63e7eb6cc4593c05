-- No number is given twice, whatever stands there.
use Rattle.std.proofs.Common.{◌≡◌, ℕ, Bool, ◌||◌, List, [], Option, Some, None, Ok}
use Rattle.std.specs.Prelude.{slice_get}
use Rattle.sv_attributes.specs.Values.{alone}
use Rattle.sv_base.specs.declared.span.Span.{Span}
use Rattle.sv_code.specs.declared.fragments.FragAttr.{FragAttr}
use Rattle.sv_code.specs.declared.fragments.FragAttr.TheVariants as attr
use Rattle.sv_code.specs.declared.fragments.FragValue.{FragValue}
use Rattle.sv_code.specs.declared.fragments.FragValue.TheVariants as value
use Rattle.sv_code.specs.declared.fragments.FragValuePart.{FragValuePart}
use Rattle.sv_code.specs.declared.fragments.FragValuePart.TheVariants as piece
use Rattle.sv_code.specs.declared.parts.Part.{Part}
use Rattle.sv_code.specs.declared.program.Program.{Program}
use Rattle.sv_ops.specs.Texts.{between}
use Rattle.sv_parts.specs.Parts.{evaluated, text_of_part, text_step}
use Rattle.sv_parts.specs.Sides.{Sides, moved}
use Rattle.sv_parts.specs.State.{andThen}
use Rattle.sv_parts.specs.Tags.{passed_value}
use Rattle.sv_parts.specs.Values.{unvalued, passed, alone_step, part_text, part_texts, joined, joined_anew, joined_step, is_due, parts_step, value_step}
use Rattle.sv_parts.specs.declared.state.State.{State}
use Rattle.sv_right.proofs.Lists.{Matched, plain_after, along_of}
use Rattle.sv_right.proofs.Steps.{After, more_after, if_after, renewed_after, Grows, Up, grows_same, up_then}
use Rattle.sv_right.proofs.Texts.{joined_text}
use Rattle.sv_right.proofs.Values.{Valued, Texted, evaluated_after, text_after}
use Rattle.sv_value.specs.Value.{text}

evaluated_up : (p : Program) (part : Part) (at : Sides) (s : State) → After (evaluated p part at s) (Up s)
evaluated_up p part at s = more_after (evaluated p part at s) (Valued p part at.new s) (Up s) (evaluated_after p part at s) (λ x u h. h.1)

text_up : (p : Program) (part : Part) (old : Option (List ℕ)) (at : Sides) (s : State) → After (text_step p part old at s) (Up s)
text_up p part old at s =
    renewed_after part (text_of_part p part at) old at s (Up s) (more_after (text_of_part p part at s) (Texted p part at.new s) (Up s) (text_after p part at s) (λ t u h. h.1)) (λ t e q. grows_same s)

piece_up : (p : Program) (at : Sides) (x : FragValuePart) (old : Option (List ℕ)) (s : State) → After (part_text p at x old s) (Up s)
piece_up p at (piece.Text t) old s = grows_same s
piece_up p at (piece.Show part) old s = text_up p part old at s

texts_up : (p : Program) (at : Sides) (olds : List (List ℕ)) (parts : List FragValuePart) (s : State) → After (part_texts p at olds parts s) (Up s)
texts_up p at olds parts s =
    more_after (part_texts p at olds parts s) (λ texts u. Matched (λ x i t. Unit {0}) 0 parts texts × Grows s u) (Up s)
    (plain_after (λ x i u. part_text p at x (slice_get olds i) u) (λ x i. Unit {0}) (λ x i t. Unit {0})
    (λ x i u h. more_after (part_text p at x (slice_get olds i) u) (Up u) (λ t w. Unit {0} × Grows u w) (piece_up p at x (slice_get olds i) u) (λ t w g. (tt, g))) 0 parts s (along_of (λ x i. Unit {0}) (λ x i. tt) 0 parts))
    (λ texts u h. h.1)

joined_up : (p : Program) (span : Span) (parts : List FragValuePart) (olds : List (List ℕ)) (wanted : Bool) (at : Sides) (s : State) → After (joined_step p span parts olds wanted at s) (Up s)
joined_up p span parts olds wanted at s =
    if_after (wanted || is_due at olds parts) (joined_anew p span parts olds at s) (Ok (record { texts = olds; value = None }, s)) (Up s)
    (λ _. up_then s (part_texts p at olds parts s) (λ texts v. andThen (joined span texts v) (λ whole u. Ok (record { texts = texts; value = Some whole }, u))) (texts_up p at olds parts s)
    (λ texts v. up_then v (joined span texts v) (λ whole u. Ok (record { texts = texts; value = Some whole }, u))
    (more_after (joined span texts v) (λ x u. (x ≡ text (between [] texts)) × Grows v u) (Up v) (joined_text span texts v) (λ x u h. h.1)) (λ x u. grows_same u)))
    (λ _. grows_same s)

alone_up : (p : Program) (part : Part) (is_new : Bool) (at : Sides) (s : State) → After (alone_step p part is_new at s) (Up s)
alone_up p part is_new at s =
    if_after (is_new || moved part.reads at) _ (Ok (unvalued, s)) (Up s) (λ _. up_then s (evaluated p part at s) (λ x u. Ok (passed x, u)) (evaluated_up p part at s) (λ x u. grows_same u)) (λ _. grows_same s)

parts_up : (p : Program) (span : Span) (parts : List FragValuePart) (o : Option Part) (olds : List (List ℕ)) (is_new : Bool) (at : Sides) (s : State) → After (parts_step p span parts o olds is_new at s) (Up s)
parts_up p span parts None olds is_new at s = joined_up p span parts olds is_new at s
parts_up p span parts (Some part) olds is_new at s = alone_up p part is_new at s

value_up : (p : Program) (span : Span) (x : FragValue) (olds : List (List ℕ)) (is_new : Bool) (at : Sides) (s : State) → After (value_step p span x olds is_new at s) (Up s)
value_up p span value.Bare olds is_new at s = grows_same s
value_up p span (value.Parts parts) olds is_new at s = parts_up p span parts (alone parts) olds is_new at s

pub passed_up : (p : Program) (a : FragAttr) (olds : List (List ℕ)) (is_new : Bool) (at : Sides) (s : State) → After (passed_value p a olds is_new at s) (Up s)
passed_up p (attr.Plain span name x) olds is_new at s = value_up p span x olds is_new at s
passed_up p (attr.On handler reads) olds is_new at s = grows_same s
passed_up p (attr.Bind span name part) olds is_new at s = alone_up p part is_new at s
passed_up p (attr.Class span name part) olds is_new at s = grows_same s
