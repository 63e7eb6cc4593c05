-- Comments, scripts and styles that are read are in the grammar.
use Rattle.std.proofs.Common.{◌≡◌, ℕ, false, refl}
use Rattle.std.specs.Prelude.{◌==◌, drop, Option, Some, None, codes}
use Rattle.sv_lex.specs.Literals.{moved}
use Rattle.sv_lex.specs.Reader.{Input}
use Rattle.sv_lex.proofs.Steps.{Holds, holds_then, holds_if}
use Rattle.sv_expr.specs.Limits.{Limits}
use Rattle.sv_script.specs.Script.{component}
use Rattle.sv_tags.specs.Classes.{first, before}
use Rattle.sv_tags.specs.Grammar as g
use Rattle.sv_tags.specs.Openings.{past_blanks}
use Rattle.sv_tags.specs.Raw as r
use Rattle.sv_tags.specs.Raw.{comment, tag_end, has_attribute, cut, script_inside, script, style_inside, style}
use Rattle.sv_script.specs.Closed.{ScriptAt}
use Rattle.sv_tags.proofs.Bytes.{same}

pub comment_holds : (i : Input) → Holds (λ x o. g.CommentAt i o) (comment i)
unfolding comment
comment_holds i = by (before (codes "-->") (drop 4 i.text)) refl
  where
    by : (n : Option ℕ) → before (codes "-->") (drop 4 i.text) ≡ n → Holds (λ x o. g.CommentAt i o) (r.commented n i)
    by None e = tt
    by (Some n) e = g.comment e

pub tag_end_holds : (i : Input) → Holds (λ x o. g.TagEndAt i o) (tag_end i)
unfolding tag_end
tag_end_holds i = holds_if (λ x o. g.TagEndAt i o) (first (past_blanks i).text == 62) _ _ (λ h. g.tag_end (same (first (past_blanks i).text) 62 h)) (λ h. tt)

pub script_holds : (limits : Limits) → ((i : Input) → Holds (ScriptAt limits i) (component limits i)) → (i : Input) → Holds (g.ScriptTagAt limits i) (script limits i)
unfolding script script_inside
script_holds limits holding i = holds_if (g.ScriptTagAt limits i) (has_attribute (drop 7 i.text)) _ _ (λ h. tt)
    (λ h. holds_then (λ x j. g.TagEndAt (moved 7 i) j) (g.ScriptTagAt limits i) (tag_end (moved 7 i)) _ (tag_end_holds (moved 7 i))
    (λ x j end. by h j end (before (codes "</script>") j.text) refl))
  where
    by : has_attribute (drop 7 i.text) ≡ false → (j : Input) → g.TagEndAt (moved 7 i) j → (n : Option ℕ) → before (codes "</script>") j.text ≡ n
        → Holds (g.ScriptTagAt limits i) (r.script_before limits i.at n j)
    by h j end None e = tt
    by h j end (Some n) e = holds_then (ScriptAt limits (cut n j)) (g.ScriptTagAt limits i) (component limits (cut n j)) _ (holding (cut n j)) (λ found o s. g.script h end e s)

pub style_holds : (i : Input) → Holds (λ x o. g.StyleAt i o) (style i)
unfolding style style_inside
style_holds i = holds_then (λ x j. g.TagEndAt (moved 6 i) j) (λ x o. g.StyleAt i o) (tag_end (moved 6 i)) _ (tag_end_holds (moved 6 i))
    (λ x j end. by j end (before (codes "</style>") j.text) refl)
  where
    by : (j : Input) → g.TagEndAt (moved 6 i) j → (n : Option ℕ) → before (codes "</style>") j.text ≡ n → Holds (λ x o. g.StyleAt i o) (r.style_before i.at n j)
    by j end None e = tt
    by j end (Some n) e = g.style end e
