-- Comments, scripts and styles of the grammar are read.
use Rattle.std.proofs.Common.{◌≡◌, inl, List, refl}
use Rattle.std.specs.Prelude.{Ok}
use Rattle.sv_ast.specs.declared.refusals.Refused.{Refused}
use Rattle.sv_ast.specs.declared.script_tree.Stmt.{Stmt}
use Rattle.sv_lex.specs.Reader.{Input}
use Rattle.sv_lex.proofs.Ends.{Ends, ends_then, then_ok}
use Rattle.sv_expr.specs.Limits.{Limits}
use Rattle.sv_script.specs.Script.{component}
use Rattle.sv_tags.specs.Classes.{first}
use Rattle.sv_tags.specs.Grammar as g
use Rattle.sv_tags.specs.Openings.{past_blanks}
use Rattle.sv_tags.specs.Raw.{comment, tag_end, script_inside, script, style_inside, style}
use Rattle.sv_script.specs.Closed.{ScriptAt}
use Rattle.sv_tags.proofs.Bytes.{is_same}

pub comment_read : {i o : Input} → g.CommentAt i o → comment i ≡ Ok (tt, o)
unfolding comment
comment_read (g.comment h) = rw h refl

pub tag_end_read : {i o : Input} → g.TagEndAt i o → tag_end i ≡ Ok (tt, o)
unfolding tag_end
tag_end_read (g.tag_end {i = i} h) = rw (is_same (first (past_blanks i).text) 62 h) refl

pub script_ends : (limits wide : Limits) (P : Refused → Type 0) → ((i o : Input) (found : List Stmt) → ScriptAt wide i found o → Ends P (component limits i) (found, o))
    → {i o : Input} {found : List Stmt} → g.ScriptTagAt wide i found o → Ends P (script limits i) (found, o)
unfolding script script_inside
script_ends limits wide P scripts (g.script {i = i} {j = j} {o = o} {n = n} h c b s) =
    rw h (ends_then P _ _ (inl (tag_end_read c)) (rw b (ends_then P _ _ (scripts _ o _ s) (inl refl))))

pub style_read : {i o : Input} → g.StyleAt i o → style i ≡ Ok (tt, o)
unfolding style style_inside
style_read (g.style {i = i} {j = j} c b) = then_ok _ (tag_end_read c) (rw b refl)
