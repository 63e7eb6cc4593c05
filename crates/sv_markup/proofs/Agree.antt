-- The reader and the grammar agree.
use Rattle.std.proofs.Common.{◌≡◌, ◌≤◌, ◌-◌, inl, ℕ, true, false, refl, ap, sym, ◌∙◌, subst, arith}
use Rattle.std.specs.Prelude.{List, Ok}
use Rattle.sv_ast.specs.declared.script_tree.Expr.{Expr}
use Rattle.sv_ast.specs.declared.script_tree.Stmt.{Stmt}
use Rattle.sv_lex.specs.Reader.{Input, left}
use Rattle.sv_lex.proofs.Ends.{ends_well}
use Rattle.sv_lex.proofs.Steps.{Holds}
use Rattle.sv_expr.specs.Limits.{Limits}
use Rattle.sv_expr.proofs.End.{Limited}
use Rattle.sv_expr.proofs.EndLists.{le_true}
use Rattle.sv_expr.proofs.Shrinks.{shrinking}
use Rattle.sv_script.specs.Closed.{ExpressionAt, ScriptAt}
use Rattle.sv_script.specs.Laws.{Sound, Complete, Blamed}
use Rattle.sv_script.proofs.Agree.{expression_complete, expression_blamed, script_complete, script_blamed}
use Rattle.sv_script.proofs.Keeps.{keeping}
use Rattle.sv_script.proofs.Ways.{expression_moves, script_way}
use Rattle.sv_tags.proofs.Agree.{expression_holds, component_holds}
use Rattle.sv_tags.proofs.Ways.{known}
use Rattle.sv_markup.specs.declared.file.Parts.{Parts}
use Rattle.sv_markup.specs.Files.{top}
use Rattle.sv_markup.specs.Grammar.{TopAt}
use Rattle.sv_markup.proofs.EndLeaves.{Blame}
use Rattle.sv_markup.proofs.EndTop.{top_ends}
use Rattle.sv_markup.proofs.SoundTop.{top_holds}
use Rattle.sv_markup.proofs.Ways.{top_way}

-- ---- what is read is in the grammar

pub sound : Sound top TopAt
sound limits i o found h = subst (Holds (TopAt limits i)) h (top_holds limits (expression_holds limits) (component_holds limits) i)

-- ---- what is in the grammar is read

expressions_shorter : (limits : Limits) (d : ℕ) (i o : Input) (x : Expr) → ExpressionAt limits d i x o → left o ≤ left i
expressions_shorter limits d i o x h = shrinking.weaker (expression_moves shrinking limits d h)

scripts_shorter : (limits : Limits) (i o : Input) (found : List Stmt) → ScriptAt limits i found o → left o ≤ left i
scripts_shorter limits i o found h = script_way shrinking limits h

-- within the same limits nothing stands in the way
nothing : (limits : Limits) → Blame limits limits (λ e. ⊥) (λ d m. d ≡ m)
nothing limits = record {
  full = λ d m n r le s e deep. (let fits : n ≤ d = omega (arith, r, le) in let yes = le_true n d fits in let no : true ≡ false = sym yes ∙ s in absurd (cc));
  less = λ d m n r. ap (λ k. k - n) r;
  links = λ more e deep. omega (arith, more);
  expressions = λ d m r i o x h. inl (expression_complete (limits, d) i o x (subst (λ k. ExpressionAt limits k i x o) (sym r) h));
  scripts = λ i o found h. inl (script_complete limits i o found h);
  shorter = λ n i o x h. expressions_shorter limits n i o x h;
}

-- within others a limit does
limit : (limits wide : Limits) → Blame limits wide Limited (λ d m. Unit {0})
limit limits wide = record {
  full = λ d m n r le s e deep. inl deep;
  less = λ d m n r. tt;
  links = λ more e deep. inl deep;
  expressions = λ d m r i o x h. expression_blamed (limits, d) (wide, m) i o x h;
  scripts = λ i o found h. script_blamed limits wide i o found h;
  shorter = λ n i o x h. expressions_shorter wide n i o x h;
}

pub complete : Complete top TopAt
complete limits i o found h = ends_well (top_ends limits limits (λ e. ⊥) (λ d m. d ≡ m) (nothing limits) refl (scripts_shorter limits) h)

pub blamed : Blamed top TopAt
blamed limits wide i o found h = top_ends limits wide Limited (λ d m. Unit {0}) (limit limits wide) tt (scripts_shorter wide) h

-- ---- what is left knows the same names

pub knows : (limits : Limits) (i o : Input) (found : Parts) → top limits i ≡ Ok (found, o) → o.known ≡ i.known
knows limits i o found h = top_way known limits (λ d i o x e. expression_moves keeping limits d e) (λ i o xs s. script_way keeping limits s) (sound limits i o found h)
