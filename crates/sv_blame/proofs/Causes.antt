-- A limit that is told as the cause of a refusal is one that each tree of the grammar exceeds.
use Rattle.std.proofs.Common.{◌≡◌, ◌≤◌, inl, inr, ℕ, true, false, refl, sym, ◌∙◌, subst, arith}
use Rattle.std.specs.Prelude.{List, Ok, Err, nat_le}
use Rattle.sv_ast.specs.declared.refusals.Kind.TheVariants.{TooDeep, NumberTooWide}
use Rattle.sv_ast.specs.declared.refusals.Refused.{Refused}
use Rattle.sv_ast.specs.declared.script_tree.Expr.{Expr}
use Rattle.sv_ast.specs.declared.script_tree.Stmt.{Stmt}
use Rattle.sv_lex.specs.Reader.{Input, Outcome, refusal, left}
use Rattle.sv_lex.proofs.Ends.{Ends}
use Rattle.sv_expr.specs.Limits.{Limits}
use Rattle.sv_expr.proofs.EndLists.{le_true}
use Rattle.sv_expr.proofs.Shrinks.{shrinking}
use Rattle.sv_script.specs.Closed.{ExpressionAt, ScriptAt, ModuleAt}
use Rattle.sv_script.specs.Laws.{read_expression}
use Rattle.sv_script.specs.Rules.{value}
use Rattle.sv_script.specs.Script.{component, file_module}
use Rattle.sv_script.proofs.EndScripts as s
use Rattle.sv_script.proofs.EndScripts.{expression_ends, component_ends, module_ends}
use Rattle.sv_script.proofs.Ways.{expression_moves, script_way}
use Rattle.sv_markup.specs.declared.file.Parts.{Parts}
use Rattle.sv_markup.specs.Files.{top}
use Rattle.sv_markup.specs.Grammar.{TopAt}
use Rattle.sv_markup.proofs.EndLeaves as m
use Rattle.sv_markup.proofs.EndTop.{top_ends}

abbrev pub IsWide : Refused → Type 0
IsWide e = e.kind ≡ NumberTooWide

abbrev pub IsDeep : Refused → Type 0
IsDeep e = e.kind ≡ TooDeep

wide_refusal : (i : Input) → IsWide (refusal NumberTooWide i)
unfolding refusal
wide_refusal i = refl

deep_refusal : (i : Input) → IsDeep (refusal TooDeep i)
unfolding refusal
deep_refusal i = refl

-- no more constructs and no longer chains than one has room for
abbrev Under : ℕ → ℕ → Type 0
Under d m = m ≤ d

abbrev Free : ℕ → ℕ → Type 0
Free d m = Unit {0}

-- ---- scripts

by_number : (limits wide : Limits) → wide.links ≤ limits.links → s.Blame limits wide IsWide Under
by_number limits wide links = record {
  full = λ m r i. absurd (omega (arith, r));
  less = λ d m r. omega (arith, r);
  links = λ less i. absurd (omega (arith, less, links));
  numbers = λ less i. wide_refusal i;
}

by_depth : (limits wide : Limits) → wide.number ≤ limits.number → s.Blame limits wide IsDeep Free
by_depth limits wide number = record {
  full = λ m r i. deep_refusal i;
  less = λ d m r. tt;
  links = λ less i. deep_refusal i;
  numbers = λ less i. absurd (omega (arith, less, number));
}

-- where a tree has no more constructs and no longer chains, a number is what stands in the way
pub script_by_number : (limits wide : Limits) → wide.nest ≤ limits.nest → wide.links ≤ limits.links → (i o : Input) (x : List Stmt) → ScriptAt wide i x o
    → Ends IsWide (component limits i) (x, o)
script_by_number limits wide nest links i o x h = component_ends limits wide h.block h.closed.only IsWide Under (by_number limits wide links) (omega arith) h.is

-- and where it has no wider numbers, it is a construct or a chain
pub script_by_depth : (limits wide : Limits) → wide.number ≤ limits.number → (i o : Input) (x : List Stmt) → ScriptAt wide i x o → Ends IsDeep (component limits i) (x, o)
script_by_depth limits wide number i o x h = component_ends limits wide h.block h.closed.only IsDeep Free (by_depth limits wide number) tt h.is

pub module_by_number : (limits wide : Limits) → wide.nest ≤ limits.nest → wide.links ≤ limits.links → (i o : Input) (x : List Stmt) → ModuleAt wide i x o
    → Ends IsWide (file_module limits i) (x, o)
module_by_number limits wide nest links i o x h = module_ends limits wide h.block h.closed.only IsWide Under (by_number limits wide links) (omega arith) h.is

pub module_by_depth : (limits wide : Limits) → wide.number ≤ limits.number → (i o : Input) (x : List Stmt) → ModuleAt wide i x o → Ends IsDeep (file_module limits i) (x, o)
module_by_depth limits wide number i o x h = module_ends limits wide h.block h.closed.only IsDeep Free (by_depth limits wide number) tt h.is

pub expression_by_number : (limits wide : Limits) (d m : ℕ) → m ≤ d → wide.links ≤ limits.links → (i o : Input) (x : Expr) → ExpressionAt wide m i x o
    → Ends IsWide (read_expression (limits, d) i) (x, o)
unfolding value
expression_by_number limits wide d m nest links i o x h =
    expression_ends limits wide h.block h.closed.only IsWide Under (by_number limits wide links) d m (omega arith) h.is

pub expression_by_depth : (limits wide : Limits) (d m : ℕ) → wide.number ≤ limits.number → (i o : Input) (x : Expr) → ExpressionAt wide m i x o
    → Ends IsDeep (read_expression (limits, d) i) (x, o)
unfolding value
expression_by_depth limits wide d m number i o x h = expression_ends limits wide h.block h.closed.only IsDeep Free (by_depth limits wide number) d m tt h.is

-- ---- markup

expressions_shorter : (limits : Limits) (d : ℕ) (i o : Input) (x : Expr) → ExpressionAt limits d i x o → left o ≤ left i
expressions_shorter limits d i o x h = shrinking.weaker (expression_moves shrinking limits d h)

scripts_shorter : (limits : Limits) (i o : Input) (found : List Stmt) → ScriptAt limits i found o → left o ≤ left i
scripts_shorter limits i o found h = script_way shrinking limits h

fits : (d m n : ℕ) → m ≤ d → n ≤ m → nat_le n d ≡ false → ⊥
fits d m n r le t = let yes = le_true n d (omega arith) in let no : true ≡ false = sym yes ∙ t in cc

markup_by_number : (limits wide : Limits) → wide.nest ≤ limits.nest → wide.links ≤ limits.links → m.Blame limits wide IsWide Under
markup_by_number limits wide nest links = record {
  full = λ d m n r le t e deep. absurd (fits d m n r le t);
  less = λ d m n r. omega (arith, r);
  links = λ more e deep. absurd (omega (arith, more, links));
  expressions = λ d m r i o x h. expression_by_number limits wide d m r links i o x h;
  scripts = λ i o found h. script_by_number limits wide nest links i o found h;
  shorter = λ n i o x h. expressions_shorter wide n i o x h;
}

markup_by_depth : (limits wide : Limits) → wide.number ≤ limits.number → m.Blame limits wide IsDeep Free
markup_by_depth limits wide number = record {
  full = λ d m n r le t e deep. deep;
  less = λ d m n r. tt;
  links = λ more e deep. deep;
  expressions = λ d m r i o x h. expression_by_depth limits wide d m number i o x h;
  scripts = λ i o found h. script_by_depth limits wide number i o found h;
  shorter = λ n i o x h. expressions_shorter wide n i o x h;
}

pub top_by_number : (limits wide : Limits) → wide.nest ≤ limits.nest → wide.links ≤ limits.links → (i o : Input) (x : Parts) → TopAt wide i x o → Ends IsWide (top limits i) (x, o)
top_by_number limits wide nest links i o x h = top_ends limits wide IsWide Under (markup_by_number limits wide nest links) nest (scripts_shorter wide) h

pub top_by_depth : (limits wide : Limits) → wide.number ≤ limits.number → (i o : Input) (x : Parts) → TopAt wide i x o → Ends IsDeep (top limits i) (x, o)
top_by_depth limits wide number i o x h = top_ends limits wide IsDeep Free (markup_by_depth limits wide number) tt (scripts_shorter wide) h

-- ---- what that says of a refusal

other_kinds : TooDeep ≡ NumberTooWide → ⊥
other_kinds e = cc

-- one that is for another cause is not for this one
pub no_tree_but : {A : Type 0} (P : Refused → Type 0) (r : Outcome A) (cause : Refused) (z : A × Input) → r ≡ Err cause → (P cause → ⊥) → Ends P r z → ⊥
no_tree_but {A = A} P r cause z h other (inl e) = let both : ◌≡◌ {A = Outcome A} (Err cause) (Ok z) = sym h ∙ e in cc
no_tree_but {A = A} P r cause z h other (inr e) =
    let both : ◌≡◌ {A = Outcome A} (Err e.0) (Err cause) = sym e.1 ∙ h in let same : e.0 ≡ cause = cc in other (subst P same e.2)

pub not_wide : (cause : Refused) → cause.kind ≡ TooDeep → IsWide cause → ⊥
not_wide cause deep wide = other_kinds (sym deep ∙ wide)

pub not_deep : (cause : Refused) → cause.kind ≡ NumberTooWide → IsDeep cause → ⊥
not_deep cause wide deep = other_kinds (sym deep ∙ wide)
