-- Scripts add functions.
use Rattle.std.proofs.Common.{◌≡◌, List, [], ◌++◌, sym, ap, ◌∙◌}
use Rattle.sv_ast.specs.declared.script_tree.Body
use Rattle.sv_ast.specs.declared.script_tree.Stmt.{Stmt}
use Rattle.sv_code.proofs.Each.{each_of}
use Rattle.sv_code.specs.declared.functions.Function.{Function}
use Rattle.sv_lower.proofs.Forms.{body_Block}
use Rattle.sv_lower.specs.Lower.{of_stmts}
use Rattle.sv_lower.specs.Tops.{Tops}
use Rattle.sv_names.specs.Uses.{body_parts}
use Rattle.sv_within.proofs.Reading.{body_claim}
use Rattle.sv_within.proofs.Scopes.{covers_nothing}

pub record Adds (before after : List Function) : Type 0 where
  pub added : List Function
  pub is : after ≡ before ++ added

pub script_adds : (tops : Tops) (stmts : List Stmt) (before : List Function) → Adds before (of_stmts stmts tops [] before).1
script_adds tops stmts before =
    let block = Body.Block stmts in
    let made = body_claim (λ k. Unit {0}) tops (λ n. Unit {0}) [] (λ x. tt) (λ n r e. tt) block [] [] (covers_nothing []) (each_of (λ u. Unit {0}) (λ u. tt) ((body_parts block).uses [])) before in
    record { added = made.added; is = ap (λ m. (m tops [] before).1) (sym (body_Block stmts)) ∙ made.is }
