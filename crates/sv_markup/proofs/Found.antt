-- What was found at the top of a file, and what comes behind it.
use Rattle.std.proofs.Common.{◌≡◌, Bool, true, false, ◌||◌, List, [], ◌∷◌, ◌++◌, refl, ap, sym, ◌∙◌, append_assoc}
use Rattle.std.specs.Prelude.{Option, Some, None}
use Rattle.sv_ast.specs.declared.markup_tree.Markup.{Markup}
use Rattle.sv_ast.specs.declared.script_tree.Stmt.{Stmt}
use Rattle.sv_expr.proofs.SoundLists.{append_none}
use Rattle.sv_markup.specs.declared.file.Parts.{Parts}
use Rattle.sv_markup.specs.Files.{nothing}

-- the first of two scripts
abbrev pub first_script : Option (List Stmt) → Option (List Stmt) → Option (List Stmt)
first_script None after = after
first_script (Some stmts) after = Some stmts

-- both one behind the other
abbrev pub joined : Parts → Parts → Parts
joined found rest =
    record { nodes = found.nodes ++ rest.nodes; script = first_script found.script rest.script; has_style = found.has_style || rest.has_style }

-- together they have one script and one style at most
pub record IsApart (found rest : Parts) : Type 0 where
  pub script : (stmts : List Stmt) → found.script ≡ Some stmts → rest.script ≡ None
  pub style : found.has_style ≡ true → rest.has_style ≡ false

made : (nodes : List Markup) (script : Option (List Stmt)) (has_style : Bool) → Parts
made nodes script has_style = record { nodes = nodes; script = script; has_style = has_style }

pub same_parts : {a b : Parts} → a.nodes ≡ b.nodes → a.script ≡ b.script → a.has_style ≡ b.has_style → a ≡ b
unfolding made
same_parts {a = a} {b = b} n s h = ap (λ x. made x a.script a.has_style) n ∙ ap (λ x. made b.nodes x a.has_style) s ∙ ap (λ x. made b.nodes b.script x) h

no_script : (s : Option (List Stmt)) → s ≡ first_script s None
no_script None = refl
no_script (Some stmts) = refl

no_style : (b : Bool) → b ≡ (b || false)
no_style true = refl
no_style false = refl

pub joined_nothing : (found : Parts) → found ≡ joined found nothing
joined_nothing found = same_parts (append_none found.nodes) (no_script found.script) (no_style found.has_style)

pub apart_nothing : (found : Parts) → IsApart found nothing
apart_nothing found = record { script = λ stmts e. refl; style = λ e. refl }

pub nothing_apart : (rest : Parts) → IsApart nothing rest
nothing_apart rest = record { script = λ stmts e. absurd (cc); style = λ e. absurd (cc) }

-- ---- a part more

abbrev pub with_nodes : List Markup → Parts → Parts
with_nodes nodes found = record found { nodes = nodes }

abbrev pub with_stmts : List Stmt → Parts → Parts
with_stmts stmts found = record found { script = Some stmts }

abbrev pub with_mark : Parts → Parts
with_mark found = record found { has_style = true }

pub joined_node : (x : Markup) (found rest : Parts) → joined (with_nodes (found.nodes ++ x ∷ []) found) rest ≡ joined found (with_nodes (x ∷ rest.nodes) rest)
joined_node x found rest = same_parts (append_assoc found.nodes (x ∷ []) rest.nodes) refl refl

pub joined_script : (stmts : List Stmt) (found rest : Parts) → found.script ≡ None → joined (with_stmts stmts found) rest ≡ joined found (with_stmts stmts rest)
joined_script stmts found rest e = same_parts refl (ap (λ s. first_script s (Some stmts)) (sym e)) refl

pub joined_style : (found rest : Parts) → found.has_style ≡ false → joined (with_mark found) rest ≡ joined found (with_mark rest)
joined_style found rest e = same_parts refl refl (ap (λ b. b || true) (sym e))

pub apart_node : (x : Markup) (found rest : Parts) → IsApart (with_nodes (found.nodes ++ x ∷ []) found) rest → IsApart found (with_nodes (x ∷ rest.nodes) rest)
apart_node x found rest a = record { script = a.script; style = a.style }

pub apart_script : (stmts : List Stmt) (found rest : Parts) → found.script ≡ None → IsApart (with_stmts stmts found) rest → IsApart found (with_stmts stmts rest)
apart_script stmts found rest e a = record { script = λ other h. absurd (cc); style = a.style }

pub apart_style : (found rest : Parts) → found.has_style ≡ false → IsApart (with_mark found) rest → IsApart found (with_mark rest)
apart_style found rest e a = record { script = a.script; style = λ h. absurd (cc) }
