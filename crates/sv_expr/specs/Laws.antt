-- The reader and the grammar agree.
use Rattle.std.specs.Prelude.{◌≡◌, ◌⊎◌, ◌≤◌, ◌<◌, ℕ, zero, suc, Ok, Err, List}
use Rattle.sv_ast.specs.declared.refusals.Kind.TheVariants.{TooDeep, NumberTooWide}
use Rattle.sv_ast.specs.declared.refusals.Refused.{Refused}
use Rattle.sv_ast.specs.declared.script_tree.Expr.{Expr}
use Rattle.sv_ast.specs.declared.script_tree.Stmt.{Stmt}
use Rattle.sv_lex.specs.Reader.{Input, Outcome, Parser, refusal, left}
use Rattle.sv_expr.specs.declared.form.Form.{Form}
use Rattle.sv_expr.specs.Limits.{Limits}
use Rattle.sv_expr.specs.Rules.{Readers, level}
use Rattle.sv_expr.specs.Grammar.{Inside}

-- readers of what stands in constructs, by how many may still enclose one another: none is read at 0, and else the rules read it, with one less left
pub record IsNested (limits : Limits) (readers : ℕ → Readers) : Type 0 where
  pub none : (form : Form) (i : Input) → (readers zero).inside form i ≡ Err (refusal TooDeep i)
  pub some : (d : ℕ) (form : Form) (i : Input) → (readers (suc d)).inside form i ≡ level limits d (readers d) form i

-- what is read is in the grammar
abbrev pub Sound : Type 0
Sound = (limits : Limits) (readers : ℕ → Readers) → IsNested limits readers
    → (d : ℕ) (form : Form) (i o : Input) (t : Expr) → (readers d).inside form i ≡ Ok (t, o) → Inside limits (λ n. (readers n).block) d form i t o

-- what a parser leaves is no longer than what it was given
abbrev pub Shrinks : {A : Type 0} → Parser A → Type 0
Shrinks {A = A} p = (i o : Input) (a : A) → p i ≡ Ok (a, o) → left o ≤ left i

-- what is in the grammar is read, where the blocks in it take what they read
abbrev pub Complete : Type 0
Complete = (limits : Limits) (readers : ℕ → Readers) → IsNested limits readers
    → (d : ℕ) → ((n : ℕ) → n < d → Shrinks (readers n).block)
    → (form : Form) (i o : Input) (t : Expr) → Inside limits (λ n. (readers n).block) d form i t o → (readers d).inside form i ≡ Ok (t, o)

-- refused for a limit
abbrev pub IsLimited : {A : Type 0} → Outcome A → Type 0
IsLimited r = (e : Refused) × (r ≡ Err e) × ((e.kind ≡ TooDeep) ⊎ (e.kind ≡ NumberTooWide))

-- what is in the grammar within wider limits is read or refused for a limit, where that is so of the blocks of statements in it
abbrev pub Blamed : Type 0
Blamed = (limits wide : Limits) (readers : ℕ → Readers) (block : ℕ → Parser (List Stmt)) → IsNested limits readers
    → (d m : ℕ) → ((n : ℕ) → n < m → Shrinks (block n))
    → ((a b : ℕ) → a < d → b < m → (i o : Input) (found : List Stmt) → block b i ≡ Ok (found, o) → ((readers a).block i ≡ Ok (found, o)) ⊎ IsLimited ((readers a).block i))
    → (form : Form) (i o : Input) (t : Expr) → Inside wide block m form i t o
    → ((readers d).inside form i ≡ Ok (t, o)) ⊎ IsLimited ((readers d).inside form i)
