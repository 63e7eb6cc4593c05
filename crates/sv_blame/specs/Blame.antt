-- What the refusals of the parsers say: where they stand, what is written there, and that the grammar gives no tree.
use Rattle.std.specs.Prelude.{◌≡◌, ◌≤◌, ◌*◌, ◌-◌, ℕ, true, false, List, length, take, drop, Err}
use Rattle.std.specs.Str.{IsUtf8}
use Rattle.sv_base.specs.declared.limits.TheConstants.{NEST_LIMIT}
use Rattle.sv_ast.specs.declared.refusals.Kind.TheVariants.{NotUtf8, TooDeep, NumberTooWide}
use Rattle.sv_ast.specs.declared.refusals.Refused.{Refused}
use Rattle.sv_lex.specs.Reader.{Input}
use Rattle.sv_expr.specs.Limits.{Limits, real}
use Rattle.sv_script.specs.Calls.{HasTree, input_of}
use Rattle.sv_script.specs.Closed.{ScriptAt, ModuleAt}
use Rattle.sv_script.specs.Laws.{IsExpression}
use Rattle.sv_script.specs.Script.{component, file_module, expression}
use Rattle.sv_markup.specs.Calls.{ComponentAt, ModuleFileAt, is_limit, of_text}
use Rattle.sv_markup.specs.Files.{top}
use Rattle.sv_load.specs.Trees.{HasNoTree}
use Rattle.sv_blame.specs.Places.{Placed}
use Rattle.sv_blame.specs.Signs.{signs}

-- a refusal of a text in the bytes of a file, with limits that are told in their own way. Its place lies in the bytes, behind the beginning of the text, and what its kind says is written there. There is no tree within the limits
pub record Blame {L A : Type 0} (told : L → Limits) (Is : L → Input → A → Input → Type 0) (limits : L) (bytes : List ℕ) (i : Input) (cause : Refused) : Type 0 where
  pub placed : Placed bytes i.file cause
  pub behind : i.at ≤ cause.at.from
  pub none : HasTree (Is limits) i → ⊥
  -- `NotUtf8`, `Syntax`, `Unclosed` and `OutOfScope` come only where there is none within any limits
  pub at_all : is_limit cause.kind ≡ false → (wide : L) → HasTree (Is wide) i → ⊥
  -- `TooDeep` only where each tree, also one with wider numbers, has more constructs one inside another or longer chains
  pub deep : cause.kind ≡ TooDeep → (wide : L) → (told wide).nest ≤ (told limits).nest → (told wide).links ≤ (told limits).links → HasTree (Is wide) i → ⊥
  -- and `NumberTooWide` only where each tree, also one with more constructs and longer chains, has a wider number
  pub wide : cause.kind ≡ NumberTooWide → (wide : L) → (told wide).number ≤ (told limits).number → HasTree (Is wide) i → ⊥

-- the limits of files, and those of expressions in so many open constructs
abbrev pub plainly : Limits → Limits
plainly limits = limits

abbrev pub with_room : Limits × ℕ → Limits
with_room within = record { nest = within.1; links = within.0.links; number = within.0.number }

-- the same of a whole file, which is refused as no text where it is none
pub record BlameFile {A : Type 0} (Is : Limits → Input → A → Input → Type 0) (i : Input) (cause : Refused) : Type 0 where
  pub blame : Blame plainly Is real i.text i cause
  pub text : (IsUtf8 i.text → ⊥) → cause.kind ≡ NotUtf8

-- ---- the parsers

-- expressions, where at most so many constructs are open as twice the signs before them
abbrev pub ExpressionRefusals : Type 0
ExpressionRefusals = (file : ℕ) (bytes : List ℕ) (from opened : ℕ) (names : List (List ℕ)) (cause : Refused) → from ≤ length bytes → opened ≤ NEST_LIMIT
    → opened ≤ 2 * signs (take from bytes) → expression real (NEST_LIMIT - opened) (input_of file (drop from bytes) from names) ≡ Err cause
    → Blame with_room IsExpression (real, NEST_LIMIT - opened) bytes (input_of file (drop from bytes) from names) cause

-- scripts of components, from one place to another
abbrev pub ScriptRefusals : Type 0
ScriptRefusals = (file : ℕ) (bytes : List ℕ) (from to : ℕ) (names : List (List ℕ)) (cause : Refused) → from ≤ to → to ≤ length bytes
    → component real (input_of file (drop from (take to bytes)) from names) ≡ Err cause → Blame plainly ScriptAt real (take to bytes) (input_of file (drop from (take to bytes)) from names) cause

-- scripts of modules
abbrev pub ModuleScriptRefusals : Type 0
ModuleScriptRefusals = (file : ℕ) (bytes : List ℕ) (names : List (List ℕ)) (cause : Refused) → file_module real (input_of file bytes 0 names) ≡ Err cause
    → Blame plainly ModuleAt real bytes (input_of file bytes 0 names) cause

-- components
abbrev pub ComponentRefusals : Type 0
ComponentRefusals = (file : ℕ) (bytes : List ℕ) (names : List (List ℕ)) (cause : Refused) → of_text (top real) (input_of file bytes 0 names) ≡ Err cause
    → BlameFile ComponentAt (input_of file bytes 0 names) cause

-- modules
abbrev pub ModuleRefusals : Type 0
ModuleRefusals = (file : ℕ) (bytes : List ℕ) (names : List (List ℕ)) (cause : Refused) → of_text (file_module real) (input_of file bytes 0 names) ≡ Err cause
    → BlameFile ModuleFileAt (input_of file bytes 0 names) cause

-- files that a program is loaded from, whose causes the loader tells
abbrev pub SourceRefusals : Type 0
SourceRefusals = (file : ℕ) (bytes : List ℕ) (names : List (List ℕ)) (cause : Refused)
    → (HasNoTree false (input_of file bytes 0 names) cause → BlameFile ComponentAt (input_of file bytes 0 names) cause)
    × (HasNoTree true (input_of file bytes 0 names) cause → BlameFile ModuleFileAt (input_of file bytes 0 names) cause)
