-- Steps over bytes go on in the file, and refusals there are placed.
use Rattle.std.proofs.Common.{◌≡◌, ◌≤◌, ◌<◌, ◌+◌, ℕ, suc, true, List, [], length, take, drop, ap, sym, ◌∙◌, arith}
use Rattle.std.proofs.lemmas.List.{append-nil}
use Rattle.std.specs.Prelude.{slice_index}
use Rattle.sv_ast.specs.declared.refusals.Kind.TheVariants.{Syntax, Unclosed, TooDeep, OutOfScope}
use Rattle.sv_ast.specs.declared.refusals.Refused.{Refused}
use Rattle.sv_lex.specs.Bytes.{stopped_at}
use Rattle.sv_lex.specs.Literals.{moved}
use Rattle.sv_lex.specs.Reader.{Input, Outcome, knowing}
use Rattle.sv_expr.specs.Limits.{real}
use Rattle.sv_tags.specs.declared.classes.Class.{Class}
use Rattle.sv_tags.specs.Classes.{first, is_in, front_len}
use Rattle.std.proofs.lemmas.List.Sums.{prefix_len-le-length}
use Rattle.sv_blame.specs.LeftOut.{BeginsLeftOut}
use Rattle.sv_blame.specs.Places.{Placed, begins_open}
use Rattle.sv_blame.specs.Signs.{signs}
use Rattle.sv_blame.specs.Signs as byte
use Rattle.sv_blame.specs.Stands.{Stands}
use Rattle.sv_blame.proofs.Frame.{Any, Tells, IsFrame}
use Rattle.sv_blame.proofs.Lengths.{some_byte}
use Rattle.sv_blame.proofs.Signs.{signs_up, signs_step}
use Rattle.sv_blame.proofs.Stands.{Room, Tight, Links, frame, stands_moved, byte_at}

pub front_within : (class : Class) (z : List ℕ) → front_len class z ≤ length z
unfolding front_len
front_within class z = prefix_len-le-length (is_in class) z

module _ (bytes : List ℕ) (number : ℕ) where
  abbrev pub At : Input → Type 0
  At = Stands bytes [] number

  abbrev pub Bad : Refused → Type 0
  Bad = Placed bytes number

  abbrev pub Fits : {A : Type 0} → Input → Outcome A → Type 0
  Fits = Tells At Bad Any

  abbrev pub tokens : IsFrame At Bad (Room bytes) (Tight bytes) (Links bytes) real.links real.number
  tokens = frame bytes [] number

  pub knows : (text : List ℕ) (i : Input) → At i → At (knowing text i)
  knows text i at = tokens.knows text i at

  pub on : (n : ℕ) (i : Input) → At i → n ≤ length i.text → At (moved n i)
  on n i at le = stands_moved bytes [] number n i at le

  pub here : (i : Input) → At i → drop i.at bytes ≡ i.text
  here i at = sym at.text ∙ append-nil i.text

  pub syntax : (from : ℕ) (i : Input) → At i → from ≤ i.at → Bad (stopped_at Syntax from i)
  syntax from i at le = let size = at.size in record { file = at.file; order = omega arith; within = omega arith; written = tt }

  pub unclosed : (from : ℕ) (i : Input) → At i → from ≤ i.at → begins_open (drop from bytes) ≡ true → Bad (stopped_at Unclosed from i)
  unclosed from i at le shown_open = let size = at.size in record { file = at.file; order = omega arith; within = omega arith; written = shown_open }

  pub left_out : (from : ℕ) (i : Input) → At i → from ≤ i.at → BeginsLeftOut (drop from bytes) → Bad (stopped_at OutOfScope from i)
  left_out from i at le out = let size = at.size in record { file = at.file; order = omega arith; within = omega arith; written = out }

  pub deep : (i : Input) → At i → 16 ≤ signs (take i.at bytes) → Bad (stopped_at TooDeep i.at i)
  deep i at many = let size = at.size in record { file = at.file; order = omega arith; within = omega arith; written = many }

  -- a sign at the front is one more, behind some bytes
  pub counted : (n : ℕ) (i : Input) → At i → byte.is_sign (first i.text) ≡ true → 1 ≤ n → signs (take i.at bytes) + 1 ≤ signs (take (i.at + n) bytes)
  counted n i at h le =
      let some : 0 < length i.text = some_byte i.text 0 (λ none. (let no : byte.is_sign 0 ≡ true = ap byte.is_sign (sym none) ∙ h in absurd (cc))) in
      let still : i.at + 0 ≡ i.at = omega arith in
      let same : slice_index bytes i.at ≡ first i.text = ap (slice_index bytes) (sym still) ∙ byte_at bytes [] number 0 i at some in
      let step = signs_step i.at bytes (ap byte.is_sign same ∙ h) in
      let up = signs_up (suc i.at) (i.at + n) bytes (omega arith) in
      omega arith

  pub counted_by : (b n : ℕ) (i : Input) → At i → first i.text ≡ b → byte.is_sign b ≡ true → 1 ≤ n → signs (take i.at bytes) + 1 ≤ signs (take (i.at + n) bytes)
  counted_by b n i at e h le = counted n i at (ap byte.is_sign e ∙ h) le

  pub some_first : (b : ℕ) (i : Input) → first i.text ≡ b → 1 ≤ b → 1 ≤ length i.text
  some_first b i e le = some_byte i.text 0 (λ none. absurd (let no : 0 ≡ b = sym none ∙ e in omega arith))
