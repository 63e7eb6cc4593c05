-- What an operation gives.
use Rattle.std.specs.Prelude.{ℕ, ◌+◌, nat_lt, Bool, true, false, List, length, Option, None, Some}
use Rattle.sv_base.specs.declared.limits.TheConstants.{VALUE_DEPTH_LIMIT, VALUE_SIZE_LIMIT}
use Rattle.sv_value.specs.Value.{Val, text, list, object, function, vals, bare, depth, size}
use Rattle.sv_value.specs.Object.{written}
use Rattle.sv_value.specs.Words.{text_of}
use Rattle.sv_ops.specs.declared.faults.FaultKind.{FaultKind}
use Rattle.sv_ops.specs.declared.faults.FaultKind.TheVariants.{NotText, Deep, Large}

-- a value and the steps that it costs beside those of its node, or a fault at the place of the operation
pub data Answer : Type 0 where
  Gives : (cost : ℕ) → Val → Answer
  Refuses : FaultKind → Answer

-- a value that costs nothing more
abbrev pub gives : Val → Answer
gives v = Gives 0 v

abbrev pub within : Bool → Bool → ℕ → Val → Answer
within true large cost v = Refuses Deep
within false true cost v = Refuses Large
within false false cost v = Gives cost v

-- a value that is made, within its limits
abbrev pub made : ℕ → Val → Answer
made cost v = within (nat_lt VALUE_DEPTH_LIMIT (depth v)) (nat_lt VALUE_SIZE_LIMIT (size v)) cost v

-- a text that is made costs its bytes, and what was walked for it
abbrev pub spelled : ℕ → List ℕ → Answer
spelled walked t = made (walked + length t) (text t)

-- a text that is there already
abbrev pub text_made : List ℕ → Answer
text_made t = made 0 (text t)

-- a list, an object and a function that are made, whose parts were counted as they were put in
abbrev pub list_made : List Val → Answer
list_made vs = made 0 (list (vals vs))

abbrev pub object_made : List (List ℕ × Val) → Answer
object_made es = made 0 (object (written bare es))

abbrev pub function_made : (code owner : ℕ) → List Val → Answer
function_made code owner held = made 0 (function code owner (vals held))

-- what is made of the text of a value, where it has one
abbrev pub with_text : Option (List ℕ) → (List ℕ → Answer) → Answer
with_text None go = Refuses NotText
with_text (Some t) go = go t

abbrev pub texted : Val → (List ℕ → Answer) → Answer
texted v go = with_text (text_of v) go
