-- Contexts: values that an instance gives to those below it.
use Rattle.std.specs.Prelude.{Bool, false, if◌then◌else◌, List, [], ◌∷◌, Option, Some, None}
use Rattle.std.specs.Ordering.{int_eq}
use Rattle.std.specs.Str.{bytes_eq}
use Rattle.std.proofs.Math.Bool.{beq}
use Rattle.sv_value.specs.Value.{Val}
use Rattle.sv_value.specs.declared.key.Key.{Key}
use Rattle.sv_value.specs.declared.key.Key.TheVariants as key

pub record Context : Type 0 where
  pub key : Key
  pub value : Val

-- whether two keys are one; the number 1 and the text `1` differ
abbrev pub same_key : Key → Key → Bool
same_key (key.Num a) (key.Num b) = int_eq a b
same_key (key.Text a) (key.Text b) = bytes_eq a b
same_key (key.Bool a) (key.Bool b) = beq a b
same_key _ _ = false

-- what was last given under a key, which stands first
abbrev pub context_at : List Context → Key → Option Val
context_at [] k = None
context_at (c ∷ contexts) k = if same_key c.key k then Some c.value else context_at contexts k
