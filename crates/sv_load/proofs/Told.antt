-- Answers about files that may be told.
use Rattle.std.proofs.Common.{◌≡◌, ◌≤◌, ℕ, Option, sym, arith, subst, IsErr, IsErrAnd}
use Rattle.std.specs.Prelude.{Some, None, Result, Ok, Err, IfSome}
use Rattle.sv_io.specs.Faults.{Rose}
use Rattle.sv_load.specs.Loads.{Tells}
use Rattle.sv_load.specs.declared.refusals.LoadError.{LoadError}
use Rattle.sv_load.specs.declared.refusals.LoadError.TheVariants.{Missing, TooLong, TooMany, Refused, Failed, NoMemory}

pub IfSome-always : {T : Type 0} {P : T → Type 0} (told : Option T) → ((x : T) → P x) → IfSome told P
IfSome-always None holds = tt
IfSome-always (Some x) holds = holds x

pub IfSome-both : {T : Type 0} {P Q R : T → Type 0} (told : Option T) → IfSome told P → IfSome told Q → ((x : T) → P x → Q x → R x) → IfSome told R
IfSome-both None p q holds = tt
IfSome-both (Some x) p q holds = holds x p q

-- what is said of each answer is said of this one
pub Tells-weaker : {A : Type 0} (P Q : Result A LoadError → Type 0) (r : Result A LoadError) → ((r : Result A LoadError) → P r → Q r) → Tells P r → Tells Q r
Tells-weaker P Q (Ok x) weaker p = weaker _ p
Tells-weaker P Q (Err (Missing name)) weaker p = weaker _ p
Tells-weaker P Q (Err (TooLong name)) weaker p = weaker _ p
Tells-weaker P Q (Err (TooMany name)) weaker p = weaker _ p
Tells-weaker P Q (Err (Refused file kind line column)) weaker p = weaker _ p
Tells-weaker P Q (Err Failed) weaker p = tt
Tells-weaker P Q (Err NoMemory) weaker p = tt

-- a refusal of one step is one of the whole
pub Tells-err : {A B : Type 0} (P : Result A LoadError → Type 0) (Q : Result B LoadError → Type 0) (e : LoadError) → ((e : LoadError) → P (Err e) → Q (Err e))
    → Tells P (Err e) → Tells Q (Err e)
Tells-err P Q (Missing name) handed p = handed _ p
Tells-err P Q (TooLong name) handed p = handed _ p
Tells-err P Q (TooMany name) handed p = handed _ p
Tells-err P Q (Refused file kind line column) handed p = handed _ p
Tells-err P Q Failed handed p = tt
Tells-err P Q NoMemory handed p = tt

pub Rose-later : (a b c : ℕ) → Rose a b → b ≤ c → Rose a c
Rose-later a b c rose later = omega arith

pub Rose-before : (a b c : ℕ) → a ≤ b → Rose b c → Rose a c
Rose-before a b c later rose = omega arith

-- an error that is handed on
pub handed_on : {B : Type 0} (Answer : Result B LoadError → Type 0) (result : Result B LoadError) (e : LoadError) → IsErr result → IsErrAnd result (λ x. x ≡ e)
    → Answer (Err e) → Answer result
handed_on Answer (Ok b) e h g a = absurd (cc)
handed_on Answer (Err x) e h g a = subst (λ (y : LoadError). Answer (Err y)) (sym g) a
