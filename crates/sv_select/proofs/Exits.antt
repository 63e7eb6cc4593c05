-- What a call answers that stops at the refusal of another.
use Rattle.std.proofs.Common.{◌≡◌, List, Option, refl, option_map}
use Rattle.std.specs.Prelude.{None, Some, Result, Ok, Err}
use Rattle.std.specs.Result.{IsErrAnd}
use Rattle.sv_select.specs.Reads.{Fails, Reads, Adds}
use Rattle.sv_select.specs.declared.refusal.SelectError.{SelectError}
use Rattle.sv_select.specs.declared.refusal.SelectError.TheVariants.{BadSelector, NoMemory}

fails : {A B : Type 0} (e f : SelectError) (part : Option A) (all : Option B) → f ≡ e → (part ≡ None → all ≡ None) → Fails e part → Fails f all
fails BadSelector BadSelector part all is none refused = none refused
fails BadSelector NoMemory part all is none refused = tt
fails NoMemory BadSelector part all is none refused = cc
fails NoMemory NoMemory part all is none refused = tt

pub reads_exit : {A B : Type 0} (result : Result B SelectError) (e : SelectError) (part : Option A) (all : Option B) → IsErrAnd result (λ f. f ≡ e) → (part ≡ None → all ≡ None)
    → Fails e part → Reads result all
reads_exit (Ok x) e part all is none refused = absurd is
reads_exit (Err f) e part all is none refused = fails e f part all is none refused

pub adds_exit : {A B U : Type 0} (result : Result U SelectError) (e : SelectError) (old new : List B) (part : Option A) (all : Option (List B)) → IsErrAnd result (λ f. f ≡ e)
    → (part ≡ None → all ≡ None) → Fails e part → Adds result old new all
adds_exit (Ok x) e old new part all is none refused = absurd is
adds_exit (Err f) e old new part all is none refused = fails e f part all is none refused

-- nothing is made of nothing alone
pub nothing_mapped : {A B : Type 0} (f : A → B) (found : Option A) → option_map f found ≡ None → found ≡ None
nothing_mapped f None is = refl
nothing_mapped f (Some x) is = cc
