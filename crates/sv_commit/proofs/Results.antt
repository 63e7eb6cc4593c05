-- What holds of a result.
use Rattle.std.proofs.Common.{Result, Ok, Err, OnOk, IfOk}

pub on_ok : {T E P Q : Type 0} (r : Result T E) → OnOk r P → (P → Q) → OnOk r Q
on_ok (Ok x) p f = f p
on_ok (Err e) p f = tt

pub on_both : {T E P Q R : Type 0} (r : Result T E) → OnOk r P → OnOk r Q → (P → Q → R) → OnOk r R
on_both (Ok x) p q f = f p q
on_both (Err e) p q f = tt

pub on_three : {T E P Q R S : Type 0} (r : Result T E) → OnOk r P → OnOk r Q → OnOk r R → (P → Q → R → S) → OnOk r S
on_three (Ok x) p q s f = f p q s
on_three (Err e) p q s f = tt

pub ok-map : {T E : Type 0} {P Q : T → Type 0} (r : Result T E) → IfOk r P → ((x : T) → P x → Q x) → IfOk r Q
ok-map (Ok x) p f = f x p
ok-map (Err e) p f = tt

pub ok-four : {T E R S : Type 0} {P U W : T → Type 0} (r : Result T E) → IfOk r P → IfOk r U → OnOk r R → OnOk r S → ((x : T) → P x → U x → R → S → W x) → IfOk r W
ok-four (Ok x) p u q s f = f x p u q s
ok-four (Err e) p u q s f = tt
