-- What a recipe names was made.
use Rattle.std.proofs.Common.{◌≡◌, ℕ, ◌<◌, refl, sym, ap, ◌∙◌, subst, Bool, true, false, List, [], ◌∷◌, ◌++◌, length, Option, Some, None, is_some, option_map, slice_get, if◌then◌else◌}
use Rattle.std.specs.Option.{option_and_then}
use Rattle.std.proofs.lemmas.Bool.{true≢false}
use Rattle.std.proofs.lemmas.List.Elements.{All-nil, All-cons, All-append}
use Rattle.std.proofs.lemmas.Option.{slice_get_within}
use Rattle.sv_derived.specs.Order.{AreBelow}
use Rattle.sv_store.specs.Stores.{Store, value_at}
use Rattle.sv_value.specs.Value.{Val, undefined, null, boolean, number, text, list, object, function, store}
use Rattle.sv_meaning.specs.Settling.{input_in, inputs_after}

abbrev unwrapped : {A : Type 0} → A → Option A → A
unwrapped y None = y
unwrapped y (Some x) = x

none_is_some : {A G : Type 0} (x : A) → None ≡ Some x → G
none_is_some x e = absurd (true≢false (sym (ap is_some e)))

value_within : (stores : List Store) (id : ℕ) → is_some (value_at stores id) ≡ true → id < length stores
value_within stores id h = go (slice_get stores id) refl h where
  go : (o : Option Store) → slice_get stores id ≡ o → is_some (option_map (λ s. s.value) (slice_get stores id)) ≡ true → id < length stores
  go None e h = absurd (true≢false (sym h ∙ ap (λ o. is_some (option_map (λ s. s.value) o)) e))
  go (Some s) e h = slice_get_within stores id s e

input_below : (stores : List Store) (v : Val) (id : ℕ) → input_in stores v ≡ Some id → id < length stores
input_below stores (store n) id h = go (is_some (value_at stores n)) refl h where
  go : (b : Bool) → is_some (value_at stores n) ≡ b → (if b then Some n else None) ≡ Some id → id < length stores
  go true e h = subst (λ m. m < length stores) (ap (unwrapped n) h) (value_within stores n e)
  go false e h = none_is_some id h
input_below stores undefined id h = none_is_some id h
input_below stores null id h = none_is_some id h
input_below stores (boolean b) id h = none_is_some id h
input_below stores (number n) id h = none_is_some id h
input_below stores (text t) id h = none_is_some id h
input_below stores (list vs) id h = none_is_some id h
input_below stores (object fs) id h = none_is_some id h
input_below stores (function c o held) id h = none_is_some id h

below_by : (stores : List Store) (v : Val) (ids : List ℕ) (vs : List Val) (all : List ℕ) → AreBelow ids (length stores)
    → ((id : ℕ) → AreBelow (ids ++ id ∷ []) (length stores) → inputs_after (ids ++ id ∷ []) stores vs ≡ Some all → AreBelow all (length stores))
    → (o : Option ℕ) → input_in stores v ≡ o → option_and_then (λ id. inputs_after (ids ++ id ∷ []) stores vs) o ≡ Some all → AreBelow all (length stores)
below_by stores v ids vs all h next None i e = none_is_some all e
below_by stores v ids vs all h next (Some id) i e =
    next id (All-append (λ m. m < length stores) ids (id ∷ []) h (All-cons (λ m. m < length stores) id [] (input_below stores v id i) (All-nil (λ m. m < length stores)))) e

pub inputs_below : (stores : List Store) (ids : List ℕ) (vs : List Val) (all : List ℕ) → AreBelow ids (length stores) → inputs_after ids stores vs ≡ Some all → AreBelow all (length stores)
inputs_below stores ids [] all h e = subst (λ ns. AreBelow ns (length stores)) (ap (unwrapped ids) e) h
inputs_below stores ids (v ∷ vs) all h e = below_by stores v ids vs all h (λ id h' e'. inputs_below stores (ids ++ id ∷ []) vs all h' e') (input_in stores v) refl e
