-- What derived stores come to leaves the states as they are, and is told by stores that were made.
use Rattle.std.proofs.Common.{◌≡◌, ◌<◌, ℕ, true, false, List, [], ◌∷◌, length, Option, Some, None, option_map, refl, ap, subst}
use Rattle.std.specs.Prelude.{option_and_then}
use Rattle.std.proofs.lemmas.List.Elements.{All-nil}
use Rattle.std.proofs.lemmas.Option.{none-some, same_Some}
use Rattle.sv_base.specs.declared.span.Span.{Span}
use Rattle.sv_code.specs.declared.program.Program.{Program}
use Rattle.sv_derived.specs.Derived.{Recipe}
use Rattle.sv_derived.specs.Order.{AreBelow}
use Rattle.sv_frame.proofs.Outcomes.{Fact, always, Left, then_left, answered_leaves}
use Rattle.sv_frame.specs.Snapshots.{world_of}
use Rattle.sv_meaning.proofs.Inputs.{inputs_below}
use Rattle.sv_meaning.specs.Calls.{first, second, recipe_in}
use Rattle.sv_meaning.specs.Derived.{input_values, handed, rejoined, called_apart, derive}
use Rattle.sv_meaning.specs.Outcome.{Ending, Ends, Fails, answered}
use Rattle.sv_meaning.specs.Settling.{Inputs, input_in, inputs_after, inputs_in, recipe}
use Rattle.sv_meaning.specs.Sources.{source_of}
use Rattle.sv_states.specs.States.{States}
use Rattle.sv_store.specs.Stores.{Store}
use Rattle.sv_value.specs.Value.{Val, undefined, null, boolean, number, text, list, object, function, store, items}
use Rattle.sv_world.specs.declared.world.World.{World}

-- ---- the states stay, and the constants of module files

module _ (P : Fact) where
  rejoined_left : (w : World) (e : Ending Val) → P.ends w.modules w.states → Left P (rejoined w e)
  rejoined_left w (Ends v w') h = h
  rejoined_left w (Fails k s w') h = P.weaker w.modules w.states h

  pub derive_left : (p : Program) (room owner : ℕ) (r : Recipe) (w : World) → P.ends w.modules w.states → Left P (derive p room owner r w)
  derive_left p room owner r w h =
      then_left P (answered r.span (handed r.takes_list (input_values w.states.stores r.inputs)) w) (called_apart p room owner r)
      ((answered_leaves {P = P} r.span (handed r.takes_list (input_values w.states.stores r.inputs))).held w h)
      (λ v w' k. rejoined_left w' _ k)

abbrev Same : States → States → Type 0
Same old s = s ≡ old

of_left : {A : Type 0} (old : States) (e : Ending A) → Left (always (Same old)) e → (world_of e).states ≡ old
of_left old (Ends a w) h = h
of_left old (Fails k s w) h = h

pub derive-same : (p : Program) (room owner : ℕ) (r : Recipe) (w : World) → (world_of (derive p room owner r w)).states ≡ w.states
derive-same p room owner r w = of_left w.states (derive p room owner r w) (derive_left (always (Same w.states)) p room owner r w refl)

-- ---- recipes name stores that were made

module _ (stores : List Store) where
  list_below : (vs : List Val) (i : Inputs) (o : Option (List ℕ)) → inputs_after [] stores vs ≡ o → option_map (λ ids. record { stores = ids; is_list = true }) o ≡ Some i → AreBelow i.stores (length stores)
  list_below vs i None e h = absurd (none-some i h)
  list_below vs i (Some ids) e h = subst (λ ns. AreBelow ns (length stores)) (ap (λ j. j.stores) (same_Some (record { stores = ids; is_list = true }) i h)) (inputs_below stores [] vs ids (All-nil (λ m. m < length stores)) e)

  one_below : (v : Val) (i : Inputs) (o : Option ℕ) → input_in stores v ≡ o → option_map (λ id. record { stores = id ∷ []; is_list = false }) o ≡ Some i → AreBelow i.stores (length stores)
  one_below v i None e h = absurd (none-some i h)
  one_below v i (Some id) e h =
      subst (λ ns. AreBelow ns (length stores)) (ap (λ j. j.stores) (same_Some (record { stores = id ∷ []; is_list = false }) i h))
      (inputs_below stores [] (v ∷ []) (id ∷ []) (All-nil (λ m. m < length stores)) (ap (option_and_then (λ n. inputs_after (n ∷ []) stores [])) e))

  in_below : (v : Val) (i : Inputs) → inputs_in stores v ≡ Some i → AreBelow i.stores (length stores)
  in_below (list vs) i h = list_below (items vs) i (inputs_after [] stores (items vs)) refl h
  in_below undefined i h = one_below undefined i (input_in stores undefined) refl h
  in_below null i h = one_below null i (input_in stores null) refl h
  in_below (boolean b) i h = one_below (boolean b) i (input_in stores (boolean b)) refl h
  in_below (number n) i h = one_below (number n) i (input_in stores (number n)) refl h
  in_below (text t) i h = one_below (text t) i (input_in stores (text t)) refl h
  in_below (object fs) i h = one_below (object fs) i (input_in stores (object fs)) refl h
  in_below (function c o held) i h = one_below (function c o held) i (input_in stores (function c o held)) refl h
  in_below (store id) i h = one_below (store id) i (input_in stores (store id)) refl h

  pub recipe-below : (p : Program) (s : Span) (args : List Val) (r : Recipe) → recipe_in p s args stores ≡ Some r → AreBelow r.inputs (length stores)
  recipe-below p s args r h = by (inputs_in stores (first args)) refl h where
    by : (o : Option Inputs) → inputs_in stores (first args) ≡ o → option_map (λ i. recipe i (second args) (source_of p (second args) s)) o ≡ Some r → AreBelow r.inputs (length stores)
    by None e k = absurd (none-some r k)
    by (Some i) e k = subst (λ ns. AreBelow ns (length stores)) (ap (λ q. q.inputs) (same_Some (recipe i (second args) (source_of p (second args) s)) r k)) (in_below (first args) i e)
