-- What is put in for each of a list, in turn.
use Rattle.std.proofs.Common.{◌≡◌, ℕ, ◌+◌, ◌<◌, List, [], ◌∷◌, ◌++◌, length, drop, get_or, refl, sym, ap, ◌∙◌}
use Rattle.std.specs.List.{flat_map}
use Rattle.std.proofs.lemmas.List.{drop_more}
use Rattle.sv_ast.specs.declared.names.Ref.{Ref}
use Rattle.sv_names.specs.Distinct.{with_names}
use Rattle.sv_names.proofs.Names.{with_names_append}
use Rattle.sv_check.specs.Called.{with_place, with_places}

with_places_append : (places first second : List ℕ) → with_places places (first ++ second) ≡ with_places (with_places places first) second
with_places_append places [] second = refl
with_places_append places (p ∷ first) second = with_places_append (with_place places p) first second

module _ {X : Type 0} (xs : List X) (i : ℕ) (x : X) (within : i < length xs) (is : x ≡ get_or xs i x) where
  from_here : drop i xs ≡ x ∷ drop (i + 1) xs
  from_here = drop_more xs i x within ∙ ap (λ y. y ∷ drop (i + 1) xs) (sym is)

  -- the names of one more
  pub names_more : (f : X → List Ref) (names more : List Ref) → more ≡ with_names names (f x) → with_names names (flat_map f (drop i xs)) ≡ with_names more (flat_map f (drop (i + 1) xs))
  names_more f names more e =
      let rest = flat_map f (drop (i + 1) xs) in
      ap (λ l. with_names names (flat_map f l)) from_here ∙ with_names_append names (f x) rest ∙ ap (λ n. with_names n rest) (sym e)

  -- the places of one more
  pub places_more : (f : X → List ℕ) (places more : List ℕ) → more ≡ with_places places (f x) → with_places places (flat_map f (drop i xs)) ≡ with_places more (flat_map f (drop (i + 1) xs))
  places_more f places more e =
      let rest = flat_map f (drop (i + 1) xs) in
      ap (λ l. with_places places (flat_map f l)) from_here ∙ with_places_append places (f x) rest ∙ ap (λ n. with_places n rest) (sym e)
