-- Groups of points. No point is linked to one of a greater group.
use Rattle.std.specs.Prelude.{◌≡◌, ℕ, ◌≤◌, ◌<◌, ◌==◌, ◌⊎◌, Bool, true, false, List, [], ◌∷◌, ◌++◌, length, slice_index_or, slice_set}
use Rattle.sv_graph.specs.Links.{is_in, IsLink}
use Rattle.sv_graph.specs.declared.groups.TheConstants.{NO_GROUP}

-- the group of a point
abbrev pub group_at : List ℕ → ℕ → ℕ
group_at groups p = slice_index_or groups p NO_GROUP

-- whether that is no group
abbrev pub is_free : ℕ → Bool
is_free group = group == NO_GROUP

pub record NoneRises (links : List (List ℕ)) (groups : List ℕ) : Type 0 where
  pub falls : (p q : ℕ) → IsLink links p q → group_at groups q ≤ group_at groups p

-- the groups below a number are complete
pub record IsFlooded (links : List (List ℕ)) (groups : List ℕ) (group : ℕ) : Type 0 where
  pub size : length groups ≡ length links
  pub falls : NoneRises links groups
  pub known : (p : ℕ) → (group_at groups p < group) ⊎ (group_at groups p ≡ NO_GROUP)

-- a group is being made: the links of the points of the stack, and some of those of one point, are still to be followed
pub record IsFlooding (links : List (List ℕ)) (groups stack : List ℕ) (group point : ℕ) (rest : List ℕ) : Type 0 where
  pub size : length groups ≡ length links
  pub known : (p : ℕ) → (group_at groups p ≤ group) ⊎ (group_at groups p ≡ NO_GROUP)
  pub own : (p : ℕ) → is_in p stack ≡ true → (group_at groups p ≡ group) × (p < length links)
  pub falls : (p q : ℕ) → IsLink links p q → (group_at groups q ≤ group_at groups p) ⊎ ((is_in p stack ≡ true) ⊎ ((p ≡ point) × (is_in q rest ≡ true)))

-- a point is taken into a group if it has none
abbrev pub Takes : Bool → ℕ → ℕ → List ℕ → List ℕ → List ℕ → List ℕ → Type 0
Takes true p group groups stack groups' stack' = (groups' ≡ slice_set groups p group) × (stack' ≡ stack ++ p ∷ [])
Takes false p group groups stack groups' stack' = (groups' ≡ groups) × (stack' ≡ stack)
