-- Statements and names as points: a statement is linked to the names that it needs, and a name to the statements that assign
-- it. So as many links serve as names are written, where many statements share a name.
use Rattle.std.specs.Prelude.{◌≡◌, ℕ, ◌+◌, ◌<◌, ◌≤◌, Bool, true, false, List, [], ◌∷◌, ◌++◌, length, Some, position, ◌==◌, if◌then◌else◌}
use Rattle.std.specs.List.{flat_map, filter_map}
use Rattle.std.specs.Option.{option_map}
use Rattle.sv_ast.specs.declared.names.Ref.{Ref}
use Rattle.sv_graph.specs.Links.{is_in, links_of, IsLink}
use Rattle.sv_graph.specs.Visited.{IsVisited}
use Rattle.sv_graph.specs.declared.outcome.Visited.{Visited}
use Rattle.sv_order.specs.declared.reads.Reads.{Reads}
use Rattle.sv_names.specs.Distinct.{same_ref, has}
use Rattle.sv_order.specs.ReactiveOrder.{sets_of, before_of}

-- names that were added to others
pub record Keeps (old more new : List Ref) : Type 0 where
  pub keeps : (name : Ref) → has name old ≡ true → has name new ≡ true
  pub adds : (name : Ref) → has name more ≡ true → has name new ≡ true

-- each name that some statement assigns is among some
pub record KnowsAll (list : List Reads) (names : List Ref) : Type 0 where
  pub knows : (s : ℕ) (name : Ref) → has name (sets_of list s) ≡ true → has name names ≡ true

-- two links on from a statement are those before it, and links go from statements to names and back
pub record IsTwoStep (count : ℕ) (before links : ℕ → List ℕ) : Type 0 where
  pub two : (t : ℕ) → t < count → flat_map links (links t) ≡ before t
  pub down : (t q : ℕ) → t < count → is_in q (links t) ≡ true → count ≤ q
  pub up : (p q : ℕ) → count ≤ p → is_in q (links p) ≡ true → q < count

-- what came of visits of points, of which the statements are the first
pub record IsFound (list : List Reads) (found : Visited) : Type 0 where
  pub links : List (List ℕ)
  pub two : IsTwoStep (length list) (before_of list) (links_of links)
  pub visited : IsVisited links (length list) found

-- whether a number is the last of a list
abbrev pub is_last : List ℕ → ℕ → Bool
is_last [] s = false
is_last (x ∷ []) s = x == s
is_last (x ∷ y ∷ ys) s = is_last (y ∷ ys) s

-- the points of the names that are known
abbrev pub points_of : List Ref → ℕ → List Ref → List ℕ
points_of known count names = filter_map (λ name. option_map (λ k. count + k) (position (same_ref name) known)) names

-- the list with a statement at its end, if it assigns the name
abbrev pub with_setter : Bool → ℕ → List ℕ → List ℕ
with_setter assigns s setters = if assigns then setters ++ s ∷ [] else setters

-- all that points are linked to is below a number
pub record AreBelow (links : List (List ℕ)) (end : ℕ) : Type 0 where
  pub below : (p q : ℕ) → IsLink links p q → q < end

-- a statement was noted as the last that assigns each of some names
pub record NotesSetter (known : List Ref) (old : List (List ℕ)) (names : List Ref) (s : ℕ) (new : List (List ℕ)) : Type 0 where
  pub notes : (name : Ref) (k : ℕ) → position (same_ref name) known ≡ Some k → links_of new k ≡ with_setter (has name names) s (links_of old k)

-- a statement is the last that assigns a name exactly where the name is among some
pub record TellsOwn (known : List Ref) (setters : List (List ℕ)) (names : List Ref) (s : ℕ) : Type 0 where
  pub tells : (name : Ref) (k : ℕ) → position (same_ref name) known ≡ Some k → is_last (links_of setters k) s ≡ has name names
