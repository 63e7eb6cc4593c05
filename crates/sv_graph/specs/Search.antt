-- What a search for a cycle knows: the points that it met, and the frames of those that it has gone on to.
use Rattle.std.specs.Prelude.{◌≡◌, ℕ, ◌+◌, ◌*◌, ◌==◌, ◌||◌, ◌&&◌, not, Bool, true, false, List, [], ◌∷◌, ◌++◌, length, slice_index_or, slice_set, count_by}
use Rattle.std.specs.List.{sum_by, list_any}
use Rattle.sv_graph.specs.Links.{is_in, IsLink}
use Rattle.sv_graph.specs.Cycle.{IsCycle}
use Rattle.sv_graph.specs.Walk.{rest_of, work_of}
use Rattle.sv_graph.specs.declared.marks.Frame.{Frame}

-- a cycle of links that begins with a point
abbrev pub IsCycleOf : List (List ℕ) → ℕ → List ℕ → Type 0
IsCycleOf links p points = IsCycle (IsLink links) points × (slice_index_or points 0 p ≡ p)

-- whether a point was met
abbrev pub met_at : List Bool → ℕ → Bool
met_at met p = slice_index_or met p false

-- a frame of the first point has still to go on to the second
abbrev pub pends : List (List ℕ) → ℕ → ℕ → List Frame → Bool
pends links p q frames = list_any (λ f. f.point == p && is_in q (rest_of links f)) frames

-- each point is linked to the next
abbrev pub IsChain : List (List ℕ) → List Frame → Type 0
IsChain links [] = Unit {0}
IsChain links (f ∷ []) = Unit {0}
IsChain links (f ∷ g ∷ above) = IsLink links f.point g.point × IsChain links (g ∷ above)

-- the frames are those from a point on
abbrev pub IsFrom : ℕ → List Frame → Type 0
IsFrom p [] = Unit {0}
IsFrom p (f ∷ above) = f.point ≡ p

-- what the start and each point that was met is linked to, but the start, was met too or will be
pub record IsSearch (links : List (List ℕ)) (start : ℕ) (met : List Bool) (frames : List Frame) : Type 0 where
  pub size : length met ≡ length links
  pub apart : met_at met start ≡ false
  pub closed : (p q : ℕ) → (p == start || met_at met p) ≡ true → IsLink links p q → (met_at met q || pends links p q frames) ≡ true
  pub chain : IsChain links frames
  pub from : IsFrom start frames

-- a point is met for the first time or again
abbrev pub Meets : Bool → ℕ → List Bool → List Frame → List Bool → List Frame → Type 0
Meets true p met frames met' frames' = (met' ≡ met) × (frames' ≡ frames)
Meets false p met frames met' frames' = (met' ≡ slice_set met p true) × (frames' ≡ frames ++ record { point = p; next = 0 } ∷ [])

-- the work that is left
abbrev pub search_left : List (List ℕ) → List Bool → List Frame → ℕ
search_left links met frames = (sum_by length links + 2) * count_by not met + sum_by (work_of links) frames
