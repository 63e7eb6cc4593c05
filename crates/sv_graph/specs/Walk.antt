-- What a walk knows: the marks of points, the order of those that are placed, and the frames of those that are being
-- visited. Frames are listed from the one on top.
use Rattle.std.specs.Prelude.{◌≡◌, ℕ, ◌+◌, ◌-◌, ◌*◌, ◌==◌, Bool, true, false, List, [], ◌∷◌, ◌++◌, Option, length, slice_get, slice_index_or, slice_set, drop, count_by, if◌then◌else◌}
use Rattle.std.specs.List.{sum_by}
use Rattle.sv_graph.specs.Links.{is_in, links_of}
use Rattle.sv_graph.specs.Visits.{with_point, Visits}
use Rattle.sv_graph.specs.declared.marks.Mark.{Mark}
use Rattle.sv_graph.specs.declared.marks.Mark.TheVariants.{New, Open, Done}
use Rattle.sv_graph.specs.declared.marks.Frame.{Frame}
use Rattle.sv_graph.specs.declared.walk.Walk.{Walk}

-- the next point that a frame's point links for, and all that it still links for
abbrev pub link_at : List (List ℕ) → Frame → Option ℕ
link_at links frame = slice_get (links_of links frame.point) frame.next

abbrev pub rest_of : List (List ℕ) → Frame → List ℕ
rest_of links frame = drop frame.next (links_of links frame.point)

-- the mark of a point
abbrev pub mark_of : List Mark → ℕ → Mark
mark_of marks p = slice_index_or marks p New

abbrev pub is_new : Mark → Bool
is_new New = true
is_new Open = false
is_new Done = false

abbrev pub is_open : Mark → Bool
is_open New = false
is_open Open = true
is_open Done = false

abbrev pub is_done : Mark → Bool
is_done New = false
is_done Open = false
is_done Done = true

-- 1 for a truth
abbrev pub one : Bool → ℕ
one b = if b then 1 else 0

-- how many frames a point has
abbrev pub frames_of : ℕ → List Frame → ℕ
frames_of p [] = 0
frames_of p (f ∷ below) = one (f.point == p) + frames_of p below

-- the point on top links for another
abbrev pub IsLinked : List (List ℕ) → ℕ → List Frame → Type 0
IsLinked links p [] = Unit {0}
IsLinked links p (f ∷ below) = is_in p (links_of links f.point) ≡ true

-- each point links for the one above it
abbrev pub IsLine : List (List ℕ) → List Frame → Type 0
IsLine links [] = Unit {0}
IsLine links (f ∷ below) = IsLinked links f.point below × IsLine links below

-- the marks tell which points are placed and which have a frame
pub record IsWalk (links : List (List ℕ)) (walk : Walk) (frames : List Frame) : Type 0 where
  pub size : length walk.marks.items ≡ length links
  pub done : (p : ℕ) → is_in p walk.order.items ≡ is_done (mark_of walk.marks.items p)
  pub opened : (p : ℕ) → frames_of p frames ≡ one (is_open (mark_of walk.marks.items p))
  pub line : IsLine links frames

-- what is placed when the frames are done with
abbrev pub Finishes : List (List ℕ) → List ℕ → List Frame → List ℕ → Type 0
Finishes links placed [] after = placed ≡ after
Finishes links placed (f ∷ below) after =
    (between : List ℕ) × Visits (links_of links) placed (rest_of links f) between × Finishes links (with_point f.point between) below after

-- a point is entered, by its mark
abbrev pub Enters : Mark → ℕ → Walk → List Frame → Walk → List Frame → Type 0
Enters New p walk stack walk' stack' = (walk' ≡ record walk { marks = walk'.marks }) × (walk'.marks.items ≡ slice_set walk.marks.items p Open) × (stack' ≡ stack ++ record { point = p; next = 0 } ∷ [])
Enters Open p walk stack walk' stack' = (walk' ≡ record walk { is_cyclic = true }) × (stack' ≡ stack)
Enters Done p walk stack walk' stack' = (walk' ≡ walk) × (stack' ≡ stack)

-- the work that is left: two for each new point and one for each point that it links for, and as much for the frames
abbrev pub work_of : List (List ℕ) → Frame → ℕ
work_of links f = length (links_of links f.point) - f.next + 1

abbrev pub work_left : List (List ℕ) → Walk → List Frame → ℕ
work_left links walk frames = (sum_by length links + 2) * count_by is_new walk.marks.items + sum_by (work_of links) frames
