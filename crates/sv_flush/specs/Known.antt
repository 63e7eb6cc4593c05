-- Views that are known on a page: those that it holds, present ones, and what is made of them. Equal versions mean equal values there.
use Rattle.std.specs.Prelude.{◌≡◌, ◌⊎◌, ℕ, List, Some, slice_get}
use Rattle.sv_code.specs.declared.fragments.LetName.{LetName}
use Rattle.sv_flush.specs.Lent.{StandsIn, IsHeld, HoldsPast}
use Rattle.sv_flush.specs.declared.page.Page.{Page}
use Rattle.sv_instance.specs.Cells.{present}
use Rattle.sv_instance.specs.declared.instance.Instance.{Instance}
use Rattle.sv_plan.specs.Slots.{content_view}
use Rattle.sv_shapes.specs.Showing.{shown_of}
use Rattle.sv_shapes.specs.declared.shape.SlotProp.{SlotProp}
use Rattle.sv_shapes.specs.declared.shown.Shown.{Shown}
use Rattle.sv_states.specs.Sound.{IsSound, IsLater}
use Rattle.sv_states.specs.States.{live}
use Rattle.sv_view.specs.Cell.{Cell}
use Rattle.sv_view.specs.Level.{View}
use Rattle.sv_view.specs.Local.{Local}
use Rattle.sv_view.specs.View.{levels, with_locals, look, version}
use Rattle.sv_view.specs.declared.view.At.TheVariants as at
use Rattle.sv_world.specs.World.{present_view}

-- an instance's cells as some view holds them, or as they are now
abbrev pub IsKnown : Page → ℕ → List Cell → Type 0
IsKnown m n cells = IsHeld m n cells ⊎ ((i : Instance) × ((live m.world.states n ≡ Some i) × (present i.cells.now ≡ cells)))

-- so it is at all levels of a view
abbrev pub AreKnown : Page → View → Type 0
AreKnown m v = (n : ℕ) (cells : List Cell) → StandsIn (levels v) n cells → IsKnown m n cells

-- ---- laws

-- the view of an instance's present cells is known, and the one on which it was shown last
abbrev pub PresentIsKnown : Type 0
PresentIsKnown = (m : Page) (n : ℕ) (i : Instance) → live m.world.states n ≡ Some i → AreKnown m (present_view m.world.modules n i)

abbrev pub ShownIsKnown : Type 0
ShownIsKnown = (m : Page) (n : ℕ) (x : Shown) → shown_of m.showing n ≡ Some x → AreKnown m x.view

-- and so is what rows and slots make of a known one
abbrev pub LocalsAreKnown : Type 0
LocalsAreKnown = (m : Page) (v : View) (locals : List Local) → AreKnown m v → AreKnown m (with_locals v locals)

abbrev pub ContentIsKnown : Type 0
ContentIsKnown = (m : Page) (v : View) (lets : List LetName) (props : List SlotProp) → AreKnown m v → AreKnown m (content_view lets props v)

-- the cells of a live instance that a view holds are no later than its present cells
abbrev pub HeldIsPast : Type 0
HeldIsPast =
    (m : Page) (n : ℕ) (cells : List Cell) (i : Instance) → IsSound m.world.states → HoldsPast m → IsHeld m n cells → live m.world.states n ≡ Some i
    → (c : ℕ) → IsLater (slice_get cells c) (slice_get (present i.cells.now) c)

-- of two known views of one instance, equal versions of a cell mean equal values
abbrev pub VersionsTellCells : Type 0
VersionsTellCells =
    (m : Page) (v w : View) → IsSound m.world.states → HoldsPast m → AreKnown m v → AreKnown m w → v.own.inst ≡ w.own.inst
    → (c : ℕ) → version v (at.Cell c) ≡ version w (at.Cell c) → look v (at.Cell c) ≡ look w (at.Cell c)
