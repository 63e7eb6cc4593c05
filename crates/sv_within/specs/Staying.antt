-- What is made of markup reads nothing but what it looks at, and looks at nothing in the content of a component's tag but what the tag does,
-- whatever functions, tags and handlers a program has behind those that there are then.
use Rattle.std.specs.Prelude.{◌≡◌, ℕ, ◌<◌, true, List, [], ◌++◌, Option, Some, length, slice_get}
use Rattle.sv_ast.specs.declared.markup_tree.Markup.{Markup}
use Rattle.sv_ast.specs.declared.names.Ref.{Ref}
use Rattle.sv_ast.specs.declared.script_tree.Expr.{Expr}
use Rattle.sv_base.specs.declared.names.Name.{Name}
use Rattle.sv_code.specs.declared.fragments.Frag.{Frag}
use Rattle.sv_code.specs.declared.functions.Function.{Function}
use Rattle.sv_code.specs.declared.known.Known.TheVariants as known
use Rattle.sv_code.specs.declared.parts.Part.{Part}
use Rattle.sv_code.specs.declared.program.Program.{Program}
use Rattle.sv_code.specs.Content as looks
use Rattle.sv_code.specs.Content.{Look, Looks, IsTold, IsContentSeen, SeesView}
use Rattle.sv_code.specs.Names.{Each}
use Rattle.sv_code.specs.Parts.{of_frags, of_tag, of_handler}
use Rattle.sv_code.specs.Within.{IsWithin}
use Rattle.sv_fragments.specs.declared.around.Tables.{Tables}
use Rattle.sv_fragments.specs.Builds.{Around}
use Rattle.sv_fragments.specs.Expressions.{part_of}
use Rattle.sv_fragments.specs.Frags.{fragments}
use Rattle.sv_lower.specs.Tops.{Tops, known_in}
use Rattle.sv_names.specs.Distinct.{has}
use Rattle.sv_names.specs.Uses.{free_names}
use Rattle.sv_within.specs.Slots.{have_slot}
use Rattle.sv_scopes.specs.declared.scope.TheConstants.{VIEW}

-- the top of a component with some cells: a name that stands for a cell is that cell's, and none stands for a local
pub record IsTopOf (tops : Tops) (cells : List Ref) : Type 0 where
  pub cell : (name : Ref) (n : ℕ) → known_in tops.known name ≡ Some (known.Cell n) → slice_get cells n ≡ Some name
  pub no_local : (name : Ref) (x : Name) → known_in tops.known name ≡ Some (known.Local x) → ⊥

-- a part reads nothing but what it looks at, in each program whose functions begin with some
abbrev pub StaysWithin : List Function → Part → Type 0
StaysWithin functions part = (program : Program) (more : List Function) → program.functions ≡ functions ++ more → IsWithin program part

-- the parts of the tags and handlers in some tables do; the content of each tag looks at nothing but what the tag does; and whatever stands
-- in a tag for another one, or for a handler, looks at what that does
pub record AreWithin (tables : Tables) : Type 0 where
  pub tags : Each (λ tag. Each (StaysWithin tables.functions) (of_tag tag)) tables.tags
  pub handlers : Each (λ handler. Each (StaysWithin tables.functions) (of_handler handler)) tables.handlers
  pub seen : Each IsContentSeen tables.tags
  pub told : Each (λ tag. Each (IsTold tables.tags tables.handlers) (looks.of_tag tag)) tables.tags

-- a list begins with another
pub record Begins {A : Type 0} (before after : List A) : Type 0 where
  pub added : List A
  pub is : after ≡ before ++ added

-- what was put into tables stands behind what there was
pub record Grows (before after : Tables) : Type 0 where
  pub functions : Begins before.functions after.functions
  pub tags : Begins before.tags after.tags
  pub handlers : Begins before.handlers after.handlers

-- it is the cell of the owner's view among some cells
pub record IsViewOf (cells : List Ref) (view : Option ℕ) : Type 0 where
  pub cell : ℕ
  pub is : view ≡ Some cell
  pub stands : slice_get cells cell ≡ Some VIEW

-- a look in a component with some cells: it is at some of these; if it stands for a tag or a handler, it is at what that looks at; and a `<slot>`,
-- also in a tag, looks at the cell of the owner's view
pub record IsRight (cells : List Ref) (tables : Tables) (look : Look) : Type 0 where
  pub below : Each (λ n. n < length cells) look.reads.cells
  pub told : IsTold tables.tags tables.handlers look
  pub views : (view : Option ℕ) → (has VIEW cells ≡ true → IsViewOf cells view) → (depth : ℕ) → SeesView tables.tags view depth look

-- the parts of something, and the looks in it
pub record Contents (A : Type 0) : Type 0 where
  pub parts : A → List Part
  pub looks : A → Looks

-- what was made behind some tables in a component with some cells: the tables grew, all parts read nothing but what they look at, and all
-- looks are right
pub record IsMadeWithin {A : Type 0} (cells : List Ref) (of : Contents A) (before : Tables) (made : A × Tables) : Type 0 where
  pub grows : Grows before made.1
  pub parts : Each (StaysWithin made.1.functions) (of.parts made.0)
  pub looks : (bound : List Name) → Each (IsRight cells made.1) (of.looks made.0 bound)
  pub tables : AreWithin made.1

-- those of fragments
abbrev pub frags_contents : Contents (List Frag)
frags_contents = record { parts = of_frags; looks = looks.of_frags }

-- ---- laws

-- among some names are those that stand free in an expression
abbrev pub HasFree : List Ref → Expr → Type 0
HasFree names e = (name : Ref) → has name (free_names e) ≡ true → has name names ≡ true

-- an expression that looks at the names that stand free in it
abbrev pub ArePartsMadeWithin : Type 0
ArePartsMadeWithin =
    (around : Around) (locals names : List Ref) (e : Expr) (before : Tables) → IsTopOf around.tops around.cells → HasFree names e
    → StaysWithin (part_of names e around locals before).1.functions (part_of names e around locals before).0

-- the markup of a component, which has the owner's view among its cells where there is a `<slot>` in it
abbrev pub IsMarkupMadeWithin : Type 0
IsMarkupMadeWithin =
    (around : Around) (nodes : List Markup) (before : Tables) → IsTopOf around.tops around.cells → (have_slot nodes ≡ true → has VIEW around.cells ≡ true) → AreWithin before
    → IsMadeWithin around.cells frags_contents before (fragments nodes around [] before)
