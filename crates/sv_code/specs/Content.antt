-- What the content of a component's tag looks at. Where nothing moved of what the tag looks at, its content stays as it is; so the tag has to look
-- at whatever is looked at in there, but for the names that rows and slot props declare in there themselves.
use Rattle.std.specs.Prelude.{◌≡◌, ℕ, zero, suc, nat_eq, Bool, true, false, ◌||◌, List, [], ◌∷◌, ◌++◌, Option, None, Some, map, option_map, if◌then◌else◌, slice_get, ⊤}
use Rattle.std.specs.List.{list_any}
use Rattle.std.specs.Option.{option_to_list}
use Rattle.sv_base.specs.declared.names.Name.{Name}
use Rattle.sv_code.specs.declared.fragments.Frag.{Frag, Frag-F, fold-Frag}
use Rattle.sv_code.specs.declared.fragments.FragArm.{FragArm, FragArm-F, fold-FragArm}
use Rattle.sv_code.specs.declared.fragments.FragAttr.{FragAttr}
use Rattle.sv_code.specs.declared.fragments.FragAttr.TheVariants as attr_form
use Rattle.sv_code.specs.declared.fragments.FragValue.{FragValue}
use Rattle.sv_code.specs.declared.fragments.FragValue.TheVariants as value_form
use Rattle.sv_code.specs.declared.fragments.FragValuePart.{FragValuePart}
use Rattle.sv_code.specs.declared.fragments.FragValuePart.TheVariants as part_form
use Rattle.sv_code.specs.declared.fragments.LetName.{LetName}
use Rattle.sv_code.specs.declared.parts.Part.{Part}
use Rattle.sv_code.specs.declared.parts.Reading.{Reading}
use Rattle.sv_code.specs.declared.program.FileCode.{FileCode}
use Rattle.sv_code.specs.declared.program.FileCode.TheVariants as file_code
use Rattle.sv_code.specs.declared.program.Program.{Program}
use Rattle.sv_code.specs.declared.tags.Handler.{Handler}
use Rattle.sv_code.specs.declared.tags.Tag.{Tag}
use Rattle.sv_code.specs.Names.{Each}
use Rattle.sv_code.specs.Parts.{of_handler}
use Rattle.sv_code.specs.Within.{has_cell, has_local}

-- ---- looks

-- what looks at something: an expression, the handler with a number, the component's tag with a number, or a `<slot>`
pub data Looker : Type 0 where
  ByPart : Looker
  ByHandler : ℕ → Looker
  ByTag : ℕ → Looker
  BySlot : Looker

-- a look at cells and locals, from inside scopes of some names
pub record Look : Type 0 where
  pub by : Looker
  pub bound : List Name
  pub reads : Reading

-- the looks in something, where the scopes round it declare some names
abbrev pub Looks : Type 0
Looks = List Name → List Look

abbrev pub nothing : Looks
nothing bound = []

abbrev pub both : Looks → Looks → Looks
both first second bound = first bound ++ second bound

abbrev pub in_turn : List Looks → Looks
in_turn [] = nothing
in_turn (looks ∷ more) = both looks (in_turn more)

-- those of what may be absent
abbrev pub given : Option Looks → Looks
given None = nothing
given (Some looks) = looks

-- those inside a scope of some names
abbrev pub within : List Name → Looks → Looks
within names looks bound = looks (names ++ bound)

abbrev pub one : Looker → Reading → Looks
one by reads bound = record { by = by; bound = bound; reads = reads } ∷ []

-- ---- attributes

abbrev pub of_part : Part → Looks
of_part p = one ByPart p.reads

abbrev pub of_value_part : FragValuePart → Looks
of_value_part (part_form.Text text) = nothing
of_value_part (part_form.Show shown) = of_part shown

abbrev pub of_value : FragValue → Looks
of_value value_form.Bare = nothing
of_value (value_form.Parts list) = in_turn (map of_value_part list)

abbrev pub of_attr : FragAttr → Looks
of_attr (attr_form.Plain span name value) = of_value value
of_attr (attr_form.On handler reads) = one (ByHandler handler) reads
of_attr (attr_form.Bind span name target) = of_part target
of_attr (attr_form.Class span name test) = of_part test

abbrev pub of_attrs : List FragAttr → Looks
of_attrs attrs = in_turn (map of_attr attrs)

-- ---- fragments

-- the looks in a fragment, and whether it goes to a slot with a name
pub record Node : Type 0 where
  pub named : Bool
  pub looks : Looks

abbrev pub plain : Looks → Node
plain looks = record { named = false; looks = looks }

abbrev pub nodes : List Node → Looks
nodes list = in_turn (map (λ n. n.looks) list)

-- the names of a row
abbrev pub row_names : Name → Option Name → List Name
row_names item index = item ∷ option_to_list index

-- the names that slot props have
abbrev pub let_names : List LetName → List Name
let_names lets = map (λ l. l.local) lets

abbrev pub frag : Frag-F Node Looks → Node
frag (Frag-F.Text text) = plain nothing
frag (Frag-F.Show shown) = plain (of_part shown)
frag (Frag-F.Element span name attrs children) = plain (both (of_attrs attrs) (nodes children))
frag (Frag-F.Tag tag reads) = plain (one (ByTag tag) reads)
frag (Frag-F.Named slot lets node) = record { named = true; looks = within (let_names lets) node.looks }
frag (Frag-F.Slot span name attrs own reads) = plain (both (one BySlot reads) (both (of_attrs attrs) (nodes own)))
frag (Frag-F.If arms last) = plain (both (in_turn arms) (given (option_map nodes last)))
frag (Frag-F.Each list item index key body none) =
    plain (both (of_part list) (both (within (row_names item index) (both (given (option_map of_part key)) (nodes body))) (given (option_map nodes none))))
frag (Frag-F.Key shown body) = plain (both (of_part shown) (nodes body))

abbrev pub arm : FragArm-F Node Looks → Looks
arm a = both (of_part a.test) (nodes a.body)

abbrev pub node : Frag → Node
node = fold-Frag Node Looks frag arm

abbrev pub of_arm : FragArm → Looks
of_arm = fold-FragArm Node Looks frag arm

abbrev pub of_frags : List Frag → Looks
of_frags list = nodes (map node list)

-- ---- content

-- a fragment of content, in whose default part some names are
abbrev pub in_content : List Name → Node → Looks
in_content names n = if n.named then n.looks else within names n.looks

-- content, in whose default part slot props have names
abbrev pub of_content : List LetName → List Frag → List Look
of_content lets list = in_turn (map (λ f. in_content (let_names lets) (node f)) list) []

-- the looks in a component's tag: those of its attributes and of its content
abbrev pub of_tag : Tag → List Look
of_tag t = of_attrs t.attrs [] ++ of_content t.lets t.content

abbrev pub of_file : FileCode → List Look
of_file (file_code.Component c) = of_frags c.markup []
of_file (file_code.Module m) = []

-- ---- what is seen

abbrev pub is_bound : Name → List Name → Bool
is_bound x names = list_any (λ y. nat_eq x.0 y.0) names

-- a reading has each cell of another one, and each of its locals but for some names
pub record Sees (reads : Reading) (bound : List Name) (inner : Reading) : Type 0 where
  pub cells : Each (λ n. has_cell reads n ≡ true) inner.cells
  pub locals : Each (λ x. (is_bound x bound || has_local reads x) ≡ true) inner.locals

-- it has what a look is at, but for the names that are bound round the look
abbrev pub IsSeenBy : Reading → Look → Type 0
IsSeenBy reads look = Sees reads look.bound look.reads

-- a tag looks at what is looked at in its content
abbrev pub IsContentSeen : Tag → Type 0
IsContentSeen t = Each (IsSeenBy t.reads) (of_content t.lets t.content)

-- a fragment that stands for a component's tag looks at what is looked at in its attributes, and at what the tag looks at for its content
pub record IsTagSeen (reads : Reading) (t : Tag) : Type 0 where
  pub attrs : Each (IsSeenBy reads) (of_attrs t.attrs [])
  pub content : Sees reads [] t.reads

-- a directive that stands for a handler looks at what its expression does
abbrev pub IsHandlerSeen : Reading → Handler → Type 0
IsHandlerSeen reads h = Each (λ p. Sees reads [] p.reads) (of_handler h)

-- under a number stands something of which a fact holds
pub record Stands {A : Type 0} (P : A → Type 0) (items : List A) (n : ℕ) : Type 0 where
  pub item : A
  pub there : slice_get items n ≡ Some item
  pub holds : P item

-- what stands for something in a table looks at what that does
abbrev pub IsToldBy : List Tag → List Handler → Reading → Looker → Type 0
IsToldBy tags handlers reads ByPart = ⊤
IsToldBy tags handlers reads (ByHandler n) = Stands (IsHandlerSeen reads) handlers n
IsToldBy tags handlers reads (ByTag n) = Stands (IsTagSeen reads) tags n
IsToldBy tags handlers reads BySlot = ⊤

abbrev pub IsTold : List Tag → List Handler → Look → Type 0
IsTold tags handlers look = IsToldBy tags handlers look.reads look.by

-- ---- the owner's view

-- a `<slot>` looks at the cell of the owner's view, which there has to be
abbrev pub HasView : Reading → Option ℕ → Type 0
HasView reads None = ⊥
HasView reads (Some cell) = has_cell reads cell ≡ true

-- so it is of a `<slot>`; and of a component's tag, which has to be there, a fact holds of each look in it
abbrev pub SeesViewBy : (Look → Type 0) → List Tag → Option ℕ → Reading → Looker → Type 0
SeesViewBy P tags view reads ByPart = ⊤
SeesViewBy P tags view reads (ByHandler n) = ⊤
SeesViewBy P tags view reads (ByTag n) = Stands (λ t. Each P (of_tag t)) tags n
SeesViewBy P tags view reads BySlot = HasView reads view

-- each `<slot>` looks at the owner's view, also one in a component's tag, in a tag in there, and so on, so many tags deep
abbrev pub SeesView : List Tag → Option ℕ → ℕ → Look → Type 0
SeesView tags view zero look = ⊤
SeesView tags view (suc depth) look = SeesViewBy (SeesView tags view depth) tags view look.reads look.by

-- the cell of the owner's view
abbrev pub view_of : FileCode → Option ℕ
view_of (file_code.Component c) = c.view
view_of (file_code.Module m) = None

-- each `<slot>` of a component looks at that, in tags at any depth too
abbrev pub IsViewSeen : List Tag → FileCode → Type 0
IsViewSeen tags code = (depth : ℕ) → Each (SeesView tags (view_of code) depth) (of_file code)

-- ---- programs

-- the content of each component's tag looks at nothing but what the tag does, whatever stands for a tag or a handler looks at what that does, and
-- each `<slot>` looks at the owner's view
pub record AreContentsSeen (program : Program) : Type 0 where
  pub tags : Each IsContentSeen program.tags
  pub markup : Each (λ f. Each (IsTold program.tags program.handlers) (of_file f.code)) program.files
  pub inside : Each (λ t. Each (IsTold program.tags program.handlers) (of_tag t)) program.tags
  pub views : Each (λ f. IsViewSeen program.tags f.code) program.files
