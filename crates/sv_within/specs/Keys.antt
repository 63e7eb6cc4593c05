-- What the lists of each blocks look at for the keys of their rows. Where nothing moved of what a list looks at, its rows stay with the keys that they
-- have; so the list has to look at whatever the key of a row looks at, but for the names of the row.
use Rattle.std.specs.Prelude.{◌≡◌, ℕ, Bool, true, ◌||◌, List, [], ◌∷◌, ◌++◌, Option, None, Some, map, unwrap_or}
use Rattle.sv_ast.specs.declared.markup_tree.Markup.{Markup}
use Rattle.sv_base.specs.declared.names.Name.{Name}
use Rattle.sv_code.specs.declared.fragments.Frag.{Frag, Frag-F, fold-Frag}
use Rattle.sv_code.specs.declared.fragments.FragArm.{FragArm-F}
use Rattle.sv_code.specs.declared.parts.Part.{Part}
use Rattle.sv_code.specs.declared.program.FileCode.{FileCode}
use Rattle.sv_code.specs.declared.program.FileCode.TheVariants as file_code
use Rattle.sv_code.specs.declared.program.Program.{Program}
use Rattle.sv_code.specs.declared.tags.Tag.{Tag}
use Rattle.sv_code.specs.Content.{row_names, is_bound}
use Rattle.sv_code.specs.Names.{Each}
use Rattle.sv_code.specs.Within.{has_cell, has_local}
use Rattle.sv_fragments.specs.declared.around.Tables.{Tables}
use Rattle.sv_fragments.specs.Builds.{Around}
use Rattle.sv_fragments.specs.Frags.{fragments}

-- ---- the heads of each blocks

-- an each block without its rows: its list, the names of a row, and its key
pub record Head : Type 0 where
  pub list : Part
  pub item : Name
  pub index : Option Name
  pub key : Option Part

-- those of some things in turn
abbrev pub in_turn : List (List Head) → List Head
in_turn [] = []
in_turn (heads ∷ more) = heads ++ in_turn more

abbrev pub frag_heads : Frag-F (List Head) (List Head) → List Head
frag_heads (Frag-F.Text text) = []
frag_heads (Frag-F.Show shown) = []
frag_heads (Frag-F.Element span name attrs children) = in_turn children
frag_heads (Frag-F.Tag tag reads) = []
frag_heads (Frag-F.Named slot lets node) = node
frag_heads (Frag-F.Slot span name attrs own reads) = in_turn own
frag_heads (Frag-F.If arms last) = in_turn arms ++ in_turn (unwrap_or last [])
frag_heads (Frag-F.Each list item index key body none) = record { list = list; item = item; index = index; key = key } ∷ (in_turn body ++ in_turn (unwrap_or none []))
frag_heads (Frag-F.Key shown body) = in_turn body

abbrev pub arm_heads : FragArm-F (List Head) (List Head) → List Head
arm_heads a = in_turn a.body

-- those in a fragment, but for the content of component tags, which stand in tables
abbrev pub heads_of : Frag → List Head
heads_of = fold-Frag (List Head) (List Head) frag_heads arm_heads

-- those in fragments beside one another
abbrev pub heads_all : List Frag → List Head
heads_all frags = in_turn (map heads_of frags)

-- ---- keys

-- a name is one of a row
abbrev pub is_of_row : Head → Name → Bool
is_of_row h x = is_bound x (row_names h.item h.index)

-- the list looks at what a key looks at, but for the names of the row
pub record IsKeySeen (h : Head) (key : Part) : Type 0 where
  pub cells : (n : ℕ) → has_cell key.reads n ≡ true → has_cell h.list.reads n ≡ true
  pub locals : (x : Name) → has_local key.reads x ≡ true → (is_of_row h x || has_local h.list.reads x) ≡ true

abbrev pub IsHeadSeen : Head → Option Part → Type 0
IsHeadSeen h None = Unit {0}
IsHeadSeen h (Some key) = IsKeySeen h key

-- the list of each of some heads looks at what its key looks at
abbrev pub AreSeen : List Head → Type 0
AreSeen heads = Each (λ h. IsHeadSeen h h.key) heads

-- so it is in fragments
abbrev pub AreKeysSeen : List Frag → Type 0
AreKeysSeen frags = AreSeen (heads_all frags)

-- and in the content of some component tags
abbrev pub AreTagKeysSeen : List Tag → Type 0
AreTagKeysSeen tags = Each (λ t. AreKeysSeen t.content) tags

-- ---- programs

abbrev pub AreFileKeysSeen : FileCode → Type 0
AreFileKeysSeen (file_code.Component c) = AreKeysSeen c.markup
AreFileKeysSeen (file_code.Module m) = Unit {0}

-- each list in the markup of the files of a program, and in the content of its tags, looks at what the key of its rows looks at
pub record AreAllKeysSeen (program : Program) : Type 0 where
  pub files : Each (λ f. AreFileKeysSeen f.code) program.files
  pub tags : AreTagKeysSeen program.tags

-- ---- a law

-- what was made of markup: the lists in it look at what the keys of their rows look at, and so do those in the tags then
pub record AreMadeSeen {A : Type 0} (of : A → List Head) (made : A × Tables) : Type 0 where
  pub heads : AreSeen (of made.0)
  pub tags : AreTagKeysSeen made.1.tags

-- so it is of the markup of a component, where it is so in the tags before
abbrev pub AreMarkupKeysSeen : Type 0
AreMarkupKeysSeen = (around : Around) (nodes : List Markup) (before : Tables) → AreTagKeysSeen before.tags → AreMadeSeen heads_all (fragments nodes around [] before)
