-- What content looks at: what its parts and handlers look at, and its `<slot>`s and component tags, but for what it declares itself: the
-- names of rows are those of the row's key and content, and `let:` names are those of the content for their slot alone (Svelte 4 docs,
-- '{#each}' and '<slot key={value}>').
use Rattle.std.specs.Prelude.{◌≡◌, ℕ, zero, suc, nat_eq, Bool, true, false, not, List, [], ◌∷◌, ◌++◌, Option, None, Some, map, option_map, filter, if◌then◌else◌}
use Rattle.std.specs.List.{list_any}
use Rattle.std.specs.Option.{option_to_list}
use Rattle.sv_ast.specs.declared.names.Ref.{Ref}
use Rattle.sv_ast.specs.declared.names.Ref.TheVariants.{Plain}
use Rattle.sv_base.specs.declared.names.Name.{Name}
use Rattle.sv_code.specs.declared.fragments.Frag.{Frag, Frag-F, fold-Frag}
use Rattle.sv_code.specs.declared.fragments.FragArm.{FragArm, FragArm-F, fold-FragArm}
use Rattle.sv_code.specs.declared.fragments.FragAttr.{FragAttr}
use Rattle.sv_code.specs.declared.fragments.FragAttr.TheVariants.{Plain as PlainAttr, On, Bind, Class}
use Rattle.sv_code.specs.declared.fragments.FragValue.{FragValue}
use Rattle.sv_code.specs.declared.fragments.FragValue.TheVariants.{Bare, Parts}
use Rattle.sv_code.specs.declared.fragments.FragValuePart.{FragValuePart}
use Rattle.sv_code.specs.declared.fragments.FragValuePart.TheVariants.{Text, Show}
use Rattle.sv_code.specs.declared.fragments.LetName.{LetName}
use Rattle.sv_code.specs.declared.parts.Part.{Part}
use Rattle.sv_code.specs.declared.parts.Reading.{Reading}
use Rattle.sv_names.specs.Distinct.{has, firsts}
use Rattle.sv_names.specs.Locals.{name_of}
use Rattle.sv_deps.specs.Reading.{number_if}
use Rattle.sv_deps.specs.declared.looks.Seen.{Seen}

-- cells by number, and locals that something else declares
pub record Looked : Type 0 where
  pub cells : List ℕ
  pub locals : List Ref

-- what a part of content looks at, where the content round it declares some names
abbrev pub Looks : Type 0
Looks = List Ref → Looked

-- what is found in a node, and whether it goes to a slot with a name
pub record Node : Type 0 where
  pub named : Bool
  pub looks : Looks

abbrev pub nothing : Looks
nothing own = record { cells = []; locals = [] }

abbrev pub both : Looks → Looks → Looks
both first second own = record { cells = (first own).cells ++ (second own).cells; locals = (first own).locals ++ (second own).locals }

abbrev pub in_turn : List Looks → Looks
in_turn [] = nothing
in_turn (looks ∷ more) = both looks (in_turn more)

-- what may be absent
abbrev pub given : Option Looks → Looks
given None = nothing
given (Some looks) = looks

-- some names, each once
abbrev pub declared : List Name → List Ref
declared names = firsts (map Plain names)

-- what is inside a scope of some names
abbrev pub within : List Ref → Looks → Looks
within names looks own = looks (names ++ own)

-- what there was, and behind it what was found
pub record Finds (old new : Seen) (found : Looked) : Type 0 where
  pub cells : new.cells ≡ old.cells ++ found.cells
  pub locals : new.locals ≡ old.locals ++ found.locals

-- ---- parts

-- some names that no scope inside declares
abbrev pub others : List Ref → List Name → List Ref
others own names = filter (λ name. not (has name own)) (map Plain names)

abbrev pub read : Reading → Looks
read reading own = record { cells = reading.cells; locals = others own reading.locals }

abbrev pub part : Part → Looks
part p = read p.reads

abbrev pub value_part : FragValuePart → Looks
value_part (Text text) = nothing
value_part (Show shown) = part shown

abbrev pub value : FragValue → Looks
value Bare = nothing
value (Parts parts) = in_turn (map value_part parts)

abbrev pub attr : FragAttr → Looks
attr (PlainAttr span name shown) = value shown
attr (On handler reads) = read reads
attr (Bind span name target) = part target
attr (Class span name test) = part test

abbrev pub attrs : List FragAttr → Looks
attrs list = in_turn (map attr list)

-- ---- nodes

abbrev pub nodes : List Node → Looks
nodes list = in_turn (map (λ n. n.looks) list)

-- the names of a row
abbrev pub row_names : Name → Option Name → List Ref
row_names item index = declared (item ∷ option_to_list index)

-- the names that slot props have
abbrev pub let_names : List LetName → List Ref
let_names lets = declared (map (λ l. l.local) lets)

abbrev pub plain : Looks → Node
plain looks = record { named = false; looks = looks }

abbrev pub frag : Frag-F Node Looks → Node
frag (Frag-F.Text text) = plain nothing
frag (Frag-F.Show shown) = plain (part shown)
frag (Frag-F.Element span name list children) = plain (both (attrs list) (nodes children))
frag (Frag-F.Tag tag reads) = plain (read reads)
frag (Frag-F.Named slot lets node) = record { named = true; looks = within (let_names lets) node.looks }
frag (Frag-F.Slot span name list own reads) = plain (both (read reads) (both (attrs list) (nodes own)))
frag (Frag-F.If arms last) = plain (both (in_turn arms) (given (option_map nodes last)))
frag (Frag-F.Each list item index key body none) =
    plain (both (part list) (both (within (row_names item index) (both (given (option_map part key)) (nodes body))) (given (option_map nodes none))))
frag (Frag-F.Key shown body) = plain (both (part shown) (nodes body))

abbrev pub arm : FragArm-F Node Looks → Looks
arm a = both (part a.test) (nodes a.body)

-- what is found in a node
abbrev pub node : Frag → Node
node = fold-Frag Node Looks frag arm

-- what is found in a branch of an if block
abbrev pub arm_looks : FragArm → Looks
arm_looks = fold-FragArm Node Looks frag arm

-- ---- content

-- a node of content, of whose default content some names are
abbrev pub in_content : List Ref → Node → Looks
in_content names n = if n.named then n.looks else within names n.looks

abbrev pub content : List Ref → List Frag → Looks
content names list = in_turn (map (λ f. in_content names (node f)) list)

-- the numbers from one on, up to as many, that are among some
abbrev pub among_from : ℕ → ℕ → List ℕ → List ℕ
among_from n zero numbers = []
among_from n (suc count) numbers = number_if (list_any (nat_eq n) numbers) n ++ among_from (suc n) count numbers

-- what was looked at, where its component has so many cells: these by number, each once, and locals by first appearance
abbrev pub gathered : ℕ → Looked → Reading
gathered count looked = record { cells = among_from 0 count looked.cells; locals = map name_of (firsts looked.locals) }

-- what content looks at, in whose default part slot props have names
abbrev pub looked_at : ℕ → List LetName → List Frag → Reading
looked_at count lets list = gathered count (content (let_names lets) list [])

-- what a component's tag looks at: what its attributes and its content do
abbrev pub tag_looks : ℕ → List FragAttr → Reading → Reading
tag_looks count list reads = gathered count (both (attrs list) (read reads) [])
