-- How many changes of each kind a counter heard, and its report of them.
use Rattle.std.specs.Prelude.{ℕ, List, ◌++◌, Bool, true, false, codes, decimal, count_by}
use Rattle.sv_tokens.specs.declared.change.Change.{Change}
use Rattle.sv_tokens.specs.declared.change.Change.TheVariants.{Make, SetText, SetAttr, DropAttr, SetTyped, Move, Remove}
use Rattle.sv_watch.specs.declared.counter.Kind.{Kind}
use Rattle.sv_watch.specs.declared.counter.Kind.TheVariants.{Made, Removed, Texts, Attrs, Moves, Typed}

-- the one of these that belongs to the change
abbrev pub pick : {A : Type 0} → (made removed texts attrs moves typed : A) → Change → A
pick made removed texts attrs moves typed (Make serial parent before what) = made
pick made removed texts attrs moves typed (Remove serial) = removed
pick made removed texts attrs moves typed (SetText serial text) = texts
pick made removed texts attrs moves typed (SetAttr serial slot name attr) = attrs
pick made removed texts attrs moves typed (DropAttr serial slot) = attrs
pick made removed texts attrs moves typed (Move serial before) = moves
pick made removed texts attrs moves typed (SetTyped serial state) = typed

-- the change is counted there
abbrev pub is_of : Kind → Change → Bool
is_of Made = pick true false false false false false
is_of Removed = pick false true false false false false
is_of Texts = pick false false true false false false
is_of Attrs = pick false false false true false false
is_of Moves = pick false false false false true false
is_of Typed = pick false false false false false true

-- a word and the number of the changes that are counted there
abbrev pub column : List ℕ → Kind → List Change → List ℕ
column word kind heard = word ++ decimal (count_by (is_of kind) heard)

-- what a counter reports of what it heard
abbrev pub counts : List Change → List ℕ
counts heard =
    column (codes "made ") Made heard
    ++ (column (codes " removed ") Removed heard
    ++ (column (codes " texts ") Texts heard
    ++ (column (codes " attrs ") Attrs heard
    ++ (column (codes " moves ") Moves heard
    ++ column (codes " typed ") Typed heard))))
