-- Nodes in a slab.
use Rattle.std.proofs.Common.{◌≡◌, ◌≢◌, ℕ, zero, suc, List, [], ◌∷◌, ◌++◌, subst, true, false, Option, Some, None, refl, ap, sym, ◌∙◌}
use Rattle.std.specs.Prelude.{option_map, slice_index_or, IsSome, IsSomeAnd, IfSome, slice_set, Result, Ok, Err, OnErr}
use Rattle.slab.specs.Slab.{Slab, get, with_value, Updates}
use Rattle.slab.proofs.SlabLemmas.{Updates-with_value}
use Rattle.sv_tokens.specs.Counting.{Has}
use Rattle.sv_tokens.specs.Token.{named, texts, opens, begins}
use Rattle.sv_nodes.specs.Nodes.{Kind, Cell, Nodes, leaf, tokens_of, with_children}
use Rattle.sv_nodes.specs.Sound.{IsAmong, IsSound}
use Rattle.sv_nodes.specs.Steps.{Rewrites, Grows, Adds, Cuts, Drops}
use Rattle.sv_nodes.specs.Cells.{cell_of, nodes_of, cells_of, kind_of}
use Rattle.sv_nodes.specs.declared.entry.Entry.{Entry}
use Rattle.sv_nodes.proofs.Around.{around, has-begins, texts-narrows, opens-narrows}

pub some_of : (o : Option Entry) (cell : Cell) → option_map cell_of o ≡ Some cell → IsSome o
some_of None cell e = absurd (no e)
  where
    no : {c : Cell} → None ≡ Some c → ⊥
    no e = cc
some_of (Some entry) cell e = refl

-- what is seen at a key is what the slab has there
pub cells_of-at : (slots : List (Option Entry)) (k : ℕ) → nodes_of slots k ≡ option_map cell_of (slice_index_or slots k None)
cells_of-at [] k = refl
cells_of-at (slot ∷ slots) zero = refl
cells_of-at (slot ∷ slots) (suc k) = cells_of-at slots k

-- a node that stands on the page is in the slab
pub stands-live : (slab : Slab Entry) (next p : ℕ) → IsSound (nodes_of slab.slots) next → Has (begins p) (tokens_of (nodes_of slab.slots)) → IsSome (get slab p)
stands-live slab next p sound has = let a = around (nodes_of slab.slots) next p sound has in some_of (get slab p) a.cell (sym (cells_of-at slab.slots p) ∙ a.here)

pub text-live : (slab : Slab Entry) (next p : ℕ) → IsSound (nodes_of slab.slots) next → Has (texts p) (tokens_of (nodes_of slab.slots)) → IsSome (get slab p)
text-live slab next p sound has = stands-live slab next p sound (has-begins p (texts p) _ (texts-narrows p) has)

pub holder-live : (slab : Slab Entry) (next p : ℕ) → IsSound (nodes_of slab.slots) next → Has (opens p) (tokens_of (nodes_of slab.slots)) → IsSome (get slab p)
holder-live slab next p sound has = stands-live slab next p sound (has-begins p (opens p) _ (opens-narrows p) has)

-- one slot changed is one node changed
pub record Changes (old new : Nodes) (key : ℕ) (cell : Option Cell) : Type 0 where
  pub here : new key ≡ cell
  pub others : (k : ℕ) → k ≢ key → new k ≡ old k

pub changes-updates : (old new : Slab Entry) (key : ℕ) (slot : Option Entry) → Updates old new key slot → Changes (nodes_of old.slots) (nodes_of new.slots) key (option_map cell_of slot)
changes-updates old new key slot updates = record {
  here = cells_of-at new.slots key ∙ ap (option_map cell_of) updates.changed;
  others = λ k ne. cells_of-at new.slots k ∙ (ap (option_map cell_of) (updates.others k ne) ∙ sym (cells_of-at old.slots k));
}

pub changes-write : (old : Slab Entry) (key : ℕ) (entry written : Entry) → get old key ≡ Some entry → Changes (nodes_of old.slots) (nodes_of (with_value old key written).slots) key (Some (cell_of written))
changes-write old key entry written at = changes-updates old (with_value old key written) key (Some written) (Updates-with_value old key written (rw at refl))

pub at_node : (old : Slab Entry) (key : ℕ) (entry : Entry) → get old key ≡ Some entry → nodes_of old.slots key ≡ Some (cell_of entry)
at_node old key entry at = cells_of-at old.slots key ∙ ap (option_map cell_of) at

-- a write of one node, through its cell
pub rewrites-write : (old : Slab Entry) (key : ℕ) (f : Cell → Cell) (entry written : Entry) → get old key ≡ Some entry
    → cell_of written ≡ f (cell_of entry) → Rewrites (nodes_of old.slots) (nodes_of (with_value old key written).slots) key f
rewrites-write old key f entry written at same =
    let changes = changes-write old key entry written at in
    record {
      here = changes.here ∙ (ap Some same ∙ ap (option_map f) (sym (at_node old key entry at)));
      others = changes.others;
    }

-- a write that changes nothing of what is seen
pub cells_of-same : (slots : List (Option Entry)) (k : ℕ) (entry written : Entry) → slice_index_or slots k None ≡ Some entry → cell_of written ≡ cell_of entry
    → cells_of (slice_set slots k (Some written)) ≡ cells_of slots
cells_of-same [] k entry written at same = refl
cells_of-same (slot ∷ slots) zero entry written at same = ap (λ c. c ∷ cells_of slots) (ap Some same ∙ sym (ap (option_map cell_of) at))
cells_of-same (slot ∷ slots) (suc k) entry written at same = ap (λ cs. option_map cell_of slot ∷ cs) (cells_of-same slots k entry written at same)

pub on_err : {T E P : Type 0} (r : Result T E) → P → OnErr r P
on_err (Ok x) p = tt
on_err (Err e) p = p

-- what is seen of a node with these children
abbrev pub seen : Entry → List ℕ → Cell
seen entry items = record { serial = entry.serial; parent = named entry.parent entry.above; number = entry.number; kind = kind_of entry.content; children = items }

-- the value that is there, with what is known of it
pub there : {T : Type 0} {P : T → Type 0} (o : Option T) → IsSome o → IfSome o P → (x : T) × (o ≡ Some x) × P x
there None h p = absurd (none_some h)
  where
    none_some : false ≡ true → ⊥
    none_some e = cc
there (Some x) h p = (x, refl, p)

-- a node at a vacant key, and its key among the children of its parent
pub adds-insert : (old mid new : Slab Entry) (parent key place : ℕ) (entry grown made : Entry) → get old parent ≡ Some entry → get old key ≡ None
    → mid ≡ with_value old parent grown → cell_of grown ≡ with_children (cell_of entry) grown.children.items
    → Grows key place entry.children.items grown.children.items → Updates mid new key (Some made)
    → cell_of made ≡ leaf made.serial (named parent entry.serial) (kind_of made.content)
    → Adds (nodes_of old.slots) (nodes_of new.slots) parent key place made.serial (kind_of made.content)
adds-insert old mid new parent key place entry grown made at vacant pushed grown_is grows inserted made_is =
    let first = changes-write old parent entry grown at in
    let second = changes-updates mid new key (Some made) inserted in
    let mid_is : nodes_of mid.slots ≡ nodes_of (with_value old parent grown).slots = ap (λ (s : Slab Entry). nodes_of s.slots) pushed in
    let gone : nodes_of old.slots key ≡ None = cells_of-at old.slots key ∙ ap (option_map cell_of) vacant in
    let apart : parent ≢ key = λ same. none_some (sym gone ∙ (ap (nodes_of old.slots) (sym same) ∙ at_node old parent entry at)) in
    record {
      vacant = gone;
      cell = cell_of entry;
      was = at_node old parent entry at;
      grown = grown.children.items;
      is = second.others parent apart ∙ (ap (λ (n : Nodes). n parent) mid_is ∙ (first.here ∙ ap Some grown_is));
      grows = grows;
      made = second.here ∙ ap Some made_is;
      others = λ k ne other. second.others k ne ∙ (ap (λ (n : Nodes). n k) mid_is ∙ first.others k other);
    }
  where
    none_some : {c : Cell} → None ≡ Some c → ⊥
    none_some e = cc

-- nodes seen as the same list are the same
pub nodes_of-same : (a b : List (Option Entry)) → cells_of a ≡ cells_of b → nodes_of a ≡ nodes_of b
nodes_of-same a b e = ap (λ cs k. slice_index_or cs k None) e

pub some_and : {T : Type 0} (P : T → Type 0) (o : Option T) → IsSomeAnd o P → IsSome o
some_and P None h = absurd h
some_and P (Some x) h = refl

-- the parent of a node has it among its children
pub link-live : (slab : Slab Entry) (next key : ℕ) (entry : Entry) → IsSound (nodes_of slab.slots) next → get slab key ≡ Some entry → key ≢ 0
    → IsSomeAnd (get slab entry.parent) (λ e. IsAmong key e.children.items)
link-live slab next key entry sound at ne =
    let link = sound.linked key (cell_of entry) (at_node slab key entry at) ne in
    go (get slab entry.parent) link.cell (sym (cells_of-at slab.slots entry.parent) ∙ link.at) link.among
  where
    some : {x y : Cell} → Some x ≡ Some y → x ≡ y
    some e = cc

    none_some : {c : Cell} → None ≡ Some c → ⊥
    none_some e = cc

    go : (o : Option Entry) (cell : Cell) → option_map cell_of o ≡ Some cell → IsAmong key cell.children → IsSomeAnd o (λ e. IsAmong key e.children.items)
    go None cell e among = absurd (none_some e)
    go (Some found) cell e among = subst (λ (c : Cell). IsAmong key c.children) (sym (some e)) among

-- a bare node is taken from its parent, then from the slab
pub drops-removed : (old mid new : Slab Entry) (key : ℕ) (entry above cut : Entry) → get old key ≡ Some entry → entry.children.items ≡ [] → get old entry.parent ≡ Some above
    → mid ≡ with_value old entry.parent cut → cell_of cut ≡ with_children (cell_of above) cut.children.items → Cuts key above.children.items cut.children.items → Updates mid new key None
    → Drops (nodes_of old.slots) (nodes_of new.slots) key
drops-removed old mid new key entry above cut at bare holder written cut_is cuts removed =
    let first = changes-write old entry.parent above cut holder in
    let second = changes-updates mid new key None removed in
    let mid_is : nodes_of mid.slots ≡ nodes_of (with_value old entry.parent cut).slots = ap (λ (s : Slab Entry). nodes_of s.slots) written in
    let apart : entry.parent ≢ key = λ same. no_middle cuts.front cuts.back (sym cuts.was ∙ (ap (λ (e : Entry). e.children.items) (some (sym holder ∙ (ap (get old) same ∙ at))) ∙ bare)) in
    record {
      cell = cell_of entry;
      was = at_node old key entry at;
      bare = bare;
      above = cell_of above;
      holder = at_node old entry.parent above holder;
      front = cuts.front;
      back = cuts.back;
      children = cuts.was;
      now = second.others entry.parent apart ∙ (ap (λ (n : Nodes). n entry.parent) mid_is ∙ (first.here ∙ (ap Some cut_is ∙ ap (λ c. Some (with_children (cell_of above) c)) cuts.now)));
      gone = second.here;
      others = λ k ne other. second.others k ne ∙ (ap (λ (n : Nodes). n k) mid_is ∙ first.others k other);
    }
  where
    some : {x y : Entry} → Some x ≡ Some y → x ≡ y
    some e = cc

    no_middle : (xs ys : List ℕ) → xs ++ (key ∷ ys) ≡ [] → ⊥
    no_middle [] ys e = cc
    no_middle (x ∷ xs) ys e = cc

-- what is seen of a node of this kind
abbrev pub seen_kind : Entry → Kind → Cell
seen_kind entry kind = record { serial = entry.serial; parent = named entry.parent entry.above; number = entry.number; kind = kind; children = entry.children.items }
