-- Each blocks: their lists, and the rows to come.
use Rattle.std.specs.Prelude.{ℕ, nat_le, pos, List, [], ◌∷◌, ◌++◌, map, length, Option, Some, None, Ok, Err, is_some, unwrap_or, option_copied, slice_get, if◌then◌else◌}
use Rattle.sv_base.specs.declared.names.Name.{Name}
use Rattle.sv_code.specs.declared.parts.Part.{Part}
use Rattle.sv_code.specs.declared.program.Program.{Program}
use Rattle.sv_keyed.specs.Keys.{first_repeat, place_of}
use Rattle.sv_ops.specs.declared.faults.FaultKind.TheVariants.{NotAList, BadKey}
use Rattle.sv_parts.specs.Parts.{evaluated, faulted}
use Rattle.sv_parts.specs.Sides.{Sides, moved}
use Rattle.sv_parts.specs.State.{Run, andThen, numbered, spent, destroyed, each, one}
use Rattle.sv_plan.specs.declared.lists.EachBlock as block
use Rattle.sv_plan.specs.declared.lists.Entry.{Entry}
use Rattle.sv_plan.specs.declared.lists.Listing.{Listing}
use Rattle.sv_parts.specs.declared.refusal.Refusal.TheVariants.{Duplicate}
use Rattle.sv_shapes.specs.declared.shape.Row.{Row}
use Rattle.sv_shapes.specs.declared.shape.Shape.{Shape}
use Rattle.sv_value.specs.Key.{key_of}
use Rattle.sv_value.specs.Value.{Val, undefined, number, list, items}
use Rattle.sv_value.specs.declared.key.Key.{Key}
use Rattle.sv_value.specs.declared.key.Key.TheVariants.{Num}
use Rattle.sv_view.specs.Level.{View}
use Rattle.sv_view.specs.View.{with_local}

-- the head of an each block: its list, the names of a row, and its key
pub record Head : Type 0 where
  pub list : Part
  pub item : Name
  pub index : Option Name
  pub key : Option Part

-- the head of a block that code is handed
abbrev pub head_of : block.EachBlock → Head
head_of b = record { list = b.list.now; item = b.item; index = b.index; key = option_copied b.key }

-- ---- the view of a row

-- the number of a row as a value, where there is such a number
abbrev pub index_value : ℕ → Val
index_value i = if nat_le i 9007199254740991 then number (pos i) else undefined

abbrev pub with_index : Option Name → ℕ → ℕ → View → View
with_index None n i v = v
with_index (Some name) n i v = with_local v name.0 (index_value i) n

-- the view of a row of the list with a number: its item, and inside it its own number
abbrev pub row_view : Head → ℕ → ℕ → Val → View → View
row_view h n i item v = with_index h.index n i (with_local v h.item.0 item n)

-- ---- keys

-- a key that is there
abbrev pub key_or : Part → Option Key → Run Key
key_or part None s = faulted BadKey part
key_or part (Some key) s = Ok (key, s)

-- the key of a row: that of its expression, or else its number
abbrev pub row_key : Program → Head → Option Part → Sides → ℕ → ℕ → Val → Run Key
row_key p h None at n i item s = Ok (Num (pos i), s)
row_key p h (Some part) at n i item s = andThen (evaluated p part (record at { new = row_view h n i item at.new }) s) (λ v u. key_or part (key_of v) u)

abbrev pub entry_step : Program → Head → Sides → ℕ → ℕ → Val → Run Entry
entry_step p h at n i item s = andThen (row_key p h h.key at n i item s) (λ key u. Ok (record { key = key; item = item }, u))

-- the rows to come of a list with a number
abbrev pub entries_step : Program → Head → Sides → ℕ → List Val → Run (List Entry)
entries_step p h at n vs s = each (λ item i u. one (entry_step p h at n i item u)) 0 vs s

abbrev pub keys_of : List Entry → List Key
keys_of entries = map (λ e. e.key) entries

abbrev pub row_keys : List Row → List Key
row_keys rows = map (λ r. r.key) rows

-- a key that stands twice is refused
abbrev pub refuse : Part → Option Key → Run (Unit {0})
refuse part None s = Ok (tt, s)
refuse part (Some key) s = Err (Duplicate part.span key)

abbrev pub once : Option Part → List Entry → Run (Unit {0})
once None entries s = Ok (tt, s)
once (Some part) entries s = refuse part (first_repeat (keys_of entries)) s

-- ---- lists

-- the items of a list
abbrev pub items_in : Val → Option (List Val)
items_in (list vs) = Some (items vs)
items_in _ = None

abbrev pub items_or : Part → Option (List Val) → Run (List Val)
items_or part None s = faulted NotAList part
items_or part (Some vs) s = Ok (vs, s)

-- the rows to come of a list: each takes a unit of work, then come the keys, and none of them twice
abbrev pub listing_of : Program → Head → Sides → List Val → Run Listing
listing_of p h at vs s =
    andThen (spent (length vs) s) (λ _ s1. andThen (numbered s1) (λ n s2. andThen (entries_step p h at n vs s2) (λ entries s3. andThen (once h.key entries s3) (λ _ s4. Ok (record { number = n; entries = entries }, s4)))))

-- the list evaluated
abbrev pub enumerated : Program → Head → Sides → Run Listing
enumerated p h at s = andThen (evaluated p h.list at s) (λ v u. andThen (items_or h.list (items_in v) u) (listing_of p h at))

-- ---- rows that go

-- what was found for the item with a number
abbrev pub place_at : List (Option ℕ) → ℕ → Option ℕ
place_at places i = unwrap_or (slice_get places i) None

-- what stands in the rows whose keys aren't among some
abbrev pub gone_rows : List Key → List Row → List Shape
gone_rows keys [] = []
gone_rows keys (row ∷ rows) = if is_some (place_of keys row.key) then gone_rows keys rows else row.parts ++ gone_rows keys rows

-- the branch for no rows goes where there are rows
abbrev pub gone_none : List Entry → List Shape → List Shape
gone_none [] none = []
gone_none (e ∷ entries) none = none

abbrev pub gone : List Entry → List Row → List Shape → List Shape
gone entries rows none = gone_rows (keys_of entries) rows ++ gone_none entries none

-- ---- the rows to come, where there were some rows

abbrev pub listed_anew : Program → Head → Sides → List Row → List Shape → Run Listing
listed_anew p h at rows none s = andThen (enumerated p h at s) (λ x u. andThen (destroyed (gone x.entries rows none) u) (λ _ v. Ok (x, v)))

-- a row that stays as it is
abbrev pub entry_of : Row → Entry
entry_of row = record { key = row.key; item = row.item }

-- the list is evaluated where it is new or something of it moved
abbrev pub list_step : Program → Head → Sides → Option ℕ → List Row → List Shape → Run Listing
list_step p h at None rows none s = listed_anew p h at rows none s
list_step p h at (Some n) rows none s = if moved h.list.reads at then listed_anew p h at rows none s else Ok (record { number = n; entries = map entry_of rows }, s)
