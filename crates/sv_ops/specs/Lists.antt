-- The calls on lists that take no function (ECMA-262, section 23.1.3).
use Rattle.std.specs.Prelude.{ℕ, suc, ◌+◌, ◌-◌, ℤ, pos, negsuc, min, true, false, List, [], ◌∷◌, ◌++◌, length, map, take, drop, Option, None, Some, codes}
use Rattle.sv_value.specs.Value.{Val, undefined, null, boolean, number, text, list, vals, items}
use Rattle.sv_ops.specs.declared.faults.FaultKind.TheVariants.{NotANumber, CompareObjects}
use Rattle.sv_ops.specs.Answer.{Answer, Gives, Refuses, made, spelled, texted}
use Rattle.sv_ops.specs.Compare.{Equality, Tells, Cannot, equality}
use Rattle.sv_ops.specs.Texts.{texts_of, with_texts, between}

-- where a value first stands in a list, what the search costs, or that it can't be told
pub data Search : Type 0 where
  Found : (cost : ℕ) → Option ℕ → Search
  Lost : Search

abbrev pub searched_on : Equality → (n cost : ℕ) → (ℕ → Search) → Search
searched_on (Tells more true) n cost rest = Found (cost + more) (Some n)
searched_on (Tells more false) n cost rest = rest (cost + more)
searched_on Cannot n cost rest = Lost

-- from an item with a number on, behind those before it, whose comparing cost so much; the items are the left sides
abbrev pub searched_from : (n cost : ℕ) → List Val → Val → Search
searched_from n cost [] v = Found cost None
searched_from n cost (x ∷ xs) v = searched_on (equality x v) n cost (λ c. searched_from (suc n) c xs v)

abbrev pub searched : List Val → Val → Search
searched xs v = searched_from 0 0 xs v

abbrev pub included : Search → Answer
included (Found cost None) = Gives cost (boolean false)
included (Found cost (Some n)) = Gives cost (boolean true)
included Lost = Refuses CompareObjects

abbrev pub includes : List Val → Val → Answer
includes xs v = included (searched xs v)

abbrev pub indexed : Search → Answer
indexed (Found cost None) = Gives cost (number (negsuc 0))
indexed (Found cost (Some n)) = Gives cost (number (pos n))
indexed Lost = Refuses CompareObjects

abbrev pub index_of : List Val → Val → Answer
index_of xs v = indexed (searched xs v)

-- a place in a list of so many items, a negative one from the end on, held within the list
abbrev pub place_in : ℕ → ℤ → ℕ
place_in n (pos k) = min k n
place_in n (negsuc k) = n - suc k

-- a new list costs its items
abbrev pub list_of : List Val → Answer
list_of vs = made (length vs) (list (vals vs))

-- the items from a place up to another
abbrev pub cut : List Val → ℕ → ℕ → Answer
cut xs from to = list_of (take (to - from) (drop from xs))

-- where a slice ends: at the end of the list where nothing is given
abbrev pub slice_to : List Val → ℕ → Val → Answer
slice_to xs from undefined = cut xs from (length xs)
slice_to xs from (number n) = cut xs from (place_in (length xs) n)
slice_to xs from _ = Refuses NotANumber

abbrev pub slice : List Val → Val → Val → Answer
slice xs (number n) to = slice_to xs (place_in (length xs) n) to
slice xs _ to = Refuses NotANumber

-- the items of a list behind those of another, or one value behind them
abbrev pub concat : List Val → Val → Answer
concat xs (list ys) = list_of (xs ++ items ys)
concat xs v = list_of (xs ++ v ∷ [])

-- an item as `join` writes it: nothing for `null` and `undefined`
abbrev pub joined_item : Val → Val
joined_item undefined = text []
joined_item null = text []
joined_item v = v

-- what stands between the items: a comma where nothing is given
abbrev pub separator : Val → Val
separator undefined = text (codes ",")
separator v = v

abbrev pub join : List Val → Val → Answer
join xs v = with_texts (texts_of (map joined_item xs)) (λ texts. texted (separator v) (λ t. spelled 0 (between t texts)))
