-- What an element shows is what is printed of it; what numbers nodes get.
use Rattle.std.specs.Prelude.{◌≡◌, ◌≤◌, ◌<◌, ℕ, nat_eq, true, List, Option, Some, None, codes, is_some, count_by}
use Rattle.std.specs.List.{list_any}
use Rattle.std.specs.Str.{bytes_eq}
use Rattle.sv_html.specs.Html.{laid}
use Rattle.sv_document.specs.Element.{Element}
use Rattle.sv_document.specs.Marks.{marks}
use Rattle.sv_document.specs.Numbers.{Numbers, unnumbered, number_of, numbered}
use Rattle.sv_document.specs.Shown.{value_at, text_at, shown_value, is_checked}
use Rattle.sv_document.specs.declared.tree.Node.{Node}

-- The text that an element shows as its value is the one that is printed as its attribute `value`.
abbrev pub IsValuePrinted : Type 0
IsValuePrinted = (e : Element) → shown_value e ≡ text_at (codes "value") (laid e.typed e.attributes)

-- Where an element has no attribute `checked` twice, it shows as checked exactly where the attribute is printed.
abbrev pub IsCheckPrinted : Type 0
IsCheckPrinted = (e : Element) → count_by (λ a. bytes_eq a.name (codes "checked")) e.attributes ≤ 1 → is_checked e ≡ is_some (value_at (codes "checked") (laid e.typed e.attributes))

-- ---- numbers

-- Each number that a mark has was given before the next one, and no two marks have the same.
pub record IsFair (numbers : Numbers) : Type 0 where
  pub given : (mark number : ℕ) → number_of numbers mark ≡ Some number → number < numbers.next
  pub own : (mark other number : ℕ) → number_of numbers mark ≡ Some number → number_of numbers other ≡ Some number → mark ≡ other

-- So it is from the start, and so it stays.
abbrev pub StaysFair : Type 0
StaysFair = IsFair unnumbered × ((numbers : Numbers) (nodes : List Node) → IsFair numbers → IsFair (numbered nodes numbers))

-- The mark of a node that stays keeps its number.
abbrev pub IsNumberKept : Type 0
IsNumberKept =
    (numbers : Numbers) (nodes : List Node) (mark number : ℕ) → number_of numbers mark ≡ Some number → list_any (nat_eq mark) (marks nodes) ≡ true
    → number_of (numbered nodes numbers) mark ≡ Some number

-- The mark of a node without a number gets one that none had.
abbrev pub IsNumberNew : Type 0
IsNumberNew =
    (numbers : Numbers) (nodes : List Node) (mark : ℕ) → number_of numbers mark ≡ None → list_any (nat_eq mark) (marks nodes) ≡ true
    → (number : ℕ) × (number_of (numbered nodes numbers) mark ≡ Some number) × (numbers.next ≤ number)
