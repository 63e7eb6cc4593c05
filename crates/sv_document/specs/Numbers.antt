-- The printed numbers of nodes: each keeps its own as long as its mark is on the page, and none gets one that was given before.
use Rattle.std.specs.Prelude.{◌≡◌, ℕ, ◌+◌, List, [], ◌∷◌, Option, Some, None, refl}
use Rattle.std.specs.BTreeMap.{insert_entry, is_at}
use Rattle.std.specs.Coded.{Coded, code_by, coded×, coded_ℕ, coded_list}
use Rattle.std.specs.Map.{lookup}
use Rattle.std.specs.Ordering.{nat_cmp}
use Rattle.sv_document.specs.Marks.{marks}
use Rattle.sv_document.specs.declared.tree.Node.{Node}

-- by ascending mark the numbers of nodes, and the number that the next one gets
pub record Numbers : Type 0 where
  pub given : List (ℕ × ℕ)
  pub next : ℕ

abbrev pub numbers_code : Coded Numbers
numbers_code =
    code_by (List (ℕ × ℕ) × ℕ) (coded× (coded_list (coded× coded_ℕ coded_ℕ)) coded_ℕ) (λ n. (n.given, n.next)) (λ p. record { given = p.0; next = p.1 }) (λ _. refl)

-- nothing is numbered yet
abbrev pub unnumbered : Numbers
unnumbered = record { given = []; next = 1 }

-- the number of a node by its mark, if it has one
abbrev pub number_of : Numbers → ℕ → Option ℕ
number_of numbers mark = lookup (is_at (nat_cmp mark)) numbers.given

-- a node gets the number that it had, or the next one
abbrev pub given : Option ℕ → ℕ → Numbers → Numbers
given (Some number) mark numbers = record numbers { given = insert_entry nat_cmp numbers.given mark number }
given None mark numbers = record { given = insert_entry nat_cmp numbers.given mark numbers.next; next = numbers.next + 1 }

-- the nodes with these marks keep the numbers that they had, or get the next ones
abbrev pub taken_over : Numbers → List ℕ → Numbers → Numbers
taken_over old [] numbers = numbers
taken_over old (mark ∷ marks) numbers = taken_over old marks (given (number_of old mark) mark numbers)

-- the numbers that were given are given no more, and nothing has one
abbrev pub emptied : Numbers → Numbers
emptied numbers = record numbers { given = [] }

-- the nodes of a page are numbered
abbrev pub numbered : List Node → Numbers → Numbers
numbered nodes old = taken_over old (marks nodes) (emptied old)
