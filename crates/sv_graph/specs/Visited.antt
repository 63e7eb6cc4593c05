-- What comes of visiting points.
use Rattle.std.specs.Prelude.{ℕ, List, []}
use Rattle.std.specs.List.{range_with_len}
use Rattle.sv_graph.specs.Links.{links_of, IsLink}
use Rattle.sv_graph.specs.Visits.{Visits}
use Rattle.sv_graph.specs.Cycle.{IsFirstCycle}
use Rattle.sv_graph.specs.declared.outcome.Visited.{Visited}
use Rattle.sv_graph.specs.declared.outcome.Visited.TheVariants.{Order, Cycle}

-- the order in which visits of the first points place all, or the first cycle, in which each point has a link from the next
abbrev pub IsVisited : List (List ℕ) → ℕ → Visited → Type 0
IsVisited links count (Order order) = Visits (links_of links) [] (range_with_len 0 count) order.items
IsVisited links count (Cycle cycle) = IsFirstCycle (λ p q. IsLink links q p) cycle.items
