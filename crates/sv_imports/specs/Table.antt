-- A table that tells of points where they lead.
use Rattle.std.specs.Prelude.{◌≡◌, ℕ, ◌<◌, Bool, true, false, List, [], ◌∷◌, length, slice_get, Vec}
use Rattle.std.specs.Option.{option_map_or}
use Rattle.std.specs.declared.alloc.Global.{Global}
use Rattle.sv_graph.specs.Links.{links_of}
use Rattle.sv_graph.specs.Reached.{Leads}

abbrev pub leads_in : List (Vec Bool Global) → ℕ → ℕ → Bool
leads_in table p q = option_map_or (λ row. option_map_or (λ is_reached. is_reached) (slice_get row.items q) false) (slice_get table p) false

-- the rows of the first points are there, and tell where these lead
pub record IsTable (links : List (List ℕ)) (count : ℕ) (table : List (Vec Bool Global)) : Type 0 where
  pub size : length table ≡ count
  pub only : (p q : ℕ) → p < count → leads_in table p q ≡ true → Leads (links_of links) (p ∷ []) q
  pub each : (p q : ℕ) → p < count → Leads (links_of links) (p ∷ []) q → leads_in table p q ≡ true
