-- Stained bodies and callers, as tables tell them.
use Rattle.std.specs.Prelude.{◌≡◌, ℕ, suc, Bool, true, List, [], ◌∷◌, ◌++◌, Some, is_some, length, slice_get, slice_index_or, if◌then◌else◌}
use Rattle.std.specs.List.{filter_map}
use Rattle.sv_ast.specs.declared.files.Bundle.{Bundle}
use Rattle.sv_effects.specs.declared.functions.Function.{Function}
use Rattle.sv_effects.specs.declared.stains.Calls.{Calls as Found}
use Rattle.sv_effects.specs.Functions.{functions}
use Rattle.sv_names.specs.NameMap.{Entries}
use Rattle.sv_effects.specs.Stains.{is_stained, called, calls}
use Rattle.sv_graph.specs.Links.{is_in, links_of}

-- the numbers of those of some functions that pass a test, where the first has a number
abbrev pub points_from : (Function → Bool) → ℕ → List Function → List ℕ
points_from test p [] = []
points_from test p (f ∷ fs) = (if test f then p ∷ [] else []) ++ points_from test (suc p) fs

-- the functions that a body calls, where these are known in the files
abbrev pub calls_in : List Entries → Function → List ℕ
calls_in known f = filter_map (called (slice_index_or known f.file [])) f.signs

-- the functions with stained bodies, and for each function its callers
pub record AreCalls (bundle : Bundle) (found : Found) : Type 0 where
  pub size : length found.callers.items ≡ length (functions bundle)
  pub stained : (p : ℕ) (f : Function) → slice_get (functions bundle) p ≡ Some f → is_in p found.stained.items ≡ is_stained bundle f
  pub stained_within : (p : ℕ) → is_in p found.stained.items ≡ true → is_some (slice_get (functions bundle) p) ≡ true
  pub callers : (p q : ℕ) (f : Function) → slice_get (functions bundle) p ≡ Some f → is_in p (links_of found.callers.items q) ≡ is_in q (calls bundle f)
  pub callers_within : (p q : ℕ) → is_in p (links_of found.callers.items q) ≡ true → is_some (slice_get (functions bundle) p) ≡ true
