-- Which functions are pure: those from which no chain of calls leads to a stained body. A body is stained where it reads a variable of its
-- component or a store, assigns a name that isn't its own, or has a call that isn't pure even if each function that is known there is.
-- The rule is this project's own: markup is shown anew where a variable that it names has changed, so that what it calls may read no
-- other.
use Rattle.std.specs.Prelude.{◌≡◌, ℕ, ◌||◌, not, Bool, true, List, Option, None, Some, is_some, map, length, slice_get}
use Rattle.std.specs.List.{list_any, filter_map, range_with_len}
use Rattle.sv_ast.specs.declared.files.Bundle.{Bundle}
use Rattle.sv_ast.specs.declared.names.Ref.{Ref}
use Rattle.sv_ast.specs.declared.names.Ref.TheVariants.{Plain, Store}
use Rattle.sv_base.specs.Names.{Table}
use Rattle.sv_effects.specs.declared.functions.Function.{Function}
use Rattle.sv_effects.specs.declared.notes.Sign.{Sign}
use Rattle.sv_effects.specs.declared.notes.Sign.TheVariants.{Reads, Sets, Calls, Hands, Breaks}
use Rattle.sv_effects.specs.declared.top.Top.{Top}
use Rattle.sv_effects.specs.Functions.{functions}
use Rattle.sv_names.specs.NameMap.{Entries, number_of}
use Rattle.sv_effects.specs.Known.{names_without, known, stmts_at}
use Rattle.sv_effects.specs.Top.{top_of, is_variable, is_free_call}
use Rattle.sv_graph.specs.Links.{is_in}

-- a sign stains a body in a file with such a top level, where the function that it calls or hands on is known, or isn't
abbrev pub stains : Table → Top → Bool → Sign → Bool
stains table top is_known (Reads (Store name)) = true
stains table top is_known (Reads (Plain name)) = is_variable top (Plain name)
stains table top is_known (Sets name) = true
stains table top is_known (Calls name) = not (is_known || is_free_call table top name)
stains table top is_known (Hands name) = not is_known
stains table top is_known Breaks = true

-- the function that a sign calls, or hands to a call on a list
abbrev pub called : Entries → Sign → Option ℕ
called names (Calls name) = number_of names name
called names (Hands name) = number_of names name
called names _ = None

-- a sign stains a body where some functions are known
abbrev pub stains_among : Table → Top → Entries → Sign → Bool
stains_among table top names s = stains table top (is_some (called names s)) s

abbrev pub is_stained : Bundle → Function → Bool
is_stained bundle f = list_any (stains_among bundle.names (top_of (stmts_at bundle.files f.file)) (known bundle f.file)) f.signs

-- the functions that a body calls or hands to a call on a list
abbrev pub calls : Bundle → Function → List ℕ
calls bundle f = filter_map (called (known bundle f.file)) f.signs

-- a chain of calls leads from a function to a stained body, which may be its own
pub data LeadsToStain (bundle : Bundle) : ℕ → Type 0 where
  stained : {p : ℕ} (f : Function) → slice_get (functions bundle) p ≡ Some f → is_stained bundle f ≡ true → LeadsToStain bundle p
  calling : {p q : ℕ} (f : Function) → slice_get (functions bundle) p ≡ Some f → is_in q (calls bundle f) ≡ true → LeadsToStain bundle q → LeadsToStain bundle p

-- the pure functions of each file, where those are spoiled from which a chain leads to a stained body
pub record ArePure (bundle : Bundle) (lists : List (List Ref)) : Type 0 where
  pub spoiled : ℕ → Bool
  pub only : (p : ℕ) → spoiled p ≡ true → LeadsToStain bundle p
  pub each : (p : ℕ) → LeadsToStain bundle p → spoiled p ≡ true
  pub is : lists ≡ map (λ file. names_without spoiled (known bundle file)) (range_with_len 0 (length bundle.files))
