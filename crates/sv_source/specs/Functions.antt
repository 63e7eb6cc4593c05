-- The functions that are written in scripts, and what calling one does. They are numbered where their bodies end, so that those inside another come
-- before it.
use Rattle.std.specs.Prelude.{ℕ, zero, suc, List, [], ◌∷◌, ◌++◌, length, map, Option, Some, None, slice_get}
use Rattle.sv_ast.specs.declared.names.Named.{Named}
use Rattle.sv_ast.specs.declared.names.Ref.{Ref}
use Rattle.sv_base.specs.declared.names.Name.{Name}
use Rattle.sv_base.specs.declared.span.Span.{Span}
use Rattle.sv_lower.specs.Does.{Does, followed, within}
use Rattle.sv_lower.specs.Tops.{Tops}
use Rattle.sv_meaning.specs.Calls.{Caller, first, second, make_store}
use Rattle.sv_meaning.specs.Env.{Env, bound, opened, params, numbers}
use Rattle.sv_meaning.specs.Functions.{Teller, Mode, dispatch, if_there, returned}
use Rattle.sv_meaning.specs.Outcome.{Ends, Fails, Deed, Meaning, Flow, then_do, left}
use Rattle.sv_meaning.specs.Sight.{Ground, ground_in, is_there}
use Rattle.sv_names.specs.Locals.{name_of, locals_among}
use Rattle.sv_names.specs.Uses.{Parts, scope_of, free_in}
use Rattle.sv_ops.specs.declared.faults.FaultKind.TheVariants.{CallDepth}
use Rattle.sv_value.specs.Value.{Val, Vals, undefined, items}

-- what depends on where code runs, on the calls that it makes, and on its owner
abbrev pub Acts : Type 0 → Type 0
Acts A = Ground → Caller → (owner : ℕ) → A

-- what a function does where its names are open: it gives the value of an expression, or runs statements; or it tells of events, or makes a store
pub data Body : Type 0 where
  Gives : Acts (Meaning Val) → Body
  Runs : Acts (Meaning Flow) → Body
  Tells : Body
  Makes : Body

-- a function: its parameters, the locals that it takes along when it is made, the names that its body declares, and its body
pub record Fun : Type 0 where
  pub params : List Named
  pub takes : List Name
  pub declares : List Name
  pub body : Body

-- what is found in a part of a script, where functions stand behind those before it
abbrev pub Finds : Type 0 → Type 0
Finds = Does Tops (List Fun)

-- ---- functions by number

-- a function takes along what stands free in it and is declared by the scopes around
abbrev pub function : List Named → Parts → List Ref → Body → Fun
function params parts locals body = record {
  params = params;
  takes = locals_among locals (free_in params parts);
  declares = map name_of (scope_of [] parts);
  body = body;
}

-- a function that dispatches events, and `writable`
abbrev pub teller : Fun
teller = record { params = []; takes = []; declares = []; body = Tells }

abbrev pub writable : Fun
writable = record { params = []; takes = []; declares = []; body = Makes }

-- a function with its number, behind those before it
abbrev pub put : Fun → List Fun → (ℕ × Fun) × List Fun
put f before = ((length before, f), before ++ f ∷ [])

-- the same, behind those in its body
abbrev pub numbered : List Named → Parts → Finds Body → Finds (ℕ × Fun)
numbered params parts body tops locals = followed (within (scope_of params parts) body) (λ b. put (function params parts locals b)) tops locals

-- ---- calls

-- the names that are open in a function's body: what it took along, its parameters, and what it declares
abbrev pub env_of : Fun → List Val → List Val → Env
env_of f held args = bound (numbers f.takes) held ++ (bound (params f.params) args ++ opened f.declares)

abbrev pub entered : Body → Teller → Ground → Caller → ℕ → Env → List Val → Span → Deed Val
entered (Gives m) tell g call o env args s w = left (m g call o env w)
entered (Runs m) tell g call o env args s w = then_do (left (m g call o env w)) (λ f. Ends (returned f))
entered Tells tell g call o env args s w = dispatch (tell call o) s (first args) (second args) w
entered Makes tell g call o env args s w = make_store (first args) w

-- a number that no function has gives undefined
abbrev pub found : Option Fun → Teller → Ground → Caller → ℕ → List Val → List Val → Span → Deed Val
found None tell g call o held args s w = Ends undefined w
found (Some f) tell g call o held args s w = entered f.body tell g call o (env_of f held args) args s w

module _ (functions : List Fun) (mode : Mode) where
  -- a call of a function by its number, where so many more may be open
  abbrev pub called_within : Ground → ℕ → (code owner : ℕ) → Vals → List Val → Span → Deed Val
  called_within g zero c o held args s w = if_there (is_there g.sight o w) s (Fails CallDepth s) w
  called_within g (suc room) c o held args s w =
      let inside : Caller = record { calls = called_within (ground_in g c) room; derives = mode.derives room } in
      if_there (is_there g.sight o w) s (found (slice_get functions c) mode.tells (ground_in g c) inside o (items held) args s) w

  -- what a script does beyond its own where so many calls may be open
  abbrev pub caller : Ground → ℕ → Caller
  caller g room = record { calls = called_within g room; derives = mode.derives room }
