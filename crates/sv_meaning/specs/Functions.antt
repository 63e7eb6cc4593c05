-- What the call of a function does.
use Rattle.std.specs.Prelude.{ℕ, zero, suc, Bool, true, false, List, [], ◌∷◌, ◌++◌, Option, Some, None, slice_get, codes}
use Rattle.sv_base.specs.declared.span.Span.{Span}
use Rattle.sv_code.specs.declared.functions.Function.{Function}
use Rattle.sv_code.specs.declared.functions.FunctionBody.{FunctionBody}
use Rattle.sv_code.specs.declared.functions.FunctionBody.TheVariants as body
use Rattle.sv_ops.specs.Answer.{object_made}
use Rattle.sv_ops.specs.declared.faults.FaultKind.TheVariants.{NotText, Dead, CallDepth}
use Rattle.sv_value.specs.Value.{Val, Vals, undefined, null, boolean, text, items}
use Rattle.sv_meaning.specs.Calls.{Caller, first, second, make_store}
use Rattle.sv_meaning.specs.Env.{Env, bound, opened, params, numbers}
use Rattle.sv_meaning.specs.Outcome.{Ends, Fails, Deed, Flow, Returned, then_do, left, answered}
use Rattle.sv_meaning.specs.Settling.{Derives}
use Rattle.sv_meaning.specs.Sight.{Ground, ground_in, is_there}
use Rattle.sv_meaning.specs.Values.{value}
use Rattle.sv_meaning.specs.Statements.{run_all}

-- telling the listeners of an instance's tag of an event by its name, where calls go on
abbrev pub Teller : Type 0
Teller = Caller → (instance : ℕ) → List ℕ → Val → Deed (Unit {0})

-- how code runs: who hears of its events, and what derived stores come to where so many calls may be open
pub record Mode : Type 0 where
  pub tells : Teller
  pub derives : (room : ℕ) → Derives

-- a pure evaluation tells nobody, and computes no store
abbrev pub silent : Mode
silent = record { tells = λ call i name e. Ends tt; derives = λ room owner r. Ends undefined }

abbrev pub returned : Flow → Val
returned (Returned v) = v
returned _ = undefined

-- an absent detail is `null`
abbrev pub detail : Val → Val
detail undefined = null
detail v = v

-- a dispatcher that is called with the name of an event and a detail; what can't be told stands at the place of the call
abbrev pub event_fields : List ℕ → Val → List (List ℕ × Val)
event_fields name d = (codes "type", text name) ∷ ((codes "detail", detail d) ∷ [])

abbrev pub dispatched : (Val → Deed (Unit {0})) → Span → List ℕ → Val → Deed Val
dispatched tell s name d w = then_do (answered s (object_made (event_fields name d)) w) (λ e w'. then_do (tell e w') (λ u. Ends (boolean true)))

abbrev pub dispatch : (List ℕ → Val → Deed (Unit {0})) → Span → Val → Val → Deed Val
dispatch tell s (text name) d w = dispatched (tell name) s name d w
dispatch tell s _ d w = Fails NotText s w

-- the names that are open in a function's body: what it took along, its parameters, and what it declares
abbrev pub env_of : Function → List Val → List Val → Env
env_of f held args = bound (numbers f.captured) held ++ (bound (params f.params) args ++ opened f.declares)

abbrev pub entered : FunctionBody → Teller → Ground → Caller → ℕ → Env → List Val → Span → Deed Val
entered (body.Value e) tell g call o env args s w = left (value g call o e env w)
entered (body.Block stmts) tell g call o env args s w = then_do (left (run_all g call o stmts env w)) (λ f. Ends (returned f))
entered body.Dispatch tell g call o env args s w = dispatch (tell call o) s (first args) (second args) w
entered body.Writable tell g call o env args s w = make_store (first args) w

-- a code that the program hasn't gives undefined
abbrev pub found : Option Function → Teller → Ground → Caller → ℕ → List Val → List Val → Span → Deed Val
found None tell g call o held args s w = Ends undefined w
found (Some f) tell g call o held args s w = entered f.body tell g call o (env_of f held args) args s w

-- what happens where the owner is still there; the functions of an instance that is gone are dead
abbrev pub if_there : Bool → Span → Deed Val → Deed Val
if_there true s deed w = deed w
if_there false s deed w = Fails Dead s w

-- a call where so many more may be open
abbrev pub called_within : Mode → Ground → ℕ → (code owner : ℕ) → Vals → List Val → Span → Deed Val
called_within mode g zero c o held args s w = if_there (is_there g.sight o w) s (Fails CallDepth s) w
called_within mode g (suc room) c o held args s w =
    let inside : Caller = record { calls = called_within mode (ground_in g c) room; derives = mode.derives room } in
    if_there (is_there g.sight o w) s (found (slice_get g.program.functions c) mode.tells (ground_in g c) inside o (items held) args s) w

-- what code does beyond its own where so many calls may be open
abbrev pub caller : Mode → Ground → ℕ → Caller
caller mode g room = record { calls = called_within mode g room; derives = mode.derives room }
