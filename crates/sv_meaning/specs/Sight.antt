-- What code sees of the world: the cells and constants of its owner, and the constants of the module files. A pure evaluation sees those of
-- a view in their place, and changes nothing.
use Rattle.std.specs.Prelude.{ℕ, nat_eq, Bool, true, false, is_some, ◌||◌, List, [], Option, Some, None, option_map, if◌then◌else◌}
use Rattle.sv_base.specs.declared.span.Span.{Span}
use Rattle.sv_code.specs.declared.known.Known.{Known}
use Rattle.sv_code.specs.declared.known.Known.TheVariants as known
use Rattle.sv_code.specs.declared.functions.TheConstants.{WRITABLE}
use Rattle.sv_code.specs.declared.parts.Arrows.{Arrows}
use Rattle.sv_code.specs.declared.program.Program.{Program}
use Rattle.sv_code.specs.Within.{is_among}
use Rattle.sv_ops.specs.Answer.{function_made}
use Rattle.sv_ops.specs.declared.faults.FaultKind.TheVariants.{UseBeforeInit}
use Rattle.sv_states.specs.States.{live, cell_in}
use Rattle.sv_states.specs.Assignment as states
use Rattle.sv_states.specs.Refusal.{assign_refusal}
use Rattle.sv_value.specs.Value.{Val, undefined}
use Rattle.sv_view.specs.Constants.{constant_at, module_constant_at}
use Rattle.sv_view.specs.Level.{View}
use Rattle.sv_view.specs.View.{look as look_in}
use Rattle.sv_view.specs.declared.view.At.TheVariants as at
use Rattle.sv_world.specs.Setup.{constant_in}
use Rattle.sv_world.specs.declared.world.World.{World}
use Rattle.sv_meaning.specs.Calls.{Caller}
use Rattle.sv_meaning.specs.Env.{look, given_value}
use Rattle.sv_meaning.specs.Outcome.{Ends, Deed, Done, Failed, Meaning, and_then, then_do, kept, doing, given, answered}
use Rattle.sv_meaning.specs.Refused.{unless}
use Rattle.sv_meaning.specs.Settling.{settled}

-- what stays the same while the body of a function runs: the program; of a pure evaluation the view, and the arrows that are written in its
-- part; and whether the code that runs is the part's own
pub record Ground : Type 0 where
  pub program : Program
  pub sight : Option View
  pub arrows : Arrows
  pub is_own : Bool

-- what the body of a function stands on: only an arrow that is written in the part is the part's own code
abbrev pub ground_in : Ground → ℕ → Ground
ground_in g c = record g { is_own = is_among c g.arrows }

-- the value of a cell of a view, which the part's own code sees
abbrev pub view_cell : Bool → View → ℕ → Option Val
view_cell true v n = look_in v (at.Cell n)
view_cell false v n = None

-- the value of a cell of the owner
abbrev pub cell_seen : Option View → Bool → ℕ → ℕ → World → Option Val
cell_seen None is_own owner n w = option_map (λ c. c.value) (cell_in (live w.states owner) n)
cell_seen (Some v) is_own owner n w = view_cell is_own v n

abbrev pub modules_seen : Option View → World → List (List (Option Val))
modules_seen None w = w.modules
modules_seen (Some v) w = v.modules

abbrev pub own_constant : Option View → ℕ → ℕ → World → Option Val
own_constant None owner n w = constant_in (live w.states owner) n
own_constant (Some v) owner n w = constant_at v.own.constants n

-- a constant of the file in which code is written: of a module file, which has no owner, or of the owner
abbrev pub constant_seen : Option View → ℕ → ℕ → ℕ → World → Option Val
constant_seen sight owner file n w = if nat_eq owner 0 then module_constant_at (modules_seen sight w) file n else own_constant sight owner n w

-- whether the owner of a function is still there; a module file always is
abbrev pub is_there : Option View → ℕ → World → Bool
is_there None owner w = nat_eq owner 0 || is_some (live w.states owner)
is_there (Some v) owner w = true

-- the value of a name; what `svelte` gives, `derived` and what is built in have none but where they are called
abbrev pub read : Ground → ℕ → Known → Span → Meaning Val
read g owner (known.Local x) s env w = kept env (given UseBeforeInit s (look x.0 env) w)
read g owner (known.Cell n) s env w = kept env (given UseBeforeInit s (cell_seen g.sight g.is_own owner n w) w)
read g owner (known.Constant n) s env w = kept env (given UseBeforeInit s (constant_seen g.sight owner s.file n w) w)
read g owner (known.Export file n) s env w = kept env (given UseBeforeInit s (module_constant_at (modules_seen g.sight w) file n) w)
read g owner known.Writable s env w = kept env (answered s (function_made WRITABLE 0 []) w)
read g owner known.Derived s env w = Done undefined env w
read g owner (known.Life l) s env w = Done undefined env w
read g owner (known.BuiltIn b) s env w = Done undefined env w

-- ---- assignments

abbrev pub local_set : Option Val → ℕ → Val → Span → Meaning Val
local_set None x v s env w = Failed UseBeforeInit s w
local_set (Some old) x v s env w = Done v (given_value x v env) w

-- a cell of the owner is assigned, unless something speaks against it; a pure evaluation changes none
abbrev pub cell_assigned : Option View → ℕ → ℕ → Val → Span → Deed Val
cell_assigned None owner n v s w = unless (assign_refusal w.states owner n v) s (λ w'. Ends v (record w' { states = states.assigned w'.states owner n v })) w
cell_assigned (Some view) owner n v s w = Ends v w

abbrev pub cell_put : Option Val → Ground → ℕ → ℕ → Val → Span → Meaning Val
cell_put None g owner n v s env w = Failed UseBeforeInit s w
cell_put (Some old) g owner n v s env w = kept env (cell_assigned g.sight owner n v s w)

-- a name whose declaration ran is assigned a value, which the assignment gives; nothing else can be assigned
abbrev pub put : Ground → ℕ → Known → Val → Span → Meaning Val
put g owner (known.Local x) v s env w = local_set (look x.0 env) x.0 v s env w
put g owner (known.Cell n) v s env w = cell_put (cell_seen g.sight g.is_own owner n w) g owner n v s env w
put g owner _ v s env w = Done v env w

-- whether an assignment may change a store
abbrev pub may_change : Option View → Known → Bool
may_change None (known.Cell n) = true
may_change _ _ = false

-- the same, after which derived stores settle
abbrev pub set : Ground → Caller → ℕ → Known → Val → Span → Meaning Val
set g call owner x v s env w = and_then (put g owner x v s env w) (λ u. doing (λ w'. then_do (if may_change g.sight x then settled call.derives w' else Ends tt w') (λ t. Ends u)))
