-- Calls: of functions, and of the methods of lists, texts, stores, `Math` and `console`.
use Rattle.std.specs.Prelude.{ℕ, suc, Bool, true, false, List, [], ◌∷◌, ◌++◌, length, Option, Some, None, option_map, if◌then◌else◌}
use Rattle.sv_base.specs.declared.span.Span.{Span}
use Rattle.sv_code.specs.declared.known.Method.{Method}
use Rattle.sv_code.specs.declared.known.Method.TheVariants as method
use Rattle.sv_code.specs.declared.program.Program.{Program}
use Rattle.sv_value.specs.Value.{Val, Vals, undefined, function, store}
use Rattle.sv_ops.specs.Answer.{Answer}
use Rattle.sv_ops.specs.Lists as lists
use Rattle.sv_ops.specs.Math as math
use Rattle.sv_ops.specs.Texts as texts
use Rattle.sv_ops.specs.Visits.{Turn, Ends as Stops, Puts, Passes, Holds, turn, arguments, finish}
use Rattle.sv_ops.specs.Members.{or_undefined}
use Rattle.sv_ops.specs.declared.faults.FaultKind.TheVariants.{NotAFunction, NotAStore, NoMember, NotText}
use Rattle.sv_derived.specs.Derived.{Recipe}
use Rattle.sv_states.specs.Assignment.{store_set}
use Rattle.sv_states.specs.Change.{with_store, with_derived}
use Rattle.sv_states.specs.Refusal.{store_refusal}
use Rattle.sv_store.specs.Stores.{Store, value_at}
use Rattle.sv_world.specs.Turn.{logged}
use Rattle.sv_meaning.specs.Outcome.{Ends, Fails, Deed, then_do, given, spent, answered}
use Rattle.sv_meaning.specs.Refused.{unless}
use Rattle.sv_meaning.specs.Settling.{settled, inputs_in, recipe}
use Rattle.sv_meaning.specs.Sources.{source_of}

-- what code does beyond its own: a call of a function's code, owner and captured values with some arguments, whose faults before its body
-- stand at a place; and the value of a derived store of an owner, by its recipe
pub record Caller : Type 0 where
  pub calls : (code owner : ℕ) → Vals → List Val → Span → Deed Val
  pub derives : (owner : ℕ) → Recipe → Deed Val

-- a call of a value
abbrev pub call_value : Caller → Span → Val → List Val → Deed Val
call_value call s (function c o held) args w = call.calls c o held args s w
call_value call s _ args w = Fails NotAFunction s w

-- the first and the second argument; a missing one is undefined
abbrev pub first : List Val → Val
first [] = undefined
first (v ∷ vs) = v

abbrev pub second : List Val → Val
second [] = undefined
second (v ∷ vs) = first vs

abbrev pub is_function : Val → Bool
is_function (function c o held) = true
is_function _ = false

-- ---- calls on lists that take a function

abbrev pub resumed : Span → List Val → Val → Turn → (List Val → Val → Deed Val) → Deed Val
resumed s made held (Stops v) go w = Ends v w
resumed s made held (Puts v) go w = spent 1 s (go (made ++ v ∷ []) held) w
resumed s made held Passes go w = go made held w
resumed s made held (Holds v) go w = go made v w

-- the items from one with a number on, after some were put in the new list, and with a value held
abbrev pub visited : Caller → Method → Span → Val → List Val → Val → ℕ → List Val → Deed Val
visited call m s f made held n [] w = answered s (finish m made held) w
visited call m s f made held n (v ∷ vs) w =
    then_do (call_value call s f (arguments m held v n) w) (λ gave. resumed s made held (turn m gave v n) (λ made' held'. visited call m s f made' held' (suc n) vs))

-- what `reduce` holds first; it wants two arguments
abbrev pub start : Method → List Val → Option Val
start method.Reduce (f ∷ (v ∷ vs)) = Some v
start method.Reduce _ = None
start _ args = Some undefined

abbrev pub visit_from : Option Val → Caller → Method → Span → List Val → Val → Deed Val
visit_from None call m s vs f w = Fails NoMember s w
visit_from (Some held) call m s vs f w = visited call m s f [] held 0 vs w

abbrev pub visit_with : Bool → Caller → Method → Span → List Val → List Val → Deed Val
visit_with false call m s vs args w = Fails NotAFunction s w
visit_with true call m s vs args w = visit_from (start m args) call m s vs (first args) w

abbrev pub visit : Caller → Method → Span → List Val → List Val → Deed Val
visit call m s vs args w = visit_with (is_function (first args)) call m s vs args w

-- ---- calls on stores

-- a store takes the value, unless it is a derived one, which has no such method
abbrev pub store_put : Span → ℕ → Val → Deed (Unit {0})
store_put s id v w = unless (store_refusal w.states id) s (λ w'. Ends tt (record w' { states = store_set w'.states id v })) w

-- the same, after which derived stores settle
abbrev pub set_store : Caller → Span → ℕ → Val → Deed Val
set_store call s id v w = then_do (store_put s id v w) (λ u w'. then_do (settled call.derives w') (λ t. Ends undefined))

abbrev pub update_store : Bool → Caller → Span → ℕ → Val → Deed Val
update_store false call s id f w = Fails NotAFunction s w
update_store true call s id f w = then_do (call_value call s f (or_undefined (value_at w.states.stores id) ∷ []) w) (set_store call s id)

-- a new store gives its number
abbrev pub make_store : Val → Deed Val
make_store v w = Ends (store (length w.states.stores)) (record w { states = with_store w.states v })

-- a new derived store, which is computed at once
abbrev pub make_computed : Caller → ℕ → Recipe → Deed Val
make_computed call owner r w = then_do (call.derives owner r w) (λ v w'. Ends (store (length w'.states.stores)) (record w' { states = with_derived w'.states owner r v }))

-- the recipe that a call of `derived` gives, with a store or a list of stores, and a function
abbrev pub recipe_in : Program → Span → List Val → List Store → Option Recipe
recipe_in p s args stores = option_map (λ i. recipe i (second args) (source_of p (second args) s)) (inputs_in stores (first args))

abbrev pub make_derived : Program → Caller → ℕ → Span → List Val → Deed Val
make_derived p call owner s args w = then_do (given NotAStore s (recipe_in p s args w.states.stores) w) (make_computed call owner)

-- ---- methods

-- which methods lists, texts, stores and `Math` have
abbrev pub is_on_list : Method → Bool
is_on_list method.Map = true
is_on_list method.Filter = true
is_on_list method.Some = true
is_on_list method.Every = true
is_on_list method.Find = true
is_on_list method.FindIndex = true
is_on_list method.ForEach = true
is_on_list method.Reduce = true
is_on_list method.Includes = true
is_on_list method.IndexOf = true
is_on_list method.Slice = true
is_on_list method.Concat = true
is_on_list method.Join = true
is_on_list _ = false

abbrev pub is_on_text : Method → Bool
is_on_text method.Trim = true
is_on_text method.Includes = true
is_on_text method.StartsWith = true
is_on_text method.EndsWith = true
is_on_text method.Split = true
is_on_text _ = false

abbrev pub is_on_store : Method → Bool
is_on_store method.Set = true
is_on_store method.Update = true
is_on_store _ = false

abbrev pub is_of_math : Method → Bool
is_of_math method.Abs = true
is_of_math method.Min = true
is_of_math method.Max = true
is_of_math method.Floor = true
is_of_math method.Trunc = true
is_of_math _ = false

-- which methods of lists take a function
abbrev pub takes_function : Method → Bool
takes_function method.Map = true
takes_function method.Filter = true
takes_function method.Some = true
takes_function method.Every = true
takes_function method.Find = true
takes_function method.FindIndex = true
takes_function method.ForEach = true
takes_function method.Reduce = true
takes_function _ = false

-- what the other methods of a list give
abbrev pub list_answer : Method → List Val → List Val → Answer
list_answer method.Includes vs args = lists.includes vs (first args)
list_answer method.IndexOf vs args = lists.index_of vs (first args)
list_answer method.Slice vs args = lists.slice vs (first args) (second args)
list_answer method.Concat vs args = lists.concat vs (first args)
list_answer _ vs args = lists.join vs (first args)

-- what a method of a list does
abbrev pub on_list : Method → Caller → Span → List Val → List Val → Deed Val
on_list m call s vs args = if takes_function m then visit call m s vs args else (λ w. answered s (list_answer m vs args) w)

-- what a method of a text gives
abbrev pub on_text : Method → List ℕ → List Val → Answer
on_text method.Trim t args = texts.trim t
on_text method.Includes t args = texts.includes t (first args)
on_text method.StartsWith t args = texts.starts t (first args)
on_text method.EndsWith t args = texts.ends t (first args)
on_text _ t args = texts.split t (first args)

-- what a method of a store does
abbrev pub on_store : Method → Caller → Span → ℕ → List Val → Deed Val
on_store method.Set call s id args = set_store call s id (first args)
on_store _ call s id args = update_store (is_function (first args)) call s id (first args)

-- what a method of `Math` gives
abbrev pub of_math : Method → List Val → Answer
of_math method.Abs args = math.absolute (first args)
of_math method.Min args = math.least args
of_math method.Max args = math.greatest args
of_math _ args = math.rounded (first args)

-- ---- `console`

abbrev pub log_line : Span → List ℕ → Deed Val
log_line s line w = spent (length line) s (λ w'. Ends undefined (record w' { turn = logged w'.turn line })) w

abbrev pub log_texts : Span → Option (List (List ℕ)) → Deed Val
log_texts s None w = Fails NotText s w
log_texts s (Some ts) w = log_line s (texts.line_of ts) w

-- `console.log`
abbrev pub log : Span → List Val → Deed Val
log s args w = log_texts s (texts.texts_of args) w
