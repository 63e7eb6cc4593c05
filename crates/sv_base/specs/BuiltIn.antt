-- What a file may use without declaring it, as texts. The words themselves are constants of the program.
use Rattle.std.specs.Prelude.{ℕ, List, map}
use Rattle.sv_base.specs.declared.built_in.TheConstants.{LIFE_FUNCTIONS, STORE_FUNCTIONS, CONVERSIONS, MATH_FUNCTIONS, LIST_CALLS, VALUE_CALLS}

-- what `svelte` gives: the functions of the life of a component
abbrev pub life_functions : List (List ℕ)
life_functions = map (λ word. word.now) LIFE_FUNCTIONS

-- what `svelte/store` gives
abbrev pub store_functions : List (List ℕ)
store_functions = map (λ word. word.now) STORE_FUNCTIONS

-- `String` and `Boolean`
abbrev pub conversions : List (List ℕ)
conversions = map (λ word. word.now) CONVERSIONS

-- the functions of `Math`
abbrev pub math_functions : List (List ℕ)
math_functions = map (λ word. word.now) MATH_FUNCTIONS

-- the calls on a list that go by a function
abbrev pub list_calls : List (List ℕ)
list_calls = map (λ word. word.now) LIST_CALLS

-- the other calls on a list, and those on a text
abbrev pub value_calls : List (List ℕ)
value_calls = map (λ word. word.now) VALUE_CALLS
