-- Variables that follow inputs (Svelte 4 docs, 'bind:property' on elements): `bind:value` hears of `input`, `bind:checked` of `change`, each on
-- the target alone, and where the event says what to assign.
use Rattle.std.specs.Prelude.{ℕ, Bool, ◌&&◌, List, [], codes, Option, Some, None, if◌then◌else◌}
use Rattle.std.specs.Str.{bytes_eq}
use Rattle.sv_code.specs.declared.program.Program.{Program}
use Rattle.sv_document.specs.Shown.{is_number_kind}
use Rattle.sv_document.specs.declared.listener.Binding.{Binding}
use Rattle.sv_input.specs.Delivery.{Delivery}
use Rattle.sv_input.specs.Number.{number_or_null}
use Rattle.sv_meaning.specs.Outcome.{Ends, Deed, then_do, left, answered}
use Rattle.sv_meaning.specs.Runs.{world_ground, calls}
use Rattle.sv_meaning.specs.Sight.{set}
use Rattle.sv_ops.specs.Answer.{Answer, gives, text_made}
use Rattle.sv_value.specs.Value.{Val, boolean}

-- the variable of a binding of an instance is assigned a value, and derived stores settle
abbrev pub assigned : Program → ℕ → Binding → Val → Deed (Unit {0})
assigned p inst b v w = then_do (left (set (world_ground p) (calls p) inst b.target v b.span [] w)) (λ u. Ends tt)

-- what a typed text is as a value: for an input of numbers the number or `null`, else the text, where it isn't too large
abbrev pub typed_value : Bool → List ℕ → Answer
typed_value numbers t = if numbers then gives (number_or_null t) else text_made t

-- what an event of this name carries to the target's own directive
abbrev pub carried : {A : Type 0} → List ℕ → Delivery → (here : Bool) → Option A → Option A
carried name d here field = if here && bytes_eq d.event.name name then field else None

abbrev pub value_bound : Delivery → ℕ → Binding → Option (List ℕ) → Deed (Unit {0})
value_bound d inst b None w = Ends tt w
value_bound d inst b (Some t) w = then_do (answered b.span (typed_value (is_number_kind d.target) t) w) (assigned d.program inst b)

abbrev pub check_bound : Delivery → ℕ → Binding → Option Bool → Deed (Unit {0})
check_bound d inst b None w = Ends tt w
check_bound d inst b (Some c) w = assigned d.program inst b (boolean c) w

-- `bind:value`
abbrev pub value_told : Delivery → (here : Bool) → ℕ → Binding → Deed (Unit {0})
value_told d here inst b = value_bound d inst b (carried (codes "input") d here d.event.value)

-- `bind:checked`
abbrev pub check_told : Delivery → (here : Bool) → ℕ → Binding → Deed (Unit {0})
check_told d here inst b = check_bound d inst b (carried (codes "change") d here d.event.checked)
