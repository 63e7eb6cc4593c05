-- Slot props, and the views on which content is shown.
use Rattle.std.specs.Prelude.{ℕ, nat_eq, List, [], ◌∷◌, Option, Some, None, Ok, is_none, unwrap_or, if◌then◌else◌}
use Rattle.sv_base.specs.declared.names.Name.{Name}
use Rattle.sv_code.specs.declared.fragments.FragAttr.{FragAttr}
use Rattle.sv_code.specs.declared.fragments.LetName.{LetName}
use Rattle.sv_code.specs.declared.program.Program.{Program}
use Rattle.sv_parts.specs.Sides.{Sides}
use Rattle.sv_parts.specs.State.{Run, andThen, numbered, each, one}
use Rattle.sv_parts.specs.Tags.{passed_name, passed_value}
use Rattle.sv_shapes.specs.declared.shape.SlotProp.{SlotProp}
use Rattle.sv_value.specs.Value.{Val, undefined}
use Rattle.sv_view.specs.Level.{View}
use Rattle.sv_view.specs.View.{with_local, owner_of}

-- ---- props

-- the prop of a name
abbrev pub prop_named : Name → List SlotProp → Option SlotProp
prop_named name [] = None
prop_named name (prop ∷ props) = if nat_eq prop.name.0 name.0 then Some prop else prop_named name props

-- a prop that was evaluated takes a number
abbrev pub prop_anew : Name → List (List ℕ) → Val → Run SlotProp
prop_anew name texts v s = andThen (numbered s) (λ n u. Ok (record { name = name; value = v; number = n; texts = texts }, u))

-- a prop that there was stays as it is where nothing of it was evaluated
abbrev pub prop_by : Name → Option SlotProp → List (List ℕ) → Option Val → Run SlotProp
prop_by name (Some old) texts None s = Ok (old, s)
prop_by name (Some old) texts (Some v) s = prop_anew name texts v s
prop_by name None texts None s = prop_anew name texts undefined s
prop_by name None texts (Some v) s = prop_anew name texts v s

-- the texts that are kept of a prop
abbrev pub texts_of : Option SlotProp → List (List ℕ)
texts_of None = []
texts_of (Some old) = old.texts

abbrev pub prop_step : Program → FragAttr → Name → Option SlotProp → Sides → Run SlotProp
prop_step p a name old at s = andThen (passed_value p a (texts_of old) (is_none old) at s) (λ v u. prop_by name old v.texts v.value u)

abbrev pub props_of : Program → FragAttr → Option Name → List SlotProp → Sides → Run (List SlotProp)
props_of p a None olds at s = Ok ([], s)
props_of p a (Some name) olds at s = one (prop_step p a name (prop_named name olds) at s)

-- the props of a slot, of which there were some
abbrev pub props_step : Program → List FragAttr → List SlotProp → Sides → Run (List SlotProp)
props_step p attrs olds at s = each (λ a i u. props_of p a (passed_name a) olds at u) 0 attrs s

-- ---- content

-- a name of content; one for which there is no prop is `undefined` and never moves
abbrev pub let_by : LetName → Option SlotProp → View → View
let_by name None v = with_local v name.local.0 undefined 0
let_by name (Some prop) v = with_local v name.local.0 prop.value prop.number

abbrev pub with_lets : List LetName → List SlotProp → View → View
with_lets [] props v = v
with_lets (name ∷ lets) props v = with_lets lets props (let_by name (prop_named name.prop props) v)

-- the view of the owner, or the same one where there is none
abbrev pub outer : View → View
outer v = unwrap_or (owner_of v) v

-- the view on which content is shown: the owner's, with slot props under the names that it has for them
unfoldable pub content_view : List LetName → List SlotProp → View → View
content_view lets props v = with_lets lets props (outer v)

-- the two views of content, with the old props and the present ones
abbrev pub content_sides : List LetName → List SlotProp → List SlotProp → Sides → Sides
content_sides lets olds props at = record { old = content_view lets olds at.old; new = content_view lets props at.new }
