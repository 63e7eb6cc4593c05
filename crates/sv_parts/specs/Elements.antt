-- Elements, but for their content.
use Rattle.std.specs.Prelude.{ℕ, List, [], Option, None, Some, Ok}
use Rattle.sv_code.specs.declared.fragments.FragAttr.{FragAttr}
use Rattle.sv_code.specs.declared.program.Program.{Program}
use Rattle.sv_parts.specs.Attributes.{attrs_step, typed_after}
use Rattle.sv_parts.specs.Sides.{Sides}
use Rattle.sv_parts.specs.State.{Run, andThen, numbered}
use Rattle.sv_parts.specs.declared.elements.Opening.{Opening}
use Rattle.sv_shapes.specs.Shapes.{Opened, element_in, typed_in, states_in}
use Rattle.sv_shapes.specs.declared.shape.AttrState.{AttrState}
use Rattle.sv_tokens.specs.declared.element.Typed.{Typed}

-- an element at a new place
abbrev pub opening_anew : Program → List FragAttr → Sides → Run Opening
opening_anew p attrs at s = andThen (numbered s) (λ mark v. andThen (attrs_step p attrs [] at v) (λ states u. Ok (record { mark = mark; typed = None; states = states }, u)))

-- an element that stays
abbrev pub opening_kept : Program → List FragAttr → ℕ → Option Typed → List AttrState → Sides → Run Opening
opening_kept p attrs mark typed olds at s =
    andThen (attrs_step p attrs olds at s) (λ states u. Ok (record { mark = mark; typed = typed_after p at attrs olds typed; states = states }, u))

abbrev pub opening_by : Program → List FragAttr → Option ℕ → Option Typed → List AttrState → Sides → Run Opening
opening_by p attrs None typed olds at s = opening_anew p attrs at s
opening_by p attrs (Some mark) typed olds at s = opening_kept p attrs mark typed olds at s

-- an element, from what was shown of it before
abbrev pub opening_step : Program → List FragAttr → Sides → Opened → Run Opening
opening_step p attrs at old s = opening_by p attrs (element_in old) (typed_in old) (states_in old) at s
