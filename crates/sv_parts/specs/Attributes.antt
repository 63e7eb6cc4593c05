-- Attributes of elements: what their parts come to. What an element shows of that is `sv_attributes`'.
use Rattle.std.specs.Prelude.{ℕ, suc, Bool, false, ◌&&◌, ◌||◌, List, [], ◌∷◌, Option, Some, None, Ok, is_some, slice_get, if◌then◌else◌}
use Rattle.sv_attributes.specs.Attr.{is_boolean, attr_of}
use Rattle.sv_attributes.specs.Typed.{place_of}
use Rattle.sv_attributes.specs.Values.{alone, is_literal}
use Rattle.sv_base.specs.Names.{is_text}
use Rattle.sv_base.specs.declared.names.Name.{Name}
use Rattle.sv_base.specs.declared.span.Span.{Span}
use Rattle.sv_code.specs.declared.fragments.FragAttr.{FragAttr}
use Rattle.sv_code.specs.declared.fragments.FragAttr.TheVariants as attr
use Rattle.sv_code.specs.declared.fragments.FragValue.{FragValue}
use Rattle.sv_code.specs.declared.fragments.FragValue.TheVariants as value
use Rattle.sv_code.specs.declared.fragments.FragValuePart.{FragValuePart}
use Rattle.sv_code.specs.declared.parts.Part.{Part}
use Rattle.sv_code.specs.declared.program.Program.{Program}
use Rattle.sv_ops.specs.declared.faults.FaultKind.TheVariants.{NotText}
use Rattle.sv_parts.specs.Parts.{evaluated, faulted, renewed}
use Rattle.sv_parts.specs.Sides.{Sides, moved}
use Rattle.sv_parts.specs.State.{Run, andThen, each, one}
use Rattle.sv_parts.specs.Values.{joined_step, is_due}
use Rattle.sv_shapes.specs.declared.shape.AttrState.{AttrState}
use Rattle.sv_shapes.specs.declared.shape.AttrState.TheVariants as state
use Rattle.sv_tokens.specs.declared.element.Typed.{Typed}
use Rattle.sv_value.specs.Change.{truthy}
use Rattle.sv_value.specs.Value.{Val}
use Rattle.sv_value.specs.Words.{text_of}

-- the texts that were kept of the parts of a value
abbrev pub texts_kept : Option AttrState → List (List ℕ)
texts_kept (Some (state.Texts texts)) = texts
texts_kept _ = []

-- what an attribute comes to with a value: where it shows a text, one without a text is refused
abbrev pub shown_with : Program → Name → Part → Val → Run AttrState
shown_with p name part v s =
    if is_boolean p name || is_some (text_of v) then Ok (state.Shows (attr_of (is_boolean p name) v), s) else faulted NotText part

-- what it comes to with an expression
abbrev pub shown_anew : Program → Name → Part → Sides → Run AttrState
shown_anew p name part at s = andThen (evaluated p part at s) (shown_with p name part)

abbrev pub shown_step : Program → Name → Part → Option AttrState → Sides → Run AttrState
shown_step p name part old at s = renewed part (shown_anew p name part at) old at s

-- `class:` tests its expression
abbrev pub class_anew : Program → Part → Sides → Run AttrState
class_anew p part at s = andThen (evaluated p part at s) (λ v u. Ok (state.Holds (truthy v), u))

abbrev pub class_step : Program → Part → Option AttrState → Sides → Run AttrState
class_step p part old at s = renewed part (class_anew p part at) old at s

-- joined texts
abbrev pub shown_joined : Program → Span → List FragValuePart → Option AttrState → Sides → Run AttrState
shown_joined p span parts old at s = andThen (joined_step p span parts (texts_kept old) false at s) (λ v u. Ok (state.Texts v.texts, u))

abbrev pub shown_parts : Program → Span → Name → List FragValuePart → Option Part → Option AttrState → Sides → Run AttrState
shown_parts p span name parts None old at s = if is_literal parts then Ok (state.Written, s) else shown_joined p span parts old at s
shown_parts p span name parts (Some part) old at s = shown_step p name part old at s

abbrev pub shown_value : Program → Span → Name → FragValue → Option AttrState → Sides → Run AttrState
shown_value p span name value.Bare old at s = Ok (state.Written, s)
shown_value p span name (value.Parts parts) old at s = shown_parts p span name parts (alone parts) old at s

-- an attribute or a directive, from what it came to before, if it did
abbrev pub attr_step : Program → FragAttr → Option AttrState → Sides → Run AttrState
attr_step p (attr.Plain span name v) old at s = shown_value p span name v old at s
attr_step p (attr.On handler reads) old at s = Ok (state.Written, s)
attr_step p (attr.Bind span name part) old at s = shown_step p name part old at s
attr_step p (attr.Class span name part) old at s = class_step p part old at s

abbrev pub attrs_step : Program → List FragAttr → List AttrState → Sides → Run (List AttrState)
attrs_step p attrs olds at s = each (λ a i u. one (attr_step p a (slice_get olds i) at u)) 0 attrs s

-- ---- states that users leave

abbrev pub parts_due : Sides → List FragValuePart → Option Part → Option AttrState → Bool
parts_due at parts None old = is_due at (texts_kept old) parts
parts_due at parts (Some part) old = moved part.reads at

abbrev pub value_due : Sides → FragValue → Option AttrState → Bool
value_due at value.Bare old = false
value_due at (value.Parts parts) old = parts_due at parts (alone parts) old

-- whether a part of the attribute of this name is to be evaluated
abbrev pub attr_due : Program → Sides → List ℕ → FragAttr → Option AttrState → Bool
attr_due p at name (attr.Plain span own v) old = is_text p.names name own && value_due at v old
attr_due p at name (attr.On handler reads) old = false
attr_due p at name (attr.Bind span own part) old = is_text p.names name own && moved part.reads at
attr_due p at name (attr.Class span own part) old = false

-- the same of one of these attributes, from one with a number on
abbrev pub due_among : Program → Sides → List ℕ → List AttrState → ℕ → List FragAttr → Bool
due_among p at name olds i [] = false
due_among p at name olds i (a ∷ attrs) = attr_due p at name a (slice_get olds i) || due_among p at name olds (suc i) attrs

-- a state goes where a part of the attribute is evaluated over which it is laid
abbrev pub typed_after : Program → Sides → List FragAttr → List AttrState → Option Typed → Option Typed
typed_after p at attrs olds None = None
typed_after p at attrs olds (Some typed) = if due_among p at (place_of typed) olds 0 attrs then None else Some typed
