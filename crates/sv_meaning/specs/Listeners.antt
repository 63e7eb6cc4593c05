-- The listeners of tags (Svelte 4 docs, 'on:eventname' on components): an event that a component dispatches is heard by those of its own tag,
-- in the order of the text; one without an expression passes it on to the tag of the component in whose markup it stands.
use Rattle.std.specs.Prelude.{ℕ, zero, suc, Bool, true, false, List, [], ◌∷◌, Option, Some, None, Result, Ok, Err, option_map, slice_get}
use Rattle.std.specs.Str.{bytes_eq}
use Rattle.sv_base.specs.declared.span.Span.{Span}
use Rattle.sv_code.specs.declared.fragments.FragAttr.{FragAttr}
use Rattle.sv_code.specs.declared.fragments.FragAttr.TheVariants as attr
use Rattle.sv_code.specs.declared.parts.Part.{Part}
use Rattle.sv_code.specs.declared.program.Program.{Program}
use Rattle.sv_code.specs.declared.tags.Handler.{Handler}
use Rattle.sv_code.specs.declared.tags.Tag.{Tag}
use Rattle.sv_instance.specs.Standing.{Standing}
use Rattle.sv_instance.specs.declared.instance.Instance.{Instance}
use Rattle.sv_ops.specs.declared.faults.Fault.{Fault}
use Rattle.sv_ops.specs.declared.faults.FaultKind.TheVariants.{NotAFunction}
use Rattle.sv_states.specs.States.{live}
use Rattle.sv_states.specs.declared.states.TheConstants.{DEPTH_LIMIT}
use Rattle.sv_value.specs.Value.{Val, undefined, null, function}
use Rattle.sv_view.specs.Level.{View}
use Rattle.sv_view.specs.Local.{Local}
use Rattle.sv_view.specs.View.{with_locals}
use Rattle.sv_world.specs.World.{presented}
use Rattle.sv_world.specs.declared.world.World.{World}
use Rattle.sv_meaning.specs.Calls.{Caller}
use Rattle.sv_meaning.specs.Functions.{Teller}
use Rattle.sv_meaning.specs.Outcome.{Ends, Fails, Deed, then_do}
use Rattle.sv_meaning.specs.Parts.{part_value}
use Rattle.sv_meaning.specs.Sources.{source}

-- what an expression gave is called with the event; nothing is passed over
abbrev pub heard_value : Program → Caller → Span → Val → Val → Deed (Unit {0})
heard_value p call s undefined e w = Ends tt w
heard_value p call s null e w = Ends tt w
heard_value p call s (function c o held) e w = then_do (call.calls c o held (e ∷ []) (source p c s) w) (λ v. Ends tt)
heard_value p call s _ e w = Fails NotAFunction s w

abbrev pub heard_result : Program → Caller → Span → Result Val Fault → Val → Deed (Unit {0})
heard_result p call s (Ok v) e w = heard_value p call s v e w
heard_result p call s (Err f) e w = Fails f.kind f.span w

-- what the listeners of a tag are evaluated on: the present cells of the component in whose markup it stands, with the locals of the tag
abbrev pub listener_view : World → (owner : ℕ) → List Local → Option View
listener_view w owner locals = option_map (λ v. with_locals v locals) (presented w.states w.modules owner)

abbrev pub heard_on : Option View → Program → Caller → Part → Val → Deed (Unit {0})
heard_on None p call part e w = Ends tt w
heard_on (Some v) p call part e w = heard_result p call part.span (part_value p v part) e w

-- one listener of a tag: passing on is telling the owner's own tag
abbrev pub heard : (ℕ → Val → Deed (Unit {0})) → Program → Caller → ℕ → List Local → Option Part → Val → Deed (Unit {0})
heard onward p call owner locals None e w = onward owner e w
heard onward p call owner locals (Some part) e w = heard_on (listener_view w owner locals) p call part e w

-- the handler of an attribute that listens
abbrev pub handler_of : Program → FragAttr → Option Handler
handler_of p (attr.On h reads) = slice_get p.handlers h
handler_of p _ = None

abbrev pub is_text : List ℕ → Option (List ℕ) → Bool
is_text name None = false
is_text name (Some t) = bytes_eq t name

abbrev pub is_named : Program → List ℕ → Handler → Bool
is_named p name h = is_text name (slice_get p.names h.name.0)

abbrev pub heard_if : Bool → (ℕ → Val → Deed (Unit {0})) → Program → Caller → ℕ → List Local → Option Part → Val → Deed (Unit {0})
heard_if true onward p call owner locals part e = heard onward p call owner locals part e
heard_if false onward p call owner locals part e = Ends tt

abbrev pub heard_attr : Option Handler → (ℕ → Val → Deed (Unit {0})) → Program → Caller → List ℕ → ℕ → List Local → Val → Deed (Unit {0})
heard_attr None onward p call name owner locals e = Ends tt
heard_attr (Some h) onward p call name owner locals e = heard_if (is_named p name h) onward p call owner locals h.listener e

-- the attributes of a tag in turn
abbrev pub heard_by : (ℕ → Val → Deed (Unit {0})) → Program → Caller → List ℕ → ℕ → List Local → List FragAttr → Val → Deed (Unit {0})
heard_by onward p call name owner locals [] e w = Ends tt w
heard_by onward p call name owner locals (a ∷ attrs) e w = then_do (heard_attr (handler_of p a) onward p call name owner locals e w) (λ u. heard_by onward p call name owner locals attrs e)

-- the tag whose listeners hear of events: its number, the instance in whose markup it stands, and its row locals and slot props
pub record Hearer : Type 0 where
  pub tag : ℕ
  pub owner : ℕ
  pub locals : List Local

abbrev pub hearer_at : Option Standing → Bool → List Local → Option Hearer
hearer_at (Some s) true locals = Some (record { tag = s.tag; owner = s.owner; locals = locals })
hearer_at _ attached locals = None

-- the tag of an instance, once its listeners are attached
abbrev pub hearer_of : Option Instance → Option Hearer
hearer_of None = None
hearer_of (Some i) = hearer_at i.place.standing i.setup.attached i.setup.locals

abbrev pub attrs_in : Option Tag → List FragAttr
attrs_in None = []
attrs_in (Some t) = t.attrs

abbrev pub attrs_of : Program → ℕ → List FragAttr
attrs_of p n = attrs_in (slice_get p.tags n)

abbrev pub heard_from : (ℕ → Val → Deed (Unit {0})) → Program → Caller → List ℕ → Option Hearer → Val → Deed (Unit {0})
heard_from onward p call name None e w = Ends tt w
heard_from onward p call name (Some h) e w = heard_by onward p call name h.owner h.locals (attrs_of p h.tag) e w

-- an instance's tag is told of an event, through so many owners at most
abbrev pub told : ℕ → Program → Caller → (instance : ℕ) → List ℕ → Val → Deed (Unit {0})
told zero p call i name e w = Ends tt w
told (suc room) p call i name e w = heard_from (λ owner. told room p call owner name) p call name (hearer_of (live w.states i)) e w

-- passing an event on to an owner's tag
abbrev pub onward : ℕ → Program → Caller → List ℕ → (owner : ℕ) → Val → Deed (Unit {0})
onward room p call name owner = told room p call owner name

-- components stand at most so deep, so that all owners are reached
abbrev pub teller : Program → Teller
teller p call i name e w = told DEPTH_LIMIT p call i name e w
