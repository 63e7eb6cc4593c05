-- Component tags: what they pass to their component, and the effects on the child that stands there.
use Rattle.std.specs.Prelude.{ℕ, Bool, true, false, ◌&&◌, nat_eq, List, [], ◌∷◌, ◌++◌, map, Option, Some, None, option_map, Ok, is_some, unwrap_or, slice_get, if◌then◌else◌}
use Rattle.std.specs.Option.{option_to_list, option_and_then}
use Rattle.sv_base.specs.declared.names.Name.{Name}
use Rattle.sv_base.specs.declared.span.Span.{Span}
use Rattle.sv_code.specs.declared.fragments.FragAttr.{FragAttr}
use Rattle.sv_code.specs.declared.fragments.FragAttr.TheVariants as attr
use Rattle.sv_code.specs.declared.program.Component.{Component}
use Rattle.sv_code.specs.declared.program.Program.{Program}
use Rattle.sv_code.specs.declared.program.Prop.{Prop}
use Rattle.sv_code.specs.declared.tags.Tag.{Tag}
use Rattle.sv_meaning.specs.Components.{component_at}
use Rattle.sv_parts.specs.Sides.{Sides, moved}
use Rattle.sv_parts.specs.State.{Run, andThen, numbered, emitted, remembered, each, one}
use Rattle.sv_parts.specs.Values.{unvalued, value_step, alone_step}
use Rattle.sv_parts.specs.declared.state.Effect.TheVariants.{Create, Set}
use Rattle.sv_parts.specs.declared.state.Given.{Given}
use Rattle.sv_parts.specs.declared.tags.Offer.{Offer}
use Rattle.sv_parts.specs.declared.tags.Passed.{Passed}
use Rattle.sv_parts.specs.declared.values.Valued.{Valued}
use Rattle.sv_shapes.specs.declared.shape.Shape.{Shape}
use Rattle.sv_shapes.specs.declared.shape.Shape.TheVariants as shape
use Rattle.sv_value.specs.Value.{Val, undefined}
use Rattle.sv_view.specs.Level.{View}

-- the texts that are kept of the attribute with a number
abbrev pub texts_at : List (List (List ℕ)) → ℕ → List (List ℕ)
texts_at texts i = unwrap_or (slice_get texts i) []

-- ---- attributes that pass a value

-- the name under which an attribute passes a value, if it does
abbrev pub passed_name : FragAttr → Option Name
passed_name (attr.Plain span name v) = Some name
passed_name (attr.On handler reads) = None
passed_name (attr.Bind span name part) = Some name
passed_name (attr.Class span name part) = None

-- what it passes, where it is new or something of it moved
abbrev pub passed_value : Program → FragAttr → List (List ℕ) → Bool → Sides → Run Valued
passed_value p (attr.Plain span name v) olds is_new at s = value_step p span v olds is_new at s
passed_value p (attr.On handler reads) olds is_new at s = Ok (unvalued, s)
passed_value p (attr.Bind span name part) olds is_new at s = alone_step p part is_new at s
passed_value p (attr.Class span name part) olds is_new at s = Ok (unvalued, s)

-- ---- what a component's tag passes

abbrev pub is_undefined : Val → Bool
is_undefined undefined = true
is_undefined _ = false

-- a variable that is bound passes `undefined` to no new child
abbrev pub passed_bound : Bool → Span → Name → Val → Option Passed
passed_bound is_new span name v = if is_new && is_undefined v then None else Some (record { name = name; value = v; bound = true; span = span })

abbrev pub passed_as : FragAttr → Bool → Val → Option Passed
passed_as (attr.Plain span name v) is_new value = Some (record { name = name; value = value; bound = false; span = span })
passed_as (attr.On handler reads) is_new value = None
passed_as (attr.Bind span name part) is_new value = passed_bound is_new span name value
passed_as (attr.Class span name part) is_new value = None

abbrev pub offered : FragAttr → Bool → Valued → Offer
offered a is_new v = record { texts = v.texts; passed = option_and_then (passed_as a is_new) v.value }

-- an attribute of a tag
abbrev pub offer_step : Program → FragAttr → List (List ℕ) → Bool → Sides → Run Offer
offer_step p a olds is_new at s = andThen (passed_value p a olds is_new at s) (λ v u. Ok (offered a is_new v, u))

abbrev pub offers_step : Program → List FragAttr → List (List (List ℕ)) → Bool → Sides → Run (List Offer)
offers_step p attrs texts is_new at s = each (λ a i u. one (offer_step p a (texts_at texts i) is_new at u)) 0 attrs s

-- ---- props

abbrev pub is_under : Name → Option Passed → Bool
is_under name None = false
is_under name (Some x) = nat_eq x.name.0 name.0

-- the first that is passed under a name
abbrev pub passed_under : Name → List Offer → Option Passed
passed_under name [] = None
passed_under name (o ∷ offers) = if is_under name o.passed then o.passed else passed_under name offers

-- what a prop is given
abbrev pub given_as : Prop → Passed → Given
given_as prop x = record { cell = prop.cell; value = x.value; bound = x.bound; span = x.span }

abbrev pub given_to : List Offer → Prop → List Given
given_to offers prop = option_to_list (option_map (given_as prop) (passed_under prop.name offers))

-- what the props of a component are given, in the order of their declaration
abbrev pub props_given : List Prop → List Offer → List Given
props_given [] offers = []
props_given (prop ∷ props) offers = given_to offers prop ++ props_given props offers

-- ---- the component of a tag

-- its props, and whether it shows content of its tag
abbrev pub props_at : Option Component → List Prop
props_at None = []
props_at (Some c) = c.props

abbrev pub shows_content : Option Component → Bool
shows_content None = false
shows_content (Some c) = is_some c.view

-- ---- tags

abbrev pub texts_of : List Offer → List (List (List ℕ))
texts_of offers = map (λ o. o.texts) offers

abbrev pub create_step : ℕ → List Given → List (List (List ℕ)) → Sides → Run Shape
create_step k props texts at s = andThen (numbered s) (λ place v. andThen (emitted (Create place k props at.new) v) (λ _ u. Ok (shape.Tag place texts, u)))

-- a new place: a child is made with all that is passed
abbrev pub new_tag : Program → ℕ → Tag → Sides → Run Shape
new_tag p k t at s =
    andThen (offers_step p t.attrs [] true at s) (λ offers v. create_step k (props_given (props_at (component_at p t.file)) offers) (texts_of offers) at v)

-- the view for the content, where the child shows it and it looks at something that moved
abbrev pub view_for : Program → Tag → Sides → Option View
view_for p t at = if shows_content (component_at p t.file) && moved t.reads at then Some at.new else None

-- what moved is set, if anything did
abbrev pub set_step : ℕ → List Given → Option View → Run (Unit {0})
set_step place [] None s = Ok (tt, s)
set_step place [] (Some view) s = emitted (Set place [] (Some view)) s
set_step place (g ∷ props) view s = emitted (Set place (g ∷ props) view) s

abbrev pub keep_step : ℕ → List Given → Option View → Sides → Run (Unit {0})
keep_step place props view at s = andThen (set_step place props view s) (λ _ v. remembered (record { place = place; locals = at.new.own.locals }) v)

-- a place that stays: the child is set what moved
abbrev pub kept_tag : Program → Tag → ℕ → List (List (List ℕ)) → Sides → Run Shape
kept_tag p t place texts at s =
    andThen (offers_step p t.attrs texts false at s)
    (λ offers v. andThen (keep_step place (props_given (props_at (component_at p t.file)) offers) (view_for p t at) at v) (λ _ u. Ok (shape.Tag place (texts_of offers), u)))

abbrev pub tag_by : Program → ℕ → Tag → Option ℕ → List (List (List ℕ)) → Sides → Run Shape
tag_by p k t None texts at s = new_tag p k t at s
tag_by p k t (Some place) texts at s = kept_tag p t place texts at s

abbrev pub tag_over : Program → ℕ → Option Tag → Option ℕ → List (List (List ℕ)) → Sides → Run Shape
tag_over p k None old texts at s = Ok (shape.Nothing, s)
tag_over p k (Some t) old texts at s = tag_by p k t old texts at s

-- the tag with a number, at a place that it had or a new one; a tag that isn't there shows nothing
abbrev pub tag_step : Program → ℕ → Option ℕ → List (List (List ℕ)) → Sides → Run Shape
tag_step p k old texts at s = tag_over p k (slice_get p.tags k) old texts at s
