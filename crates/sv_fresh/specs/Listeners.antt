-- The directives of an element that events are told.
use Rattle.std.specs.Prelude.{List, Option, Some, None, option_map, codes, if◌then◌else◌}
use Rattle.std.specs.List.{flat_map}
use Rattle.std.specs.Option.{option_and_then, option_to_list}
use Rattle.sv_base.specs.Names.{is_text}
use Rattle.sv_base.specs.declared.names.Name.{Name}
use Rattle.sv_base.specs.declared.span.Span.{Span}
use Rattle.sv_code.specs.declared.fragments.FragAttr.{FragAttr}
use Rattle.sv_code.specs.declared.fragments.FragAttr.TheVariants as attr
use Rattle.sv_code.specs.declared.known.Known.{Known}
use Rattle.sv_code.specs.declared.program.Program.{Program}
use Rattle.sv_document.specs.Listener.{Listener}
use Rattle.sv_document.specs.declared.listener.Directive.{Directive}
use Rattle.sv_document.specs.declared.listener.Directive.TheVariants as directive
use Rattle.sv_meaning.specs.Components.{variable_of}
use Rattle.sv_view.specs.Level.{View}

-- a binding of a name to a variable
abbrev pub binding_of : Program → Span → Name → Known → Option Directive
binding_of p span name target =
    if is_text p.names (codes "value") name then Some (directive.BindValue (record { target = target; span = span }))
    else if is_text p.names (codes "checked") name then Some (directive.BindChecked (record { target = target; span = span })) else None

-- what events are told of it, if they are
abbrev pub directive_of : Program → FragAttr → Option Directive
directive_of p (attr.Plain span name value) = None
directive_of p (attr.On handler reads) = Some (directive.Handler handler)
directive_of p (attr.Bind span name part) = option_and_then (binding_of p span name) (variable_of part.code)
directive_of p (attr.Class span name part) = None

-- a directive that is written on a view
abbrev pub listener_on : View → Directive → Listener
listener_on v d = record { inst = v.own.inst; at = d; locals = v.own.locals }

-- those of an element, in the order of the text
abbrev pub listeners : Program → View → List FragAttr → List Listener
listeners p v attrs = flat_map (λ a. option_to_list (option_map (listener_on v) (directive_of p a))) attrs
