-- What is made of the attributes and directives of a tag. `slot` and `let:` are left to the content that they name.
use Rattle.std.specs.Prelude.{ℕ, List, [], ◌∷◌, ◌++◌, Option, None, Some, length, map, option_map}
use Rattle.std.specs.List.{flat_map}
use Rattle.std.specs.Option.{option_to_list}
use Rattle.sv_ast.specs.declared.markup_tree.AttrKind.{AttrKind}
use Rattle.sv_ast.specs.declared.markup_tree.AttrKind.TheVariants as kind
use Rattle.sv_ast.specs.declared.markup_tree.AttrPart.{AttrPart}
use Rattle.sv_ast.specs.declared.markup_tree.AttrPart.TheVariants as attr_part
use Rattle.sv_ast.specs.declared.markup_tree.AttrValue.{AttrValue}
use Rattle.sv_ast.specs.declared.markup_tree.AttrValue.TheVariants as attr_value
use Rattle.sv_ast.specs.declared.markup_tree.TagAttr.{TagAttr}
use Rattle.sv_ast.specs.declared.names.Ref.TheVariants as ref
use Rattle.sv_ast.specs.declared.script_tree.Expr.{Expr}
use Rattle.sv_ast.specs.declared.script_tree.ExprKind.TheVariants as expr
use Rattle.sv_code.specs.declared.fragments.FragAttr.{FragAttr}
use Rattle.sv_code.specs.declared.fragments.FragAttr.TheVariants as frag_attr
use Rattle.sv_code.specs.declared.fragments.FragValue.{FragValue}
use Rattle.sv_code.specs.declared.fragments.FragValue.TheVariants as frag_value
use Rattle.sv_code.specs.declared.fragments.FragValuePart.{FragValuePart}
use Rattle.sv_code.specs.declared.fragments.FragValuePart.TheVariants as value_part
use Rattle.sv_code.specs.declared.fragments.LetName.{LetName}
use Rattle.sv_code.specs.declared.parts.Part.{Part}
use Rattle.sv_code.specs.declared.parts.Reading.{Reading}
use Rattle.sv_code.specs.declared.tags.Handler.{Handler}
use Rattle.sv_base.specs.declared.names.Name.{Name}
use Rattle.sv_base.specs.declared.span.Span.{Span}
use Rattle.sv_scopes.specs.declared.scope.Declared.{Declared}
use Rattle.sv_scopes.specs.Attributes.{past, let_names}
use Rattle.sv_lower.specs.Does.{just, followed, of_one, of_two, each, given}
use Rattle.sv_fragments.specs.Builds.{Builds, Numbers}
use Rattle.sv_fragments.specs.Expressions.{part}

-- ---- values

abbrev pub shown : AttrPart → Builds FragValuePart
shown (attr_part.Text text) = just (value_part.Text text)
shown (attr_part.Show span e) = of_one value_part.Show (part e)

abbrev pub value : AttrValue → Builds FragValue
value attr_value.Bare = just frag_value.Bare
value (attr_value.Parts parts) = of_one frag_value.Parts (each (map shown parts))

-- the first expression of some parts
abbrev pub first_expr : List AttrPart → Option Expr
first_expr [] = None
first_expr (attr_part.Text text ∷ parts) = first_expr parts
first_expr (attr_part.Show span e ∷ parts) = Some e

-- the expression that a directive has
abbrev pub expr_of : AttrValue → Option Expr
expr_of attr_value.Bare = None
expr_of (attr_value.Parts parts) = first_expr parts

-- a name at a place, as an expression
abbrev pub name_at : Name → Span → Expr
name_at name span = record { span = span; kind = expr.Read (ref.Plain name) }

-- the part of a directive: its expression, or the name behind so many bytes of it
abbrev pub directive : ℕ → TagAttr → Option Expr → Builds Part
directive front a None = part (name_at a.name (past front a.span))
directive front a (Some e) = part e

-- ---- handlers

abbrev pub handler : TagAttr → Builds Handler
handler a = of_one (λ p. record { span = a.span; name = a.name; modifiers = a.modifiers; listener = p }) (given (option_map part (expr_of a.value)))

-- what the expression of a handler looks at
abbrev pub heard : Option Part → Reading
heard None = record { cells = []; locals = [] }
heard (Some p) = p.reads

-- a handler behind those that there are
abbrev pub with_handler : Handler → Numbers FragAttr
with_handler h tables = (frag_attr.On (length tables.handlers) (heard h.listener), record tables { handlers = tables.handlers ++ h ∷ [] })

-- ---- attributes

abbrev pub attr_of : AttrKind → TagAttr → Builds (Option FragAttr)
attr_of kind.Plain a = of_one (λ v. Some (frag_attr.Plain a.span a.name v)) (value a.value)
attr_of kind.On a = of_one Some (followed (handler a) with_handler)
attr_of kind.Bind a = of_one (λ p. Some (frag_attr.Bind a.span a.name p)) (directive 5 a (expr_of a.value))
attr_of kind.Class a = of_one (λ p. Some (frag_attr.Class a.span a.name p)) (directive 6 a (expr_of a.value))
attr_of kind.Let a = just None
attr_of kind.Slot a = just None

abbrev pub attr : TagAttr → Builds (Option FragAttr)
attr a = attr_of a.kind a

abbrev pub attrs : List TagAttr → Builds (List FragAttr)
attrs [] = just []
attrs (a ∷ list) = of_two (λ own more. option_to_list own ++ more) (attr a) (attrs list)

-- ---- slots

-- a slot prop with the name that it has in the content
abbrev pub let_name : Name → Declared → LetName
let_name prop d = record { prop = prop; local = d.name }

-- the slot props that a `let:` names
abbrev pub let_of : TagAttr → List LetName
let_of a = map (let_name a.name) (let_names a)

abbrev pub lets : List TagAttr → List LetName
lets list = flat_map let_of list

-- the text at the front of a value
abbrev pub text_of : AttrValue → List ℕ
text_of (attr_value.Parts (attr_part.Text text ∷ parts)) = text
text_of _ = []

abbrev pub slot_text : AttrKind → AttrValue → Option (List ℕ)
slot_text kind.Slot v = Some (text_of v)
slot_text _ v = None

abbrev pub slot_or : Option (List ℕ) → List ℕ → List ℕ
slot_or None other = other
slot_or (Some text) other = text

-- the name that a `slot` attribute has, or the empty one
abbrev pub slot_name : List TagAttr → List ℕ
slot_name [] = []
slot_name (a ∷ list) = slot_or (slot_text a.kind a.value) (slot_name list)
