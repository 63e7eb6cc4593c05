-- An attribute of a tag (Svelte 4, 'Attributes and props', 'Element directives', 'Component directives').
use Rattle.std.specs.Prelude.{ℕ, zero, suc, ◌+◌, ◌==◌, ◌&&◌, Bool, true, false, List, [], ◌∷◌, length, drop, Option, Some, None, Ok, codes, if◌then◌else◌}
use Rattle.std.specs.Str.{bytes_eq}
use Rattle.sv_ast.specs.declared.markup_tree.AttrKind.{AttrKind}
use Rattle.sv_ast.specs.declared.markup_tree.AttrKind.TheVariants.{Plain, On}
use Rattle.sv_ast.specs.declared.markup_tree.AttrPart.TheVariants.{Show}
use Rattle.sv_ast.specs.declared.markup_tree.AttrValue.{AttrValue}
use Rattle.sv_ast.specs.declared.markup_tree.AttrValue.TheVariants.{Parts}
use Rattle.sv_ast.specs.declared.markup_tree.Modifiers.{Modifiers}
use Rattle.sv_ast.specs.declared.markup_tree.TagAttr.{TagAttr}
use Rattle.sv_ast.specs.declared.names.Named.{Named}
use Rattle.sv_ast.specs.declared.names.Ref.TheVariants as ref
use Rattle.sv_ast.specs.declared.refusals.Kind.{Kind}
use Rattle.sv_ast.specs.declared.refusals.Kind.TheVariants.{Syntax, OutOfScope}
use Rattle.sv_ast.specs.declared.script_tree.ExprKind.TheVariants as e
use Rattle.sv_base.specs.declared.span.Span.{Span}
use Rattle.sv_lex.specs.declared.lexeme.Lexeme.TheVariants as k
use Rattle.sv_lex.specs.Bytes.{stop, stop_at, place, pass, numbered}
use Rattle.sv_lex.specs.Literals.{moved}
use Rattle.sv_lex.specs.Reader.{Input, Parser, ◌>>=◌, ◌>>◌, pure, refuse, expect, spelling, left, span_from, name, name_of}
use Rattle.sv_expr.specs.Limits.{Limits}
use Rattle.sv_expr.specs.Nodes.{node}
use Rattle.sv_tags.specs.declared.classes.Class.TheVariants.{AttributeName}
use Rattle.sv_tags.specs.declared.directives.Tag.{Tag}
use Rattle.sv_tags.specs.declared.holes.Filling.{Filling}
use Rattle.sv_tags.specs.Classes.{front_len, first, begins}
use Rattle.sv_tags.specs.Directives.{name_at, given_name, kind_of, filling, misplaced, misvalued, is_element}
use Rattle.sv_tags.specs.Holes.{opened}
use Rattle.sv_tags.specs.Values.{value, directive_value}

-- ---- modifiers

abbrev pub no_modifiers : Modifiers
no_modifiers = record { only_self = false; stop = false; prevent = false }

-- with the modifier of a name
abbrev pub with_modifier : List ℕ → Modifiers → Option Modifiers
with_modifier w m =
    if bytes_eq w (codes "self") then Some (record m { only_self = true }) else (if bytes_eq w (codes "stopPropagation") then Some (record m { stop = true })
    else (if bytes_eq w (codes "preventDefault") then Some (record m { prevent = true }) else None))

abbrev pub modifier_by : (Modifiers → Parser Modifiers) → Option Modifiers → Parser Modifiers
modifier_by more None i = stop Syntax i
modifier_by more (Some m) i = more m (moved (1 + length (name_at (drop 1 i.text))) i)

-- modifiers, each behind a `|`, with those that were found; the number bounds how many come
unfoldable pub modifiers_from : ℕ → Modifiers → Parser Modifiers
modifiers_from zero m = pure m
modifiers_from (suc n) m = λ i. if first i.text == 124 then modifier_by (modifiers_from n) (with_modifier (name_at (drop 1 i.text)) m) i else Ok (m, i)

unfoldable pub all_modifiers : Parser Modifiers
all_modifiers = λ i. modifiers_from (left i) no_modifiers i

abbrev pub is_on : AttrKind → Bool
is_on On = true
is_on _ = false

-- listeners of elements alone have modifiers
unfoldable pub modifiers : Tag → AttrKind → Parser Modifiers
modifiers tag kind = λ i. if is_on kind && is_element tag then all_modifiers i else Ok (no_modifiers, i)

-- ---- attributes

-- an attribute, unless something is wrong with it; then it is refused where it begins
abbrev pub settled : Option Kind → TagAttr → Parser TagAttr
settled None a = pure a
settled (Some kind) a = stop_at kind a.span.from

-- the first of two faults
abbrev pub or_else : Option Kind → Option Kind → Option Kind
or_else None b = b
or_else (Some kind) b = Some kind

-- a name that is the name of an attribute too
unfoldable pub ascii_name : Parser Named
ascii_name = λ i. if front_len AttributeName (spelling i) == length (spelling i) then name i else refuse Syntax i

-- the attribute of a name, whose value reads the name
abbrev pub short : Span → Named → TagAttr
short span found =
    record {
      span = span;
      name = found.name;
      kind = Plain;
      modifiers = no_modifiers;
      value = Parts (Show span (node found.span (e.Read (ref.Plain found.name))) ∷ []);
    }

-- `{n}`, where the text is how `n` is written
unfoldable pub shorthand_of : Tag → Bool → ℕ → Parser TagAttr
shorthand_of tag owned from = λ at. (do
  found ← ascii_name
  expect k.RBrace
  λ i. settled (or_else (misplaced tag owned (spelling at)) (misvalued tag (spelling at) (short (span_from from i) found).value)) (short (span_from from i) found) i) at

unfoldable pub shorthand : Tag → Bool → ℕ → Parser TagAttr
shorthand tag owned room = λ i. if begins (codes "{...") i.text then stop OutOfScope i else (do
  from ← place
  opened room
  pass 1
  shorthand_of tag owned from) i

-- the attribute that is written from `i` to `o`, by its name
abbrev pub attr : Input → Modifiers → AttrValue → Input → TagAttr
attr i found v o = record { span = span_from i.at o; name = name_of (given_name i.text) i; kind = kind_of i.text; modifiers = found; value = v }

module _ (limits : Limits) (room : ℕ) where
  abbrev pub value_by : Option Filling → Parser AttrValue
  value_by None = value limits room
  value_by (Some f) = directive_value limits room f

  -- an attribute by its name, which is written at `at`
  unfoldable pub named : Tag → Parser TagAttr
  named tag = λ at. (do
    numbered (given_name at.text)
    pass (length (name_at at.text))
    found ← modifiers tag (kind_of at.text)
    v ← value_by (filling (kind_of at.text))
    λ i. settled (misvalued tag at.text v) (attr at found v i) i) at

  abbrev pub placed : Option Kind → Tag → Parser TagAttr
  placed None tag = named tag
  placed (Some kind) tag = stop kind

  -- an attribute or a directive of a tag; `owned` says that the tag is a direct child of a component
  unfoldable pub attribute : Tag → Bool → Parser TagAttr
  attribute tag owned = λ i. if first i.text == 123 then shorthand tag owned room i else placed (misplaced tag owned i.text) tag i
