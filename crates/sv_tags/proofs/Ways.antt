-- What holds between a text and what a rule of tags leaves of it, where each step keeps it.
use Rattle.std.proofs.Common.{◌≡◌, ◌≤◌, ◌+◌, ℕ, Bool, List, length, refl, ◌∙◌, subst, arith, length-drop}
use Rattle.std.specs.Prelude.{◌==◌, Ok}
use Rattle.sv_ast.specs.declared.markup_tree.AttrPart.{AttrPart}
use Rattle.sv_ast.specs.declared.markup_tree.AttrValue.{AttrValue}
use Rattle.sv_ast.specs.declared.markup_tree.Modifiers.{Modifiers}
use Rattle.sv_ast.specs.declared.markup_tree.TagAttr.{TagAttr}
use Rattle.sv_ast.specs.declared.names.Named.{Named}
use Rattle.sv_ast.specs.declared.names.Ref.{Ref}
use Rattle.sv_ast.specs.declared.script_tree.Expr.{Expr}
use Rattle.sv_ast.specs.declared.script_tree.Stmt.{Stmt}
use Rattle.sv_lex.specs.Literals.{moved}
use Rattle.sv_lex.specs.Look.{past}
use Rattle.sv_lex.specs.Reader.{Input, next, spelling, knowing, name, left}
use Rattle.sv_lex.proofs.Steps.{Holds, holds_if}
use Rattle.sv_expr.specs.Grammar as e
use Rattle.sv_expr.specs.Limits.{Limits}
use Rattle.sv_expr.proofs.SoundLists.{holds_self}
use Rattle.sv_expr.proofs.Ways.{name_knows, store_knows}
use Rattle.sv_expr.proofs.Words.{text_next, name_past, store_past}
use Rattle.sv_tags.specs.declared.classes.Class.TheVariants.{AttributeName}
use Rattle.sv_tags.specs.declared.directives.Tag.{Tag}
use Rattle.sv_tags.specs.declared.holes.Filling.{Filling}
use Rattle.sv_tags.specs.declared.holes.Hole.{Hole}
use Rattle.sv_tags.specs.declared.openings.Found.{Found}
use Rattle.sv_tags.specs.declared.openings.Opening.{Opening}
use Rattle.sv_tags.specs.declared.texts.Quote.{Quote}
use Rattle.sv_tags.specs.declared.texts.Setting.{Setting}
use Rattle.sv_tags.specs.Attributes.{ascii_name}
use Rattle.sv_tags.specs.Classes.{front_len}
use Rattle.sv_tags.specs.Directives.{given_name}
use Rattle.sv_tags.specs.Grammar as g
use Rattle.sv_tags.specs.Openings.{past_blanks}
use Rattle.sv_tags.specs.Raw.{cut, behind}
use Rattle.sv_script.specs.Closed.{ExpressionAt, ScriptAt}
use Rattle.sv_tags.specs.Texts.{text}
use Rattle.sv_tags.proofs.Lengths.{past_shorter, text_moved}

-- a relation that stands still, and goes on with each step: over bytes, to a new name, over a token, and behind the end of a text that was read by itself
pub record IsWay (Way : Input → Input → Type 0) : Type 0 where
  pub stays : (i : Input) → Way i i
  pub along : {i j o : Input} → Way i j → Way j o → Way i o
  pub bytes : (n : ℕ) (i : Input) → Way i (moved n i)
  pub knows : (name : List ℕ) (i : Input) → Way i (knowing name i)
  pub passes : (i o : Input) → o.text ≡ past i.text → o.known ≡ i.known → Way i o
  pub beyond : (n m : ℕ) (i o : Input) → Way (cut n i) o → Way i (behind m i o)

next-known : (i : Input) → (next i).known ≡ i.known
unfolding next
next-known i = refl

-- a name that is the name of an attribute too is a name
pub ascii_is_name : (i o : Input) (x : Named) → ascii_name i ≡ Ok (x, o) → name i ≡ Ok (x, o)
unfolding ascii_name
ascii_is_name i o x h = subst (Holds (λ x o. name i ≡ Ok (x, o))) h
    (holds_if (λ x o. name i ≡ Ok (x, o)) (front_len AttributeName (spelling i) == length (spelling i)) _ _ (λ e. holds_self (name i)) (λ e. tt))

-- ---- rules

module _ {Way : Input → Input → Type 0} (is : IsWay Way) where
  pub name_way : (i o : Input) (x : Named) → name i ≡ Ok (x, o) → Way i o
  name_way i o x h = is.passes i o (name_past i o x h) (name_knows i o x h)

  pub next_way : (i : Input) → Way i (next i)
  next_way i = is.passes i (next i) (text_next i) (next-known i)

  target_way : {i o : Input} {ref : Ref} → e.Target i ref o → Way i o
  target_way (e.plain {i = i} {o = o} h n) = name_way i o _ n
  target_way (e.store {i = i} {o = o} h n) = is.passes i o (store_past i o _ n) (store_knows i o _ n)

  pub text_way : (setting : Setting) (i o : Input) (t : List ℕ) → text setting i ≡ Ok (t, o) → Way i o
  text_way setting i o t h = let m = text_moved setting i o t h in subst (Way i) m.1 (is.bytes m.0 i)

  modifiers_way : {i o : Input} {m all : Modifiers} → g.ModifiersAt i m all o → Way i o
  modifiers_way (g.no_modifier {i = i} h) = is.stays i
  modifiers_way (g.modifier {i = i} h e rest) = is.along (is.bytes _ i) (modifiers_way rest)

  listener_way : {tag : Tag} {i o : Input} {m : Modifiers} → g.ListenerAt tag i m o → Way i o
  listener_way (g.of_element h m) = modifiers_way m
  listener_way (g.of_component {i = i} h) = is.stays i

  behind_name_way : (i : Input) → Way i (g.behind_name i)
  behind_name_way i = is.along (is.knows (given_name i.text) i) (is.bytes _ (knowing (given_name i.text) i))

  module _ (limits : Limits) (expressions : (d : ℕ) (i o : Input) (x : Expr) → ExpressionAt limits d i x o → Way i o) where
    pub filled_way : {f : Filling} {d : ℕ} {i o : Input} {x : Expr} → g.FilledAt limits f d i x o → Way i o
    filled_way (g.holds_value {i = i} {o = o} x) = expressions _ i o _ x
    filled_way (g.holds_target t) = target_way t
    filled_way (g.holds_name {i = i} {o = o} n) = name_way i o _ n

    pub braces_way : {f : Filling} {d : ℕ} {i o : Input} {h : Hole} → g.BracesAt limits f d i h o → Way i o
    braces_way (g.in_braces {i = i} {j = j} h le x c) = is.along (is.bytes 1 i) (is.along (filled_way x) (next_way j))

    parts_way : {quote : Quote} {d : ℕ} {i o : Input} {xs : List AttrPart} → g.PartsAt limits quote d i xs o → Way i o
    parts_way (g.no_part {i = i} h) = is.bytes 1 i
    parts_way (g.words {i = i} {j = j} t rest) = is.along (text_way _ i j _ t) (parts_way rest)
    parts_way (g.show h rest) = is.along (braces_way h) (parts_way rest)

    pub value_way : {d : ℕ} {i o : Input} {v : AttrValue} → g.ValueAt limits d i v o → Way i o
    value_way (g.no_value {i = i} h) = is.stays i
    value_way (g.braced {i = i} h b) = is.along (is.bytes 1 i) (braces_way b)
    value_way (g.in_quotes {i = i} h q xs) = is.along (is.bytes 1 i) (is.along (is.bytes 1 (moved 1 i)) (parts_way xs))
    value_way (g.unquoted {i = i} {o = o} h t) = is.along (is.bytes 1 i) (text_way _ (moved 1 i) o _ t)

    given_way : {f : Filling} {d : ℕ} {i o : Input} {v : AttrValue} → g.GivenAt limits f d i v o → Way i o
    given_way (g.not_given {i = i} h) = is.stays i
    given_way (g.given {i = i} h b) = is.along (is.bytes 1 i) (braces_way b)

    pub attribute_way : {tag : Tag} {owned : Bool} {d : ℕ} {i o : Input} {a : TagAttr} → g.AttributeAt limits tag owned d i a o → Way i o
    attribute_way (g.shorthand {i = i} {j = j} h b le n c w) = is.along (is.bytes 1 i) (is.along (name_way (moved 1 i) j _ (ascii_is_name (moved 1 i) j _ n)) (next_way j))
    attribute_way (g.plain {i = i} h k p v w) = is.along (behind_name_way i) (value_way v)
    attribute_way (g.slotted {i = i} h k p v w) = is.along (behind_name_way i) (value_way v)
    attribute_way (g.listener {i = i} h k p m v w) = is.along (behind_name_way i) (is.along (listener_way m) (given_way v))
    attribute_way (g.binding {i = i} h k p v w) = is.along (behind_name_way i) (given_way v)
    attribute_way (g.class {i = i} h k p v w) = is.along (behind_name_way i) (given_way v)
    attribute_way (g.taking {i = i} h k p v w) = is.along (behind_name_way i) (given_way v)

    attributes_way : {tag : Tag} {owned : Bool} {d : ℕ} {i o : Input} {found all : Found} → g.AttributesAt limits tag owned d i found all o → Way i o
    attributes_way (g.opening_ends {i = i} h) = is.along (is.bytes _ i) (is.bytes _ (past_blanks i))
    attributes_way (g.one_attribute {i = i} h b n a new rest) = is.along (is.bytes _ i) (is.along (attribute_way a) (attributes_way rest))
    attributes_way (g.one_slot_name {i = i} h b n s v t rest) = is.along (is.bytes _ i) (is.along (is.bytes 4 (past_blanks i)) (is.along (value_way v) (attributes_way rest)))

    pub opening_way : {tag : Tag} {owned : Bool} {d : ℕ} {i o : Input} {x : Opening} → g.OpeningAt limits tag owned d i x o → Way i o
    opening_way (g.opened all l) = attributes_way all

  pub comment_way : {i o : Input} → g.CommentAt i o → Way i o
  comment_way (g.comment {i = i} h) = is.bytes _ i

  pub tag_end_way : {i o : Input} → g.TagEndAt i o → Way i o
  tag_end_way (g.tag_end {i = i} h) = is.along (is.bytes _ i) (is.bytes 1 (past_blanks i))

  pub script_way : (limits : Limits) → ((i o : Input) (found : List Stmt) → ScriptAt limits i found o → Way i o)
      → {i o : Input} {found : List Stmt} → g.ScriptTagAt limits i found o → Way i o
  script_way limits scripts (g.script {i = i} {j = j} {o = o} {n = n} h c b s) = is.along (is.bytes 7 i) (is.along (tag_end_way c) (is.beyond n (n + 9) j o (scripts (cut n j) o _ s)))

  pub style_way : {i o : Input} → g.StyleAt i o → Way i o
  style_way (g.style {i = i} {j = j} c b) = is.along (is.bytes 6 i) (is.along (tag_end_way c) (is.bytes _ j))

-- ---- two such relations

-- what is left is no longer
pub shorter : IsWay (λ i o. left o ≤ left i)
unfolding left
shorter = record {
  stays = λ i. omega arith;
  along = λ p q. omega (arith, p, q);
  bytes = λ n i. (let size = length-drop n i.text in omega arith);
  knows = λ name i. omega arith;
  passes = λ i o e k. past_shorter i o e;
  beyond = λ n m i o le. (let size = length-drop m i.text in omega arith);
}

-- the names that were lent stay
pub known : IsWay (λ i o. o.known ≡ i.known)
known = record {
  stays = λ i. refl;
  along = λ p q. q ∙ p;
  bytes = λ n i. refl;
  knows = λ name i. refl;
  passes = λ i o e k. k;
  beyond = λ n m i o e. e;
}
