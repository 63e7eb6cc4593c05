-- Attributes and openings of the grammar are read, each from its parts.
use Rattle.std.proofs.Common.{◌≡◌, ◌≢◌, ◌≤◌, ◌+◌, inl, ℕ, zero, suc, Bool, true, false, cond, ◌&&◌, List, [], ◌∷◌, length, refl, sym, subst, arith}
use Rattle.std.specs.Prelude.{◌==◌, Option, Some, None, Ok, codes}
use Rattle.std.specs.Str.{bytes_eq}
use Rattle.sv_ast.specs.declared.markup_tree.AttrKind.{AttrKind}
use Rattle.sv_ast.specs.declared.markup_tree.AttrKind.TheVariants as kind
use Rattle.sv_ast.specs.declared.markup_tree.TagAttr.{TagAttr}
use Rattle.sv_ast.specs.declared.refusals.Kind.{Kind}
use Rattle.sv_ast.specs.declared.refusals.Kind.TheVariants.{Syntax}
use Rattle.sv_ast.specs.declared.refusals.Refused.{Refused}
use Rattle.sv_lex.specs.declared.lexeme.Lexeme.TheVariants as k
use Rattle.sv_lex.specs.Reader.{Input, and_then, left}
use Rattle.sv_lex.proofs.Ends.{Ends, ends_then, expect_yes}
use Rattle.sv_expr.specs.Limits.{Limits}
use Rattle.sv_tags.specs.declared.classes.Class.TheVariants.{Blank}
use Rattle.sv_tags.specs.declared.directives.Tag.{Tag}
use Rattle.sv_tags.specs.declared.openings.Found.{Found}
use Rattle.sv_tags.specs.declared.openings.Opening.{Opening}
use Rattle.sv_tags.specs.Attributes as a
use Rattle.sv_tags.specs.Attributes.{no_modifiers, modifiers, settled, shorthand_of, shorthand, attr, named, attribute}
use Rattle.sv_tags.specs.Classes.{front_len, first}
use Rattle.sv_tags.specs.Directives.{name_at, kind_of, is_slot, misplaced, misvalued, filling}
use Rattle.sv_tags.specs.Grammar as g
use Rattle.sv_tags.specs.Openings.{put, names_slot, end_len, has_blanks, past_blanks, slot_name, more, attributes_from, attributes, finished, opening_tag}
use Rattle.sv_tags.proofs.Bytes.{is_same, is_other, some, byte_left, left-moved}
use Rattle.sv_tags.proofs.EndValues.{Cause, opened_ends, listener_read, value_ends, given_ends}
use Rattle.sv_tags.proofs.Ways.{shorter, value_way, attribute_way}

-- ---- a text at which something stands has a byte

named_by : (b : Bool) (z : List ℕ) (more : Option Kind) → (length (name_at z) == 0) ≡ b → cond b (Some Syntax) more ≡ None → 1 ≤ length z
unfolding front_len
named_by b [] more e h = let f : true ≡ b = e in absurd (cc)
named_by b (c ∷ z) more e h = omega arith

placed_left : (tag : Tag) (owned : Bool) (i : Input) → misplaced tag owned i.text ≡ None → 1 ≤ left i
unfolding misplaced left
placed_left tag owned i h = named_by (length (name_at i.text) == 0) i.text _ refl h

right : (a b : Bool) → (a && b) ≡ true → b ≡ true
right true b h = h
right false b h = absurd (cc)

slot_left : (z : List ℕ) → bytes_eq (name_at z) (codes "name") ≡ true → 1 ≤ length z
unfolding front_len
slot_left [] h = absurd (cc)
slot_left (b ∷ z) h = omega arith

names_left : (tag : Tag) (i : Input) → names_slot tag i.text ≡ true → 1 ≤ left i
unfolding left
names_left tag i h = slot_left i.text (right (is_slot tag) _ h)

end_left : (z : List ℕ) → end_len z ≢ 0 → 1 ≤ length z
end_left [] h = absurd (h refl)
end_left (b ∷ z) h = omega arith

ending_left : (i : Input) → end_len i.text ≢ 0 → 1 ≤ left i
unfolding left
ending_left i h = end_left i.text h

-- behind white space there is less
blanks_less : (i : Input) → has_blanks i.text ≡ true → 1 ≤ left (past_blanks i) → left (past_blanks i) + 1 ≤ left i
blanks_less i h le = let moves = some (front_len Blank i.text) h in let size = left-moved (front_len Blank i.text) i in omega arith

not_none : (n : ℕ) → 1 ≤ n → n ≢ 0
not_none n h e = absurd (omega (arith, h, e))

module _ (limits wide : Limits) (P : Refused → Type 0) (d m : ℕ) (cause : Cause limits wide P d m) (tag : Tag) (owned : Bool) where
  settled_ends : (fault : Option Kind) (x : TagAttr) (i : Input) → fault ≡ None → Ends P (settled fault x i) (x, i)
  settled_ends fault x i h = rw h (inl refl)

  attribute_left : {i o : Input} {x : TagAttr} → g.AttributeAt wide tag owned m i x o → 1 ≤ left i
  attribute_left (g.shorthand {i = i} h b le n c w) = byte_left i (omega (arith, h))
  attribute_left (g.plain {i = i} h e p v w) = placed_left tag owned i p
  attribute_left (g.slotted {i = i} h e p v w) = placed_left tag owned i p
  attribute_left (g.listener {i = i} h e p l v w) = placed_left tag owned i p
  attribute_left (g.binding {i = i} h e p v w) = placed_left tag owned i p
  attribute_left (g.class {i = i} h e p v w) = placed_left tag owned i p
  attribute_left (g.taking {i = i} h e p v w) = placed_left tag owned i p

  -- an attribute behind its name, by its kind
  abbrev Behind : Input → TagAttr → Input → AttrKind → Type 0
  Behind i x o which =
      Ends P (and_then (modifiers tag which (g.behind_name i)) (λ n z. and_then (a.value_by limits d (filling which) z) (λ v o. settled (misvalued tag i.text v) (attr i n v o) o))) (x, o)

  named_ends : (i o : Input) (x : TagAttr) (which : AttrKind) → first i.text ≢ 123 → misplaced tag owned i.text ≡ None → kind_of i.text ≡ which → Behind i x o which
      → Ends P (attribute limits d tag owned i) (x, o)
  unfolding attribute named
  named_ends i o x which h p e is = rw (is_other (first i.text) 123 h, p) (subst (Behind i x o) (sym e) is)

  unmodified : (which : AttrKind) (i : Input) → a.is_on which ≡ false → modifiers tag which i ≡ Ok (no_modifiers, i)
  unfolding modifiers
  unmodified which i e = rw e refl

  pub attribute_ends : {i o : Input} {x : TagAttr} → g.AttributeAt wide tag owned m i x o → Ends P (attribute limits d tag owned i) (x, o)
  unfolding attribute shorthand shorthand_of
  attribute_ends (g.shorthand {i = i} {j = j} h b le n c w) = rw (is_same (first i.text) 123 h, b)
      (ends_then P _ _ (opened_ends limits wide P d m cause i le) (ends_then P _ _ (inl n) (ends_then P _ _ (inl (expect_yes k.RBrace j c)) (settled_ends _ _ _ w))))
  attribute_ends (g.plain {i = i} {o = o} h e p v w) =
      named_ends i o _ kind.Plain h p e (ends_then P _ _ (inl (unmodified kind.Plain _ refl)) (ends_then P _ _ (value_ends limits wide P d m cause v) (settled_ends _ _ _ w)))
  attribute_ends (g.slotted {i = i} {o = o} h e p v w) =
      named_ends i o _ kind.Slot h p e (ends_then P _ _ (inl (unmodified kind.Slot _ refl)) (ends_then P _ _ (value_ends limits wide P d m cause v) (settled_ends _ _ _ w)))
  attribute_ends (g.listener {i = i} {o = o} h e p l v w) =
      named_ends i o _ kind.On h p e (ends_then P _ _ (inl (listener_read l)) (ends_then P _ _ (given_ends limits wide P d m cause v) (settled_ends _ _ _ w)))
  attribute_ends (g.binding {i = i} {o = o} h e p v w) =
      named_ends i o _ kind.Bind h p e (ends_then P _ _ (inl (unmodified kind.Bind _ refl)) (ends_then P _ _ (given_ends limits wide P d m cause v) (settled_ends _ _ _ w)))
  attribute_ends (g.class {i = i} {o = o} h e p v w) =
      named_ends i o _ kind.Class h p e (ends_then P _ _ (inl (unmodified kind.Class _ refl)) (ends_then P _ _ (given_ends limits wide P d m cause v) (settled_ends _ _ _ w)))
  attribute_ends (g.taking {i = i} {o = o} h e p v w) =
      named_ends i o _ kind.Let h p e (ends_then P _ _ (inl (unmodified kind.Let _ refl)) (ends_then P _ _ (given_ends limits wide P d m cause v) (settled_ends _ _ _ w)))

  attributes_end : {i o : Input} {found all : Found} → g.AttributesAt wide tag owned m i found all o → (from n : ℕ) → left i ≤ n
      → Ends P (attributes_from limits d tag owned from n found i) (all, o)
  unfolding attributes_from more slot_name put
  attributes_end (g.opening_ends {i = i} h) from zero le =
      let some = ending_left (past_blanks i) h in let size = left-moved (front_len Blank i.text) i in absurd (omega arith)
  attributes_end (g.opening_ends {i = i} h) from (suc n) le = rw (is_other (end_len (past_blanks i).text) 0 h) (inl refl)
  attributes_end (g.one_attribute {i = i} {j = j} e b n a new rest) from zero le =
      let some = attribute_left a in let less = blanks_less i b some in absurd (omega arith)
  attributes_end (g.one_attribute {i = i} {j = j} e b n a new rest) from (suc count) le =
      let some = attribute_left a in let less = blanks_less i b some in let one = attribute_way shorter wide cause.shorter a in
      rw (is_same (end_len (past_blanks i).text) 0 e, is_other (left (past_blanks i)) 0 (not_none (left (past_blanks i)) some), b, n)
      (ends_then P _ _ (ends_then P _ _ (attribute_ends a) (rw new (inl refl))) (attributes_end rest from count (omega arith)))
  attributes_end (g.one_slot_name {i = i} {j = j} e b n s v l rest) from zero le =
      let some = names_left tag (past_blanks i) n in let less = blanks_less i b some in absurd (omega arith)
  attributes_end (g.one_slot_name {i = i} {j = j} e b n s v l rest) from (suc count) le =
      let some = names_left tag (past_blanks i) n in let less = blanks_less i b some in
      let one = value_way shorter wide cause.shorter v in let size = left-moved 4 (past_blanks i) in
      rw (is_same (end_len (past_blanks i).text) 0 e, is_other (left (past_blanks i)) 0 (not_none (left (past_blanks i)) some), b, n, s)
      (ends_then P _ _ (ends_then P _ _ (value_ends limits wide P d m cause v) (rw l (inl refl))) (attributes_end rest from count (omega arith)))

  pub opening_ends : {i o : Input} {x : Opening} (from : ℕ) → g.OpeningAt wide tag owned m i x o → Ends P (opening_tag limits d tag owned from i) (x, o)
  unfolding opening_tag attributes finished
  opening_ends from (g.opened {i = i} all l) = ends_then P _ _ (attributes_end all from (left i) (omega arith)) (rw l (inl refl))
