-- Attributes and openings that are read are in the grammar.
use Rattle.std.proofs.Common.{◌≡◌, ◌≢◌, ℕ, zero, suc, Bool, true, false, List, refl, subst}
use Rattle.std.specs.Prelude.{◌==◌, nat_le, is_some, Option, Some, None, Ok, codes}
use Rattle.sv_ast.specs.declared.markup_tree.AttrKind.{AttrKind}
use Rattle.sv_ast.specs.declared.markup_tree.AttrKind.TheVariants as kind
use Rattle.sv_ast.specs.declared.markup_tree.AttrValue.{AttrValue}
use Rattle.sv_ast.specs.declared.markup_tree.Modifiers.{Modifiers}
use Rattle.sv_ast.specs.declared.markup_tree.TagAttr.{TagAttr}
use Rattle.sv_ast.specs.declared.refusals.Kind.{Kind}
use Rattle.sv_lex.specs.declared.lexeme.Lexeme.TheVariants as k
use Rattle.sv_lex.specs.Literals.{moved}
use Rattle.sv_lex.specs.Reader.{Input, and_then, next, spelling, left, span_from}
use Rattle.sv_lex.proofs.Steps.{Holds, holds_then, holds_weaker, holds_if, holds_test, holds_choice, holds_expect}
use Rattle.sv_expr.specs.Limits.{Limits}
use Rattle.sv_expr.proofs.SoundLists.{holds_self, leb_true}
use Rattle.sv_tags.specs.declared.directives.Tag.{Tag}
use Rattle.sv_tags.specs.declared.holes.Filling.{Filling}
use Rattle.sv_tags.specs.declared.holes.Filling.TheVariants as filling
use Rattle.sv_tags.specs.declared.openings.Found.{Found}
use Rattle.sv_tags.specs.Attributes as a
use Rattle.sv_tags.specs.Attributes.{no_modifiers, modifiers, settled, ascii_name, short, or_else, shorthand_of, shorthand, attr, named, attribute}
use Rattle.sv_tags.specs.Classes.{first, begins}
use Rattle.sv_tags.specs.Directives.{kind_of, filling, misplaced, misvalued}
use Rattle.sv_tags.specs.Grammar as g
use Rattle.sv_script.specs.Script.{expression}
use Rattle.sv_tags.specs.Holes.{opened}
use Rattle.sv_tags.specs.Openings as o
use Rattle.sv_tags.specs.Openings.{added, put, names_slot, end_len, has_blanks, past_blanks, slot_name, more, attributes_from, attributes, lacks_slot, finished, opening_tag, nothing}
use Rattle.sv_script.specs.Closed.{ExpressionAt}
use Rattle.sv_tags.specs.Values.{literal, value, directive_value}
use Rattle.sv_tags.proofs.Bytes.{same, other}
use Rattle.sv_tags.proofs.SoundValues.{listener_holds, value_holds, given_holds}

settled_holds : (Q : TagAttr → Input → Type 0) (fault : Option Kind) (x : TagAttr) (i : Input) → (fault ≡ None → Q x i) → Holds Q (settled fault x i)
settled_holds Q None x i h = h refl
settled_holds Q (Some kind) x i h = tt

put_holds : (x : TagAttr) (found : Found) (i : Input) → Holds (λ longer o. (added x found ≡ Some longer) × (o ≡ i)) (put x found i)
unfolding put
put_holds x found i = by (added x found) refl
  where
    by : (one : Option Found) → added x found ≡ one → Holds (λ longer o. (added x found ≡ Some longer) × (o ≡ i)) (o.put_by one x i)
    by None e = tt
    by (Some longer) e = (e, refl)

none_found : (t : Option (List ℕ)) → is_some t ≡ false → t ≡ None
none_found None h = refl
none_found (Some t) h = absurd (cc)

module _ (limits : Limits) (holding : (d : ℕ) (i : Input) → Holds (ExpressionAt limits d i) (expression limits d i)) (d : ℕ) (tag : Tag) (owned : Bool) where
  abbrev IsAttribute : Input → TagAttr → Input → Type 0
  IsAttribute = g.AttributeAt limits tag owned d

  shorthand_holds : (i : Input) → first i.text ≡ 123 → Holds (IsAttribute i) (shorthand tag owned d i)
  unfolding shorthand shorthand_of opened
  shorthand_holds i h = holds_if (IsAttribute i) (begins (codes "{...") i.text) _ _ (λ b. tt)
      (λ b. holds_test (IsAttribute i) (nat_le 1 d) _ _ _
      (λ e. holds_then (λ found j. ascii_name (moved 1 i) ≡ Ok (found, j)) (IsAttribute i) (ascii_name (moved 1 i)) _ (holds_self (ascii_name (moved 1 i)))
      (λ found j n. holds_expect (IsAttribute i) k.RBrace j _ (λ c.
      settled_holds (IsAttribute i) (or_else (misplaced tag owned (spelling (moved 1 i))) (misvalued tag (spelling (moved 1 i)) (short (span_from i.at (next j)) found).value)) _ (next j)
      (λ well. g.shorthand h b (leb_true 1 d e) n c well))))
      (λ e. tt))

  -- behind the modifiers, what stands of a directive or another attribute
  named_holds : (i : Input) → first i.text ≢ 123 → misplaced tag owned i.text ≡ None → Holds (IsAttribute i) (named limits d tag i)
  unfolding named modifiers
  named_holds i h p = by (kind_of i.text) refl
    where
      j : Input
      j = g.behind_name i

      Q : TagAttr → Input → Type 0
      Q = g.AttributeAt limits tag owned d i

      given : (f : Filling) (m : Modifiers) (z : Input) → ((v : AttrValue) (o : Input) → g.GivenAt limits f d z v o → misvalued tag i.text v ≡ None → Q (attr i m v o) o)
          → Holds Q (and_then (directive_value limits d f z) (λ v o. settled (misvalued tag i.text v) (attr i m v o) o))
      given f m z is = holds_then (g.GivenAt limits f d z) Q (directive_value limits d f z) _ (given_holds limits holding d f z)
          (λ v o found. settled_holds Q (misvalued tag i.text v) (attr i m v o) o (λ well. is v o found well))

      valued : ((v : AttrValue) (o : Input) → g.ValueAt limits d j v o → misvalued tag i.text v ≡ None → Q (attr i no_modifiers v o) o)
          → Holds Q (and_then (value limits d j) (λ v o. settled (misvalued tag i.text v) (attr i no_modifiers v o) o))
      valued is = holds_then (g.ValueAt limits d j) Q (value limits d j) _ (value_holds limits holding d j)
          (λ v o found. settled_holds Q (misvalued tag i.text v) (attr i no_modifiers v o) o (λ well. is v o found well))

      by : (which : AttrKind) → kind_of i.text ≡ which
          → Holds Q (and_then (modifiers tag which j) (λ m z. and_then (a.value_by limits d (filling which) z) (λ v o. settled (misvalued tag i.text v) (attr i m v o) o)))
      by kind.Plain e = valued (λ v o found well. g.plain h e p found well)
      by kind.Slot e = valued (λ v o found well. g.slotted h e p found well)
      by kind.On e = holds_then (g.ListenerAt tag j) Q (modifiers tag kind.On j) _ (listener_holds tag j)
          (λ m z l. given filling.Value m z (λ v o found well. g.listener h e p l found well))
      by kind.Bind e = given filling.Target no_modifiers j (λ v o found well. g.binding h e p found well)
      by kind.Class e = given filling.Value no_modifiers j (λ v o found well. g.class h e p found well)
      by kind.Let e = given filling.Name no_modifiers j (λ v o found well. g.taking h e p found well)

  pub attribute_holds : (i : Input) → Holds (IsAttribute i) (attribute limits d tag owned i)
  unfolding attribute
  attribute_holds i = holds_if (IsAttribute i) (first i.text == 123) _ _ (λ h. shorthand_holds i (same (first i.text) 123 h))
      (λ h. by (misplaced tag owned i.text) refl (other (first i.text) 123 h))
    where
      by : (fault : Option Kind) → misplaced tag owned i.text ≡ fault → first i.text ≢ 123 → Holds (IsAttribute i) (a.placed limits d fault tag i)
      by None p h = named_holds i h p
      by (Some kind) p h = tt

  -- ---- openings

  abbrev IsMore : Found → Input → Found → Input → Type 0
  IsMore found i all o = g.AttributesAt limits tag owned d i found all o

  -- an attribute, and what it makes of those behind it
  abbrev Leads : Found → Input → Found → Input → Type 0
  Leads found i longer j = (all : Found) (o : Input) → IsMore longer j all o → IsMore found i all o

  more_holds : (found : Found) (i : Input) → end_len (past_blanks i).text ≡ 0 → has_blanks i.text ≡ true → Holds (Leads found i) (more limits d tag owned found (past_blanks i))
  unfolding more slot_name
  more_holds found i e b = holds_if (Leads found i) (names_slot tag (past_blanks i).text) _ _
      (λ n. holds_if (Leads found i) (is_some found.slot) _ _ (λ s. tt)
      (λ s. holds_then (g.ValueAt limits d (moved 4 (past_blanks i))) (Leads found i) (value limits d (moved 4 (past_blanks i))) _ (value_holds limits holding d (moved 4 (past_blanks i)))
      (λ v j found_value. by n (none_found found.slot s) v j found_value (literal v) refl)))
      (λ n. holds_then (IsAttribute (past_blanks i)) (Leads found i) (attribute limits d tag owned (past_blanks i)) _ (attribute_holds (past_blanks i))
      (λ x j one. holds_weaker (λ longer z. (added x found ≡ Some longer) × (z ≡ j)) (Leads found i) _
      (λ longer z new all o rest. g.one_attribute e b n one new.0 (subst (λ z. IsMore longer z all o) new.1 rest)) (put_holds x found j)))
    where
      by : names_slot tag (past_blanks i).text ≡ true → found.slot ≡ None → (v : AttrValue) (j : Input) → g.ValueAt limits d (moved 4 (past_blanks i)) v j
          → (t : Option (List ℕ)) → literal v ≡ t → Holds (Leads found i) (o.slot_named (past_blanks i).at found t j)
      by n s v j is None l = tt
      by n s v j is (Some t) l = λ all o rest. g.one_slot_name e b n s is l rest

  from_holds : (from n : ℕ) (found : Found) (i : Input) → Holds (IsMore found i) (attributes_from limits d tag owned from n found i)
  unfolding attributes_from
  from_holds from zero found i = tt
  from_holds from (suc n) found i = holds_if (IsMore found i) (end_len (past_blanks i).text == 0) _ _
      (λ e. holds_if (IsMore found i) (left (past_blanks i) == 0) _ _ (λ l. tt)
      (λ l. holds_if (IsMore found i) (has_blanks i.text) _ _
      (λ b. holds_then (Leads found i) (IsMore found i) (more limits d tag owned found (past_blanks i)) _ (more_holds found i (same (end_len (past_blanks i).text) 0 e) b)
      (λ longer j lead. holds_weaker (IsMore longer j) (IsMore found i) _ (λ all o rest. lead all o rest) (from_holds from n longer j)))
      (λ b. tt)))
      (λ e. g.opening_ends (other (end_len (past_blanks i).text) 0 e))

  pub opening_holds : (from : ℕ) (i : Input) → Holds (g.OpeningAt limits tag owned d i) (opening_tag limits d tag owned from i)
  unfolding opening_tag attributes finished
  opening_holds from i = holds_then (IsMore nothing i) (g.OpeningAt limits tag owned d i) (attributes_from limits d tag owned from (left i) nothing i) _ (from_holds from (left i) nothing i)
      (λ found j all. holds_choice (g.OpeningAt limits tag owned d i) (lacks_slot tag found.attrs) _ _ j (λ l. tt) (λ l. g.opened all l))
