-- Primary expressions that are read are in the grammar.
use Rattle.std.proofs.Common.{◌≡◌, ◌≢◌, ◌≤◌, ℕ, zero, suc, Bool, List, [], ◌∷◌, ◌++◌, refl, ap, sym, ◌∙◌, subst}
use Rattle.std.specs.Prelude.{nat_le, Option, Some, None, Ok}
use Rattle.sv_ast.specs.declared.names.Ref.TheVariants.{Plain}
use Rattle.sv_ast.specs.declared.script_tree.Expr.{Expr}
use Rattle.sv_ast.specs.declared.script_tree.ExprKind.{ExprKind}
use Rattle.sv_ast.specs.declared.script_tree.Field.{Field}
use Rattle.sv_ast.specs.declared.script_tree.Stmt.{Stmt}
use Rattle.sv_lex.specs.declared.cursor.Run.{Run}
use Rattle.sv_lex.specs.declared.lexeme.Lexeme.{Lexeme}
use Rattle.sv_lex.specs.declared.lexeme.Lexeme.TheVariants as k
use Rattle.sv_lex.specs.Literals.{numeral, string, run}
use Rattle.sv_lex.specs.Reader.{Input, Parser, and_then, ◌>>=◌, pure, sees, sees_one, next, left, name, store_name, word_text}
use Rattle.sv_lex.proofs.Sees.{unseen}
use Rattle.sv_lex.proofs.Steps.{Holds, holds_then, holds_weaker, holds_if, holds_choice, holds_choice_then, holds_expect, holds_eat}
use Rattle.sv_expr.specs.declared.form.Form.{Form}
use Rattle.sv_expr.specs.declared.form.Form.TheVariants.{Whole, Bracketed}
use Rattle.sv_expr.specs.Grammar as g
use Rattle.sv_expr.specs.Limits.{Limits}
use Rattle.sv_expr.specs.Lists.{listed}
use Rattle.sv_expr.specs.Nodes.{entry_of, with_run}
use Rattle.sv_expr.specs.Operators.{literal}
use Rattle.sv_expr.specs.Rules as r
use Rattle.sv_expr.specs.Rules.{Readers, target, number, quoted, constant, shorthand, opened, bracketed, entry, list, spread, pair, quoted_field, worded_field, named_field, field, object, parts_from, parts, template, primary}
use Rattle.sv_expr.proofs.SoundLists.{holds_self, leb_true, IsList, listed_holds}
use Rattle.sv_expr.proofs.Words.{name_sees, word_text_stays}

plain_holds : (i : Input) → Holds (g.Target i) ((name >>= (λ found. pure (Plain found.name))) i)
plain_holds i = holds_then (λ found o. name i ≡ Ok (found, o)) (g.Target i) (name i) _ (holds_self (name i)) (λ found o e. g.plain (name_sees i o found e) e)

pub target_holds : (i : Input) → Holds (g.Target i) (target i)
unfolding target
target_holds i = by (sees i) refl
  where
    by : (l : Lexeme) → sees i ≡ l → Holds (g.Target i) (r.target_by l i)
    by k.Store h = holds_then (λ found o. store_name i ≡ Ok (found, o)) (g.Target i) (store_name i) _ (holds_self (store_name i)) (λ found o e. g.store h e)
    by _ h = plain_holds i

-- what is read in a construct is in the grammar
abbrev pub Holding : Limits → (ℕ → Readers) → ℕ → Type 0
Holding limits readers d = (form : Form) (i : Input) → Holds (g.Inside limits (λ n. (readers n).block) d form i) ((readers d).inside form i)

module _ (limits : Limits) (readers : ℕ → Readers) (d : ℕ) (below : Holding limits readers d) where
  abbrev block : ℕ → Parser (List Stmt)
  block n = (readers n).block

  abbrev Inside : Form → Input → Expr → Input → Type 0
  Inside = g.Inside limits block d

  abbrev Primary : Input → Expr → Input → Type 0
  Primary = g.Primary limits block d

  -- behind what is read in a construct
  pub holds_inside : {B : Type 0} (Q : B → Input → Type 0) (form : Form) (i : Input) (f : Expr → Parser B)
      → ((x : Expr) (j : Input) → Inside form i x j → Holds Q (f x j)) → Holds Q (and_then ((readers d).inside form i) f)
  holds_inside Q form i f h = holds_then (Inside form i) Q ((readers d).inside form i) f (below form i) h

  pub holds_opened : {B : Type 0} (Q : B → Input → Type 0) (i : Input) (f : Unit {0} → Parser B)
      → (1 ≤ d → Holds Q (f tt i)) → Holds Q (and_then (opened limits d (readers d) i) f)
  unfolding opened
  holds_opened Q i f h = holds_choice_then Q (nat_le 1 d) _ _ i f (λ e. h (leb_true 1 d e)) (λ e. tt)

  number_holds : (i : Input) → sees i ≡ k.Numeral → Holds (Primary i) (number limits i)
  unfolding number
  number_holds i h = holds_then (λ v o. numeral limits.number i ≡ Ok (v, o)) (Primary i) (numeral limits.number i) _ (holds_self (numeral limits.number i)) (λ v o e. g.number h e)

  quoted_holds : (i : Input) → sees i ≡ k.Quoted → Holds (Primary i) (quoted i)
  unfolding quoted
  quoted_holds i h = holds_then (λ v o. string i ≡ Ok (v, o)) (Primary i) (string i) _ (holds_self (string i)) (λ v o e. g.quoted h e)

  constant_holds : (i : Input) → Holds (Primary i) (constant i)
  unfolding constant
  constant_holds i = by (literal (sees i)) refl
    where
      by : (o : Option ExprKind) → literal (sees i) ≡ o → Holds (Primary i) (r.constant_by o i)
      by None h = tt
      by (Some kind) h = g.constant h

  bracketed_holds : (i : Input) → sees i ≡ k.LParen → Holds (Primary i) (bracketed limits d (readers d) i)
  unfolding bracketed
  bracketed_holds i h = holds_inside (Primary i) Bracketed (next i) _ (λ x j hx. holds_expect (Primary i) k.RParen j _ (λ c. g.bracket h hx c))

  -- ---- lists

  entry_holds : (i : Input) → Holds (g.Item limits block d i) (entry limits d (readers d) i)
  unfolding entry
  entry_holds i =
      let Q = g.Item limits block d i in
      holds_eat Q k.Dots i (λ is_spread. (readers d).inside Whole >>= (λ x. pure (entry_of is_spread x)))
      (λ h. holds_inside Q Whole (next i) _ (λ x o hx. g.item_spread h hx))
      (λ h. holds_inside Q Whole i _ (λ x o hx. g.item h hx))

  entries : IsList k.RBracket (g.Item limits block d) (g.Entries limits block d)
  entries = record {
    ends = λ i h. g.entries_end h;
    last = λ i j x p h. g.entries_last p h;
    more = λ i j o x xs p h rest. g.entries_more p h rest;
  }

  list_holds : (i : Input) → sees i ≡ k.LBracket → Holds (Primary i) (list limits d (readers d) i)
  unfolding list
  list_holds i h = holds_opened (Primary i) i _ (λ room. holds_then (g.Entries limits block d (next i)) (Primary i) (listed (entry limits d (readers d)) k.RBracket (next i)) _
      (listed_holds _ k.RBracket (g.Item limits block d) (g.Entries limits block d) entries entry_holds (next i))
      (λ found o m. g.list h room m))

  -- ---- fields

  abbrev OneField : Input → Field → Input → Type 0
  OneField = g.OneField limits block d

  spread_holds : (i : Input) → sees i ≡ k.Dots → Holds (OneField i) (spread limits d (readers d) i)
  unfolding spread
  spread_holds i h = holds_inside (OneField i) Whole (next i) _ (λ x o hx. g.field_spread h hx)

  quoted_field_holds : (i : Input) → sees i ≡ k.Quoted → Holds (OneField i) (quoted_field limits d (readers d) i)
  unfolding quoted_field pair
  quoted_field_holds i h = holds_then (λ v o. string i ≡ Ok (v, o)) (OneField i) (string i) _ (holds_self (string i))
      (λ key j e. holds_expect (OneField i) k.Colon j _ (λ c. holds_inside (OneField i) Whole (next j) _ (λ x o hx. g.field_string h e c hx)))

  -- the text of a word, which stays
  holds_word : {B : Type 0} (Q : B → Input → Type 0) (i : Input) (f : List ℕ → Parser B)
      → ((key : List ℕ) → word_text i ≡ Ok (key, i) → Holds Q (f key i)) → Holds Q (and_then (word_text i) f)
  holds_word Q i f h = holds_then (λ v j. word_text i ≡ Ok (v, j)) Q (word_text i) f (holds_self (word_text i))
      (λ key j e. let at : j ≡ i = sym (word_text_stays i j key e) in subst (λ p. Holds Q (f key p)) (sym at) (h key (subst (λ p. word_text i ≡ Ok (key, p)) at e)))

  worded_field_holds : (i : Input) → Holds (OneField i) (worded_field limits d (readers d) i)
  unfolding worded_field pair
  worded_field_holds i = holds_word (OneField i) i _
      (λ key e. holds_expect (OneField i) k.Colon (next i) _ (λ c. holds_inside (OneField i) Whole (next (next i)) _ (λ x o hx. g.field_word e c hx)))

  shorthand_holds : (i : Input) → sees (next i) ≢ k.Colon → Holds (OneField i) (shorthand i)
  unfolding shorthand
  shorthand_holds i c = holds_word (OneField i) i _ (λ key e. holds_then (λ found o. name i ≡ Ok (found, o)) (OneField i) (name i) _ (holds_self (name i))
      (λ found o n. g.field_name (name_sees i o found n) c e n))

  named_field_holds : (i : Input) → Holds (OneField i) (named_field limits d (readers d) i)
  unfolding named_field
  named_field_holds i = holds_if (OneField i) (sees_one k.Colon (next i)) _ _ (λ e. worded_field_holds i) (λ e. shorthand_holds i (unseen k.Colon (next i) e))

  field_holds : (i : Input) → Holds (OneField i) (field limits d (readers d) i)
  unfolding field
  field_holds i = by (sees i) refl
    where
      by : (l : Lexeme) → sees i ≡ l → Holds (OneField i) (r.field_by limits d (readers d) l i)
      by k.Dots h = spread_holds i h
      by k.Quoted h = quoted_field_holds i h
      by k.Name h = named_field_holds i
      by _ h = worded_field_holds i

  fields : IsList k.RBrace OneField (g.Fields limits block d)
  fields = record {
    ends = λ i h. g.fields_end h;
    last = λ i j x p h. g.fields_last p h;
    more = λ i j o x xs p h rest. g.fields_more p h rest;
  }

  object_holds : (i : Input) → sees i ≡ k.LBrace → Holds (Primary i) (object limits d (readers d) i)
  unfolding object
  object_holds i h = holds_opened (Primary i) i _ (λ room. holds_then (g.Fields limits block d (next i)) (Primary i) (listed (field limits d (readers d)) k.RBrace (next i)) _
      (listed_holds _ k.RBrace OneField (g.Fields limits block d) fields field_holds (next i))
      (λ found o m. g.object h room m))

  -- ---- templates

  parts_from_holds : (n : ℕ) (found : List Expr) (i : Input) → Holds (g.Parts limits block d i found) (parts_from limits d (readers d) n found i)
  unfolding parts_from
  parts_from_holds zero found i = tt
  parts_from_holds (suc n) found i =
      let Q = g.Parts limits block d i found in
      holds_then (λ (piece : Run × Bool) j. run i ≡ Ok (piece, j)) Q (run i) _ (holds_self (run i))
      (λ piece j e. holds_choice Q piece.1 _ _ j
      (λ b. holds_inside Q Whole j _ (λ x m hx. holds_expect Q k.RBrace m _ (λ c.
      holds_weaker (g.Parts limits block d (next m) (with_run piece.0 found ++ x ∷ [])) Q _
      (λ all o rest. g.hole (e ∙ ap (λ (b : Bool). Ok ((piece.0, b), j)) b) hx c rest) (parts_from_holds n (with_run piece.0 found ++ x ∷ []) (next m)))))
      (λ b. g.last_run (e ∙ ap (λ (b : Bool). Ok ((piece.0, b), j)) b)))

  template_holds : (i : Input) → sees i ≡ k.Backquote → Holds (Primary i) (template limits d (readers d) i)
  unfolding template parts
  template_holds i h = holds_then (g.Parts limits block d (next i) []) (Primary i) (parts_from limits d (readers d) (left (next i)) [] (next i)) _ (parts_from_holds (left (next i)) [] (next i))
      (λ found o m. g.template h m)

  pub primary_holds : (i : Input) → Holds (Primary i) (primary limits d (readers d) i)
  unfolding primary
  primary_holds i = by (sees i) refl
    where
      by : (l : Lexeme) → sees i ≡ l → Holds (Primary i) (r.primary_by limits d (readers d) l i)
      by k.Numeral h = number_holds i h
      by k.Quoted h = quoted_holds i h
      by k.Backquote h = template_holds i h
      by k.LParen h = bracketed_holds i h
      by k.LBracket h = list_holds i h
      by k.LBrace h = object_holds i h
      by _ h = constant_holds i
