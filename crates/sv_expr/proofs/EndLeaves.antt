-- Primary expressions of the grammar are read, each from its parts.
use Rattle.std.proofs.Common.{◌≡◌, ◌≢◌, ◌≤◌, inl, ℕ, zero, suc, true, false, List, [], ◌∷◌, ◌++◌, refl, arith}
use Rattle.std.specs.Prelude.{nat_le, Some, Ok, ℤ}
use Rattle.sv_ast.specs.declared.names.Named.{Named}
use Rattle.sv_ast.specs.declared.names.Ref.{Ref}
use Rattle.sv_ast.specs.declared.names.Ref.TheVariants.{Plain}
use Rattle.sv_ast.specs.declared.refusals.Kind.TheVariants.{TooDeep}
use Rattle.sv_ast.specs.declared.refusals.Refused.{Refused}
use Rattle.sv_ast.specs.declared.script_tree.Entry.{Entry}
use Rattle.sv_ast.specs.declared.script_tree.Expr.{Expr}
use Rattle.sv_ast.specs.declared.script_tree.ExprKind.{ExprKind}
use Rattle.sv_ast.specs.declared.script_tree.ExprKind.TheVariants as e
use Rattle.sv_ast.specs.declared.script_tree.Field.{Field}
use Rattle.sv_ast.specs.declared.script_tree.Field.TheVariants.{Pair, Spread}
use Rattle.sv_lex.specs.declared.cursor.Run.{Run}
use Rattle.sv_lex.specs.declared.lexeme.Lexeme.{Lexeme}
use Rattle.sv_lex.specs.declared.lexeme.Lexeme.TheVariants as k
use Rattle.sv_lex.specs.Literals.{numeral, string, run}
use Rattle.sv_lex.specs.Reader.{Input, refusal, sees, next, left, name, word_text}
use Rattle.sv_lex.proofs.Ends.{Ends, ends_then, expect_yes}
use Rattle.sv_lex.proofs.Progress.{run-less, next-le}
use Rattle.sv_lex.proofs.Sees.{sees_yes, sees_no, after_yes, after_no}
use Rattle.sv_expr.specs.declared.form.Form.TheVariants.{Whole, Bracketed}
use Rattle.sv_expr.specs.Grammar as g
use Rattle.sv_expr.specs.Limits.{Limits}
use Rattle.sv_expr.specs.Lists.{listed}
use Rattle.sv_expr.specs.Nodes.{form, entry_of, with_run}
use Rattle.sv_expr.specs.Operators.{literal}
use Rattle.sv_expr.specs.Rules as r
use Rattle.sv_expr.specs.Rules.{Readers, target, number, quoted, constant, shorthand, opened, bracketed, entry, list, spread, pair, quoted_field, worded_field, named_field, field, object, parts_from, parts, template, primary}
use Rattle.sv_expr.proofs.EndLists.{refuses, ends_choice}
use Rattle.sv_expr.proofs.Words.{is_word, word_text_sees}

pub target_ends : (P : Refused → Type 0) {i o : Input} {ref : Ref} → g.Target i ref o → Ends P (target i) (ref, o)
unfolding target
target_ends P (g.plain h e) = rw h (ends_then P _ _ (inl e) (inl refl))
target_ends P (g.store h e) = rw h (ends_then P _ _ (inl e) (inl refl))

module _ (P : Refused → Type 0) (limits : Limits) (room : ℕ) (below : Readers) where
  pub opened_ends : (i : Input) → (nat_le 1 room ≡ false → P (refusal TooDeep i)) → Ends P (opened limits room below i) (tt, i)
  unfolding opened
  opened_ends i full = ends_choice P (nat_le 1 room) _ _ i _ (λ e. inl refl) (λ e. refuses P TooDeep i _ (full e))

  pub number_ends : (i o : Input) (v : ℤ) → sees i ≡ k.Numeral → Ends P (numeral limits.number i) (v, o) → Ends P (primary limits room below i) (form i o (e.Num v), o)
  unfolding primary number
  number_ends i o v h e = rw h (ends_then P _ _ e (inl refl))

  pub quoted_ends : (i o : Input) (text : List ℕ) → sees i ≡ k.Quoted → string i ≡ Ok (text, o) → Ends P (primary limits room below i) (form i o (e.Text text), o)
  unfolding primary quoted
  quoted_ends i o text h e = rw h (ends_then P _ _ (inl e) (inl refl))

  constant_yes : (i : Input) (kind : ExprKind) → literal (sees i) ≡ Some kind → Ends P (constant i) (form i (next i) kind, next i)
  unfolding constant
  constant_yes i kind h = rw h (inl refl)

  pub constant_ends : (i : Input) (kind : ExprKind) → literal (sees i) ≡ Some kind → Ends P (primary limits room below i) (form i (next i) kind, next i)
  unfolding primary
  constant_ends i kind h = by (sees i) h
    where
      by : (l : Lexeme) → literal l ≡ Some kind → Ends P (r.primary_by limits room below l i) (form i (next i) kind, next i)
      by k.Numeral e = absurd (cc)
      by k.Quoted e = absurd (cc)
      by k.Backquote e = absurd (cc)
      by k.LParen e = absurd (cc)
      by k.LBracket e = absurd (cc)
      by k.LBrace e = absurd (cc)
      by _ e = constant_yes i kind h

  pub bracket_ends : (i j : Input) (x : Expr) → sees i ≡ k.LParen → Ends P (below.inside Bracketed (next i)) (x, j) → sees j ≡ k.RParen → Ends P (primary limits room below i) (x, next j)
  unfolding primary bracketed
  bracket_ends i j x h hx c = rw h (ends_then P _ _ hx (ends_then P _ _ (inl (expect_yes k.RParen j c)) (inl refl)))

  pub list_ends : (i o : Input) (found : List Entry) → sees i ≡ k.LBracket → (nat_le 1 room ≡ false → P (refusal TooDeep i))
      → Ends P (listed (entry limits room below) k.RBracket (next i)) (found, o) → Ends P (primary limits room below i) (form i o (e.List found), o)
  unfolding primary list
  list_ends i o found h full hs = rw h (ends_then P _ _ (opened_ends i full) (ends_then P _ _ hs (inl refl)))

  pub object_ends : (i o : Input) (found : List Field) → sees i ≡ k.LBrace → (nat_le 1 room ≡ false → P (refusal TooDeep i))
      → Ends P (listed (field limits room below) k.RBrace (next i)) (found, o) → Ends P (primary limits room below i) (form i o (e.Obj found), o)
  unfolding primary object
  object_ends i o found h full hs = rw h (ends_then P _ _ (opened_ends i full) (ends_then P _ _ hs (inl refl)))

  pub item_ends : (i o : Input) (x : Expr) → sees i ≢ k.Dots → Ends P (below.inside Whole i) (x, o) → Ends P (entry limits room below i) (entry_of false x, o)
  unfolding entry
  item_ends i o x n hx = rw (sees_no k.Dots i n, after_no k.Dots i n) (ends_then P _ _ hx (inl refl))

  pub item_spread_ends : (i o : Input) (x : Expr) → sees i ≡ k.Dots → Ends P (below.inside Whole (next i)) (x, o) → Ends P (entry limits room below i) (entry_of true x, o)
  unfolding entry
  item_spread_ends i o x h hx = rw (sees_yes k.Dots i h, after_yes k.Dots i h) (ends_then P _ _ hx (inl refl))

  -- ---- fields

  pub field_name_ends : (i o : Input) (key : List ℕ) (found : Named) → sees i ≡ k.Name → sees (next i) ≢ k.Colon → word_text i ≡ Ok (key, i) → name i ≡ Ok (found, o)
      → Ends P (field limits room below i) (Pair key (form i o (e.Read (Plain found.name))), o)
  unfolding field named_field shorthand
  field_name_ends i o key found h c w n = rw h (rw (sees_no k.Colon (next i) c) (ends_then P _ _ (inl w) (ends_then P _ _ (inl n) (inl refl))))

  worded_ends : (i o : Input) (key : List ℕ) (x : Expr) → word_text i ≡ Ok (key, i) → sees (next i) ≡ k.Colon → Ends P (below.inside Whole (next (next i))) (x, o)
      → Ends P (worded_field limits room below i) (Pair key x, o)
  unfolding worded_field pair
  worded_ends i o key x w c hx = ends_then P _ _ (inl w) (ends_then P _ _ (inl (expect_yes k.Colon (next i) c)) (ends_then P _ _ hx (inl refl)))

  named_ends : (i : Input) (z : Field × Input) → sees (next i) ≡ k.Colon → Ends P (worded_field limits room below i) z → Ends P (named_field limits room below i) z
  unfolding named_field
  named_ends i z c h = rw (sees_yes k.Colon (next i) c) h

  pub field_word_ends : (i o : Input) (key : List ℕ) (x : Expr) → word_text i ≡ Ok (key, i) → sees (next i) ≡ k.Colon → Ends P (below.inside Whole (next (next i))) (x, o)
      → Ends P (field limits room below i) (Pair key x, o)
  unfolding field
  field_word_ends i o key x w c hx = by (sees i) (word_text_sees i i key w)
    where
      by : (l : Lexeme) → is_word l ≡ true → Ends P (r.field_by limits room below l i) (Pair key x, o)
      by k.Dots e = absurd (cc)
      by k.Quoted e = absurd (cc)
      by k.Name e = named_ends i _ c (worded_ends i o key x w c hx)
      by _ e = worded_ends i o key x w c hx

  pub field_string_ends : (i j o : Input) (key : List ℕ) (x : Expr) → sees i ≡ k.Quoted → string i ≡ Ok (key, j) → sees j ≡ k.Colon → Ends P (below.inside Whole (next j)) (x, o)
      → Ends P (field limits room below i) (Pair key x, o)
  unfolding field quoted_field pair
  field_string_ends i j o key x h s c hx = rw h (ends_then P _ _ (inl s) (ends_then P _ _ (inl (expect_yes k.Colon j c)) (ends_then P _ _ hx (inl refl))))

  pub field_spread_ends : (i o : Input) (x : Expr) → sees i ≡ k.Dots → Ends P (below.inside Whole (next i)) (x, o) → Ends P (field limits room below i) (Spread x, o)
  unfolding field spread
  field_spread_ends i o x h hx = rw h (ends_then P _ _ hx (inl refl))

  -- ---- templates

  pub run_ends : (n : ℕ) (found : List Expr) (i o : Input) (piece : Run) → left i ≤ n → run i ≡ Ok ((piece, false), o)
      → Ends P (parts_from limits room below n found i) (with_run piece found, o)
  unfolding parts_from
  run_ends zero found i o piece le h = let less = run-less i o _ h in absurd (omega arith)
  run_ends (suc n) found i o piece le h = ends_then P _ _ (inl h) (inl refl)

  pub hole_ends : (n : ℕ) (found all : List Expr) (i j m o : Input) (piece : Run) (x : Expr) → left i ≤ n → run i ≡ Ok ((piece, true), j)
      → Ends P (below.inside Whole j) (x, m) → sees m ≡ k.RBrace → left m ≤ left j
      → ((n : ℕ) → left (next m) ≤ n → Ends P (parts_from limits room below n (with_run piece found ++ x ∷ []) (next m)) (all, o))
      → Ends P (parts_from limits room below n found i) (all, o)
  unfolding parts_from
  hole_ends zero found all i j m o piece x le h hx c shrinks rest = let less = run-less i j _ h in absurd (omega arith)
  hole_ends (suc n) found all i j m o piece x le h hx c shrinks rest =
      let less = run-less i j _ h in
      let last = next-le m in
      ends_then P _ _ (inl h) (ends_then P _ _ hx (ends_then P _ _ (inl (expect_yes k.RBrace m c)) (rest n (omega arith))))

  pub template_ends : (i o : Input) (found : List Expr) → sees i ≡ k.Backquote → Ends P (parts_from limits room below (left (next i)) [] (next i)) (found, o)
      → Ends P (primary limits room below i) (form i o (e.Template found), o)
  unfolding primary template parts
  template_ends i o found h hs = rw h (ends_then P _ _ hs (inl refl))
