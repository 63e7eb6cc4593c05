-- What is in the grammar begins with no closing token, and what it leaves is no longer than what it was given.
use Rattle.std.proofs.Common.{◌≡◌, ◌≢◌, ◌≤◌, ◌<◌, ℕ, suc, ◌+◌, Bool, true, false, List, refl, ap, sym, ◌∙◌, arith}
use Rattle.std.specs.Prelude.{Some}
use Rattle.sv_ast.specs.declared.names.Named.{Named}
use Rattle.sv_ast.specs.declared.names.Ref.{Ref}
use Rattle.sv_ast.specs.declared.script_tree.Entry.{Entry}
use Rattle.sv_ast.specs.declared.script_tree.Expr.{Expr}
use Rattle.sv_ast.specs.declared.script_tree.ExprKind.{ExprKind}
use Rattle.sv_ast.specs.declared.script_tree.Field.{Field}
use Rattle.sv_ast.specs.declared.script_tree.Stmt.{Stmt}
use Rattle.sv_lex.specs.declared.lexeme.Lexeme.{Lexeme}
use Rattle.sv_lex.specs.declared.lexeme.Lexeme.TheVariants as k
use Rattle.sv_lex.specs.Look.{past}
use Rattle.sv_lex.specs.Reader.{Input, Parser, sees, next, left}
use Rattle.sv_lex.proofs.Progress.{next-le, next-less, run-less}
use Rattle.sv_expr.specs.declared.form.Form.{Form}
use Rattle.sv_expr.specs.Grammar as g
use Rattle.sv_expr.specs.Laws.{Shrinks}
use Rattle.sv_expr.specs.Limits.{Limits}
use Rattle.sv_expr.specs.Operators.{bump, literal}
use Rattle.sv_expr.proofs.Ways.{IsWay, inside_moves, item_moves, field_moves}
use Rattle.sv_expr.proofs.Words.{is_word, text_next, left_as, word_text_sees}

-- ---- how expressions begin

-- the tokens that end lists, and the end of the text
abbrev pub ends_list : Lexeme → Bool
ends_list k.RParen = true
ends_list k.RBracket = true
ends_list k.RBrace = true
ends_list k.End = true
ends_list _ = false

-- a token that ends no list
pub apart : (i : Input) (l : Lexeme) → ends_list (sees i) ≡ false → ends_list l ≡ true → sees i ≢ l
apart i l h c e = let no : true ≡ false = sym c ∙ ap ends_list (sym e) ∙ h in cc

word_begins : (l : Lexeme) → is_word l ≡ true → ends_list l ≡ false
word_begins k.RParen h = absurd (cc)
word_begins k.RBracket h = absurd (cc)
word_begins k.RBrace h = absurd (cc)
word_begins k.End h = absurd (cc)
word_begins _ h = refl

literal_begins : (l : Lexeme) (kind : ExprKind) → literal l ≡ Some kind → ends_list l ≡ false
literal_begins k.RParen kind h = absurd (cc)
literal_begins k.RBracket kind h = absurd (cc)
literal_begins k.RBrace kind h = absurd (cc)
literal_begins k.End kind h = absurd (cc)
literal_begins _ kind h = refl

bump_begins : (l : Lexeme) (up : Bool) → bump l ≡ Some up → ends_list l ≡ false
bump_begins k.RParen up h = absurd (cc)
bump_begins k.RBracket up h = absurd (cc)
bump_begins k.RBrace up h = absurd (cc)
bump_begins k.End up h = absurd (cc)
bump_begins _ up h = refl

target_begins : {i o : Input} {ref : Ref} → g.Target i ref o → ends_list (sees i) ≡ false
target_begins (g.plain h e) = ap ends_list h
target_begins (g.store h e) = ap ends_list h

params_begin : {i o : Input} {xs : List Named} → g.Params i xs o → ends_list (sees i) ≡ false
params_begin (g.one h e) = ap ends_list h
params_begin (g.several h rest) = ap ends_list h

module _ (limits : Limits) (block : ℕ → Parser (List Stmt)) where
  primary_begins : {d : ℕ} {i o : Input} {t : Expr} → g.Primary limits block d i t o → ends_list (sees i) ≡ false
  primary_begins (g.number h e) = ap ends_list h
  primary_begins (g.quoted h e) = ap ends_list h
  primary_begins (g.template h p) = ap ends_list h
  primary_begins (g.constant h) = literal_begins _ _ h
  primary_begins (g.bracket h x c) = ap ends_list h
  primary_begins (g.list h r xs) = ap ends_list h
  primary_begins (g.object h r xs) = ap ends_list h

  prefix_begins : {d : ℕ} {i o : Input} {t : Expr} → g.Prefix limits block d i t o → ends_list (sees i) ≡ false
  prefix_begins (g.negation h x) = ap ends_list h
  prefix_begins (g.minus h x) = ap ends_list h
  prefix_begins (g.bumped h r t) = bump_begins _ _ h
  prefix_begins (g.bumping t b) = target_begins t
  prefix_begins (g.read t b s n) = target_begins t
  prefix_begins (g.suffixed p s n) = primary_begins p

  binary_begins : {d n : ℕ} {i o : Input} {t : Expr} → g.Binary limits block d n i t o → ends_list (sees i) ≡ false
  binary_begins (g.operand p) = prefix_begins p
  binary_begins (g.grouped b ls n) = binary_begins b

  logical_begins : {d : ℕ} {i o : Input} {t : Expr} → g.Logical limits block d i t o → ends_list (sees i) ≡ false
  logical_begins (g.nullish b s ls n five six) = binary_begins b
  logical_begins (g.either b ls n seven) = binary_begins b

  cond_begins : {d : ℕ} {i o : Input} {t : Expr} → g.Cond limits block d i t o → ends_list (sees i) ≡ false
  cond_begins (g.only_test l h) = logical_begins l
  cond_begins (g.choice l h q x c y) = logical_begins l

  full_begins : {d : ℕ} {i o : Input} {t : Expr} → g.Full limits block d i t o → ends_list (sees i) ≡ false
  full_begins (g.is_arrow p a b) = params_begin p
  full_begins (g.is_assignment t h x) = target_begins t
  full_begins (g.is_condition a b c) = cond_begins c

  pub inside_begins : {d : ℕ} {f : Form} {i o : Input} {t : Expr} → g.Inside limits block d f i t o → ends_list (sees i) ≡ false
  inside_begins (g.inside_operand p q) = prefix_begins p
  inside_begins (g.inside_whole p q) = full_begins p
  inside_begins (g.inside_bracketed p) = full_begins p

  pub item_begins : {d : ℕ} {i o : Input} {x : Entry} → g.Item limits block d i x o → ends_list (sees i) ≡ false
  item_begins (g.item n x) = inside_begins x
  item_begins (g.item_spread h x) = ap ends_list h

  pub field_begins : {d : ℕ} {i o : Input} {x : Field} → g.OneField limits block d i x o → ends_list (sees i) ≡ false
  field_begins (g.field_name h c w n) = ap ends_list h
  field_begins (g.field_word {i = i} {key = key} w c x) = word_begins (sees i) (word_text_sees i i key w)
  field_begins (g.field_string h e c x) = ap ends_list h
  field_begins (g.field_spread h x) = ap ends_list h

-- ---- how much they leave

abbrev Shorter : Input → Input → Type 0
Shorter i o = left o ≤ left i

abbrev Less : Input → Input → Type 0
Less i o = left o + 1 ≤ left i

shorter : (i o : Input) → o.text ≡ past i.text → left o ≤ left i
shorter i o e = let same = left_as o (next i) (e ∙ sym (text_next i)) in let le = next-le i in omega (arith, same, le)

less : (i o : Input) → sees i ≢ k.End → o.text ≡ past i.text → left o + 1 ≤ left i
less i o some e = let same = left_as o (next i) (e ∙ sym (text_next i)) in let lt = next-less i some in omega (arith, same, lt)

-- each token takes a byte
pub shrinking : IsWay Shorter Less
shrinking = record {
  stays = λ i. omega arith;
  weaker = λ h. omega (arith, h);
  along = λ h g. omega (arith, h, g);
  on = λ h g. omega (arith, h, g);
  passes = λ i o e known. shorter i o e;
  takes = λ i o some e known. less i o some e;
  runs = λ i o x h. run-less i o x h;
}

module _ (limits : Limits) (block : ℕ → Parser (List Stmt)) (top : ℕ) (shrinks : (n : ℕ) → n < top → Shrinks (block n)) where
  pub inside_shrinks : {d : ℕ} {f : Form} {i o : Input} {t : Expr} → g.Inside limits block d f i t o → d ≤ top → left o ≤ left i
  inside_shrinks x le = shrinking.weaker (inside_moves shrinking limits block top shrinks x le)

  pub item_shrinks : {d : ℕ} {i o : Input} {x : Entry} → g.Item limits block d i x o → suc d ≤ top → left o ≤ left i
  item_shrinks x le = shrinking.weaker (item_moves shrinking limits block top shrinks x le)

  pub field_shrinks : {d : ℕ} {i o : Input} {x : Field} → g.OneField limits block d i x o → suc d ≤ top → left o ≤ left i
  field_shrinks x le = shrinking.weaker (field_moves shrinking limits block top shrinks x le)
