-- What holds between a text and what a rule of the grammar leaves of it, where each token keeps it.
use Rattle.std.proofs.Common.{◌≡◌, ◌≢◌, ◌≤◌, ◌<◌, ℕ, suc, Bool, true, false, List, refl, ap, sym, ◌∙◌, subst, arith}
use Rattle.std.specs.Prelude.{◌==◌, nat_le, length, Some, None, Ok, ℤ}
use Rattle.sv_ast.specs.declared.names.Named.{Named}
use Rattle.sv_ast.specs.declared.names.Ref.{Ref}
use Rattle.sv_ast.specs.declared.script_tree.Body.{Body}
use Rattle.sv_ast.specs.declared.script_tree.Entry.{Entry}
use Rattle.sv_ast.specs.declared.script_tree.Expr.{Expr}
use Rattle.sv_ast.specs.declared.script_tree.ExprKind.{ExprKind}
use Rattle.sv_ast.specs.declared.script_tree.Field.{Field}
use Rattle.sv_ast.specs.declared.script_tree.Link.{Link}
use Rattle.sv_ast.specs.declared.script_tree.Stmt.{Stmt}
use Rattle.sv_lex.specs.declared.cursor.Run.{Run}
use Rattle.sv_lex.specs.declared.lexeme.Lexeme.{Lexeme}
use Rattle.sv_lex.specs.declared.lexeme.Lexeme.TheVariants as k
use Rattle.sv_lex.specs.Literals.{numeral, string, run}
use Rattle.sv_lex.specs.Look.{past}
use Rattle.sv_lex.specs.Reader.{Input, Parser, sees, sees_one, next, name, store_name, word, word_of}
use Rattle.sv_lex.proofs.Steps.{Holds, holds_if}
use Rattle.sv_expr.specs.declared.form.Form.{Form}
use Rattle.sv_expr.specs.declared.quotients.Left.{Left}
use Rattle.sv_expr.specs.Grammar as g
use Rattle.sv_expr.specs.Limits.{Limits}
use Rattle.sv_expr.specs.Operators.{bump, literal}
use Rattle.sv_expr.proofs.Words.{is_word, word_past, name_past, name_sees, store_past, string_past, numeral_past, word_text_sees}

-- a relation that stands still and goes on with each token, and a stricter one that takes a token
pub record IsWay (Way Move : Input → Input → Type 0) : Type 0 where
  pub stays : (i : Input) → Way i i
  pub weaker : {i o : Input} → Move i o → Way i o
  pub along : {i j o : Input} → Way i j → Way j o → Way i o
  pub on : {i j o : Input} → Move i j → Way j o → Move i o
  pub passes : (i o : Input) → o.text ≡ past i.text → o.known ≡ i.known → Way i o
  pub takes : (i o : Input) → sees i ≢ k.End → o.text ≡ past i.text → o.known ≡ i.known → Move i o
  pub runs : (i o : Input) (x : Run × Bool) → run i ≡ Ok (x, o) → Move i o

-- ---- tokens know the same names

abbrev Knows : {A : Type 0} → Input → A → Input → Type 0
Knows i a o = o.known ≡ i.known

word_of_knows : (text : List ℕ) (i : Input) → Holds (Knows i) (word_of text i)
unfolding word_of next
word_of_knows text i = holds_if (Knows i) (length text == 0) _ _ (λ e. tt) (λ e. refl)

word_knows : (i o : Input) (x : Named) → word i ≡ Ok (x, o) → o.known ≡ i.known
unfolding word
word_knows i o x h = subst (Holds (Knows i)) h (word_of_knows _ i)

pub store_knows : (i o : Input) (x : Named) → store_name i ≡ Ok (x, o) → o.known ≡ i.known
unfolding store_name
store_knows i o x h = subst (Holds (Knows i)) h (word_of_knows _ i)

pub name_knows : (i o : Input) (x : Named) → name i ≡ Ok (x, o) → o.known ≡ i.known
unfolding name word
name_knows i o x h = subst (Holds (Knows i)) h (holds_if (Knows i) (sees_one k.Name i) _ _ (λ e. word_of_knows _ i) (λ e. tt))

string_knows : (i o : Input) (x : List ℕ) → string i ≡ Ok (x, o) → o.known ≡ i.known
unfolding string next
string_knows i o x h = subst (Holds (Knows i)) h refl

numeral_knows : (limit : ℕ) (i o : Input) (x : ℤ) → numeral limit i ≡ Ok (x, o) → o.known ≡ i.known
unfolding numeral next
numeral_knows limit i o x h = subst (Holds (Knows i)) h (holds_if (Knows i) (nat_le _ limit) _ _ (λ e. refl) (λ e. tt))

-- ---- tokens that are more than none

some_word : (l : Lexeme) → is_word l ≡ true → l ≢ k.End
some_word l h e = let no : false ≡ true = ap is_word (sym e) ∙ h in absurd (cc)

some_literal : (l : Lexeme) (kind : ExprKind) → literal l ≡ Some kind → l ≢ k.End
some_literal l kind h e = let no : None ≡ Some kind = ap literal (sym e) ∙ h in absurd (cc)

some_bump : (l : Lexeme) (up : Bool) → bump l ≡ Some up → l ≢ k.End
some_bump l up h e = let no : None ≡ Some up = ap bump (sym e) ∙ h in absurd (cc)

-- ---- along tokens

module _ {Way Move : Input → Input → Type 0} (is : IsWay Way Move) where
  pub step : (i : Input) → Way i (next i)
  unfolding next
  step i = is.passes i (next i) refl refl

  pub token : (i : Input) → sees i ≢ k.End → Move i (next i)
  unfolding next
  token i some = is.takes i (next i) some refl refl

  pub name_moves : (i o : Input) (x : Named) → name i ≡ Ok (x, o) → Move i o
  name_moves i o x h = let named = name_sees i o x h in is.takes i o (λ e. cc) (name_past i o x h) (name_knows i o x h)

  pub string_moves : (i o : Input) (x : List ℕ) → sees i ≡ k.Quoted → string i ≡ Ok (x, o) → Move i o
  string_moves i o x q h = is.takes i o (λ e. cc) (string_past i o x h) (string_knows i o x h)

  target_moves : {i o : Input} {ref : Ref} → g.Target i ref o → Move i o
  target_moves (g.plain {i = i} {o = o} h e) = name_moves i o _ e
  target_moves (g.store {i = i} {o = o} h e) = is.takes i o (λ e. cc) (store_past i o _ e) (store_knows i o _ e)

  names_move : {i o : Input} {xs : List Named} → g.Names i xs o → Move i o
  names_move (g.names_end {i = i} h) = token i (λ e. cc)
  names_move (g.names_last {i = i} {j = j} h e c) = is.on (name_moves i j _ e) (step j)
  names_move (g.names_more {i = i} {j = j} h e c rest) = is.on (name_moves i j _ e) (is.along (step j) (is.weaker (names_move rest)))

  pub params_move : {i o : Input} {xs : List Named} → g.Params i xs o → Move i o
  params_move (g.one {i = i} {o = o} h e) = name_moves i o _ e
  params_move (g.several {i = i} h rest) = is.on (token i (λ e. cc)) (is.weaker (names_move rest))

  module _ (limits : Limits) (block : ℕ → Parser (List Stmt)) (top : ℕ)
      (blocks : (n : ℕ) → n < top → (i o : Input) (found : List Stmt) → block n i ≡ Ok (found, o) → Way i o) where
    below : (d : ℕ) → suc d ≤ top → d ≤ top
    below d le = omega (arith, le)

    mutual
      pub inside_moves : {d : ℕ} {f : Form} {i o : Input} {t : Expr} → g.Inside limits block d f i t o → d ≤ top → Move i o
      inside_moves (g.inside_operand p q) le = prefix_moves p le
      inside_moves (g.inside_whole p q) le = full_moves p le
      inside_moves (g.inside_bracketed p) le = full_moves p le

      full_moves : {d : ℕ} {i o : Input} {t : Expr} → g.Full limits block d i t o → suc d ≤ top → Move i o
      full_moves (g.is_arrow {j = j} p a b) le = is.on (params_move p) (is.along (step j) (body_way b le))
      full_moves (g.is_assignment {j = j} t h x) le = is.on (target_moves t) (is.along (step j) (is.weaker (inside_moves x (below _ le))))
      full_moves (g.is_condition a b c) le = cond_moves c le

      body_way : {d : ℕ} {i o : Input} {t : Body} → g.ArrowBody limits block d i t o → suc d ≤ top → Way i o
      body_way (g.body_block {d = d} {i = i} {o = o} h e) le = blocks d (omega (arith, le)) i o _ e
      body_way (g.body_value h x) le = is.weaker (inside_moves x (below _ le))

      cond_moves : {d : ℕ} {i o : Input} {t : Expr} → g.Cond limits block d i t o → suc d ≤ top → Move i o
      cond_moves (g.only_test l h) le = logical_moves l le
      cond_moves (g.choice {j = j} {m = m} l h q x c y) le =
          is.on (logical_moves l le) (is.along (step j) (is.along (is.weaker (inside_moves x (below _ le))) (is.along (step m) (is.weaker (inside_moves y (below _ le))))))

      logical_moves : {d : ℕ} {i o : Input} {t : Expr} → g.Logical limits block d i t o → suc d ≤ top → Move i o
      logical_moves (g.nullish b s ls n five six) le = is.on (binary_moves b le) (links_way ls le)
      logical_moves (g.either b ls n seven) le = is.on (binary_moves b le) (links_way ls le)

      binary_moves : {d n : ℕ} {i o : Input} {t : Expr} → g.Binary limits block d n i t o → suc d ≤ top → Move i o
      binary_moves (g.operand p) le = prefix_moves p le
      binary_moves (g.grouped b ls n) le = is.on (binary_moves b le) (links_way ls le)

      links_way : {d n group : ℕ} {side : Left} {i o : Input} {ls : List Link} → g.Links limits block d n group side i ls o → suc d ≤ top → Way i o
      links_way (g.no_link {i = i} h) le = is.stays i
      links_way (g.one_link {i = i} h b f ls) le = is.along (step i) (is.along (is.weaker (binary_moves b le)) (links_way ls le))

      prefix_moves : {d : ℕ} {i o : Input} {t : Expr} → g.Prefix limits block d i t o → suc d ≤ top → Move i o
      prefix_moves (g.negation {i = i} h x) le = is.on (token i (λ e. cc)) (is.weaker (inside_moves x (below _ le)))
      prefix_moves (g.minus {i = i} h x) le = is.on (token i (λ e. cc)) (is.weaker (inside_moves x (below _ le)))
      prefix_moves (g.bumped {i = i} h r t) le = is.on (token i (some_bump (sees i) _ h)) (is.weaker (target_moves t))
      prefix_moves (g.bumping {j = j} t b) le = is.on (target_moves t) (step j)
      prefix_moves (g.read t b s n) le = is.on (target_moves t) (suffixes_way s le)
      prefix_moves (g.suffixed p s n) le = is.on (primary_moves p le) (suffixes_way s le)

      suffixes_way : {d n from : ℕ} {i o : Input} {of t : Expr} → g.Suffixes limits block d n from of i t o → suc d ≤ top → Way i o
      suffixes_way (g.no_suffix {i = i} h) le = is.stays i
      suffixes_way (g.member {i = i} {j = j} q h w s) le =
          is.along (step i) (is.along (is.passes (next i) j (word_past (next i) j _ w) (word_knows (next i) j _ w)) (suffixes_way s le))
      suffixes_way (g.index {i = i} {j = j} q h x c s) le = is.along (step i) (is.along (is.weaker (inside_moves x (below _ le))) (is.along (step j) (suffixes_way s le)))
      suffixes_way (g.call {i = i} q h r a single s) le = is.along (step i) (is.along (is.weaker (args_move a le)) (suffixes_way s le))

      args_move : {d : ℕ} {f : Form} {i o : Input} {xs : List Expr} → g.Args limits block d f i xs o → suc d ≤ top → Move i o
      args_move (g.args_end {i = i} h) le = token i (λ e. cc)
      args_move (g.args_last {j = j} x h) le = is.on (inside_moves x (below _ le)) (step j)
      args_move (g.args_more {j = j} x h a) le = is.on (inside_moves x (below _ le)) (is.along (step j) (is.weaker (args_move a le)))

      entries_move : {d : ℕ} {i o : Input} {xs : List Entry} → g.Entries limits block d i xs o → suc d ≤ top → Move i o
      entries_move (g.entries_end {i = i} h) le = token i (λ e. cc)
      entries_move (g.entries_last {j = j} x h) le = is.on (item_moves x le) (step j)
      entries_move (g.entries_more {j = j} x h a) le = is.on (item_moves x le) (is.along (step j) (is.weaker (entries_move a le)))

      pub item_moves : {d : ℕ} {i o : Input} {x : Entry} → g.Item limits block d i x o → suc d ≤ top → Move i o
      item_moves (g.item n x) le = inside_moves x (below _ le)
      item_moves (g.item_spread {i = i} h x) le = is.on (token i (λ e. cc)) (is.weaker (inside_moves x (below _ le)))

      fields_move : {d : ℕ} {i o : Input} {xs : List Field} → g.Fields limits block d i xs o → suc d ≤ top → Move i o
      fields_move (g.fields_end {i = i} h) le = token i (λ e. cc)
      fields_move (g.fields_last {j = j} x h) le = is.on (field_moves x le) (step j)
      fields_move (g.fields_more {j = j} x h a) le = is.on (field_moves x le) (is.along (step j) (is.weaker (fields_move a le)))

      pub field_moves : {d : ℕ} {i o : Input} {x : Field} → g.OneField limits block d i x o → suc d ≤ top → Move i o
      field_moves (g.field_name {i = i} {o = o} h c w n) le = name_moves i o _ n
      field_moves (g.field_word {i = i} {key = key} w c x) le =
          is.on (token i (some_word (sees i) (word_text_sees i i key w))) (is.along (step (next i)) (is.weaker (inside_moves x (below _ le))))
      field_moves (g.field_string {i = i} {j = j} h e c x) le = is.on (string_moves i j _ h e) (is.along (step j) (is.weaker (inside_moves x (below _ le))))
      field_moves (g.field_spread {i = i} h x) le = is.on (token i (λ e. cc)) (is.weaker (inside_moves x (below _ le)))

      parts_move : {d : ℕ} {i o : Input} {found all : List Expr} → g.Parts limits block d i found all o → suc d ≤ top → Move i o
      parts_move (g.last_run {i = i} {o = o} e) le = is.runs i o _ e
      parts_move (g.hole {i = i} {j = j} {m = m} e x c p) le =
          is.on (is.runs i j _ e) (is.along (is.weaker (inside_moves x (below _ le))) (is.along (step m) (is.weaker (parts_move p le))))

      primary_moves : {d : ℕ} {i o : Input} {t : Expr} → g.Primary limits block d i t o → suc d ≤ top → Move i o
      primary_moves (g.number {i = i} {o = o} h e) le = is.takes i o (λ e. cc) (numeral_past _ i o _ e) (numeral_knows _ i o _ e)
      primary_moves (g.quoted {i = i} {o = o} h e) le = string_moves i o _ h e
      primary_moves (g.template {i = i} h p) le = is.on (token i (λ e. cc)) (is.weaker (parts_move p le))
      primary_moves (g.constant {i = i} h) le = token i (some_literal (sees i) _ h)
      primary_moves (g.bracket {i = i} {j = j} h x c) le = is.on (token i (λ e. cc)) (is.along (is.weaker (inside_moves x (below _ le))) (step j))
      primary_moves (g.list {i = i} h r xs) le = is.on (token i (λ e. cc)) (is.weaker (entries_move xs le))
      primary_moves (g.object {i = i} h r xs) le = is.on (token i (λ e. cc)) (is.weaker (fields_move xs le))
