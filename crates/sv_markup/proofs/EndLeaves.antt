-- Heads of blocks, and what encloses no nodes: what is in the grammar is read, each from its parts.
use Rattle.std.proofs.Common.{◌≡◌, ◌≤◌, ◌<◌, ◌-◌, inl, inr, ℕ, Bool, true, false, cond, List, refl}
use Rattle.std.specs.Prelude.{nat_le, Option, Ok, Err, codes}
use Rattle.sv_ast.specs.declared.names.Named.{Named}
use Rattle.sv_ast.specs.declared.refusals.Kind.TheVariants.{TooDeep}
use Rattle.sv_ast.specs.declared.refusals.Refused.{Refused}
use Rattle.sv_ast.specs.declared.script_tree.Expr.{Expr}
use Rattle.sv_ast.specs.declared.script_tree.Stmt.{Stmt}
use Rattle.sv_lex.specs.declared.lexeme.Lexeme.TheVariants as k
use Rattle.sv_lex.specs.Bytes.{stopped_at}
use Rattle.sv_lex.specs.Reader.{Input, Outcome, Parser, and_then, refusal, left}
use Rattle.sv_lex.proofs.Ends.{Ends, ends_then, expect_yes}
use Rattle.sv_lex.proofs.Sees.{sees_yes, sees_no, after_yes, after_no}
use Rattle.sv_expr.specs.Limits.{Limits}
use Rattle.sv_script.specs.Closed.{ExpressionAt, ScriptAt}
use Rattle.sv_script.specs.Script.{component, expression}
use Rattle.sv_script.proofs.EndSteps.{word_yes}
use Rattle.sv_tags.specs.Holes.{opened}
use Rattle.sv_tags.proofs.Bytes.{is_other}
use Rattle.sv_tags.proofs.EndValues.{Cause}
use Rattle.sv_markup.specs.declared.heads.Head.{Head}
use Rattle.sv_markup.specs.declared.heads.Row.{Row}
use Rattle.sv_markup.specs.Ends.{end_tag_len}
use Rattle.sv_markup.specs.Grammar as g
use Rattle.sv_markup.specs.Rules.{end_tag, block_end, index, begun, headed, key, each_row, each_head}

-- what may stand in the way where the reader has limits of its own, and room for one number of constructs where the tree has that for another; and what is known of expressions and scripts
pub record Blame (limits wide : Limits) (P : Refused → Type 0) (Room : ℕ → ℕ → Type 0) : Type 0 where
  pub full : (d m n : ℕ) → Room d m → n ≤ m → nat_le n d ≡ false → (e : Refused) → e.kind ≡ TooDeep → P e
  pub less : (d m n : ℕ) → Room d m → Room (d - n) (m - n)
  pub links : limits.links < wide.links → (e : Refused) → e.kind ≡ TooDeep → P e
  pub expressions : (d m : ℕ) → Room d m → (i o : Input) (x : Expr) → ExpressionAt wide m i x o → Ends P (expression limits d i) (x, o)
  pub scripts : (i o : Input) (found : List Stmt) → ScriptAt wide i found o → Ends P (component limits i) (found, o)
  pub shorter : (n : ℕ) (i o : Input) (x : Expr) → ExpressionAt wide n i x o → left o ≤ left i

-- ---- at bytes and tokens

pub end_tag_read : (from : ℕ) {name : List ℕ} {i o : Input} → g.EndTagAt name i o → end_tag from name i ≡ Ok (tt, o)
unfolding end_tag
end_tag_read from (g.end_tag {i = i} h) = rw (is_other (end_tag_len _ i.text) 0 h) refl

pub block_end_read : (from : ℕ) {w : List ℕ} {i o : Input} → g.MarkAt w i o → block_end from w i ≡ Ok (tt, o)
unfolding block_end
block_end_read from (g.mark h) = rw h refl

index_read : {i o : Input} {x : Option Named} → g.IndexAt i x o → index i ≡ Ok (x, o)
unfolding index
index_read (g.index_none {i = i} n) = rw (sees_no k.Comma i n, after_no k.Comma i n) refl
index_read (g.index_some {i = i} h n) = rw (sees_yes k.Comma i h, after_yes k.Comma i h, n.gives) refl

module _ (limits wide : Limits) (P : Refused → Type 0) (Room : ℕ → ℕ → Type 0) (blame : Blame limits wide P Room) where
  -- what the rules of tags ask
  pub cause : (d m : ℕ) → Room d m → Cause limits wide P d m
  cause d m r = record {
    full = λ i e le. blame.full d m 1 r le e (stopped_at TooDeep i.at i) refl;
    inner = λ i o x h. blame.expressions (d - 1) (m - 1) (blame.less d m 1 r) i o x h;
    shorter = blame.shorter;
  }

  -- ---- at a test of the room

  room_ends : {A B : Type 0} (d m n : ℕ) (r : Room d m) (le : n ≤ m) (a : A) (i : Input) (e : Refused) (f : A → Parser B) (z : B × Input) → e.kind ≡ TooDeep
      → (nat_le n d ≡ true → Ends P (f a i) z) → Ends P (and_then (cond (nat_le n d) (Ok (a, i)) (Err e)) f) z
  room_ends {A = A} d m n r le a i e f z deep h = by (nat_le n d) refl
    where
      by : (b : Bool) → nat_le n d ≡ b → Ends P (and_then (cond b (Ok (a, i)) (Err e)) f) z
      by true s = ends_then P {a = a} {j = i} (Ok (a, i)) f (inl refl) (h s)
      by false s = inr (e, refl, blame.full d m n r le s e deep)

  pub opened_then : {B : Type 0} (d m : ℕ) (r : Room d m) (i : Input) (f : Unit {0} → Parser B) (z : B × Input) → 1 ≤ m → (nat_le 1 d ≡ true → Ends P (f tt i) z)
      → Ends P (and_then (opened d i) f) z
  unfolding opened
  opened_then d m r i f z le h = room_ends d m 1 r le tt i (stopped_at TooDeep i.at i) f z refl h

  pub begun_then : {B : Type 0} (d m : ℕ) (r : Room d m) (i : Input) (f : Unit {0} → Parser B) (z : B × Input) → 2 ≤ m → (nat_le 2 d ≡ true → Ends P (f tt i) z)
      → Ends P (and_then (begun limits d i) f) z
  unfolding begun
  begun_then d m r i f z le h = room_ends d m 2 r le tt i (stopped_at TooDeep i.at i) f z refl h

  -- ---- heads

  pub headed_ends : (d m : ℕ) (r : Room d m) {len : ℕ} {i o : Input} {x : Expr} → g.HeadedAt wide m len i x o → Ends P (headed limits d len i) (x, o)
  unfolding headed
  headed_ends d m r (g.headed {i = i} {j = j} x c) =
      ends_then P _ _ (blame.expressions (d - 2) (m - 2) (blame.less d m 2 r) _ j _ x) (ends_then P _ _ (inl (expect_yes k.RBrace j c)) (inl refl))

  room_choice : {B : Type 0} (d m n : ℕ) (r : Room d m) (le : n ≤ m) (p : Outcome B) (e : Refused) (z : B × Input) → e.kind ≡ TooDeep
      → (nat_le n d ≡ true → Ends P p z) → Ends P (cond (nat_le n d) p (Err e)) z
  room_choice d m n r le p e z deep h = by (nat_le n d) refl
    where
      by : (b : Bool) → nat_le n d ≡ b → Ends P (cond b p (Err e)) z
      by true s = h s
      by false s = inr (e, refl, blame.full d m n r le s e deep)

  key_ends : (d m : ℕ) (r : Room d m) {i o : Input} {x : Option Expr} → g.KeyAt wide m i x o → Ends P (key limits d i) (x, o)
  unfolding key refusal
  key_ends d m r (g.key_none {i = i} n) = rw (sees_no k.LParen i n) (inl refl)
  key_ends d m r (g.key_some {i = i} {j = j} h le hx c) = rw (sees_yes k.LParen i h) (room_choice d m 3 r le _ (refusal TooDeep i) _ refl
      (λ s. ends_then P _ _ (blame.expressions (d - 3) (m - 3) (blame.less d m 3 r) _ j _ hx) (ends_then P _ _ (inl (expect_yes k.RParen j c)) (inl refl))))

  row_ends : (d m : ℕ) (r : Room d m) {i o : Input} {x : Row} → g.RowAt wide m i x o → Ends P (each_row limits d i) (x, o)
  unfolding each_row
  row_ends d m r (g.each_row {i = i} w n x y) = ends_then P _ _ (inl (word_yes (codes "as") i w)) (ends_then P _ _ (inl n.gives)
      (ends_then P _ _ (inl (index_read x)) (ends_then P _ _ (key_ends d m r y) (inl refl))))

  pub head_ends : (d m : ℕ) (r : Room d m) {i o : Input} {x : Head} → g.HeadAt wide m i x o → Ends P (each_head limits d i) (x, o)
  unfolding each_head
  head_ends d m r (g.each_head {j = j} {a = a} x y c) = ends_then P _ _ (blame.expressions (d - 2) (m - 2) (blame.less d m 2 r) _ j _ x)
      (ends_then P _ _ (row_ends d m r y) (ends_then P _ _ (inl (expect_yes k.RBrace a c)) (inl refl)))
