-- What encloses no nodes, and the heads of blocks: what is read is in the grammar.
use Rattle.std.proofs.Common.{◌≡◌, ◌≤◌, ◌-◌, ℕ, Bool, List}
use Rattle.std.specs.Prelude.{◌==◌, nat_le, if◌then◌else◌, Some, None, Ok, codes}
use Rattle.sv_ast.specs.declared.script_tree.Expr.{Expr}
use Rattle.sv_lex.specs.declared.lexeme.Lexeme.TheVariants as k
use Rattle.sv_lex.specs.Literals.{moved}
use Rattle.sv_lex.specs.Reader.{Input, Parser, and_then, ◌>>=◌, pure, next, sees_one, name}
use Rattle.sv_lex.proofs.Sees.{seen, unseen}
use Rattle.sv_lex.proofs.Steps.{Holds, holds_then, holds_if, holds_test, holds_expect, holds_eat}
use Rattle.sv_expr.specs.Limits.{Limits}
use Rattle.sv_expr.proofs.SoundLists.{holds_self, leb_true}
use Rattle.sv_script.proofs.SoundSteps.{holds_word, holds_name}
use Rattle.sv_tags.specs.declared.holes.Filling.TheVariants.{Value}
use Rattle.sv_tags.specs.declared.texts.Setting.TheVariants.{Body}
use Rattle.sv_tags.specs.Classes.{first, begins}
use Rattle.sv_tags.specs.Grammar.{BracesAt}
use Rattle.sv_script.specs.Script.{expression}
use Rattle.sv_tags.specs.Holes.{opened, braces}
use Rattle.sv_script.specs.Closed.{ExpressionAt}
use Rattle.sv_tags.specs.Texts.{text}
use Rattle.sv_tags.proofs.Bytes.{other}
use Rattle.sv_tags.proofs.SoundValues.{braces_holds}
use Rattle.sv_markup.specs.declared.pieces.Form.TheVariants as form
use Rattle.sv_markup.specs.Ends.{end_tag_len}
use Rattle.sv_markup.specs.Grammar as g
use Rattle.sv_markup.specs.Rules.{words, end_tag, block_end, index, show, begun, headed, key, each_row, each_head}

-- ---- at a test of the room

pub holds_opened : {B : Type 0} (Q : B → Input → Type 0) (d : ℕ) (i : Input) (f : Unit {0} → Parser B) → (1 ≤ d → Holds Q (f tt i)) → Holds Q (and_then (opened d i) f)
unfolding opened
holds_opened Q d i f h = holds_test Q (nat_le 1 d) _ _ f (λ e. h (leb_true 1 d e)) (λ e. tt)

pub holds_begun : {B : Type 0} (limits : Limits) (Q : B → Input → Type 0) (d : ℕ) (i : Input) (f : Unit {0} → Parser B) → (2 ≤ d → Holds Q (f tt i))
    → Holds Q (and_then (begun limits d i) f)
unfolding begun
holds_begun limits Q d i f h = holds_test Q (nat_le 2 d) _ _ f (λ e. h (leb_true 2 d e)) (λ e. tt)

-- ---- bytes

abbrev pub IsEndTag : List ℕ → Input → Unit {0} → Input → Type 0
IsEndTag name i x o = g.EndTagAt name i o

pub end_tag_holds : (from : ℕ) (name : List ℕ) (i : Input) → Holds (IsEndTag name i) (end_tag from name i)
unfolding end_tag
end_tag_holds from name i = holds_if (IsEndTag name i) (end_tag_len name i.text == 0) _ _ (λ e. tt) (λ e. g.end_tag (other (end_tag_len name i.text) 0 e))

abbrev pub IsMark : List ℕ → Input → Unit {0} → Input → Type 0
IsMark w i x o = g.MarkAt w i o

pub block_end_holds : (from : ℕ) (w : List ℕ) (i : Input) → Holds (IsMark w i) (block_end from w i)
unfolding block_end
block_end_holds from w i = holds_if (IsMark w i) (begins w i.text) _ _ (λ e. g.mark e) (λ e. tt)

index_holds : (i : Input) → Holds (g.IndexAt i) (index i)
unfolding index
index_holds i =
    let Q = g.IndexAt i in
    holds_eat Q k.Comma i (λ is_there. if is_there then (name >>= (λ found. pure (Some found))) else pure None)
    (λ h. holds_name Q (next i) _ (λ found o n. g.index_some h n))
    (λ n. g.index_none n)

module _ (limits : Limits) (holding : (d : ℕ) (i : Input) → Holds (ExpressionAt limits d i) (expression limits d i)) where
  pub words_hold : (d : ℕ) (owned : Bool) (i : Input) → Holds (g.NodeAt limits d owned form.Text i) (words i)
  unfolding words
  words_hold d owned i = holds_then (λ t o. text Body i ≡ Ok (t, o)) (g.NodeAt limits d owned form.Text i) (text Body i) _ (holds_self (text Body i)) (λ t o e. g.words e)

  pub show_holds : (d : ℕ) (owned : Bool) (i : Input) → first i.text ≡ 123 → Holds (g.NodeAt limits d owned form.Hole i) (show limits d i)
  unfolding show
  show_holds d owned i h = holds_then (BracesAt limits Value d i) (g.NodeAt limits d owned form.Hole i) (braces limits Value d i) _
      (braces_holds limits holding Value d i h) (λ found o b. g.show b)

  -- behind an expression
  holds_inner : {B : Type 0} (d : ℕ) (Q : B → Input → Type 0) (i : Input) (f : Expr → Parser B)
      → ((x : Expr) (j : Input) → ExpressionAt limits d i x j → Holds Q (f x j)) → Holds Q (and_then (expression limits d i) f)
  holds_inner d Q i f h = holds_then (ExpressionAt limits d i) Q (expression limits d i) f (holding d i) h

  pub headed_holds : (d len : ℕ) (i : Input) → Holds (g.HeadedAt limits d len i) (headed limits d len i)
  unfolding headed
  headed_holds d len i =
      let Q = g.HeadedAt limits d len i in
      holds_inner (d - 2) Q (moved len i) _ (λ x j hx. holds_expect Q k.RBrace j _ (λ c. g.headed hx c))

  key_holds : (d : ℕ) (i : Input) → Holds (g.KeyAt limits d i) (key limits d i)
  unfolding key
  key_holds d i =
      let Q = g.KeyAt limits d i in
      holds_if Q (sees_one k.LParen i) _ _
      (λ e. holds_if Q (nat_le 3 d) _ _
      (λ r. holds_inner (d - 3) Q (next i) _ (λ x j hx. holds_expect Q k.RParen j _ (λ c. g.key_some (seen k.LParen i e) (leb_true 3 d r) hx c)))
      (λ r. tt))
      (λ e. g.key_none (unseen k.LParen i e))

  row_holds : (d : ℕ) (i : Input) → Holds (g.RowAt limits d i) (each_row limits d i)
  unfolding each_row
  row_holds d i =
      let Q = g.RowAt limits d i in
      holds_word Q (codes "as") i _ (λ w. holds_name Q (next i) _ (λ item a n. holds_then (g.IndexAt a) Q (index a) _ (index_holds a)
      (λ at b x. holds_then (g.KeyAt limits d b) Q (key limits d b) _ (key_holds d b) (λ by o y. g.each_row w n x y))))

  pub head_holds : (d : ℕ) (i : Input) → Holds (g.HeadAt limits d i) (each_head limits d i)
  unfolding each_head
  head_holds d i =
      let Q = g.HeadAt limits d i in
      holds_inner (d - 2) Q (moved 6 i) _ (λ list j hx. holds_then (g.RowAt limits d j) Q (each_row limits d j) _ (row_holds d j)
      (λ found a r. holds_expect Q k.RBrace a _ (λ c. g.each_head hx r c)))
