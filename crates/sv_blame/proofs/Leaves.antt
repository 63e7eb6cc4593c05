-- Expressions tell: what encloses others in brackets, and what encloses nothing.
use Rattle.std.proofs.Common.{◌≡◌, ◌≤◌, ℕ, zero, suc, false, List, [], ◌∷◌, ◌++◌, refl, ap, subst, arith}
use Rattle.std.specs.Prelude.{nat_le, Option, Some, None}
use Rattle.sv_ast.specs.declared.refusals.Kind.TheVariants.{Syntax}
use Rattle.sv_ast.specs.declared.refusals.Refused.{Refused}
use Rattle.sv_ast.specs.declared.script_tree.Expr.{Expr}
use Rattle.sv_ast.specs.declared.script_tree.ExprKind.{ExprKind}
use Rattle.sv_lex.specs.declared.digits.Base.TheVariants.{Ten}
use Rattle.sv_lex.specs.declared.lexeme.Lexeme.{Lexeme}
use Rattle.sv_lex.specs.declared.lexeme.Lexeme.TheVariants as k
use Rattle.sv_lex.specs.Digits as digits
use Rattle.sv_lex.specs.Literals.{numeral, string, run}
use Rattle.sv_lex.specs.Reader.{Input, Parser, and_then, sees, sees_one, after, next, start, left, span_from, spelling, name, word_text}
use Rattle.sv_expr.specs.declared.form.Form.{Form}
use Rattle.sv_expr.specs.declared.form.Form.TheVariants.{Whole, Bracketed}
use Rattle.sv_expr.specs.Limits.{Limits}
use Rattle.sv_expr.specs.Lists.{listed}
use Rattle.sv_expr.specs.Nodes.{with_run}
use Rattle.sv_expr.specs.Operators.{literal}
use Rattle.sv_expr.specs.Rules as r
use Rattle.sv_expr.specs.Rules.{Readers, number, quoted, constant, shorthand, opened, bracketed, entry, list, spread, pair, quoted_field, worded_field, named_field, field, object, parts_from, parts, template, primary}
use Rattle.sv_blame.proofs.Frame.{is_sign, Any, Tells, IsFrame, since_on, since_start, next-up, stay, after_beyond, tells_from, tells_any, tells_then, tells_known, tells_choice, tells_choice_then, tells_if, tells_test, tells_expect, goes, goes_on, stops}
use Rattle.sv_blame.proofs.Stands.{above}
use Rattle.sv_blame.proofs.Names.{name_tells, word_text_tells, listed_tells}

-- where an expression is refused as a whole, its place fits
abbrev pub Fine : (Refused → Type 0) → Expr → Type 0
Fine Bad x = Bad (record { kind = Syntax; at = x.span })

-- what stands in a construct tells
pub record Reads (At : Input → Type 0) (Bad : Refused → Type 0) (Room Tight : ℕ → ℕ → Type 0) (d : ℕ) (below : Readers) : Type 0 where
  pub inside : (form : Form) (i : Input) → At i → Tight d i.at → Tells At Bad (Fine Bad) (next i) (below.inside form i)
  pub block : (i : Input) → At i → Room d i.at → Tells At Bad Any i (below.block i)

pub no_room : (d : ℕ) → nat_le 1 d ≡ false → d ≡ 0
no_room d h = let few = above 1 d h in omega arith

module _ {At : Input → Type 0} {Bad : Refused → Type 0} {Room Tight Links : ℕ → ℕ → Type 0} (limits : Limits)
    (f : IsFrame At Bad Room Tight Links limits.links limits.number) (d : ℕ) (below : Readers) (reads : Reads At Bad Room Tight d below) where
  pub fine_at : (i o : Input) → At i → At o → (next i).at ≤ o.at → Bad (record { kind = Syntax; at = span_from (start i) o })
  fine_at i o at s le = f.spanned (start i) o s (since_on (since_start i at) le)

  pub inner : {B : Type 0} (Q : B → Type 0) (b : Input) (form : Form) (i : Input) (g : Expr → Parser B) → At i → b.at ≤ i.at → Tight d b.at
      → ((x : Expr) (o : Input) → At o → b.at ≤ o.at → Fine Bad x → Tells At Bad Q b (g x o)) → Tells At Bad Q b (and_then (below.inside form i) g)
  inner Q b form i g at le tight h =
      let up = next-up i in
      tells_then (Fine Bad) Q (below.inside form i) g (tells_from (Fine Bad) (below.inside form i) (omega arith) (reads.inside form i at (f.tight_up d b.at i.at le tight))) h

  -- one in a list of them
  pub inside_any : (form : Form) (i : Input) → At i → Tight d i.at → Tells At Bad Any i (below.inside form i)
  inside_any form i at tight = tells_any (Fine Bad) (below.inside form i) (tells_from (Fine Bad) (below.inside form i) (next-up i) (reads.inside form i at tight))

  pub opened_then : {B : Type 0} (Q : B → Type 0) (b i : Input) (g : Unit {0} → Parser B) → At i → Room d i.at → Tells At Bad Q b (g tt i)
      → Tells At Bad Q b (and_then (opened limits d below i) g)
  unfolding opened
  opened_then Q b i g at room h = tells_choice_then Q (nat_le 1 d) _ _ i g (λ e. h) (λ e. stops (f.deep i at (subst (λ d. Room d i.at) (no_room d e) room)))

  number_tells : (i : Input) → At i → sees i ≡ k.Numeral → Tells At Bad (Fine Bad) (next i) (number limits i)
  unfolding number numeral
  number_tells i at h =
      tells_test (Fine Bad) (nat_le (digits.number Ten (spelling i)) limits.number) _ _ _ (λ e. goes_on (stay (next i) (f.steps i at)) (fine_at i (next i) at (f.steps i at) (omega arith)))
      (λ e. stops (f.wide i at h e))

  quoted_tells : (i : Input) → At i → Tells At Bad (Fine Bad) (next i) (quoted i)
  unfolding quoted string
  quoted_tells i at = goes_on (stay (next i) (f.steps i at)) (fine_at i (next i) at (f.steps i at) (omega arith))

  constant_tells : (i : Input) → At i → Tells At Bad (Fine Bad) (next i) (constant i)
  unfolding constant
  constant_tells i at = by (literal (sees i))
    where
      by : (o : Option ExprKind) → Tells At Bad (Fine Bad) (next i) (r.constant_by o i)
      by None = stops (f.syntax i at)
      by (Some kind) = goes_on (stay (next i) (f.steps i at)) (fine_at i (next i) at (f.steps i at) (omega arith))

  bracketed_tells : (i : Input) → At i → Tight d (next i).at → Tells At Bad (Fine Bad) (next i) (bracketed limits d below i)
  unfolding bracketed
  bracketed_tells i at tight =
      inner (Fine Bad) (next i) Bracketed (next i) _ (f.steps i at) (omega arith) tight (λ x o s le q. tells_expect f (Fine Bad) (next i) k.RParen o _ s le (λ s le c. goes s le q))

  entry_tells : (i : Input) → At i → Tight d i.at → Tells At Bad Any i (entry limits d below i)
  unfolding entry
  entry_tells i at tight = let b = after_beyond f k.Dots i at in inner Any i Whole (after k.Dots i) _ b.stands b.low tight (λ x o s le q. goes s le tt)

  list_tells : (i : Input) → At i → Room d i.at → Tight d (next i).at → Tells At Bad (Fine Bad) (next i) (list limits d below i)
  unfolding list
  list_tells i at room tight =
      opened_then (Fine Bad) (next i) i _ at room (tells_then Any (Fine Bad) (listed (entry limits d below) k.RBracket (next i)) _
      (listed_tells f (entry limits d below) k.RBracket (Tight d) (f.tight_up d) entry_tells (next i) (f.steps i at) tight) (λ xs o s le q. goes s le (fine_at i o at s le)))

  spread_tells : (i : Input) → At i → Tight d i.at → Tells At Bad Any i (spread limits d below i)
  unfolding spread
  spread_tells i at tight = inner Any i Whole (next i) _ (f.steps i at) (next-up i) tight (λ x o s le q. goes s le tt)

  pair_tells : (key : List ℕ) (b i : Input) → At i → b.at ≤ i.at → Tight d b.at → Tells At Bad Any b (pair limits d below key i)
  unfolding pair
  pair_tells key b i at le tight = tells_expect f Any b k.Colon i _ at le (λ s le c. inner Any b Whole (next i) _ s le tight (λ x o s le q. goes s le tt))

  quoted_field_tells : (i : Input) → At i → Tight d i.at → Tells At Bad Any i (quoted_field limits d below i)
  unfolding quoted_field string
  quoted_field_tells i at tight = pair_tells _ i (next i) (f.steps i at) (next-up i) tight

  worded_field_tells : (i : Input) → At i → Tight d i.at → Tells At Bad Any i (worded_field limits d below i)
  unfolding worded_field
  worded_field_tells i at tight =
      tells_then Any Any (word_text i) _ (word_text_tells f i at) (λ key j s le q. (let up = next-up j in pair_tells key i (next j) (f.steps j s) (omega arith) tight))

  shorthand_tells : (i : Input) → At i → Tells At Bad Any i (shorthand i)
  unfolding shorthand
  shorthand_tells i at =
      tells_then Any Any (word_text i) _ (word_text_tells f i at)
      (λ key j s le q. tells_then Any Any (name j) _ (let up = next-up j in tells_from Any (name j) (omega arith) (name_tells f j s)) (λ x o s le q. goes s le tt))

  named_field_tells : (i : Input) → At i → Tight d i.at → Tells At Bad Any i (named_field limits d below i)
  unfolding named_field
  named_field_tells i at tight = tells_if Any (sees_one k.Colon (next i)) _ _ (λ e. worded_field_tells i at tight) (λ e. shorthand_tells i at)

  field_tells : (i : Input) → At i → Tight d i.at → Tells At Bad Any i (field limits d below i)
  unfolding field
  field_tells i at tight = by (sees i)
    where
      by : (l : Lexeme) → Tells At Bad Any i (r.field_by limits d below l i)
      by k.Dots = spread_tells i at tight
      by k.Quoted = quoted_field_tells i at tight
      by k.Name = named_field_tells i at tight
      by _ = worded_field_tells i at tight

  object_tells : (i : Input) → At i → Room d i.at → Tight d (next i).at → Tells At Bad (Fine Bad) (next i) (object limits d below i)
  unfolding object
  object_tells i at room tight =
      opened_then (Fine Bad) (next i) i _ at room (tells_then Any (Fine Bad) (listed (field limits d below) k.RBrace (next i)) _
      (listed_tells f (field limits d below) k.RBrace (Tight d) (f.tight_up d) field_tells (next i) (f.steps i at) tight) (λ xs o s le q. goes s le (fine_at i o at s le)))

  parts_from_tells : (n : ℕ) (found : List Expr) (i : Input) → At i → Room d i.at → Tells At Bad Any i (parts_from limits d below n found i)
  unfolding parts_from
  parts_from_tells zero found i at room = stops (f.syntax i at)
  parts_from_tells (suc n) found i at room =
      tells_known Any Any (run i) _ (f.runs i at) (λ x j e s le q. tells_choice Any x.1 _ _ j
      (λ h. tells_from Any _ le (inner Any j Whole j _ s (omega arith) (f.hole d i j x at e h room)
      (λ y o s low q. tells_expect f Any j k.RBrace o _ s low (λ s low c. tells_from Any _ low
      (parts_from_tells n (with_run x.0 found ++ y ∷ []) (next o) s (f.room_up d i.at (next o).at (omega arith) room))))))
      (λ h. goes s le tt))

  parts_tells : (i : Input) → At i → Room d i.at → Tells At Bad Any i (parts limits d below i)
  unfolding parts
  parts_tells i at room = parts_from_tells (left i) [] i at room

  template_tells : (i : Input) → At i → Room d (next i).at → Tells At Bad (Fine Bad) (next i) (template limits d below i)
  unfolding template
  template_tells i at room =
      tells_then Any (Fine Bad) (parts limits d below (next i)) _ (parts_tells (next i) (f.steps i at) room) (λ xs o s le q. goes s le (fine_at i o at s le))

  pub primary_tells : (i : Input) → At i → Room d i.at → Tells At Bad (Fine Bad) (next i) (primary limits d below i)
  unfolding primary
  primary_tells i at room = by (sees i) refl
    where
      by : (l : Lexeme) → sees i ≡ l → Tells At Bad (Fine Bad) (next i) (r.primary_by limits d below l i)
      by k.Numeral e = number_tells i at e
      by k.Quoted e = quoted_tells i at
      by k.Backquote e = template_tells i at (f.room_up d i.at (next i).at (next-up i) room)
      by k.LParen e = bracketed_tells i at (f.sign d i at room (ap is_sign e))
      by k.LBracket e = list_tells i at room (f.sign d i at room (ap is_sign e))
      by k.LBrace e = object_tells i at room (f.sign d i at room (ap is_sign e))
      by _ e = constant_tells i at
