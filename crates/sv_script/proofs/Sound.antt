-- Statements that are read are in the grammar.
use Rattle.std.proofs.Common.{◌≡◌, ◌≢◌, ◌≤◌, ◌⊎◌, inl, inr, ℕ, zero, suc, Bool, true, false, ◌&&◌, List, [], ◌∷◌, ◌++◌, length, refl, ap, sym, ◌∙◌, subst, arith}
use Rattle.std.specs.Prelude.{if◌then◌else◌, Some, None, Ok, codes}
use Rattle.sv_ast.specs.declared.script_tree.Arm.{Arm}
use Rattle.sv_ast.specs.declared.script_tree.Expr.{Expr}
use Rattle.sv_ast.specs.declared.script_tree.Stmt.{Stmt}
use Rattle.sv_lex.specs.declared.lexeme.Lexeme.{Lexeme}
use Rattle.sv_lex.specs.declared.lexeme.Lexeme.TheVariants as k
use Rattle.sv_lex.specs.Reader.{Input, Parser, and_then, ◌>>=◌, ◌>>◌, pure, expect, ending, is_later, sees, sees_one, next, start, spelling}
use Rattle.sv_lex.proofs.Sees.{seen, unseen, sees_no}
use Rattle.sv_lex.proofs.Steps.{Holds, holds_then, holds_weaker, holds_if, holds_then_then, holds_test, holds_choice, holds_choice_then, holds_expect, holds_eat}
use Rattle.sv_expr.specs.declared.form.Form.TheVariants.{Whole}
use Rattle.sv_expr.specs.Laws.{IsNested}
use Rattle.sv_expr.specs.Limits.{Limits}
use Rattle.sv_expr.specs.Rules.{Readers}
use Rattle.sv_expr.proofs.Sound.{sound}
use Rattle.sv_expr.proofs.SoundLists.{holds_self, append_one}
use Rattle.sv_script.specs.declared.place.Place.{Place}
use Rattle.sv_script.specs.Grammar as g
use Rattle.sv_script.specs.Lists.{separated, upto}
use Rattle.sv_script.specs.Nodes.{decl, arm}
use Rattle.sv_script.specs.Places.{looped}
use Rattle.sv_script.specs.Rules as r
use Rattle.sv_script.specs.Rules.{single, empty, break_statement, continue_statement, stops, begins_arm, begins_each, value, declared_as, declared, fixed, variables, let_statement, const_statement, bracketed, arm_of, arms, otherwise, if_statement, while_statement, list_behind, each, head_let, head_value, head_statement, head_first, head_value_upto, steps, for_statement, nested, answer, return_statement, evaluated, statement, item, braced}
use Rattle.sv_script.specs.Script.{bodies}
use Rattle.sv_script.proofs.SoundSteps.{IsEnd, both, neither, holds_word, holds_name, holds_ending, ending_holds, separated_holds, IsUpto, upto_holds}

abbrev is_let : Lexeme → Bool
is_let k.Let = true
is_let _ = false

pub let_const : (i : Input) → sees i ≡ k.Let → sees i ≢ k.Const
let_const i l c = let no : true ≡ false = ap is_let (sym l ∙ c) in absurd (cc)

pub begins_answer : (i : Input) → stops i ≡ false → g.BeginsAnswer i
unfolding stops
begins_answer i h = record {
  sign = λ s. let no : true ≡ false = sym (ap (λ l. r.stops_by l i) s) ∙ h in absurd (cc);
  brace = λ s. let no : true ≡ false = sym (ap (λ l. r.stops_by l i) s) ∙ h in absurd (cc);
  text = λ s. let no : true ≡ false = sym (ap (λ l. r.stops_by l i) s) ∙ h in absurd (cc);
  line = by (sees i) h;
}
  where
    by : (l : Lexeme) → r.stops_by l i ≡ false → is_later i ≡ false
    by k.Semi h = let no : true ≡ false = h in absurd (cc)
    by k.RBrace h = let no : true ≡ false = h in absurd (cc)
    by k.End h = let no : true ≡ false = h in absurd (cc)
    by _ h = h

pub begins_none : (i : Input) → stops i ≡ true → g.BeginsAnswer i → ⊥
unfolding stops
begins_none i h b = by (sees i) refl h
  where
    by : (l : Lexeme) → sees i ≡ l → r.stops_by l i ≡ true → ⊥
    by k.Semi e h = b.sign e
    by k.RBrace e h = b.brace e
    by k.End e h = b.text e
    by _ e h = let no : true ≡ false = sym h ∙ b.line in absurd (cc)

unbound : (l : Lexeme) → l ≢ k.Let → l ≢ k.Const → g.begins_binding l ≡ false
unbound k.Let n m = absurd (n refl)
unbound k.Const n m = absurd (m refl)
unbound _ n m = refl

no_const : (i : Input) → begins_each i ≡ false → sees_one k.Let i ≡ false → sees i ≢ k.Const
unfolding begins_each
no_const i none e = unseen k.Const i (sym (ap (λ (b : Bool). if b then sees_one k.Name (next (next i)) else sees_one k.Const i) e) ∙ none)

module _ (limits : Limits) where
  abbrev pub readers : ℕ → Readers
  readers n = (bodies limits n).exprs

  abbrev pub block : ℕ → Parser (List Stmt)
  block n = (readers n).block

  pub is_nested : IsNested limits readers
  unfolding bodies
  is_nested = record { none = λ form i. refl; some = λ d form i. refl }

  inner_holds : (d : ℕ) (i : Input) → Holds (g.Inner limits block d i) ((readers d).inside Whole i)
  inner_holds d i = holds_weaker (λ t o. (readers d).inside Whole i ≡ Ok (t, o)) (g.Inner limits block d i) ((readers d).inside Whole i)
      (λ t o e. sound limits readers is_nested d Whole i o t e) (holds_self ((readers d).inside Whole i))

  -- behind an expression in a construct
  holds_inner : {B : Type 0} (d : ℕ) (Q : B → Input → Type 0) (i : Input) (f : Expr → Parser B)
      → ((x : Expr) (j : Input) → g.Inner limits block d i x j → Holds Q (f x j)) → Holds Q (and_then ((readers d).inside Whole i) f)
  holds_inner d Q i f h = holds_then (g.Inner limits block d i) Q ((readers d).inside Whole i) f (inner_holds d i) h

  pub value_holds : (is_head : Bool) (d : ℕ) (i : Input) → Holds (g.Value limits block is_head d i) (value limits d (bodies limits d) is_head i)
  unfolding value bodies
  value_holds true d i = inner_holds d i
  value_holds false d i = inner_holds (suc d) i

  -- what is read in the constructs of so much room is in the grammar
  pub record Below (d : ℕ) : Type 0 where
    pub blocks : (p : Place) (i : Input) → Holds (g.Block limits block d p i) ((bodies limits d).block p i)
    pub turns : (p : Place) (i : Input) → Holds (g.Body limits block d p i) ((bodies limits d).body p i)

  module _ (d : ℕ) where
    abbrev below : r.Bodies
    below = bodies limits d

    -- ---- declarations

    declared_holds : (is_head : Bool) (i : Input) → Holds (g.Declared limits block is_head d i) (declared limits d below is_head i)
    unfolding declared declared_as
    declared_holds is_head i =
        let Q = g.Declared limits block is_head d i in
        holds_name Q i _ (λ found j n. holds_eat Q k.Equal j (λ is_set. if is_set then (value limits d below is_head >>= (λ x. pure (decl found (Some x)))) else pure (decl found None))
        (λ c. holds_then (g.Value limits block is_head d (next j)) Q (value limits d below is_head (next j)) _ (value_holds is_head d (next j)) (λ x o hx. g.declared_first found x n c hx))
        (λ c. g.declared_alone found n c))

    fixed_holds : (i : Input) → Holds (g.Fixed limits block d i) (fixed limits d below i)
    unfolding fixed
    fixed_holds i =
        let Q = g.Fixed limits block d i in
        holds_name Q i _ (λ found j n. holds_expect Q k.Equal j _ (λ c.
        holds_then (g.Inner limits block (suc d) (next j)) Q (value limits d below false (next j)) _ (value_holds false d (next j)) (λ x o hx. g.fixed found x n c hx)))

    pub variables_hold : (is_head : Bool) (i : Input) → Holds (g.Several (g.Declared limits block is_head d) (next i)) (variables limits d below is_head i)
    unfolding variables
    variables_hold is_head i = separated_holds (declared limits d below is_head) (g.Declared limits block is_head d) (declared_holds is_head) (next i)

    fixed_hold : (i : Input) → Holds (g.Several (g.Fixed limits block d) i) (separated (fixed limits d below) i)
    fixed_hold i = separated_holds (fixed limits d below) (g.Fixed limits block d) fixed_holds i

    let_holds : (p : Place) (i : Input) → sees i ≡ k.Let → Holds (g.Item limits block d p i) (let_statement limits d below i)
    unfolding let_statement
    let_holds p i h =
        let Q = g.Item limits block d p i in
        holds_then (g.Several (g.Declared limits block false d) (next i)) Q (variables limits d below false i) _ (variables_hold false i)
        (λ found j m. holds_ending Q j _ (λ o e. g.item_let h m e))

    pub const_holds : (from : Input) (exported : Bool) (i : Input) → sees i ≡ k.Const
        → Holds (g.Constants limits block d from exported i) (const_statement limits d below (start from) exported i)
    unfolding const_statement
    const_holds from exported i h =
        let Q = g.Constants limits block d from exported i in
        holds_then (g.Several (g.Fixed limits block d) (next i)) Q (separated (fixed limits d below) (next i)) _ (fixed_hold (next i))
        (λ found j m. holds_ending Q j _ (λ o e. g.constants h m e))

    test_holds : (i : Input) → Holds (g.Test limits block d i) (bracketed limits d below i)
    unfolding bracketed
    test_holds i =
        let Q = g.Test limits block d i in
        holds_expect Q k.LParen i _ (λ a. holds_inner d Q (next i) _ (λ x j hx. holds_expect Q k.RParen j _ (λ b. g.test a hx b)))

    -- ---- the heads of loops

    head_first_holds : (i : Input) → begins_each i ≡ false → Holds (g.First limits block d i) (head_first limits d below i)
    unfolding head_first head_statement head_let head_value
    head_first_holds i none =
        let Q = g.First limits block d i in
        holds_eat Q k.Semi i (λ is_none. if is_none then pure None else (head_statement limits d below >>= (λ x. expect k.Semi >> pure (Some x))))
        (λ h. g.first_none h)
        (λ n. holds_test Q (sees_one k.Let i) _ _ _
        (λ e. holds_then_then (g.Several (g.Declared limits block true d) (next i)) Q (variables limits d below true i) _ _ (variables_hold true i)
        (λ found j m. holds_expect Q k.Semi j _ (λ c. g.first_let (seen k.Let i e) m c)))
        (λ e. holds_then_then (g.Inner limits block d i) Q ((readers d).inside Whole i) _ _ (inner_holds d i)
        (λ x j hx. holds_expect Q k.Semi j _ (λ c. g.first_value n (unbound (sees i) (unseen k.Let i e) (no_const i none e)) hx c))))

    optional_holds : (close : Lexeme) (i : Input) → Holds (g.Optional limits block d close i) (head_value_upto limits d below close i)
    unfolding head_value_upto
    optional_holds close i =
        let Q = g.Optional limits block d close i in
        holds_eat Q close i (λ is_none. if is_none then pure None else ((readers d).inside Whole >>= (λ x. expect close >> pure (Some x))))
        (λ h. g.optional_none h)
        (λ n. holds_inner d Q i _ (λ x j hx. holds_expect Q close j _ (λ c. g.optional_some n hx c)))

    module _ (holds : Below d) where
      -- behind a body
      holds_body : {B : Type 0} (Q : B → Input → Type 0) (p : Place) (i : Input) (f : Stmt → Parser B)
          → ((x : Stmt) (j : Input) → g.Body limits block d p i x j → Holds Q (f x j)) → Holds Q (and_then ((bodies limits d).body p i) f)
      holds_body Q p i f h = holds_then (g.Body limits block d p i) Q ((bodies limits d).body p i) f (holds.turns p i) h

      -- ---- branches

      abbrev AnArm : Place → Input → Arm → Input → Type 0
      AnArm p i one o = (x : Expr) × (chosen : Stmt) × (j : Input) × (one ≡ arm x chosen) × g.Test limits block d (next i) x j × g.Body limits block d p j chosen o

      arm_holds : (p : Place) (i : Input) → Holds (AnArm p i) (arm_of limits d below p i)
      unfolding arm_of
      arm_holds p i = holds_then (g.Test limits block d (next i)) (AnArm p i) (bracketed limits d below (next i)) _ (test_holds (next i))
          (λ x j t. holds_body (AnArm p i) p j _ (λ chosen o b. (x, chosen, j, refl, t, b)))

      abbrev Arms : Place → ℕ → List Arm → Input → List Arm → Input → Type 0
      Arms p n found i all o = (xs : List Arm) × (all ≡ found ++ xs) × (length xs ≤ n) × g.Arms limits block d p i xs o

      no_arm : (j : Input) → (sees_one k.Else j ≡ false) ⊎ (sees_one k.If (next j) ≡ false) → (sees j ≢ k.Else) ⊎ (sees (next j) ≢ k.If)
      no_arm j (inl e) = inl (unseen k.Else j e)
      no_arm j (inr e) = inr (unseen k.If (next j) e)

      after_arm : (p : Place) (n : ℕ) (found : List Arm) (i : Input) → sees i ≡ k.If
          → ((all : List Arm) (m : Input) → sees m ≡ k.If → Holds (Arms p n all m) (arms limits d below p n all m))
          → (one : Arm) (j : Input) → AnArm p i one j
          → Holds (Arms p (suc n) found i) (if begins_arm j then (arms limits d below p n (found ++ one ∷ [])) (next j) else Ok (found ++ one ∷ [], j))
      unfolding begins_arm
      after_arm p n found i h more one j a =
          let Q = Arms p (suc n) found i in
          holds_if Q (sees_one k.Else j && sees_one k.If (next j)) _ _
          (λ e. let two = both (sees_one k.Else j) (sees_one k.If (next j)) e in
          holds_weaker (Arms p n (found ++ one ∷ []) (next j)) Q _
          (λ all o rest. (
            one ∷ rest.0,
            append_one found one rest.0 all rest.1,
            omega (arith, rest.2),
            subst (λ y. g.Arms limits block d p i (y ∷ rest.0) o) (sym a.3) (g.arms_more h a.4 a.5 (seen k.Else j two.0) rest.3),
          ))
          (more (found ++ one ∷ []) (next j) (seen k.If (next j) two.1)))
          (λ e. (
            one ∷ [],
            refl,
            omega arith,
            subst (λ y. g.Arms limits block d p i (y ∷ []) j) (sym a.3) (g.arms_last h a.4 a.5 (no_arm j (neither (sees_one k.Else j) (sees_one k.If (next j)) e))),
          ))

      arms_hold : (p : Place) (n : ℕ) (found : List Arm) (i : Input) → sees i ≡ k.If → Holds (Arms p n found i) (arms limits d below p n found i)
      unfolding arms
      arms_hold p zero found i h = tt
      arms_hold p (suc n) found i h = holds_then (AnArm p i) (Arms p (suc n) found i) (arm_of limits d below p i) _ (arm_holds p i)
          (λ one j a. after_arm p n found i h (λ all m c. arms_hold p n all m c) one j a)

      otherwise_holds : (p : Place) (i : Input) → Holds (g.Otherwise limits block d p i) (otherwise limits d below p i)
      unfolding otherwise
      otherwise_holds p i =
          let Q = g.Otherwise limits block d p i in
          holds_eat Q k.Else i (λ is_there. if is_there then ((bodies limits d).body p >>= (λ x. pure (Some x))) else pure None)
          (λ h. holds_body Q p (next i) _ (λ x o b. g.otherwise_some h b))
          (λ n. g.otherwise_none n)

      abbrev Statement : Place → Input → Stmt → Input → Type 0
      Statement = g.Statement limits block d

      if_holds : (p : Place) (i : Input) → sees i ≡ k.If → Holds (Statement p i) (if_statement limits d below p i)
      unfolding if_statement
      if_holds p i h =
          let Q = Statement p i in
          holds_then (Arms p limits.links [] i) Q (arms limits d below p limits.links [] i) _ (arms_hold p limits.links [] i h)
          (λ found j m. holds_then (g.Otherwise limits block d p j) Q (otherwise limits d below p j) _ (otherwise_holds p j)
          (λ last o e. g.choice last (subst (λ xs. g.Arms limits block d p i xs j) (sym m.1) m.3) (subst (λ xs. length xs ≤ limits.links) (sym m.1) m.2) e))

      -- ---- loops

      while_holds : (p : Place) (i : Input) → sees i ≡ k.While → Holds (Statement p i) (while_statement limits d below p i)
      unfolding while_statement
      while_holds p i h =
          let Q = Statement p i in
          holds_then (g.Test limits block d (next i)) Q (bracketed limits d below (next i)) _ (test_holds (next i))
          (λ x j t. holds_body Q (looped p) j _ (λ turn o b. g.repeated h t b))

      binder : (i : Input) → begins_each i ≡ true → g.Binder i (sees_one k.Const i)
      unfolding begins_each
      binder i h = by (sees_one k.Let i) refl h
        where
          by : (b : Bool) → sees_one k.Let i ≡ b → (if b then sees_one k.Name (next (next i)) else sees_one k.Const i) ≡ true → g.Binder i (sees_one k.Const i)
          by true e s = subst (g.Binder i) (sym (sees_no k.Const i (let_const i (seen k.Let i e)))) (g.by_let (seen k.Let i e) (seen k.Name (next (next i)) s))
          by false e s = subst (g.Binder i) (sym s) (g.by_const (seen k.Const i s))

      abbrev AList : Input → Expr → Input → Type 0
      AList i x o = (j : Input) × (spelling i ≡ codes "of") × g.Inner limits block d (next i) x j × (sees j ≡ k.RParen) × (o ≡ next j)

      list_holds : (i : Input) → Holds (AList i) (list_behind limits d below i)
      unfolding list_behind
      list_holds i = holds_word (AList i) (codes "of") i _ (λ w. holds_inner d (AList i) (next i) _ (λ x j hx. holds_expect (AList i) k.RParen j _ (λ c. (j, w, hx, c, refl))))

      each_holds : (p : Place) (i : Input) → sees i ≡ k.For → sees (next i) ≡ k.LParen → begins_each (next (next i)) ≡ true
          → Holds (Statement p i) (each limits d below p (start i) (next (next i)))
      unfolding each
      each_holds p i h a e =
          let Q = Statement p i in
          let j = next (next i) in
          holds_name Q (next j) _ (λ found m n. holds_then (AList m) Q (list_behind limits d below m) _ (list_holds m)
          (λ x t l. holds_body Q (looped p) t _
          (λ turn o b. g.each h a (binder j e) n l.1 l.2 l.3 (subst (λ z. g.Body limits block d (looped p) z turn o) l.4 b))))

      steps_hold : (p : Place) (i : Input) → sees i ≡ k.For → sees (next i) ≡ k.LParen → begins_each (next (next i)) ≡ false → Holds (Statement p i) (steps limits d below p (start i) (next (next i)))
      unfolding steps
      steps_hold p i h a none =
          let Q = Statement p i in
          let j = next (next i) in
          holds_then (g.First limits block d j) Q (head_first limits d below j) _ (head_first_holds j none)
          (λ first m f. holds_then (g.Optional limits block d k.Semi m) Q (head_value_upto limits d below k.Semi m) _ (optional_holds k.Semi m)
          (λ condition n c. holds_then (g.Optional limits block d k.RParen n) Q (head_value_upto limits d below k.RParen n) _ (optional_holds k.RParen n)
          (λ step t s. holds_body Q (looped p) t _ (λ turn o b. g.stepped first condition step h a f c s b))))

      for_holds : (p : Place) (i : Input) → sees i ≡ k.For → Holds (Statement p i) (for_statement limits d below p i)
      unfolding for_statement
      for_holds p i h =
          let Q = Statement p i in
          holds_expect Q k.LParen (next i) _ (λ a. holds_if Q (begins_each (next (next i))) _ _ (λ e. each_holds p i h a e) (λ e. steps_hold p i h a e))

      -- ---- other statements

      nested_holds : (p : Place) (i : Input) → sees i ≡ k.LBrace → Holds (Statement p i) (nested limits d below p i)
      unfolding nested
      nested_holds p i h = holds_then (g.Block limits block d p i) (Statement p i) ((bodies limits d).block p i) _ (holds.blocks p i) (λ found o b. g.nested h b)

      break_holds : (p : Place) (i : Input) → sees i ≡ k.Break → Holds (Statement p i) (break_statement p i)
      unfolding break_statement single
      break_holds p i h = holds_choice_then (Statement p i) p.in_loop _ _ i _
          (λ l. holds_then_then (IsEnd (next i)) (Statement p i) (ending (next i)) _ _ (ending_holds (next i)) (λ u o e. g.broken h l e)) (λ l. tt)

      continue_holds : (p : Place) (i : Input) → sees i ≡ k.Continue → Holds (Statement p i) (continue_statement p i)
      unfolding continue_statement single
      continue_holds p i h = holds_choice_then (Statement p i) p.in_loop _ _ i _
          (λ l. holds_then_then (IsEnd (next i)) (Statement p i) (ending (next i)) _ _ (ending_holds (next i)) (λ u o e. g.continued h l e)) (λ l. tt)

      return_holds : (p : Place) (i : Input) → sees i ≡ k.Return → Holds (Statement p i) (return_statement limits d below p i)
      unfolding return_statement answer
      return_holds p i h =
          let Q = Statement p i in
          holds_choice Q p.in_function _ _ i (λ f. holds_test Q (stops (next i)) _ _ _
          (λ s. holds_ending Q (next i) _ (λ o e. g.returned h f (begins_none (next i) s) e))
          (λ s. holds_then_then (g.Inner limits block (suc d) (next i)) Q (value limits d below false (next i)) _ _ (value_holds false d (next i))
          (λ x j hx. holds_ending Q j _ (λ o e. g.answered x h f (begins_answer (next i) s) hx e)))) (λ f. tt)

      evaluated_holds : (p : Place) (i : Input) → g.begins_other (sees i) ≡ false → Holds (Statement p i) (evaluated limits d below i)
      unfolding evaluated
      evaluated_holds p i n =
          let Q = Statement p i in
          holds_then (g.Inner limits block (suc d) i) Q (value limits d below false i) _ (value_holds false d i) (λ x j hx. holds_ending Q j _ (λ o e. g.evaluated n hx e))

      pub statement_holds : (p : Place) (i : Input) → Holds (Statement p i) (statement limits d below p i)
      unfolding statement empty
      statement_holds p i = by (sees i) refl
        where
          one : sees i ≡ k.Semi → Holds (Statement p i) (empty i)
          one h = g.empty h

          by : (l : Lexeme) → sees i ≡ l → Holds (Statement p i) (r.statement_by limits d below p l i)
          by k.Semi e = one e
          by k.LBrace e = nested_holds p i e
          by k.If e = if_holds p i e
          by k.While e = while_holds p i e
          by k.For e = for_holds p i e
          by k.Break e = break_holds p i e
          by k.Continue e = continue_holds p i e
          by k.Return e = return_holds p i e
          by _ e = evaluated_holds p i (ap g.begins_other e)

      pub item_holds : (p : Place) (i : Input) → Holds (g.Item limits block d p i) (item limits d below p i)
      unfolding item
      item_holds p i = by (sees i) refl
        where
          by : (l : Lexeme) → sees i ≡ l → Holds (g.Item limits block d p i) (r.item_by limits d below p l i)
          by k.Let e = let_holds p i e
          by k.Const e = holds_weaker (g.Constants limits block d i false i) (g.Item limits block d p i) _ (λ x o h. g.item_const h) (const_holds i false i e)
          by _ e = holds_weaker (Statement p i) (g.Item limits block d p i) _ (λ x o s. g.item_other (ap g.begins_binding e) s) (statement_holds p i)

      items : (p : Place) → IsUpto k.RBrace (g.Item limits block d p) (g.Items limits block d p)
      items p = record {
        none = λ i h. g.items_none h;
        more = λ i j o x xs n h rest. g.items_more n h rest;
      }

      braced_holds : (p : Place) (i : Input) → Holds (g.Block limits block (suc d) p i) (braced limits d below p i)
      unfolding braced
      braced_holds p i =
          let Q = g.Block limits block (suc d) p i in
          holds_expect Q k.LBrace i _ (λ h. holds_then (g.Items limits block d p (next i)) Q (upto (item limits d below p) k.RBrace (next i)) _
          (upto_holds (item limits d below p) k.RBrace (g.Item limits block d p) (g.Items limits block d p) (items p) (item_holds p) (next i))
          (λ found o m. g.block_braces h m))

  pub below_holds : (d : ℕ) → Below d
  unfolding bodies
  below_holds zero = record { blocks = λ p i. tt; turns = λ p i. tt }
  below_holds (suc d) = record {
    blocks = λ p i. braced_holds d (below_holds d) p i;
    turns = λ p i. holds_weaker (g.Statement limits block d p i) (g.Body limits block (suc d) p i) _ (λ x o h. g.body h) (statement_holds d (below_holds d) p i);
  }
