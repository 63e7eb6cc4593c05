-- Lists of the grammar are read.
use Rattle.std.proofs.Common.{◌≡◌, ◌≢◌, ◌≤◌, inl, inr, ℕ, zero, suc, Bool, true, false, cond, List, [], ◌∷◌, ◌++◌, refl, ap, sym, ◌∙◌, subst, arith, append_assoc}
use Rattle.std.proofs.lemmas.Grind.{common_steps}
use Rattle.std.specs.Prelude.{nat_le, Ok}
use Rattle.sv_ast.specs.declared.names.Named.{Named}
use Rattle.sv_ast.specs.declared.refusals.Kind.{Kind}
use Rattle.sv_ast.specs.declared.refusals.Refused.{Refused}
use Rattle.sv_lex.specs.declared.lexeme.Lexeme.{Lexeme}
use Rattle.sv_lex.specs.declared.lexeme.Lexeme.TheVariants as k
use Rattle.sv_lex.specs.Reader.{Input, Outcome, Parser, refuse, refusal, sees, next, left, name}
use Rattle.sv_lex.proofs.Ends.{Ends, ends_then, expect_yes}
use Rattle.sv_lex.proofs.Progress.{left-some, next-less}
use Rattle.sv_lex.proofs.Sees.{sees_yes, sees_no, after_yes, after_no}
use Rattle.sv_expr.specs.Grammar as g
use Rattle.sv_expr.specs.Lists.{listed, listed_from, parameters}
use Rattle.sv_expr.proofs.SoundLists.{append_none}
use Rattle.sv_expr.proofs.Words.{text_next, left_as, name_past}

pub le_true : (a b : ℕ) → a ≤ b → nat_le a b ≡ true
le_true a b h = grind (arith, common_steps)

-- a refusal of which the property holds, and a choice
pub refuses : {A : Type 0} (P : Refused → Type 0) (kind : Kind) (i : Input) (z : A × Input) → P (refusal kind i) → Ends P (refuse {A = A} kind i) z
refuses P kind i z h = inr (refusal kind i, refl, h)

pub ends_choice : {A : Type 0} (P : Refused → Type 0) (b : Bool) (p q : Parser A) (i : Input) (z : A × Input)
    → (b ≡ true → Ends P (p i) z) → (b ≡ false → Ends P (q i) z) → Ends P (cond b p q i) z
ends_choice P true p q i z h g = h refl
ends_choice P false p q i z h g = g refl

-- items found so far, and the rest
pub joined : {A : Type 0} (P : Refused → Type 0) {r : Outcome (List A)} {o : Input} (found : List A) (x : A) (xs : List A)
    → Ends P r ((found ++ x ∷ []) ++ xs, o) → Ends P r (found ++ x ∷ xs, o)
joined P {r = r} {o = o} found x xs h = subst (λ all. Ends P r (all, o)) (append_assoc found (x ∷ []) xs) h

module _ (P : Refused → Type 0) {A : Type 0} (item : Parser A) (close : Lexeme) where
  pub end_ends : (n : ℕ) (found : List A) (i : Input) → left i ≤ n → sees i ≢ k.End → sees i ≡ close → Ends P (listed_from item close n found i) (found ++ [], next i)
  unfolding listed_from
  end_ends zero found i le some h = let s = left-some i some in absurd (omega arith)
  end_ends (suc n) found i le some h = rw (sees_yes close i h, after_yes close i h) (inl (ap (λ all. Ok (all, next i)) (append_none found)))

  pub last_ends : (n : ℕ) (found : List A) (i j : Input) (x : A) → left i ≤ n → sees i ≢ k.End → sees i ≢ close → close ≢ k.Comma
      → Ends P (item i) (x, j) → sees j ≡ close → Ends P (listed_from item close n found i) (found ++ x ∷ [], next j)
  unfolding listed_from
  last_ends zero found i j x le some h apart hx c = let s = left-some i some in absurd (omega arith)
  last_ends (suc n) found i j x le some h apart hx c = rw (sees_no close i h, after_no close i h) (ends_then P _ _ hx
      (let n = λ (e : sees j ≡ k.Comma). apart (sym c ∙ e) in rw (sees_no k.Comma j n, after_no k.Comma j n) (ends_then P _ _ (inl (expect_yes close j c)) (inl refl))))

  pub more_ends : (n : ℕ) (found : List A) (i j o : Input) (x : A) (xs : List A) → left i ≤ n → sees i ≢ k.End → sees i ≢ close → Ends P (item i) (x, j) → sees j ≡ k.Comma
      → left j ≤ left i → ((m : ℕ) → left (next j) ≤ m → Ends P (listed_from item close m (found ++ x ∷ []) (next j)) ((found ++ x ∷ []) ++ xs, o))
      → Ends P (listed_from item close n found i) (found ++ x ∷ xs, o)
  unfolding listed_from
  more_ends zero found i j o x xs le some h hx c shrinks rest = let s = left-some i some in absurd (omega arith)
  more_ends (suc n) found i j o x xs le some h hx c shrinks rest =
      let less = next-less j (λ e. cc) in
      joined P found x xs (rw (sees_no close i h, after_no close i h) (ends_then P _ _ hx (rw (sees_yes k.Comma j c, after_yes k.Comma j c) (rest n (omega arith)))))

  pub listed_ends : (i o : Input) (xs : List A) → Ends P (listed_from item close (left i) [] i) (xs, o) → Ends P (listed item close i) (xs, o)
  unfolding listed
  listed_ends i o xs h = h

-- ---- parameters

names_end : (P : Refused → Type 0) {i o : Input} {xs : List Named} → g.Names i xs o → (n : ℕ) (found : List Named) → left i ≤ n
    → Ends P (listed_from name k.RParen n found i) (found ++ xs, o)
names_end P (g.names_end {i = i} h) n found le = end_ends P name k.RParen n found i le (λ e. cc) h
names_end P (g.names_last {i = i} {j = j} h e c) n found le = last_ends P name k.RParen n found i j _ le (λ e. cc) (λ e. cc) (λ e. cc) (inl e) c
names_end P (g.names_more {i = i} {j = j} {o = o} h e c rest) n found le =
    let same = left_as j (next i) (name_past i j _ e ∙ sym (text_next i)) in
    let less = next-less i (λ e. cc) in
    more_ends P name k.RParen n found i j o _ _ le (λ e. cc) (λ e. cc) (inl e) c (omega (arith, same, less)) (λ m lem. names_end P rest m _ lem)

pub params_end : (P : Refused → Type 0) {i o : Input} {xs : List Named} → g.Params i xs o → Ends P (parameters i) (xs, o)
unfolding parameters
params_end P (g.one {i = i} h e) = rw (sees_no k.LParen i (λ e. cc), after_no k.LParen i (λ e. cc)) (ends_then P _ _ (inl e) (inl refl))
params_end P (g.several {i = i} {o = o} h rest) =
    rw (sees_yes k.LParen i h, after_yes k.LParen i h) (listed_ends P name k.RParen (next i) o _ (names_end P rest (left (next i)) [] (omega arith)))
