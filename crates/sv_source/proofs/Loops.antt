-- What the forms of statements do where their parts give the same.
use Rattle.std.proofs.Common.{◌≡◌, ℕ, zero, suc, refl, ap, ◌∙◌, true, List, [], ◌∷◌, ◌++◌, map, Option, Some, None}
use Rattle.sv_base.specs.declared.names.Name.{Name}
use Rattle.sv_base.specs.declared.span.Span.{Span}
use Rattle.sv_local.proofs.Outcomes.{Alike, then_alike, done_alike, failed_alike, either_alike, counted_alike}
use Rattle.sv_meaning.specs.Env.{Env, opened, given_value}
use Rattle.sv_meaning.specs.Outcome.{Done, Meaning, Flow, Next, Broken, Continued, Returned, and_then}
use Rattle.sv_meaning.specs.Statements.{Doing, Silent, Counts, done, Arm, first_of, in_order, go_on, after_turn, tested, turns, loop, item_turns, over_list, each_step, otherwise, for_step, value_or}
use Rattle.sv_ops.specs.declared.faults.FaultKind.TheVariants.{NotAList, Steps}
use Rattle.sv_value.specs.Change.{truthy}
use Rattle.sv_value.specs.Value.{Val, undefined, null, boolean, number, text, list, object, function, store, items}
use Rattle.sv_source.proofs.Names.{stays}
use Rattle.sv_source.proofs.Scopes.{In, scoped_alike}
use Rattle.sv_source.proofs.Tables.{Beside, Perhaps}

-- what a statement of a form does, and what another does
abbrev pub DoingAlike : List ℕ → Doing → Doing → Type 0
DoingAlike xs Silent Silent = Unit {0}
DoingAlike xs (Counts f) (Counts f') = (s : Span) → Alike (In xs) (f s) (f' s)
DoingAlike xs _ _ = ⊥

pub record ArmAlike (xs : List ℕ) (a a' : Arm) : Type 0 where
  pub test : Alike (In xs) a.test a'.test
  pub body : Alike (In xs) a.body a'.body

pub done_same : (xs : List ℕ) (d d' : Doing) (s : Span) → DoingAlike xs d d' → Alike (In xs) (done d s) (done d' s)
done_same xs Silent Silent s h = done_alike Next
done_same xs (Counts f) (Counts f') s h = counted_alike s (h s)
done_same xs Silent (Counts f') s h = absurd h
done_same xs (Counts f) Silent s h = absurd h

module _ (xs : List ℕ) where
  abbrev E : Env → Env → Type 0
  E = In xs

  pub value_or_alike : (m m' : Option (Meaning Val)) → Perhaps (Alike E) m m' → Alike E (value_or m) (value_or m')
  value_or_alike None None h = done_alike undefined
  value_or_alike (Some m) (Some m') h = h
  value_or_alike None (Some m') h = absurd h
  value_or_alike (Some m) None h = absurd h

  go_on_alike : (f : Flow) {m m' : Meaning Flow} → Alike E m m' → Alike E (go_on f m) (go_on f m')
  go_on_alike Next h = h
  go_on_alike Broken h = done_alike Broken
  go_on_alike Continued h = done_alike Continued
  go_on_alike (Returned v) h = done_alike (Returned v)

  pub in_order_alike : (ms ms' : List (Meaning Flow)) → Beside (Alike E) ms ms' → Alike E (in_order ms) (in_order ms')
  in_order_alike [] [] h = done_alike Next
  in_order_alike (m ∷ ms) (m' ∷ ms') h = then_alike h.0 (λ f. go_on_alike f (in_order_alike ms ms' h.1))
  in_order_alike [] (m' ∷ ms') h = absurd h
  in_order_alike (m ∷ ms) [] h = absurd h

  -- a local that is declared gets its value
  pub given_alike : (x : ℕ) (v : Val) → Alike E (λ env. Done Next (given_value x v env)) (λ env. Done Next (given_value x v env))
  given_alike x v = record { both = λ env env' w e. (given_value x v env', (ap (given_value x v) e.0, stays x v env ∙ e.1), refl) }

  -- ---- loops

  after_alike : (f : Flow) {m m' : Meaning Flow} → Alike E m m' → Alike E (after_turn f m) (after_turn f m')
  after_alike Next h = h
  after_alike Broken h = done_alike Next
  after_alike Continued h = h
  after_alike (Returned v) h = done_alike (Returned v)

  tested_alike : (m m' : Option (Meaning Val)) → Perhaps (Alike E) m m' → Alike E (tested m) (tested m')
  tested_alike None None h = done_alike true
  tested_alike (Some m) (Some m') h = then_alike h (λ v. done_alike (truthy v))
  tested_alike None (Some m') h = absurd h
  tested_alike (Some m) None h = absurd h

  turns_alike : (n : ℕ) (s : Span) (t t' next next' : Option (Meaning Val)) (b b' : Meaning Flow) → Perhaps (Alike E) t t' → Perhaps (Alike E) next next' → Alike E b b' → Alike E (turns n s t next b) (turns n s t' next' b')
  turns_alike zero s t t' next next' b b' h k l = failed_alike Steps s
  turns_alike (suc n) s t t' next next' b b' h k l =
      then_alike (tested_alike t t' h) (λ c. either_alike c (then_alike l (λ f. after_alike f (then_alike (value_or_alike next next' k) (λ u. turns_alike n s t t' next next' b b' h k l)))) (done_alike Next))

  pub loop_alike : (s : Span) (t t' next next' : Option (Meaning Val)) (b b' : Meaning Flow) → Perhaps (Alike E) t t' → Perhaps (Alike E) next next' → Alike E b b' → Alike E (loop s t next b) (loop s t' next' b')
  loop_alike s t t' next next' b b' h k l = record { both = λ env env' w e. (turns_alike (suc w.turn.steps) s t t' next next' b b' h k l).both env env' w e }

  otherwise_alike : (m m' : Option (Meaning Flow)) → Perhaps (Alike E) m m' → Alike E (otherwise m) (otherwise m')
  otherwise_alike None None h = done_alike Next
  otherwise_alike (Some m) (Some m') h = h
  otherwise_alike None (Some m') h = absurd h
  otherwise_alike (Some m) None h = absurd h

  pub first_alike : (arms arms' : List Arm) (last last' : Option (Meaning Flow)) → Beside (ArmAlike xs) arms arms' → Perhaps (Alike E) last last' → Alike E (first_of arms last) (first_of arms' last')
  first_alike [] [] last last' h k = otherwise_alike last last' k
  first_alike (a ∷ arms) (a' ∷ arms') last last' h k = then_alike h.0.test (λ v. either_alike (truthy v) h.0.body (first_alike arms arms' last last' h.1 k))
  first_alike [] (a' ∷ arms') last last' h k = absurd h
  first_alike (a ∷ arms) [] last last' h k = absurd h

  items_alike : (x : Name) (vs : List Val) (b b' : Meaning Flow) → Alike (In (xs ++ x.0 ∷ [])) b b' → Alike E (item_turns x vs b) (item_turns x vs b')
  items_alike x [] b b' h = done_alike Next
  items_alike x (v ∷ vs) b b' h = then_alike (scoped_alike xs (x.0 ∷ []) ((x.0, Some v) ∷ []) b b' refl h) (λ f. after_alike f (items_alike x vs b b' h))

  over_alike : (s : Span) (x : Name) (b b' : Meaning Flow) → Alike (In (xs ++ x.0 ∷ [])) b b' → (v : Val) → Alike E (over_list s x b v) (over_list s x b' v)
  over_alike s x b b' h (list vs) = items_alike x (items vs) b b' h
  over_alike s x b b' h undefined = failed_alike NotAList s
  over_alike s x b b' h null = failed_alike NotAList s
  over_alike s x b b' h (boolean c) = failed_alike NotAList s
  over_alike s x b b' h (number n) = failed_alike NotAList s
  over_alike s x b b' h (text t) = failed_alike NotAList s
  over_alike s x b b' h (object fs) = failed_alike NotAList s
  over_alike s x b b' h (function c o held) = failed_alike NotAList s
  over_alike s x b b' h (store id) = failed_alike NotAList s

  pub each_alike : (s : Span) (x : Name) (m m' : Meaning Val) (b b' : Meaning Flow) → Alike (In (xs ++ x.0 ∷ [])) m m' → Alike (In (xs ++ x.0 ∷ [])) b b' → Alike E (each_step s x m b) (each_step s x m' b')
  each_alike s x m m' b b' h k = then_alike (scoped_alike xs (x.0 ∷ []) (opened (x ∷ [])) m m' refl h) (over_alike s x b b' k)

pub for_alike : (xs ys : List ℕ) (s : Span) (names : Env) (first first' : Option (Meaning Flow)) (t t' next next' : Option (Meaning Val)) (b b' : Meaning Flow) → map (λ e. e.0) names ≡ ys
    → Perhaps (Alike (In (xs ++ ys))) first first' → Perhaps (Alike (In (xs ++ ys))) t t' → Perhaps (Alike (In (xs ++ ys))) next next' → Alike (In (xs ++ ys)) b b' → Alike (In xs) (for_step s names first t next b) (for_step s names first' t' next' b')
for_alike xs ys s names first first' t t' next next' b b' same h k l m =
    scoped_alike xs ys names (λ env w. and_then (otherwise first env w) (λ f. loop s t next b)) (λ env w. and_then (otherwise first' env w) (λ f. loop s t' next' b')) same
    (then_alike (otherwise_alike (xs ++ ys) first first' h) (λ f. loop_alike (xs ++ ys) s t t' next next' b b' k l m))
