-- What settles derived stores, step by step.
use Rattle.std.proofs.Common.{◌≡◌, ℕ, suc, refl, ap, subst, Bool, true, false, not, ◌&&◌, List, Option, Some, None, is_some, option_copied, Result, Ok, Err, Bor, if◌then◌else◌}
use Rattle.std.specs.Result.{OnOk}
use Rattle.sv_base.specs.declared.span.Span.{Span}
use Rattle.sv_code.specs.declared.known.Known.{Known}
use Rattle.sv_code.specs.declared.known.Method.{Method}
use Rattle.sv_code.specs.declared.known.Property.{Property}
use Rattle.sv_code.specs.declared.program.Program.{Program}
use Rattle.sv_derived.specs.Derived.{Recipe, found, next}
use Rattle.sv_ops.specs.Answer.{Answer, Gives, Refuses}
use Rattle.sv_ops.specs.Answers.{Answers}
use Rattle.sv_ops.specs.Numbers.{bumped}
use Rattle.sv_ops.specs.declared.faults.FaultKind.{FaultKind}
use Rattle.sv_ops.specs.declared.faults.FaultKind.TheVariants.{NotText}
use Rattle.sv_ops.specs.declared.faults.OpError.{OpError}
use Rattle.sv_ops.specs.declared.faults.OpError.TheVariants.{Fault, NoMemory}
use Rattle.sv_ops.specs.declared.given.Given.{Given}
use Rattle.sv_states.specs.States.{is_derived}
use Rattle.sv_value.specs.Value.{Val, store}
use Rattle.sv_value.specs.View.{view_of}
use Rattle.sv_world.specs.declared.world.World.{World}
use Rattle.sv_meaning.specs.Calls.{Caller, is_on_store, on_store}
use Rattle.sv_meaning.specs.Derived.{input_values, handed, called_apart, derive}
use Rattle.sv_meaning.specs.Env.{Env}
use Rattle.sv_meaning.specs.Gives.{EndsAs}
use Rattle.sv_meaning.specs.Outcome.{Ending, Ends, Fails, Done, and_then, then_do, kept, less_by, spent_in, answered}
use Rattle.sv_meaning.specs.Settling.{Derives, settled, settled_within, compute}
use Rattle.sv_meaning.specs.Sight.{Ground, read, put, set, may_change}
use Rattle.sv_meaning.specs.Values.{Expr, all_values, method_call, bump_step}
use Rattle.sv_meaning.specs.declared.errors.EvalError.{EvalError}
use Rattle.sv_eval.proofs.Steps.{with_args_is}

-- ---- assignments

module _ (g : Ground) (call : Caller) (owner : ℕ) (x : Known) (v : Val) (s : Span) (env env' : Env) (w w' : World) (u : Val) (p : put g owner x v s env w ≡ Done u env' w') where
  pub set_settles : (e : Ending (Unit {0})) → may_change g.sight x ≡ true → settled call.derives w' ≡ e → set g call owner x v s env w ≡ kept env' (then_do e (λ t. Ends u))
  set_settles e m d = rw (p, m, d) refl

  pub set_still : may_change g.sight x ≡ false → set g call owner x v s env w ≡ Done u env' w'
  set_still m = rw (p, m) refl

-- ---- settling

pub settles_none : (n m : ℕ) (derives : Derives) (w : World) → n ≡ suc m → next w.states.derived ≡ None → settled_within n derives w ≡ Ends tt w
settles_none n m derives w k e = rw (k, e) refl

pub settles_one : (n m : ℕ) (derives : Derives) (w w' : World) (id : ℕ) → n ≡ suc m → next w.states.derived ≡ Some id → compute derives id (found w.states.derived id) w ≡ Ends tt w' → settled_within n derives w ≡ settled_within m derives w'
settles_one n m derives w w' id k e c = rw (k, e, c) refl

pub settles_fault : (n m : ℕ) (derives : Derives) (w w' : World) (id : ℕ) (kind : FaultKind) (s : Span) → n ≡ suc m → next w.states.derived ≡ Some id → compute derives id (found w.states.derived id) w ≡ Fails kind s w' → settled_within n derives w ≡ Fails kind s w'
settles_fault n m derives w w' id kind s k e c = rw (k, e, c) refl

-- ---- what derived stores come to

abbrev world_of : {A : Type 0} → Ending A → World
world_of (Ends a w) = w
world_of (Fails k s w) = w

-- an operation changes nothing but the turn
pub answered_leaves : (s : Span) (a : Answer) (w w' : World) (v : Val) → answered s a w ≡ Ends v w' → w' ≡ record w { turn = w'.turn }
answered_leaves s (Gives cost u) w w' v e = by (less_by cost w.turn.steps) e where
  by : (o : Option ℕ) → spent_in o s (Ends u) w ≡ Ends v w' → w' ≡ record w { turn = w'.turn }
  by None e = absurd (cc)
  by (Some n) e = subst (λ z. z ≡ record w { turn = z.turn }) (ap world_of e) refl
answered_leaves s (Refuses k) w w' v e = absurd (cc)

pub derive_gives : (p : Program) (room owner : ℕ) (r : Recipe) (w w' : World) (v : Val) (e : Ending Val) → answered r.span (handed r.takes_list (input_values w.states.stores r.inputs)) w ≡ Ends v w' → called_apart p room owner r v w' ≡ e → derive p room owner r w ≡ e
derive_gives p room owner r w w' v e a d = rw (a, d) refl

-- some answer that a call of an operation allows
abbrev pub answer_of : Result Given OpError → Answer
answer_of (Ok g) = Gives g.cost (view_of g.value)
answer_of (Err (Fault k)) = Refuses k
answer_of (Err NoMemory) = Refuses NotText

pub answers-answer_of : (r : Result Given OpError) → Answers r (answer_of r)
answers-answer_of (Ok g) = refl
answers-answer_of (Err (Fault k)) = refl
answers-answer_of (Err NoMemory) = tt

pub unseen : {A : Type 0} (o : Option (Bor A)) → is_some o ≡ false → option_copied o ≡ None
unseen None h = refl
unseen (Some b) h = absurd (cc)

pub always : {A B P : Type 0} (r : Result A B) → P → OnOk r P
always (Ok a) p = p
always (Err e) p = tt

pub ended : (r : Result (Unit {0}) EvalError) (u : Unit {0}) (w : World) (e : Ending (Unit {0})) → r ≡ Ok u → EndsAs (λ u. u) r w e → e ≡ Ends tt w
ended r u w e i g = subst (λ z. EndsAs (λ u. u) z w e) i g

-- ---- methods of stores

pub store_method_is : (g : Ground) (call : Caller) (p : Property) (s at : Span) (args : List Expr) (id : ℕ) (m : Method) (env env' : Env) (w w' : World) (us : List Val) → p.method ≡ Some m → (is_on_store m && not (is_derived w.states id)) ≡ true → all_values args env w ≡ Done us env' w' → method_call g call p s at args (store id) env w ≡ kept env' (on_store m call s id us w')
store_method_is g call p s at args id m env env' w w' us i j e = rw (i, j) (with_args_is args (on_store m call s id) env env' w w' us e)

-- ---- names that are bumped

pub bump_sets : (g : Ground) (call : Caller) (owner : ℕ) (x : Known) (at : Span) (up prefix : Bool) (s : Span) (env : Env) (w w' w'' : World) (a v : Val) → read g owner x at env w ≡ Done a env w' → answered s (bumped up a) w' ≡ Ends v w''
    → bump_step g call owner x at up prefix s env w ≡ and_then (set g call owner x v at env w'') (λ u. Done (if prefix then v else a))
bump_sets g call owner x at up prefix s env w w' w'' a v r d = rw (r, d) refl
