-- Steps that are counted, arguments that are evaluated, and calls, one lemma each.
use Rattle.std.proofs.Common.{◌≡◌, ℕ, suc, ◌∷◌, refl, sym, ap, ◌∙◌, subst, Bool, true, false, List, map, Option, Some, None, Result, Ok, Err, ◌⊎◌, inl, inr}
use Rattle.std.specs.Prelude.{slice_get}
use Rattle.std.specs.Result.{IsErrAnd}
use Rattle.sv_base.specs.declared.span.Span.{Span}
use Rattle.sv_code.specs.declared.functions.CodeStmt.{CodeStmt}
use Rattle.sv_code.specs.declared.functions.Function.{Function}
use Rattle.sv_code.specs.declared.functions.FunctionBody.{FunctionBody}
use Rattle.sv_code.specs.declared.functions.FunctionBody.TheVariants as body
use Rattle.sv_code.specs.declared.known.BuiltIn.{BuiltIn}
use Rattle.sv_code.specs.declared.known.Method.{Method}
use Rattle.sv_code.specs.declared.known.Property.{Property}
use Rattle.sv_ops.specs.Numbers.{quotient}
use Rattle.sv_ops.specs.declared.faults.FaultKind.{FaultKind}
use Rattle.sv_ops.specs.declared.faults.FaultKind.TheVariants.{Steps}
use Rattle.sv_value.specs.Value.{Val, Vals, list, items, function}
use Rattle.sv_value.specs.View.{view_of}
use Rattle.sv_value.specs.declared.value.Value.{Value}
use Rattle.sv_world.specs.declared.world.World.{World}
use Rattle.sv_meaning.specs.Calls.{Caller, call_value, is_on_list, on_list}
use Rattle.sv_meaning.specs.Counts.{Counts}
use Rattle.sv_meaning.specs.Env.{Env}
use Rattle.sv_meaning.specs.Functions.{Teller, Mode, caller, entered, env_of, returned}
use Rattle.sv_meaning.specs.Gives.{Gives, EndsAs, flow_of}
use Rattle.sv_meaning.specs.Outcome.{Ending, Ends, Fails, Outcome, Done, Failed, Meaning, Deed, Flow, Next, Continued, and_then, then_do, left, kept, doing, counted, counted_in, with_steps, answered}
use Rattle.sv_meaning.specs.Sight.{Ground, ground_in, is_there}
use Rattle.sv_meaning.specs.Statements.{turns, tested, value_or, Doing, Silent, Counts as Takes, takes_step, does, done, run_all}
use Rattle.sv_meaning.specs.Values.{Expr, Link, On, all_values, with_args, call_step, built_call, method_call, chain, chained, divide}
use Rattle.sv_meaning.specs.declared.declarations.End.{End}
use Rattle.sv_meaning.specs.declared.declarations.End.TheVariants as end
use Rattle.sv_meaning.specs.declared.errors.EvalError.{EvalError}
use Rattle.sv_meaning.specs.declared.errors.EvalError.TheVariants.{Fault}
use Rattle.sv_eval.proofs.Exits.{ends_kept}

-- ---- steps

pub counted_is : {A : Type 0} (s : Span) (m : Meaning A) (env : Env) (w w' : World) → w ≡ with_steps (suc w'.turn.steps) w' → counted s m env w ≡ m env w'
counted_is s m env w w' e = ap (λ z. counted s m env z) e

pub uncounted_is : {A : Type 0} (s : Span) (m : Meaning A) (env : Env) (w w' : World) → w.turn.steps ≡ 0 → w' ≡ w → counted s m env w ≡ Failed Steps s w'
uncounted_is s m env w w' z e = ap (λ n. counted_in n s m env w) z ∙ ap (λ v. Failed Steps s v) (sym e)

module _ {A B : Type 0} (shows : A → B) where
  told_err : (e : EvalError) (s : Span) (env : Env) (w : World) (o : Outcome B) → e ≡ Fault (record { kind = Steps; span = s }) → o ≡ Failed Steps s w → Gives shows (Err e) env w o
  told_err e s env w o i g = subst (λ z. Gives shows (Err z) env w o) (sym i) g

  -- no step was left
  pub count_err : (r : Result (Unit {0}) EvalError) (e : EvalError) (r' : Result A EvalError) (s : Span) (env : Env) (w w' : World) (o : Outcome B) → r ≡ Err e → IsErrAnd r' (λ x. x ≡ e) → Counts r s w w' → (w.turn.steps ≡ 0 → w' ≡ w → o ≡ Failed Steps s w') → Gives shows r' env w' o
  count_err r e (Ok x) s env w w' o i m g h = absurd m
  count_err r e (Err y) s env w w' o i m g h =
      let c = subst (λ z. Counts z s w w') i g in
      subst (λ z. Gives shows (Err z) env w' o) (sym m) (told_err e s env w' o c.0 (h c.1 c.2))

-- ---- arguments

pub with_args_is : (es : List Expr) (go : List Val → Deed Val) (env env' : Env) (w w' : World) (vs : List Val) → all_values es env w ≡ Done vs env' w' → with_args es go env w ≡ kept env' (go vs w')
with_args_is es go env env' w w' vs e = ap (λ o. and_then o (λ us. doing (go us))) e

-- ---- calls of members

pub member_is : (b : BuiltIn) (built : Option BuiltIn) (m : Meaning Val) (p : Property) (g : Ground) (call : Caller) (owner : ℕ) (of : Expr) (args : List Expr) (s at : Span) (env env' : Env) (w w' w'' : World) (v : Val) → built ≡ Some b → of.span ≡ at → w ≡ with_steps (suc w'.turn.steps) w' → m env w' ≡ Done v env' w'' → call_step (On built m p) g call owner of args s env w ≡ built_call b p.method s at args env' w''
member_is b built m p g call owner of args s at env env' w w' w'' v i a c e =
    ap (λ z. call_step (On z m p) g call owner of args s env w) i
    ∙ counted_is of.span (λ env' w'. and_then (m env' w') (λ v. built_call b p.method s of.span args)) env w w' c
    ∙ ap (λ o. and_then o (λ v. built_call b p.method s of.span args)) e
    ∙ ap (λ x. built_call b p.method s x args env' w'') a

pub method_is : (built : Option BuiltIn) (m : Meaning Val) (p : Property) (g : Ground) (call : Caller) (owner : ℕ) (of : Expr) (args : List Expr) (s at : Span) (env env' : Env) (w w' w'' : World) (v : Val) → built ≡ None → of.span ≡ at → w ≡ with_steps (suc w'.turn.steps) w' → m env w' ≡ Done v env' w'' → call_step (On built m p) g call owner of args s env w ≡ method_call g call p s at args v env' w''
method_is built m p g call owner of args s at env env' w w' w'' v i a c e =
    ap (λ z. call_step (On z m p) g call owner of args s env w) i
    ∙ counted_is of.span (λ env' w'. and_then (m env' w') (method_call g call p s of.span args)) env w w' c
    ∙ ap (λ o. and_then o (method_call g call p s of.span args)) e
    ∙ ap (λ x. method_call g call p s x args v env' w'') a

pub member_uncounted : (built : Option BuiltIn) (m : Meaning Val) (p : Property) (g : Ground) (call : Caller) (owner : ℕ) (of : Expr) (args : List Expr) (s at : Span) (env : Env) (w w' : World) → of.span ≡ at → w.turn.steps ≡ 0 → w' ≡ w → call_step (On built m p) g call owner of args s env w ≡ Failed Steps at w'
member_uncounted None m p g call owner of args s at env w w' a z e = uncounted_is of.span _ env w w' z e ∙ ap (λ x. Failed Steps x w') a
member_uncounted (Some b) m p g call owner of args s at env w w' a z e = uncounted_is of.span _ env w w' z e ∙ ap (λ x. Failed Steps x w') a

pub list_method_is : (g : Ground) (call : Caller) (p : Property) (s at : Span) (args : List Expr) (vs : Vals) (m : Method) (env env' : Env) (w w' : World) (us : List Val) → p.method ≡ Some m → is_on_list m ≡ true → all_values args env w ≡ Done us env' w' → method_call g call p s at args (list vs) env w ≡ kept env' (on_list m call s (items vs) us w')
list_method_is g call p s at args vs m env env' w w' us i j e = rw (i, j) (with_args_is args (on_list m call s (items vs)) env env' w w' us e)

pub divide_is : (t : Bool) (s at : Span) (m : Meaning Val) (ls : List Link) (n : Meaning Val) (env env' env'' env''' : Env) (w w' w'' w''' w'''' : World) (x a b : Val) → w ≡ with_steps (suc w'.turn.steps) w' → m env w' ≡ Done x env' w'' → chained at x ls env' w'' ≡ Done a env'' w''' → n env'' w''' ≡ Done b env''' w'''' → divide t s at (record { top = chain at m ls; bottom = n }) env w ≡ kept env''' (answered s (quotient t a b) w'''')
divide_is t s at m ls n env env' env'' env''' w w' w'' w''' w'''' x a b c d e f =
    let rest : Val → Meaning Val = λ (a : Val) (env' : Env) (w' : World). and_then (n env' w') (λ b. doing (answered s (quotient t a b))) in
    counted_is at (λ env w. and_then (chain at m ls env w) rest) env w w' c
    ∙ ap (λ o. and_then (and_then o (λ v. chained at v ls)) rest) d
    ∙ ap (λ o. and_then o rest) e
    ∙ ap (λ o. and_then o (λ b. doing (answered s (quotient t a b)))) f

-- ---- calls of functions

pub call_is : (mode : Mode) (g : Ground) (n m c o : ℕ) (held : Vals) (vs args : List Val) (s : Span) (w : World) (f : Function) → n ≡ suc m → is_there g.sight o w ≡ true → items held ≡ vs → slice_get g.program.functions c ≡ Some f → call_value (caller mode g n) s (function c o held) args w ≡ entered f.body mode.tells (ground_in g c) (caller mode (ground_in g c) m) o (env_of f vs args) args s w
call_is mode g n m c o held vs args s w f k t h e = ap (λ i. call_value (caller mode g i) s (function c o held) args w) k ∙ rw (t, e, h) refl

pub block_is : (b : FunctionBody) (stmts : List CodeStmt) (tell : Teller) (g : Ground) (call : Caller) (o : ℕ) (env : Env) (args : List Val) (s : Span) (w : World) → b ≡ body.Block stmts → entered b tell g call o env args s w ≡ then_do (left (run_all g call o stmts env w)) (λ f. Ends (returned f))
block_is b stmts tell g call o env args s w e = ap (λ z. entered z tell g call o env args s w) e

-- ---- statements

pub done_silent : (d : Doing) (s : Span) (env : Env) (w : World) → takes_step d ≡ false → done d s env w ≡ Done Next env w
done_silent Silent s env w e = refl
done_silent (Takes f) s env w e = absurd (cc)

pub done_counts : (d : Doing) (s : Span) (env : Env) (w : World) → takes_step d ≡ true → done d s env w ≡ counted s (does d s) env w
done_counts Silent s env w e = absurd (cc)
done_counts (Takes f) s env w e = refl

-- ---- loops

-- a turn after which the loop goes on
pub turn_next : (n m : ℕ) (s : Span) (t x : Option (Meaning Val)) (b : Meaning Flow) (env env' env'' env''' : Env) (w w' w'' w''' : World) (f : Flow) (u : Val) → n ≡ suc m → tested t env w ≡ Done true env' w' → b env' w' ≡ Done f env'' w'' → (f ≡ Next) ⊎ (f ≡ Continued) → value_or x env'' w'' ≡ Done u env''' w''' → turns n s t x b env w ≡ turns m s t x b env''' w'''
turn_next n m s t x b env env' env'' env''' w w' w'' w''' f u k e r (inl g) d = ap (λ i. turns i s t x b env w) k ∙ rw (e, r, g, d) refl
turn_next n m s t x b env env' env'' env''' w w' w'' w''' f u k e r (inr g) d = ap (λ i. turns i s t x b env w) k ∙ rw (e, r, g, d) refl

pub goes_on : (e : End) → (e ≡ end.Next) ⊎ (e ≡ end.Continued) → (flow_of e ≡ Next) ⊎ (flow_of e ≡ Continued)
goes_on e (inl g) = inl (ap flow_of g)
goes_on e (inr g) = inr (ap flow_of g)
