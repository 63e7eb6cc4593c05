-- What a call answers, taken apart: a value that it gave, or an error that is handed on.
use Rattle.std.proofs.Common.{◌≡◌, refl, sym, ap, ◌∙◌, subst, Result, Ok, Err}
use Rattle.std.specs.Result.{IsErrAnd}
use Rattle.sv_base.specs.declared.span.Span.{Span}
use Rattle.sv_ops.specs.declared.faults.FaultKind.{FaultKind}
use Rattle.sv_world.specs.declared.world.World.{World}
use Rattle.sv_meaning.specs.Env.{Env}
use Rattle.sv_meaning.specs.Gives.{Gives, EndsAs}
use Rattle.sv_meaning.specs.Outcome.{Ending, Ends, Fails, Outcome, Done, Failed, kept}
use Rattle.sv_meaning.specs.declared.errors.EvalError.{EvalError}
use Rattle.sv_meaning.specs.declared.errors.EvalError.TheVariants.{Fault, NoMemory}

module _ {A B C D : Type 0} (shows : A → B) (shows' : C → D) where
  gives_err : (e : EvalError) (env : Env) (w : World) (o : Outcome B) (o' : Outcome D) → Gives shows (Err e) env w o → ((k : FaultKind) (s : Span) → o ≡ Failed k s w → o' ≡ Failed k s w) → Gives shows' (Err e) env w o'
  gives_err (Fault f) env w o o' g h = h f.kind f.span g
  gives_err NoMemory env w o o' g h = tt

  -- the error of a call is that of its caller
  pub err_exit : (r : Result A EvalError) (e : EvalError) (r' : Result C EvalError) (env : Env) (w : World) (o : Outcome B) (o' : Outcome D) → r ≡ Err e → IsErrAnd r' (λ x. x ≡ e) → Gives shows r env w o → ((k : FaultKind) (s : Span) → o ≡ Failed k s w → o' ≡ Failed k s w) → Gives shows' r' env w o'
  err_exit r e (Ok x) env w o o' i m g h = absurd m
  err_exit r e (Err y) env w o o' i m g h = subst (λ z. Gives shows' (Err z) env w o') (sym m) (gives_err e env w o o' (subst (λ z. Gives shows z env w o) i g) h)

  ends_err : (e : EvalError) (env : Env) (w : World) (o : Outcome B) (o' : Ending D) → Gives shows (Err e) env w o → ((k : FaultKind) (s : Span) → o ≡ Failed k s w → o' ≡ Fails k s w) → EndsAs shows' (Err e) w o'
  ends_err (Fault f) env w o o' g h = h f.kind f.span g
  ends_err NoMemory env w o o' g h = tt

  -- the same where the caller leaves no names
  pub err_end : (r : Result A EvalError) (e : EvalError) (r' : Result C EvalError) (env : Env) (w : World) (o : Outcome B) (o' : Ending D) → r ≡ Err e → IsErrAnd r' (λ x. x ≡ e) → Gives shows r env w o → ((k : FaultKind) (s : Span) → o ≡ Failed k s w → o' ≡ Fails k s w) → EndsAs shows' r' w o'
  err_end r e (Ok x) env w o o' i m g h = absurd m
  err_end r e (Err y) env w o o' i m g h = subst (λ z. EndsAs shows' (Err z) w o') (sym m) (ends_err e env w o o' (subst (λ z. Gives shows z env w o) i g) h)

module _ {A B : Type 0} (shows : A → B) where
  -- what a call that answered Ok did
  pub gave : (r : Result A EvalError) (a : A) (env : Env) (w : World) (o : Outcome B) → r ≡ Ok a → Gives shows r env w o → o ≡ Done (shows a) env w
  gave r a env w o i g = subst (λ z. Gives shows z env w o) i g

  -- a call leaves the names of its caller
  pub ends_kept : (r : Result A EvalError) (env : Env) (w : World) (o : Ending B) → EndsAs shows r w o → Gives shows r env w (kept env o)
  ends_kept (Ok a) env w o g = ap (λ z. kept env z) g
  ends_kept (Err (Fault f)) env w o g = ap (λ z. kept env z) g
  ends_kept (Err NoMemory) env w o g = tt

  -- an answer to what is meant in other words
  pub gives_as : (r : Result A EvalError) (env : Env) (w : World) (o o' : Outcome B) → o' ≡ o → Gives shows r env w o → Gives shows r env w o'
  gives_as r env w o o' e g = subst (λ z. Gives shows r env w z) (sym e) g

  pub ends_as : (r : Result A EvalError) (w : World) (o o' : Ending B) → o' ≡ o → EndsAs shows r w o → EndsAs shows r w o'
  ends_as r w o o' e g = subst (λ z. EndsAs shows r w z) (sym e) g
