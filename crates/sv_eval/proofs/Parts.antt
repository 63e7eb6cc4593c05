-- Pure evaluations, and listeners that are heard.
use Rattle.std.proofs.Common.{◌≡◌, ℕ, refl, sym, ap, ◌∙◌, subst, List, ◌∷◌, [], Option, Some, None, Result, Ok, Err}
use Rattle.std.specs.Result.{IsErrAnd}
use Rattle.sv_base.specs.declared.span.Span.{Span}
use Rattle.sv_code.specs.declared.parts.Part.{Part}
use Rattle.sv_code.specs.declared.program.Program.{Program}
use Rattle.sv_ops.specs.declared.faults.Fault.{Fault as FaultAt}
use Rattle.sv_value.specs.Value.{Val}
use Rattle.sv_value.specs.View.{view_of}
use Rattle.sv_value.specs.declared.value.Value.{Value}
use Rattle.sv_view.specs.Level.{View}
use Rattle.sv_world.specs.declared.world.World.{World}
use Rattle.sv_meaning.specs.Calls.{Caller}
use Rattle.sv_meaning.specs.Env.{Env, shown}
use Rattle.sv_meaning.specs.Functions.{caller, silent}
use Rattle.sv_meaning.specs.Gives.{Gives, EndsAs, Evaluates}
use Rattle.sv_meaning.specs.Listeners.{heard_on, heard_result, heard_value}
use Rattle.sv_meaning.specs.Outcome.{Ending, Ends, Fails, Outcome, Done, Failed}
use Rattle.sv_meaning.specs.Parts.{ground, part_value, part_world, result_of}
use Rattle.sv_meaning.specs.Values.{value}
use Rattle.sv_meaning.specs.declared.errors.EvalError.{EvalError}
use Rattle.sv_meaning.specs.declared.errors.EvalError.TheVariants.{Fault, NoMemory}
use Rattle.sv_meaning.specs.declared.limits.TheConstants.{CALL_LIMIT}

gives_result : (r : Result Value EvalError) (env : Env) (w : World) (o : Outcome Val) → Gives view_of r env w o → Evaluates r (result_of o)
gives_result (Ok v) env w o g = ap result_of g
gives_result (Err (Fault f)) env w o g = ap result_of g
gives_result (Err NoMemory) env w o g = tt

-- what the evaluator gives in the world of a pure evaluation is the value of a part
pub part_is : (p : Program) (v : View) (part : Part) (o : ℕ) (r : Result Value EvalError) (env env' : Env) (w w' : World) → w ≡ part_world → env ≡ shown v.own.locals → o ≡ v.own.inst
    → Gives view_of r env' w' (value (ground p v part.arrows) (caller silent (ground p v part.arrows) CALL_LIMIT) o part.code env w) → Evaluates r (part_value p v part)
part_is p v part o r env env' w w' i j k g =
    let means : ℕ → Env → World → Outcome Val = λ (o : ℕ). value (ground p v part.arrows) (caller silent (ground p v part.arrows) CALL_LIMIT) o part.code in
    let e = ap (λ z. means z env w) k ∙ ap (λ z. means v.own.inst z w) j ∙ ap (λ z. means v.own.inst (shown v.own.locals) z) i in
    subst (λ z. Evaluates r (result_of z)) e (gives_result r env' w' (means o env w) g)

-- a listener's value is called
pub heard_is : (p : Program) (call : Caller) (part : Part) (o : Option View) (v : View) (r : Result Value EvalError) (x : Value) (e : Val) (w : World) → o ≡ Some v → r ≡ Ok x → Evaluates r (part_value p v part) → heard_on o p call part e w ≡ heard_value p call part.span (view_of x) e w
heard_is p call part o v r x e w i j g =
    ap (λ z. heard_on z p call part e w) i ∙ ap (λ z. heard_result p call part.span z e w) (subst (λ z. Evaluates z (part_value p v part)) j g)

evaluated_err : (f : EvalError) (p : Program) (call : Caller) (part : Part) (v : View) (e : Val) (w : World) → Evaluates (Err f) (part_value p v part) → EndsAs {A = Unit {0}} (λ u. u) (Err f) w (heard_on (Some v) p call part e w)
evaluated_err (Fault f) p call part v e w g = ap (λ z. heard_result p call part.span z e w) g
evaluated_err NoMemory p call part v e w g = tt

-- a listener's fault is that of the call
pub heard_err : (p : Program) (call : Caller) (part : Part) (o : Option View) (v : View) (r : Result Value EvalError) (f : EvalError) (r' : Result (Unit {0}) EvalError) (e : Val) (w : World) → o ≡ Some v → r ≡ Err f → IsErrAnd r' (λ x. x ≡ f) → Evaluates r (part_value p v part) → EndsAs {A = Unit {0}} (λ u. u) r' w (heard_on o p call part e w)
heard_err p call part o v r f (Ok x) e w i j m g = absurd m
heard_err p call part o v r f (Err y) e w i j m g =
    subst (λ z. EndsAs {A = Unit {0}} (λ u. u) (Err z) w (heard_on o p call part e w)) (sym m)
    (subst (λ z. EndsAs {A = Unit {0}} (λ u. u) (Err f) w (heard_on z p call part e w)) (sym i)
    (evaluated_err f p call part v e w (subst (λ z. Evaluates z (part_value p v part)) j g)))
