-- A call of a function by its number does what the call of the function that stands there in the script does: by the number of calls that may be open.
use Rattle.std.proofs.Common.{◌≡◌, ℕ, zero, suc, refl, sym, ap, ap₂, subst, ◌∙◌, List, ◌++◌, Option, Some, None, slice_get}
use mathlib.Core.Path.{fun_ext}
use Rattle.sv_base.specs.declared.span.Span.{Span}
use Rattle.sv_code.specs.declared.functions.Function.{Function}
use Rattle.sv_code.specs.declared.functions.FunctionBody.{FunctionBody}
use Rattle.sv_code.specs.declared.functions.FunctionBody.TheVariants as body
use Rattle.sv_meaning.specs.Calls.{Caller}
use Rattle.sv_meaning.specs.Env.{Env, bound, opened, params, numbers}
use Rattle.sv_meaning.specs.Functions.{Teller, Mode, if_there, returned}
use Rattle.sv_meaning.specs.Functions as code
use Rattle.sv_meaning.specs.Outcome.{Ends, Deed, left, then_do}
use Rattle.sv_meaning.specs.Sight.{Ground, ground_in, is_there}
use Rattle.sv_value.specs.Value.{Val, Vals, items}
use Rattle.sv_world.specs.declared.world.World.{World}
use Rattle.sv_source.specs.Functions.{Body, Gives, Runs, Tells, Makes, Fun}
use Rattle.sv_source.specs.Functions as script
use Rattle.sv_source.specs.Open.{heads}
use Rattle.sv_source.proofs.Alike.{BodyAlike, FunAlike, AreAlike, inside}
use Rattle.sv_source.proofs.Names.{heads_body}
use Rattle.sv_source.proofs.Scopes.{same_at}
use Rattle.sv_source.proofs.Tables.{Perhaps, beside_get}

module _ (all : List Function) where
  body_same : (xs : List ℕ) (b : FunctionBody) (b' : Body) (tell : Teller) (g : Ground) (call : Caller) (o : ℕ) (env : Env) (args : List Val) (s : Span) (w : World) → g.program.functions ≡ all → BodyAlike all xs b b' → heads env ≡ xs
      → code.entered b tell g call o env args s w ≡ script.entered b' tell g call o env args s w
  body_same xs (body.Value c) (Gives m) tell g call o env args s w p h e = ap left (same_at xs _ _ (h g call o p) env w e)
  body_same xs (body.Block stmts) (Runs m) tell g call o env args s w p h e = ap (λ z. then_do (left z) (λ f. Ends (returned f))) (same_at xs _ _ (h g call o p) env w e)
  body_same xs body.Dispatch Tells tell g call o env args s w p h e = refl
  body_same xs body.Writable Makes tell g call o env args s w p h e = refl
  body_same xs (body.Value c) (Runs m) tell g call o env args s w p h e = absurd h
  body_same xs (body.Value c) Tells tell g call o env args s w p h e = absurd h
  body_same xs (body.Value c) Makes tell g call o env args s w p h e = absurd h
  body_same xs (body.Block stmts) (Gives m) tell g call o env args s w p h e = absurd h
  body_same xs (body.Block stmts) Tells tell g call o env args s w p h e = absurd h
  body_same xs (body.Block stmts) Makes tell g call o env args s w p h e = absurd h
  body_same xs body.Dispatch (Gives m) tell g call o env args s w p h e = absurd h
  body_same xs body.Dispatch (Runs m) tell g call o env args s w p h e = absurd h
  body_same xs body.Dispatch Makes tell g call o env args s w p h e = absurd h
  body_same xs body.Writable (Gives m) tell g call o env args s w p h e = absurd h
  body_same xs body.Writable (Runs m) tell g call o env args s w p h e = absurd h
  body_same xs body.Writable Tells tell g call o env args s w p h e = absurd h

  -- the same names are open in both
  env_same : (f : Function) (f' : Fun) → FunAlike all f f' → (held args : List Val) → code.env_of f held args ≡ script.env_of f' held args
  env_same f f' h held args = ap₂ (λ ts z. bound (numbers ts) held ++ z) h.taken (ap₂ (λ ps ds. bound (params ps) args ++ opened ds) h.handed h.own)

  found_same : (f : Option Function) (f' : Option Fun) → Perhaps (FunAlike all) f f' → (tell : Teller) (g : Ground) (call : Caller) (o : ℕ) (held args : List Val) (s : Span) (w : World) → g.program.functions ≡ all
      → code.found f tell g call o held args s w ≡ script.found f' tell g call o held args s w
  found_same None None h tell g call o held args s w p = refl
  found_same (Some f) (Some f') h tell g call o held args s w p =
      ap (λ env. code.entered f.body tell g call o env args s w) (env_same f f' h held args)
      ∙ body_same (inside f') f.body f'.body tell g call o (script.env_of f' held args) args s w p h.acts (heads_body (numbers f'.takes) (params f'.params) f'.declares held args)
  found_same None (Some f') h tell g call o held args s w p = absurd h
  found_same (Some f) None h tell g call o held args s w p = absurd h

module _ (all : List Function) (functions : List Fun) (alike : AreAlike all all functions) (mode : Mode) where
  abbrev calling : ℕ → ((c o : ℕ) → Vals → List Val → Span → Deed Val) → Caller
  calling room calls = record { calls = calls; derives = mode.derives room }

  at_number : (fs : List Function) → fs ≡ all → (c : ℕ) → Perhaps (FunAlike all) (slice_get fs c) (slice_get functions c)
  at_number fs p c = subst (λ z. Perhaps (FunAlike all) (slice_get z c) (slice_get functions c)) (sym p) (beside_get (FunAlike all) all functions c alike)

  within_same : (room : ℕ) (g : Ground) → g.program.functions ≡ all → code.called_within mode g room ≡ script.called_within functions mode g room
  within_same zero g p = fun_ext (λ c. fun_ext (λ o. fun_ext (λ held. fun_ext (λ args. fun_ext (λ s. fun_ext (λ w. refl))))))
  within_same (suc room) g p = fun_ext (λ c. fun_ext (λ o. fun_ext (λ held. fun_ext (λ args. fun_ext (λ s. fun_ext (λ w.
      ap (λ d. if_there (is_there g.sight o w) s d w) (fun_ext (λ w'.
      found_same all (slice_get g.program.functions c) (slice_get functions c) (at_number g.program.functions p c) mode.tells (ground_in g c) (calling room (code.called_within mode (ground_in g c) room)) o (items held) args s w' p
      ∙ ap (λ calls. script.found (slice_get functions c) mode.tells (ground_in g c) (calling room calls) o (items held) args s w') (within_same room (ground_in g c) p)))))))))

  -- so what code does beyond its own is what the script does beyond its own
  pub caller_same : (room : ℕ) (g : Ground) → g.program.functions ≡ all → code.caller mode g room ≡ script.caller functions mode g room
  caller_same room g p = ap (calling room) (within_same room g p)
