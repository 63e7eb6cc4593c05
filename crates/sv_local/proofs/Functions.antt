-- What calls do in pure evaluations on two views that are alike at the cells that the arrows of their part read: the same.
use Rattle.std.proofs.Common.{◌≡◌, ℕ, zero, suc, refl, ap, ◌∙◌, Bool, true, false, List, Option, Some, None, slice_get}
use mathlib.Core.Path.{fun_ext}
use Rattle.sv_base.specs.declared.span.Span.{Span}
use Rattle.sv_code.specs.declared.functions.Function.{Function}
use Rattle.sv_code.specs.declared.functions.FunctionBody.{FunctionBody}
use Rattle.sv_code.specs.declared.functions.FunctionBody.TheVariants as body
use Rattle.sv_code.specs.declared.known.Known.{Known}
use Rattle.sv_code.specs.declared.known.Known.TheVariants as known
use Rattle.sv_code.specs.Within.{is_among}
use Rattle.sv_code.specs.declared.parts.Arrows.{Arrows}
use Rattle.sv_code.specs.declared.program.Program.{Program}
use Rattle.sv_code.proofs.Each.{each_mono, each_of}
use Rattle.sv_local.proofs.Names.{fits_same}
use Rattle.sv_local.proofs.Outcomes.{IsSame}
use Rattle.sv_local.proofs.Statements.{value_same, runs_same}
use Rattle.sv_local.proofs.Values.{Fine}
use Rattle.sv_local.specs.Looks.{IsCellAlike}
use Rattle.sv_code.specs.Names.{Each, of_body}
use Rattle.sv_meaning.specs.Calls.{Caller}
use Rattle.sv_meaning.specs.Env.{Env}
use Rattle.sv_meaning.specs.Functions.{called_within, caller, entered, env_of, found, returned, silent}
use Rattle.sv_meaning.specs.Outcome.{Ends, Deed, left, then_do}
use Rattle.sv_meaning.specs.Sight.{Ground}
use Rattle.sv_meaning.specs.Statements.{in_order}
use Rattle.sv_value.specs.Value.{Val, Vals, undefined, items}
use Rattle.sv_view.specs.Level.{View}
use Rattle.sv_world.specs.declared.world.World.{World}

-- the locals in a body are its own
fine_cell : (v v' : View) (x : Known) → IsCellAlike v v' x → Fine IsSame true v v' x
fine_cell v v' (known.Cell n) h = h
fine_cell v v' (known.Local x) h = fits_same x.0
fine_cell v v' (known.Constant n) h = tt
fine_cell v v' (known.Export file n) h = tt
fine_cell v v' (known.Life l) h = tt
fine_cell v v' known.Writable h = tt
fine_cell v v' known.Derived h = tt
fine_cell v v' (known.BuiltIn b) h = tt

-- where no cells are seen, all are alike
fine_shut : (v v' : View) (x : Known) → Fine IsSame false v v' x
fine_shut v v' (known.Cell n) = refl
fine_shut v v' (known.Local x) = fits_same x.0
fine_shut v v' (known.Constant n) = tt
fine_shut v v' (known.Export file n) = tt
fine_shut v v' (known.Life l) = tt
fine_shut v v' known.Writable = tt
fine_shut v v' known.Derived = tt
fine_shut v v' (known.BuiltIn b) = tt

-- some calls, where no store is computed
abbrev calling : ((c o : ℕ) → Vals → List Val → Span → Deed Val) → Caller
calling calls = record { calls = calls; derives = λ o r. Ends undefined }

abbrev seeing : Program → Arrows → Bool → View → Ground
seeing p arrows own v = record { program = p; sight = Some v; arrows = arrows; is_own = own }

body_same : (p : Program) (arrows : Arrows) (own : Bool) (v v' : View) → v.own.constants ≡ v'.own.constants → v.modules ≡ v'.modules → (call : Caller) (o : ℕ) (env : Env) (args : List Val) (s : Span) (w : World) (b : FunctionBody)
    → Each (λ x. Fine IsSame own v v' x) (of_body p.functions b) → entered b silent.tells (seeing p arrows own v) call o env args s w ≡ entered b silent.tells (seeing p arrows own v') call o env args s w
body_same p arrows own v v' constants modules call o env args s w (body.Value e) h = ap (λ m. left (m env w)) (value_same p arrows own v v' constants modules call o e h)
body_same p arrows own v v' constants modules call o env args s w (body.Block stmts) h = ap (λ ms. then_do (left (in_order ms env w)) (λ f. Ends (returned f))) (runs_same p arrows own v v' constants modules call o stmts h)
body_same p arrows own v v' constants modules call o env args s w body.Dispatch h = refl
body_same p arrows own v v' constants modules call o env args s w body.Writable h = refl

module _ (p : Program) (arrows : Arrows) (v v' : View) (constants : v.own.constants ≡ v'.own.constants) (modules : v.modules ≡ v'.modules)
    (alike : (n : ℕ) (f : Function) → is_among n arrows ≡ true → slice_get p.functions n ≡ Some f → Each (IsCellAlike v v') (of_body p.functions f.body)) where
  found_same : (call : Caller) (c : ℕ) (b : Bool) (f : Option Function) → is_among c arrows ≡ b → slice_get p.functions c ≡ f → (o : ℕ) (held args : List Val) (s : Span) (w : World)
      → found f silent.tells (seeing p arrows b v) call o held args s w ≡ found f silent.tells (seeing p arrows b v') call o held args s w
  found_same call c b None own is o held args s w = refl
  found_same call c true (Some f) own is o held args s w =
      body_same p arrows true v v' constants modules call o (env_of f held args) args s w f.body (each_mono (IsCellAlike v v') (Fine IsSame true v v') (fine_cell v v') (of_body p.functions f.body) (alike c f own is))
  found_same call c false (Some f) own is o held args s w =
      body_same p arrows false v v' constants modules call o (env_of f held args) args s w f.body (each_of (Fine IsSame false v v') (fine_shut v v') (of_body p.functions f.body))

  -- calls are the same, with so many that may be open, whoever's code calls
  within_same : (own : Bool) (room : ℕ) → called_within silent (seeing p arrows own v) room ≡ called_within silent (seeing p arrows own v') room
  within_same own zero = refl
  within_same own (suc room) = fun_ext (λ c. fun_ext (λ o. fun_ext (λ held. fun_ext (λ args. fun_ext (λ s. fun_ext (λ w.
      found_same (caller silent (seeing p arrows (is_among c arrows) v) room) c (is_among c arrows) (slice_get p.functions c) refl refl o (items held) args s w
      ∙ ap (λ calls. found (slice_get p.functions c) silent.tells (seeing p arrows (is_among c arrows) v') (calling calls) o (items held) args s w) (within_same (is_among c arrows) room)))))))

  pub caller_same : (own : Bool) (room : ℕ) → caller silent (seeing p arrows own v) room ≡ caller silent (seeing p arrows own v') room
  caller_same own room = ap calling (within_same own room)
