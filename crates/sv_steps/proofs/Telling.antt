-- Steps that are told one after another.
use Rattle.std.proofs.Common.{◌≡◌, ◌<◌, ◌≤◌, ◌+◌, ℕ, List, [], ◌∷◌, ◌++◌, length, get_or, drop, map, refl, ap, sym, ◌∙◌, append_assoc, append-nil}
use Rattle.std.specs.Prelude.{Ok, Err, Some, None}
use Rattle.std.proofs.lemmas.List.{at_drop_more, at_drop_all}
use Rattle.serde_json.specs.View.{view}
use Rattle.serde_json.specs.declared.value.Value.{Value}
use Rattle.sv_steps.specs.StepsFile.{Told, behind, first_then, each_step}
use Rattle.sv_steps.specs.Form.{step_of}
use Rattle.sv_steps.specs.declared.step.Step.{Step}

-- what is told of the values from a place on
abbrev pub left : List Value → ℕ → Told
left vs at = each_step at (map view (drop at vs))

pub before_any : (told : Told) → told ≡ behind [] told
before_any (Ok steps) = refl
before_any (Err error) = refl

behind-behind : (some more : List Step) (told : Told) → behind some (behind more told) ≡ behind (some ++ more) told
behind-behind some more (Ok steps) = ap Ok (sym (append_assoc some more steps))
behind-behind some more (Err error) = refl

turn : (vs : List Value) (at : ℕ) (v : Value) → at < length vs → v ≡ get_or vs at v → left vs at ≡ first_then at (step_of (view v)) (left vs (at + 1))
turn vs at v below here = at_drop_more (λ rest. each_step at (map view rest)) vs at v below ∙ ap (λ w. first_then at (step_of (view w)) (left vs (at + 1))) (sym here)

-- the next value is a step
pub one_more : (vs : List Value) (at : ℕ) (v : Value) (all : Told) (so_far now : List Step) (step : Step) → at < length vs → v ≡ get_or vs at v
    → Some step ≡ step_of (view v) → now ≡ so_far ++ step ∷ [] → all ≡ behind so_far (left vs at) → all ≡ behind now (left vs (at + 1))
one_more vs at v all so_far now step below here is grown so =
    so ∙ ap (behind so_far) (turn vs at v below here ∙ ap (λ e. first_then at e (left vs (at + 1))) (sym is)) ∙ behind-behind so_far (step ∷ []) (left vs (at + 1)) ∙ ap (λ steps. behind steps (left vs (at + 1))) (sym grown)

-- the next value is none
pub one_wrong : (vs : List Value) (at : ℕ) (v : Value) (all : Told) (so_far : List Step) → at < length vs → v ≡ get_or vs at v → None ≡ step_of (view v)
    → all ≡ behind so_far (left vs at) → all ≡ first_then at None all
one_wrong vs at v all so_far below here is so = so ∙ ap (behind so_far) (turn vs at v below here ∙ ap (λ e. first_then at e (left vs (at + 1))) (sym is))

-- no value is left
pub all_told : (vs : List Value) (at : ℕ) (all : Told) (so_far : List Step) → length vs ≤ at → all ≡ behind so_far (left vs at) → all ≡ Ok so_far
all_told vs at all so_far past so = so ∙ ap (behind so_far) (at_drop_all (λ rest. each_step at (map view rest)) vs at past) ∙ ap Ok (append-nil so_far)
