-- What a flush still has to do.
use Rattle.std.specs.Prelude.{◌≡◌, ℕ, Bool, not, ◌&&◌, nat_eq, if◌then◌else◌, List, [], ◌∷◌, ◌++◌, Option, Some, None, refl}
use Rattle.std.specs.List.{filter, list_any, filter_map}
use Rattle.std.specs.Coded.{Coded, code_by, coded×, coded_ℕ, coded_list, coded_option}
use Rattle.sv_base.specs.declared.span.Span.{Span}
use Rattle.sv_derived.specs.Derived.{span_code}
use Rattle.sv_instance.specs.Bound.{Bound, bound_code}

-- a binding callback: the child's number, what its prop is to be bound to, and the place of its directive
pub record Binding : Type 0 where
  pub child : ℕ
  pub bound : Bound
  pub span : Span

abbrev pub binding_code : Coded Binding
binding_code =
    code_by (ℕ × (Bound × Span)) (coded× coded_ℕ (coded× bound_code span_code)) (λ b. (b.child, (b.bound, b.span))) (λ p. record { child = p.0; bound = p.1.0; span = p.1.1 }) (λ _. refl)

-- the mount callbacks of an instance, or one of its afterUpdate callbacks by its place
pub data Waiting : Type 0 where
  mounting : ℕ → Waiting
  after_update : (n at : ℕ) → Waiting

abbrev waiting_pair : Waiting → ℕ × Option ℕ
waiting_pair (mounting n) = (n, None)
waiting_pair (after_update n at) = (n, Some at)

abbrev waiting_from : ℕ → Option ℕ → Waiting
waiting_from n None = mounting n
waiting_from n (Some at) = after_update n at

abbrev waiting_back : (w : Waiting) → waiting_from (waiting_pair w).0 (waiting_pair w).1 ≡ w
waiting_back (mounting n) = refl
waiting_back (after_update n at) = refl

abbrev pub waiting_code : Coded Waiting
waiting_code = code_by (ℕ × Option ℕ) (coded× coded_ℕ (coded_option coded_ℕ)) waiting_pair (λ p. waiting_from p.0 p.1) waiting_back

pub record Ran : Type 0 where
  pub number : ℕ
  pub at : ℕ

abbrev pub ran_code : Coded Ran
ran_code = code_by (ℕ × ℕ) (coded× coded_ℕ coded_ℕ) (λ r. (r.number, r.at)) (λ p. record { number = p.0; at = p.1 }) (λ _. refl)

-- the binding callbacks, the last pushed last, the render queue, and the afterUpdate callbacks that ran in this flush
pub record Rounds : Type 0 where
  pub bindings : List Binding
  pub render : List Waiting
  pub ran : List Ran

abbrev pub rounds_code : Coded Rounds
rounds_code =
    code_by (List Binding × (List Waiting × List Ran)) (coded× (coded_list binding_code) (coded× (coded_list waiting_code) (coded_list ran_code)))
    (λ r. (r.bindings, (r.render, r.ran))) (λ p. record { bindings = p.0; render = p.1.0; ran = p.1.1 }) (λ _. refl)

abbrev pub no_rounds : Rounds
no_rounds = record { bindings = []; render = []; ran = [] }

abbrev pub with_binding : Rounds → Binding → Rounds
with_binding r b = record r { bindings = r.bindings ++ b ∷ [] }

abbrev pub with_waiting : Rounds → Waiting → Rounds
with_waiting r w = record r { render = r.render ++ w ∷ [] }

abbrev pub same_ran : ℕ → ℕ → Ran → Bool
same_ran n at x = nat_eq x.number n && nat_eq x.at at

-- whether an afterUpdate callback ran in this flush
abbrev pub has_run : Rounds → ℕ → ℕ → Bool
has_run r n at = list_any (same_ran n at) r.ran

abbrev pub with_ran : Rounds → ℕ → ℕ → Rounds
with_ran r n at = record r { ran = if has_run r n at then r.ran else r.ran ++ record { number = n; at = at } ∷ [] }

abbrev pub instance_of : Waiting → ℕ
instance_of (mounting n) = n
instance_of (after_update n at) = n

-- the place of an afterUpdate callback of the instance that hasn't run
abbrev pub callback_of : Rounds → ℕ → Waiting → Option ℕ
callback_of r n (mounting m) = None
callback_of r n (after_update m at) = if nat_eq m n && not (has_run r n at) then Some at else None

abbrev pub waiting_callbacks : Rounds → ℕ → List ℕ
waiting_callbacks r n = filter_map (callback_of r n) r.render

-- whether an instance is neither the child nor the owner
abbrev pub is_no_binding_of : ℕ → Binding → Bool
is_no_binding_of n b = not (nat_eq b.child n) && not (nat_eq b.bound.owner n)

abbrev pub is_of_other : ℕ → Waiting → Bool
is_of_other n w = not (nat_eq (instance_of w) n)

-- without all that is an instance's
abbrev pub forgotten : Rounds → ℕ → Rounds
forgotten r n = record r { bindings = filter (is_no_binding_of n) r.bindings; render = filter (is_of_other n) r.render }
