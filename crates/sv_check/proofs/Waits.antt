-- Statements that wait for one another have places.
use Rattle.std.proofs.Common.{◌≡◌, ℕ, ◌<◌, zero, suc, true, List, [], ◌∷◌, length, map, sym, ◌∙◌, subst, arith}
use Rattle.std.proofs.lemmas.List.{length-map}
use Rattle.std.specs.Prelude.{slice_get, slice_index_or}
use Rattle.std.specs.Option.{option_to_list}
use Rattle.sv_ast.specs.declared.names.Ref.{Ref}
use Rattle.sv_ast.specs.declared.script_tree.Stmt.{Stmt}
use Rattle.sv_base.specs.declared.span.Span.{Span}
use Rattle.sv_names.specs.Distinct.{has}
use Rattle.sv_order.specs.declared.reads.Reads.{Reads}
use Rattle.sv_order.specs.ReactiveOrder.{Before}
use Rattle.sv_graph.specs.Cycle.{Leads, IsCycle, IsFirstCycle}
use Rattle.sv_check.specs.Waiting.{reactives, reads, first_place, AreWaiting, none, some}

has_within : (lists : List (List Ref)) (n : ℕ) (name : Ref) → has name (slice_index_or lists n []) ≡ true → n < length lists
has_within [] n name h = absurd (cc)
has_within (list ∷ lists) zero name h = omega arith
has_within (list ∷ lists) (suc n) name h = let e = has_within lists n name h in omega arith

-- a statement that is before another is one of the list
before_within : (list : List Reads) (s t : ℕ) → Before list s t → s < length list
before_within list s t b =
    let h = has_within (map (λ r. r.sets) list) s b.name b.is_set in
    let l = length-map list (λ (r : Reads). r.sets) in omega arith

leads_within : (list : List Reads) (n end : ℕ) (points : List ℕ) → Leads (Before list) n points end → n < length list
leads_within list n end [] leads = before_within list n end leads
leads_within list n end (q ∷ points) leads = before_within list n q leads.0

place_there : (places : List Span) (n : ℕ) → n < length places → option_to_list (slice_get places n) ≡ [] → ⊥
place_there [] n within h = omega arith
place_there (place ∷ places) zero within h = cc
place_there (place ∷ places) (suc n) within h = place_there places n (omega arith) h

-- the first statement of a cycle has a place
cycle_there : (cells : List Ref) (stmts : List Stmt) (cycle : List ℕ) → IsFirstCycle (Before (reads cells stmts)) cycle → first_place stmts cycle ≡ [] → ⊥
cycle_there cells stmts [] is h = is.is_cycle
cycle_there cells stmts (n ∷ points) is h =
    let within = leads_within (reads cells stmts) n n points is.is_cycle in
    let a = length-map (reactives stmts) (λ (s : Stmt). s.span) in
    let b : length (reads cells stmts) ≡ length (reactives stmts) = length-map (reactives stmts) _ in
    place_there (map (λ s. s.span) (reactives stmts)) n (omega arith) h

-- no statements wait for one another
pub none_wait : (cells : List Ref) (stmts : List Stmt) (list : List Reads) (places : List Span) → list ≡ reads cells stmts → places ≡ [] → ((cycle : List ℕ) → IsCycle (Before list) cycle → ⊥) → AreWaiting cells stmts places
none_wait cells stmts list places l p acyclic = subst (AreWaiting cells stmts) (sym p) (none (subst (λ z. (cycle : List ℕ) → IsCycle (Before z) cycle → ⊥) l acyclic))

-- some do
pub some_wait : (cells : List Ref) (stmts : List Stmt) (list : List Reads) (cycle : List ℕ) (places : List Span) → list ≡ reads cells stmts → IsFirstCycle (Before list) cycle → places ≡ first_place stmts cycle → AreWaiting cells stmts places
some_wait cells stmts list cycle places l is p = subst (AreWaiting cells stmts) (sym p) (some cycle (subst (λ z. IsFirstCycle (Before z) cycle) l is))

-- and then there is a place
pub some_place : (cells : List Ref) (stmts : List Stmt) (list : List Reads) (cycle : List ℕ) (places : List Span) → list ≡ reads cells stmts → IsFirstCycle (Before list) cycle → places ≡ first_place stmts cycle → places ≡ [] → ⊥
some_place cells stmts list cycle places l is p h = cycle_there cells stmts cycle (subst (λ z. IsFirstCycle (Before z) cycle) l is) (sym p ∙ h)
