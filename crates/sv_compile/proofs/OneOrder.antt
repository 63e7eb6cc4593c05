-- The module files of a program without mistakes run in one order.
use Rattle.std.proofs.Common.{◌≡◌, ℕ, zero, suc, ◌+◌, ◌<◌, Bool, true, false, cond, List, [], ◌∷◌, ◌++◌, Option, Some, None, length, map, filter, refl, sym, ap, subst, ◌∙◌, inl, inr, arith}
use Rattle.std.specs.Prelude.{slice_get, unwrap_or}
use Rattle.std.specs.List.{filter_map, cons_option}
use Rattle.std.proofs.lemmas.Bool.{cases_Bool, false≢true}
use Rattle.std.proofs.lemmas.List.{length-map}
use Rattle.sv_ast.specs.declared.files.Bundle.{Bundle}
use Rattle.sv_ast.specs.declared.files.SourceFile.{SourceFile}
use Rattle.sv_ast.specs.declared.names.Ref.{Ref}
use Rattle.sv_ast.specs.declared.script_tree.Stmt.{Stmt}
use Rattle.sv_base.specs.declared.span.Span.{Span}
use Rattle.sv_check.specs.Checked.{IsClean}
use Rattle.sv_check.specs.Mistakes.{at_file, file_mistakes}
use Rattle.sv_imports.specs.Cycles.{leads_back, closes, cycles_in, cycles_from}
use Rattle.sv_ast.specs.Files.{statements_of}
use Rattle.sv_imports.specs.Imports.{target, targets, imports}
use Rattle.sv_imports.proofs.Leading.{imports-whole}
use Rattle.sv_graph.specs.Cycle.{Leads as Chain, IsCycle}
use Rattle.sv_graph.specs.Links.{is_in, links_of, IsLink}
use Rattle.sv_graph.specs.Path.{one as one_link}
use Rattle.sv_graph.specs.Reached.{Leads, start, further}
use Rattle.sv_graph.specs.Visited.{IsVisited}
use Rattle.sv_graph.specs.declared.outcome.Visited.{Visited}
use Rattle.sv_graph.specs.declared.outcome.Visited.TheVariants as visited
use Rattle.sv_graph.proofs.Cycling.{path_within}
use Rattle.sv_graph.proofs.Points.{in_head, in_cons}
use Rattle.sv_compile.specs.Modules.{is_module_at, starts, modules_in, AreModules}
use Rattle.sv_compile.proofs.OneProgram.{visits_same}

-- ---- lists

none_mapped : {X Y : Type 0} (f : X → Y) (xs : List X) → map f xs ≡ [] → xs ≡ []
none_mapped f [] e = refl
none_mapped f (x ∷ xs) e = cc

none_before : {X : Type 0} (xs ys : List X) → xs ++ ys ≡ [] → xs ≡ []
none_before [] ys e = refl
none_before (x ∷ xs) ys e = cc

-- ---- imports that are part of a cycle

-- the last point of a chain of links is linked to one that leads to the first
closing : (links : List (List ℕ)) (p : ℕ) (points : List ℕ) (end : ℕ) → Chain (λ p q. IsLink links q p) p points end → (x : ℕ) × IsLink links end x × Leads (links_of links) (x ∷ []) p
closing links p [] end h = (p, h, start (in_head p []))
closing links p (q ∷ points) end h = let rest = closing links q points end h.1 in (rest.0, rest.1, further rest.2 h.0)

kept_some : {X : Type 0} (x : X) (b : Bool) (xs : List X) → b ≡ true → cond b (x ∷ xs) xs ≡ [] → ⊥
kept_some x true xs e h = cc
kept_some x false xs e h = cc

kept_none : {X : Type 0} (x : X) (b : Bool) (xs : List X) → b ≡ false → cond b (x ∷ xs) xs ≡ [] → xs ≡ []
kept_none x true xs e h = cc
kept_none x false xs e h = h

-- what is imported by a statement that closes no cycle, or later
imported_later : (leads : ℕ → ℕ → Bool) (p x : ℕ) (o : Option ℕ) (rest : List ℕ) → leads x p ≡ true → leads_back leads p o ≡ false → is_in x (cons_option o rest) ≡ true → is_in x rest ≡ true
imported_later leads p x None rest back loose here = here
imported_later leads p x (Some y) rest back loose here = elim (in_cons x y rest here) [
  | inl same ↦ absurd (false≢true (sym loose ∙ ap (λ z. leads z p) same ∙ back))
  | inr later ↦ later
]

-- where no statement of a file closes a cycle, nothing that the file imports leads back
unclosed : (leads : ℕ → ℕ → Bool) (files : List SourceFile) (p x : ℕ) (stmts : List Stmt) → leads x p ≡ true → filter (closes leads files p) stmts ≡ [] → is_in x (filter_map (target files) stmts) ≡ true → ⊥
unclosed leads files p x [] back none here = false≢true here
unclosed leads files p x (s ∷ stmts) back none here =
    let kept = filter (closes leads files p) stmts in
    elim (cases_Bool (closes leads files p s)) [
      | inl closed ↦ kept_some s (closes leads files p s) kept closed none
      | inr loose ↦ unclosed leads files p x stmts back (kept_none s (closes leads files p s) kept loose none) (imported_later leads p x (target files s) (filter_map (target files) stmts) back loose here)
    ]

-- what the file with a number imports
own_targets : (files sources : List SourceFile) (p : ℕ) (source : SourceFile) → slice_get sources p ≡ Some source → links_of (map (targets files) sources) p ≡ targets files source
own_targets files [] p source there = absurd (let no : None ≡ Some source = there in cc)
own_targets files (s ∷ sources) zero source there = ap (λ o. targets files (unwrap_or o s)) there
own_targets files (s ∷ sources) (suc p) source there = own_targets files sources p source there

-- the cycles of the file with a number
own_cycles : (leads : ℕ → ℕ → Bool) (files : List SourceFile) (n : ℕ) (sources : List SourceFile) (p : ℕ) (source : SourceFile) → slice_get sources p ≡ Some source
    → at_file (cycles_from leads files n sources) p ≡ cycles_in leads files (n + p) source
own_cycles leads files n [] p source there = absurd (let no : None ≡ Some source = there in cc)
own_cycles leads files n (s ∷ sources) zero source there =
    let same : n ≡ n + zero = omega arith in
    ap (λ o. cycles_in leads files n (unwrap_or o s)) there ∙ ap (λ k. cycles_in leads files k source) same
own_cycles leads files n (s ∷ sources) (suc p) source there =
    let same : suc n + p ≡ n + suc p = omega arith in
    own_cycles leads files (suc n) sources p source there ∙ ap (λ k. cycles_in leads files k source) same

-- a file without mistakes has none of these
no_mistakes : (bundle : Bundle) (cycles : List (List Span)) (pure : List (List Ref)) (n : ℕ) (source : SourceFile) (waiting : List Span) → [] ≡ file_mistakes bundle cycles pure n source waiting
    → at_file cycles n ≡ []
no_mistakes bundle cycles pure n source waiting e =
    none_mapped _ (at_file cycles n) (none_before _ _ (none_before _ _ (none_before _ _ (none_before _ _ (none_before _ _ (none_before _ _ (none_before _ _ (sym e))))))))

-- no files of a program without mistakes import one another in a cycle
no_cycle : (bundle : Bundle) → IsClean bundle → (cycle : List ℕ) → IsCycle (λ p q. IsLink (imports bundle.files) q p) cycle → ⊥
no_cycle bundle is [] h = h
no_cycle bundle is (p ∷ points) h =
    let files = bundle.files in
    let links = imports files in
    let closed = closing links p points p h in
    let size : length links ≡ length files = length-map files (targets files) in
    let here : p < length files = subst (λ z. p < z) size (path_within links p closed.0 (one_link closed.1)) in
    let there : closed.0 < length files = subst (λ z. closed.0 < z) size ((imports-whole files links refl).within p closed.0 closed.1) in
    let own = is.clean p here in
    let told_cycles = is.are_cycles in
    let back : told_cycles.leads closed.0 p ≡ true = told_cycles.tells.each closed.0 p there closed.2 in
    let none : at_file is.cycles p ≡ [] = no_mistakes bundle is.cycles is.pure p own.source own.waiting own.is in
    let first : 0 + p ≡ p = omega arith in
    let told : at_file is.cycles p ≡ cycles_in told_cycles.leads files p own.source =
    ap (λ c. at_file c p) told_cycles.are ∙ own_cycles told_cycles.leads files 0 files p own.source own.there ∙ ap (λ k. cycles_in told_cycles.leads files k own.source) first in
    let loose : filter (closes told_cycles.leads files p) (statements_of own.source.tree) ≡ [] = none_mapped _ _ (sym told ∙ none) in
    let imported : is_in closed.0 (targets files own.source) ≡ true = subst (λ z. is_in closed.0 z ≡ true) (own_targets files files p own.source own.there) closed.1 in
    unclosed told_cycles.leads files p closed.0 (statements_of own.source.tree) back loose imported

-- ---- orders

-- what comes of visiting the imports of a program without mistakes is one order
orders_same : (bundle : Bundle) (a b : Visited) → IsClean bundle → IsVisited (imports bundle.files) (starts bundle.files) a → IsVisited (imports bundle.files) (starts bundle.files) b
    → modules_in bundle.files a ≡ modules_in bundle.files b
orders_same bundle (visited.Order a) (visited.Order b) is one other = ap (filter (is_module_at bundle.files)) (visits_same _ _ a.items b.items one other)
orders_same bundle (visited.Order a) (visited.Cycle c) is one other = absurd (no_cycle bundle is c.items other.is_cycle)
orders_same bundle (visited.Cycle c) b is one other = absurd (no_cycle bundle is c.items one.is_cycle)

pub order_same : (bundle : Bundle) (a b : List ℕ) → IsClean bundle → AreModules bundle.files a → AreModules bundle.files b → a ≡ b
order_same bundle a b is one other = one.are ∙ orders_same bundle one.visited other.visited is one.is_visited other.is_visited ∙ sym other.are
