-- Scopes of names: what those round a place declare counts as a local there, and so do the locals round the whole.
use Rattle.std.proofs.Common.{◌≡◌, true, List, [], ◌++◌, sym, ◌∙◌, true≢false}
use Rattle.sv_ast.specs.declared.names.Ref.{Ref}
use Rattle.sv_names.proofs.Same.{has-append, has-with_names, has-firsts}
use Rattle.sv_names.specs.Distinct.{has, with_names, firsts}
use Rattle.sv_within.proofs.Bools.{or_cases, or_first, or_second}

pub record Covers (outer scope locals : List Ref) : Type 0 where
  pub inner : (n : Ref) → has n scope ≡ true → has n locals ≡ true
  pub base : (n : Ref) → has n outer ≡ true → has n locals ≡ true

pub covers_more : (outer scope locals ds ns : List Ref) → Covers outer scope locals → ((n : Ref) → has n ds ≡ true → has n ns ≡ true) → Covers outer (with_names scope ds) (ns ++ locals)
covers_more outer scope locals ds ns c h = record {
  inner = λ n k. has-append n ns locals ∙ or_cases (has n scope) (has n ds) (sym (has-with_names n scope ds) ∙ k) (λ s. or_second (has n ns) (has n locals) (c.inner n s)) (λ d. or_first (has n ns) (has n locals) (h n d));
  base = λ n k. has-append n ns locals ∙ or_second (has n ns) (has n locals) (c.base n k);
}

pub covers_firsts : (outer scope locals ds : List Ref) → Covers outer scope locals → Covers outer (with_names scope ds) (firsts ds ++ locals)
covers_firsts outer scope locals ds c = covers_more outer scope locals ds (firsts ds) c (λ n d. has-firsts n ds ∙ d)

pub covers_nothing : (locals : List Ref) → Covers [] [] locals
covers_nothing locals = record { inner = λ n h. absurd (true≢false (sym h)); base = λ n h. absurd (true≢false (sym h)) }
