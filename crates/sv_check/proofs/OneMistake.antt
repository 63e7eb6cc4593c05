-- A program is refused for one mistake alone, and only where it isn't clean.
use Rattle.std.proofs.Common.{◌≡◌, ℕ, ◌<◌, List, [], ◌∷◌, ◌++◌, length, sym, ap, ◌∙◌, inl, inr, arith, subst}
use Rattle.std.specs.Prelude.{unwrap_or}
use Rattle.std.proofs.lemmas.Bool.{cases_lt}
use Rattle.std.proofs.lemmas.Option.{slice_get_within}
use Rattle.sv_ast.specs.declared.files.Bundle.{Bundle}
use Rattle.sv_ast.specs.declared.names.Ref.{Ref}
use Rattle.sv_base.specs.declared.span.Span.{Span}
use Rattle.sv_ast.specs.Files.{statements_of}
use Rattle.sv_resolve.specs.declared.refusals.CheckRefusal.{CheckRefusal}
use Rattle.sv_resolve.specs.Earliest.{IsEarliest}
use Rattle.sv_check.specs.Checked.{in_file, IsMistakeOf, IsOneMistake, IsMistakeOrClean}
use Rattle.sv_check.specs.Files.{cells_of}
use Rattle.sv_check.specs.Mistakes.{AreMistakes, file_mistakes}
use Rattle.sv_check.specs.Waiting.{AreWaiting}
use Rattle.sv_check.proofs.Unique.{earliest_same, waiting_same, cycles_same, pure_same}

-- a file has one list of mistakes
mistakes_same : (bundle : Bundle) (cycles : List (List Span)) (pure : List (List Ref)) (n : ℕ) (a b : List CheckRefusal) → AreMistakes bundle cycles pure n a
    → AreMistakes bundle cycles pure n b → a ≡ b
mistakes_same bundle cycles pure n a b p q =
    let file : q.source ≡ p.source = ap (λ o. unwrap_or o p.source) (sym q.there ∙ p.there) in
    let waits : q.waiting ≡ p.waiting = waiting_same (cells_of p.source.tree) (statements_of p.source.tree) q.waiting p.waiting (subst (λ s. AreWaiting (cells_of s.tree) (statements_of s.tree) q.waiting) file q.are_waiting) p.are_waiting in
    p.is ∙ sym (q.is ∙ ap (λ s. file_mistakes bundle cycles pure n s q.waiting) file ∙ ap (λ w. file_mistakes bundle cycles pure n p.source w) waits)

none_earliest : (first : CheckRefusal) (list : List CheckRefusal) → list ≡ [] → IsEarliest first list → ⊥
none_earliest first list e is = cons_not_nil is.front first is.back (sym is.stands ∙ e)
  where
    cons_not_nil : (front : List CheckRefusal) (x : CheckRefusal) (back : List CheckRefusal) → front ++ x ∷ back ≡ [] → ⊥
    cons_not_nil [] x back e = zero_not (ap length e)
      where
        zero_not : length (x ∷ back) ≡ 0 → ⊥
        zero_not h = omega arith
    cons_not_nil (y ∷ front) x back e = zero_not (ap length e)
      where
        zero_not : length (y ∷ (front ++ x ∷ back)) ≡ 0 → ⊥
        zero_not h = omega arith

-- a file with a first mistake isn't clean
not_clean : (bundle : Bundle) (cycles : List (List Span)) (pure : List (List Ref)) (n : ℕ) (a : CheckRefusal) → IsMistakeOf bundle cycles pure n a
    → AreMistakes bundle cycles pure n [] → ⊥
not_clean bundle cycles pure n a is clean = none_earliest is.first is.mistakes (mistakes_same bundle cycles pure n is.mistakes [] is.are_mistakes clean) is.earliest

of_same : (bundle : Bundle) (cycles : List (List Span)) (pure : List (List Ref)) (n : ℕ) (a b : CheckRefusal) → IsMistakeOf bundle cycles pure n a
    → IsMistakeOf bundle cycles pure n b → a ≡ b
of_same bundle cycles pure n a b p q =
    let same = mistakes_same bundle cycles pure n p.mistakes q.mistakes p.are_mistakes q.are_mistakes in
    let first = earliest_same q.mistakes p.first q.first (subst (IsEarliest p.first) same p.earliest) q.earliest in
    p.told ∙ ap (in_file n) first ∙ sym q.told

pub one_mistake : IsOneMistake
one_mistake bundle a b p q =
    let cycles = cycles_same bundle.files q.cycles p.cycles q.are_cycles p.are_cycles in
    let pure = pure_same bundle q.pure p.pure q.are_pure p.are_pure in
    let clean_before : (n : ℕ) → n < q.file → AreMistakes bundle p.cycles p.pure n [] = λ n h.
    subst (λ c. AreMistakes bundle c p.pure n []) cycles (subst (λ f. AreMistakes bundle q.cycles f n []) pure (q.clean_before n h)) in
    let is_first : IsMistakeOf bundle p.cycles p.pure q.file b =
    subst (λ c. IsMistakeOf bundle c p.pure q.file b) cycles (subst (λ f. IsMistakeOf bundle q.cycles f q.file b) pure q.is_first) in
    elim (cases_lt p.file q.file) [
      | inl sooner ↦ absurd (not_clean bundle p.cycles p.pure p.file a p.is_first (clean_before p.file sooner))
      | inr no_sooner ↦ elim (cases_lt q.file p.file) [
        | inl later ↦ absurd (not_clean bundle p.cycles p.pure q.file b is_first (p.clean_before q.file later))
        | inr no_later ↦
            let same : q.file ≡ p.file = omega arith in
            of_same bundle p.cycles p.pure p.file a b p.is_first (subst (λ n. IsMistakeOf bundle p.cycles p.pure n b) same is_first)
      ]
    ]

pub mistake_or_clean : IsMistakeOrClean
mistake_or_clean bundle a p q =
    let cycles = cycles_same bundle.files p.cycles q.cycles p.are_cycles q.are_cycles in
    let pure = pure_same bundle p.pure q.pure p.are_pure q.are_pure in
    let within : q.file < length bundle.files = slice_get_within bundle.files q.file q.is_first.are_mistakes.source q.is_first.are_mistakes.there in
    let clean : AreMistakes bundle q.cycles q.pure q.file [] =
    subst (λ c. AreMistakes bundle c q.pure q.file []) cycles (subst (λ f. AreMistakes bundle p.cycles f q.file []) pure (p.clean q.file within)) in
    not_clean bundle q.cycles q.pure q.file a q.is_first clean
