-- Names are among those that are looked at.
use Rattle.std.proofs.Common.{◌≡◌, ℕ, zero, suc, ◌+◌, Bool, true, false, List, [], ◌∷◌, ◌++◌, Some, map, filter, sym, ap, ◌∙◌, arith, slice_get, nat_eq, is_some, true≢false, eq-eqb}
use Rattle.std.specs.Prelude.{if◌then◌else◌, not}
use Rattle.std.specs.List.{list_any}
use Rattle.std.proofs.lemmas.List.Folds.{list_any-append}
use Rattle.std.proofs.lemmas.Option.{same_Some}
use Rattle.sv_ast.specs.declared.names.Ref.{Ref}
use Rattle.sv_base.specs.declared.names.Name.{Name}
use Rattle.sv_deps.specs.Reading.{number_if, numbers_from, numbers}
use Rattle.sv_names.proofs.Same.{same_ref-true, has-head}
use Rattle.sv_names.specs.Distinct.{same_ref, has}
use Rattle.sv_names.specs.Locals.{name_of}
use Rattle.sv_within.proofs.Bools.{or_cases, or_first, or_second}

-- a cell among some names is among their numbers
number_has : (start : ℕ) (cells ns : List Ref) (k m : ℕ) (n : Ref) → m ≡ start + k → slice_get cells k ≡ Some n → has n ns ≡ true → list_any (nat_eq m) (numbers_from start cells ns) ≡ true
number_has start [] ns k m n e at h = absurd (true≢false (ap is_some (sym at)))
number_has start (c ∷ cells) ns zero m n e at h =
    let same : c ≡ n = same_Some c n at in
    let here : has c ns ≡ true = ap (λ z. has z ns) same ∙ h in
    ap (λ b. list_any (nat_eq m) (number_if b start ++ numbers_from (suc start) cells ns)) here ∙ or_first (nat_eq m start) (list_any (nat_eq m) (numbers_from (suc start) cells ns)) (eq-eqb m start (omega (arith, e)))
number_has start (c ∷ cells) ns (suc k) m n e at h =
    list_any-append (nat_eq m) (number_if (has c ns) start) (numbers_from (suc start) cells ns)
    ∙ or_second (list_any (nat_eq m) (number_if (has c ns) start)) (list_any (nat_eq m) (numbers_from (suc start) cells ns)) (number_has (suc start) cells ns k m n (omega (arith, e)) at h)

pub has_kept : (locals names : List Ref) (n : Ref) → has n locals ≡ false → has n names ≡ true → has n (filter (λ m. not (has m locals)) names) ≡ true
has_kept locals [] n o h = h
has_kept locals (m ∷ names) n o h = or_cases (same_ref n m) (has n names) h
    (λ s. let same : n ≡ m = same_ref-true n m s in
    ap (λ b. has n (if not b then m ∷ filter (λ m. not (has m locals)) names else filter (λ m. not (has m locals)) names)) (ap (λ z. has z locals) (sym same) ∙ o)
    ∙ has-head n m (filter (λ m. not (has m locals)) names) same)
    (λ r. over (not (has m locals)) (has_kept locals names n o r))
  where
    over : (b : Bool) → has n (filter (λ m. not (has m locals)) names) ≡ true → has n (if b then m ∷ filter (λ m. not (has m locals)) names else filter (λ m. not (has m locals)) names) ≡ true
    over true k = or_second (same_ref n m) (has n (filter (λ m. not (has m locals)) names)) k
    over false k = k

pub cell_has : (cells locals names : List Ref) (n : Ref) (k : ℕ) → slice_get cells k ≡ Some n → has n names ≡ true → has n locals ≡ false → list_any (nat_eq k) (numbers cells (filter (λ m. not (has m locals)) names)) ≡ true
cell_has cells locals names n k at h o = number_has 0 cells (filter (λ m. not (has m locals)) names) k k n (omega arith) at (has_kept locals names n o h)

abbrev pub tests : Ref → Name → Bool
tests n y = nat_eq (name_of n).0 y.0

-- a name among some is one of what they are called
pub named_has : (names : List Ref) (n : Ref) → has n names ≡ true → list_any (tests n) (map name_of names) ≡ true
named_has [] n h = absurd (true≢false (sym h))
named_has (m ∷ names) n h = or_cases (same_ref n m) (has n names) h
    (λ s. or_first (tests n (name_of m)) (list_any (tests n) (map name_of names)) (eq-eqb (name_of n).0 (name_of m).0 (ap (λ z. (name_of z).0) (same_ref-true n m s))))
    (λ r. or_second (tests n (name_of m)) (list_any (tests n) (map name_of names)) (named_has names n r))

-- a name that is kept is among the names
pub kept_has : (keeps : Ref → Bool) (names : List Ref) (n : Ref) → has n names ≡ true → keeps n ≡ true → list_any (tests n) (map name_of (filter keeps names)) ≡ true
kept_has keeps [] n h l = absurd (true≢false (sym h))
kept_has keeps (m ∷ names) n h l = or_cases (same_ref n m) (has n names) h
    (λ s. let same : n ≡ m = same_ref-true n m s in
    ap (λ b. list_any (tests n) (map name_of (if b then m ∷ filter keeps names else filter keeps names))) (ap keeps (sym same) ∙ l)
    ∙ or_first (tests n (name_of m)) (list_any (tests n) (map name_of (filter keeps names))) (eq-eqb (name_of n).0 (name_of m).0 (ap (λ z. (name_of z).0) same)))
    (λ r. over (keeps m) (kept_has keeps names n r l))
  where
    over : (b : Bool) → list_any (tests n) (map name_of (filter keeps names)) ≡ true → list_any (tests n) (map name_of (if b then m ∷ filter keeps names else filter keeps names)) ≡ true
    over true k = or_second (tests n (name_of m)) (list_any (tests n) (map name_of (filter keeps names))) k
    over false k = k
