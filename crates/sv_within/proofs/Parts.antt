-- The part of an expression reads nothing but what its names look at.
use Rattle.std.proofs.Common.{◌≡◌, ℕ, zero, suc, ◌<◌, ◌≤◌, Bool, true, false, List, [], ◌∷◌, ◌++◌, Option, None, Some, length, map, refl, sym, ap, subst, ◌∙◌, arith, slice_get, nat_le, nat_lt, is_some, leb-true, ltb-true, true≢false}
use Rattle.std.specs.Prelude.{if◌then◌else◌, not}
use Rattle.std.proofs.lemmas.Option.{same_Some}
use Rattle.sv_ast.specs.declared.names.Ref.{Ref}
use Rattle.sv_ast.specs.declared.script_tree.Expr.{Expr}
use Rattle.sv_code.specs.declared.functions.Function.{Function}
use Rattle.sv_code.specs.declared.known.Known.{Known}
use Rattle.sv_code.specs.declared.known.Known.TheVariants as known
use Rattle.sv_code.specs.declared.parts.Reading.{Reading}
use Rattle.sv_code.specs.Names.{Each, of_code}
use Rattle.sv_code.specs.Within.{IsLookedAt, IsCellLookedAt}
use Rattle.sv_deps.specs.Reading.{counts_as_local, reading}
use Rattle.sv_fragments.specs.Expressions.{part_of}
use Rattle.sv_lower.specs.Lower.{of_expr}
use Rattle.sv_lower.specs.Tops.{Tops, known_in, known_or, known_at}
use Rattle.sv_names.proofs.Same.{has-head, has-firsts}
use Rattle.sv_names.specs.Distinct.{same_ref, has}
use Rattle.sv_names.specs.Locals.{name_of}
use Rattle.sv_names.specs.Uses.{expr_uses}
use Rattle.sv_names.specs.declared.uses.Use.{Use}
use Rattle.sv_within.proofs.Bools.{or_first, or_second, and_first, and_second}
use Rattle.sv_within.proofs.Looking.{cell_has, kept_has}
use Rattle.sv_within.proofs.Making.{BodyIs, Kept}
use Rattle.sv_within.proofs.Reading.{expr_claim}
use Rattle.sv_within.proofs.Whole.{Stands, expr_whole_claim}
use Rattle.sv_within.specs.Staying.{IsTopOf, HasFree, ArePartsMadeWithin}

-- ---- functions between two numbers

among_added : (P : Function → Type 0) (added more : List Function) (n : ℕ) (f : Function) → n < length added → slice_get (added ++ more) n ≡ Some f → Each P added → P f
among_added P [] more n f l at h = absurd (omega (arith, l))
among_added P (x ∷ added) more zero f l at h = subst P (same_Some x f at) h.0
among_added P (x ∷ added) more (suc n) f l at h = among_added P added more n f (omega (arith, l)) at h.1

among_behind : (P : Function → Type 0) (before added more : List Function) (n : ℕ) (f : Function) → length before ≤ n → n < length (before ++ added) → slice_get ((before ++ added) ++ more) n ≡ Some f → Each P added → P f
among_behind P [] added more n f le lt at h = among_added P added more n f lt at h
among_behind P (b ∷ before) added more zero f le lt at h = absurd (omega (arith, le))
among_behind P (b ∷ before) added more (suc n) f le lt at h = among_behind P before added more n f (omega (arith, le)) (omega (arith, lt)) at h

-- ---- names

each_free : (us : List Use) (P : Ref → Type 0) → ((n : Ref) → has n (map (λ u. u.name) us) ≡ true → P n) → Each (λ u. P u.name) us
each_free [] P f = tt
each_free (u ∷ us) P f = (f u.name (has-head u.name u.name (map (λ u. u.name) us) refl), each_free us P (λ n h. f n (or_second (same_ref n u.name) (has n (map (λ u. u.name) us)) h)))

module _ (tops : Tops) (cells locals names : List Ref) (top : IsTopOf tops cells) where
  abbrev looks : Reading
  looks = reading tops cells locals names

  -- a name that isn't declared round the place
  cell_fine : (o : Option Known) (n : Ref) → known_in tops.known n ≡ o → has n names ≡ true → has n locals ≡ false → IsCellLookedAt looks (known_or o n)
  cell_fine None n e r l = tt
  cell_fine (Some (known.Cell k)) n e r l = cell_has cells locals names n k (top.cell n k e) r l
  cell_fine (Some (known.Local x)) n e r l = tt
  cell_fine (Some (known.Constant k)) n e r l = tt
  cell_fine (Some (known.Export file k)) n e r l = tt
  cell_fine (Some (known.Life x)) n e r l = tt
  cell_fine (Some known.Writable) n e r l = tt
  cell_fine (Some known.Derived) n e r l = tt
  cell_fine (Some (known.BuiltIn b)) n e r l = tt

  name_fine : (o : Option Known) (n : Ref) → known_in tops.known n ≡ o → has n names ≡ true → has n locals ≡ false → IsLookedAt looks (known_or o n)
  name_fine None n e r l = kept_has (counts_as_local tops locals) names n r (or_second (has n locals) (not (is_some (known_in tops.known n))) (ap (λ z. not (is_some z)) e))
  name_fine (Some (known.Cell k)) n e r l = cell_has cells locals names n k (top.cell n k e) r l
  name_fine (Some (known.Local x)) n e r l = absurd (top.no_local n x e)
  name_fine (Some (known.Constant k)) n e r l = tt
  name_fine (Some (known.Export file k)) n e r l = tt
  name_fine (Some (known.Life x)) n e r l = tt
  name_fine (Some known.Writable) n e r l = tt
  name_fine (Some known.Derived) n e r l = tt
  name_fine (Some (known.BuiltIn b)) n e r l = tt

  -- one that is
  local_fine : (n : Ref) → has n names ≡ true → has n locals ≡ true → IsLookedAt looks (known.Local (name_of n))
  local_fine n r l = kept_has (counts_as_local tops locals) names n r (or_first (has n locals) (not (is_some (known_in tops.known n))) l)

  at_fine : (n : Ref) → has n names ≡ true → IsLookedAt looks (known_at tops locals n)
  at_fine n r = by (has n locals) refl
    where
      by : (b : Bool) → has n locals ≡ b → IsLookedAt looks (if b then known.Local (name_of n) else known_or (known_in tops.known n) n)
      by true l = local_fine n r l
      by false l = name_fine (known_in tops.known n) n refl r l

  -- ---- the code of an expression

  uses_fine : (e : Expr) → HasFree names e → Each (λ u. has u.name names ≡ true) (expr_uses e [])
  uses_fine e free = each_free (expr_uses e []) (λ n. has n names ≡ true) (λ n k. free n (has-firsts n (map (λ u. u.name) (expr_uses e [])) ∙ k))

  pub outside : (e : Expr) (before : List Function) → HasFree names e → Stands (IsLookedAt looks) of_code before (of_expr e tops locals before)
  outside e before free = expr_whole_claim (IsLookedAt looks) tops (λ n. has n names ≡ true) locals at_fine local_fine e (uses_fine e free) before

  inside : (e : Expr) (before : List Function) → HasFree names e → Kept (IsCellLookedAt looks) of_code before (of_expr e tops locals before)
  inside e before free =
      expr_claim (IsCellLookedAt looks) tops (λ n. has n names ≡ true) locals (λ x. tt) (λ n r l. cell_fine (known_in tops.known n) n refl r l) e locals []
      (record { inner = λ n k. absurd (true≢false (sym k)); base = λ n k. k }) (uses_fine e free) before

pub parts_made_within : ArePartsMadeWithin
unfolding part_of
parts_made_within around locals names e before top free p more is =
    let made = of_expr e around.tops locals before.functions in
    let looks = reading around.tops around.cells locals names in
    let whole = outside around.tops around.cells locals names top e before.functions free in
    let own = inside around.tops around.cells locals names top e before.functions free in
    record {
      code = subst (λ fs. Each (IsLookedAt looks) (of_code fs made.0)) (sym is) (whole.code more);
      bodies = λ n f among at.
          let low = and_first (nat_le (length before.functions) n) (nat_lt n (length made.1)) among in
          let high = and_second (nat_le (length before.functions) n) (nat_lt n (length made.1)) among in
          among_behind (BodyIs (IsCellLookedAt looks)) before.functions own.added more n f (leb-true (length before.functions) n low) (subst (λ z. n < length z) own.is (ltb-true n (length made.1) high))
          (ap (λ z. slice_get (z ++ more) n) (sym own.is) ∙ (ap (λ z. slice_get z n) (sym is) ∙ at)) own.bodies p.functions;
    }
