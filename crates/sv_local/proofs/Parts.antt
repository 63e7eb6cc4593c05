-- The value of a part on two views.
use Rattle.std.proofs.Common.{◌≡◌, Option, None, Some, slice_get, ℕ, zero, suc, is_some, refl, sym, ap, subst, ◌∙◌, Bool, true, false, not, ◌||◌, List, [], ◌∷◌, nat_eq, option_map, unwrap_or, true≢false, eqb-true}
use Rattle.std.specs.List.{list_any}
use Rattle.sv_base.specs.declared.names.Name.{Name}
use Rattle.sv_code.specs.declared.known.Known.{Known}
use Rattle.sv_code.specs.declared.known.Known.TheVariants as known
use Rattle.sv_code.specs.declared.parts.Part.{Part}
use Rattle.sv_code.specs.declared.parts.Reading.{Reading}
use Rattle.sv_code.specs.declared.program.Program.{Program}
use Rattle.sv_local.proofs.Functions.{caller_same}
use Rattle.sv_code.proofs.Each.{each_mono}
use Rattle.sv_local.proofs.Names.{AreOpen, fits_open, open_shown}
use Rattle.sv_local.proofs.Outcomes.{Same}
use Rattle.sv_local.proofs.Values.{Fine, expr_alike}
use Rattle.sv_local.specs.Looks.{IsAlike, IsCellAlike, AreAlike, AreAlikeAt}
use Rattle.sv_code.specs.Names.{Each, of_code, of_body}
use Rattle.sv_code.specs.Parts.{of_program}
use Rattle.sv_code.specs.Within.{IsLookedAt, IsCellLookedAt, IsWithin, ArePartsWithin, has_cell, has_local}
use Rattle.sv_local.specs.Versions.{AreVersions}
use Rattle.sv_meaning.specs.Env.{Env, shown}
use Rattle.sv_meaning.specs.Functions.{caller, silent}
use Rattle.sv_meaning.specs.Outcome.{Outcome, Done, Failed}
use Rattle.sv_meaning.specs.Moved.{has_moved, moved}
use Rattle.sv_meaning.specs.Parts.{ground, part_world, part_value, result_of}
use Rattle.sv_meaning.specs.Values.{value}
use Rattle.sv_meaning.specs.declared.limits.TheConstants.{CALL_LIMIT}
use Rattle.sv_value.specs.Value.{Val}
use Rattle.sv_view.specs.Level.{View}
use Rattle.sv_view.specs.Local.{local_at}
use Rattle.sv_view.specs.View.{version}
use Rattle.sv_view.specs.declared.view.At.{At}
use Rattle.sv_view.specs.declared.view.At.TheVariants as at

result_same : (E : Env → Env → Type 0) (o o' : Outcome Val) → Same E o o' → result_of o ≡ result_of o'
result_same E (Done a env w) o' h = ap result_of (sym h.2)
result_same E (Failed k s w) o' h = ap result_of (sym h)

fine_open : (v v' : View) (x : Known) → IsAlike v v' x → Fine (AreOpen v v') true v v' x
fine_open v v' (known.Cell n) h = h
fine_open v v' (known.Local x) h = fits_open v v' x h
fine_open v v' (known.Constant n) h = tt
fine_open v v' (known.Export file n) h = tt
fine_open v v' (known.Life l) h = tt
fine_open v v' known.Writable h = tt
fine_open v v' known.Derived h = tt
fine_open v v' (known.BuiltIn b) h = tt

pub by_names : (p : Program) (part : Part) (v v' : View) → AreAlike p part v v' → part_value p v part ≡ part_value p v' part
by_names p part v v' h =
    let c = part.code in
    let arrows = part.arrows in
    let calls' = caller silent (ground p v' arrows) CALL_LIMIT in
    ap (λ call. result_of (value (ground p v arrows) call v.own.inst c (shown v.own.locals) part_world)) (caller_same p arrows v v' h.one.constants h.one.modules h.bodies true CALL_LIMIT)
    ∙ (ap (λ n. result_of (value (ground p v arrows) calls' n c (shown v.own.locals) part_world)) h.one.inst
    ∙ result_same (AreOpen v v') _ _
    ((expr_alike (AreOpen v v') p arrows true v v' h.one.constants h.one.modules calls' v'.own.inst c (each_mono (IsAlike v v') (Fine (AreOpen v v') true v v') (fine_open v v') (of_code p.functions c) h.code)).both
    (shown v.own.locals) (shown v'.own.locals) part_world (open_shown v v')))

-- ---- what is looked at

looked_alike : (looks : Reading) (v v' : View) → AreAlikeAt looks v v' → (x : Known) → IsLookedAt looks x → IsAlike v v' x
looked_alike looks v v' a (known.Cell n) h = a.cells n h
looked_alike looks v v' a (known.Local x) h = a.locals x h
looked_alike looks v v' a (known.Constant n) h = tt
looked_alike looks v v' a (known.Export file n) h = tt
looked_alike looks v v' a (known.Life l) h = tt
looked_alike looks v v' a known.Writable h = tt
looked_alike looks v v' a known.Derived h = tt
looked_alike looks v v' a (known.BuiltIn b) h = tt

cell_alike : (looks : Reading) (v v' : View) → AreAlikeAt looks v v' → (x : Known) → IsCellLookedAt looks x → IsCellAlike v v' x
cell_alike looks v v' a (known.Cell n) h = a.cells n h
cell_alike looks v v' a (known.Local x) h = tt
cell_alike looks v v' a (known.Constant n) h = tt
cell_alike looks v v' a (known.Export file n) h = tt
cell_alike looks v v' a (known.Life l) h = tt
cell_alike looks v v' a known.Writable h = tt
cell_alike looks v v' a known.Derived h = tt
cell_alike looks v v' a (known.BuiltIn b) h = tt

pub by_looks : (p : Program) (part : Part) (v v' : View) → IsWithin p part → AreAlikeAt part.reads v v' → part_value p v part ≡ part_value p v' part
by_looks p part v v' within a =
    by_names p part v v' (record {
      one = a.one;
      code = each_mono (IsLookedAt part.reads) (IsAlike v v') (looked_alike part.reads v v' a) (of_code p.functions part.code) within.code;
      bodies = λ n f own is. each_mono (IsCellLookedAt part.reads) (IsCellAlike v v') (cell_alike part.reads v v' a) (of_body p.functions f.body) (within.bodies n f own is);
    })

-- ---- versions

or_first : (a b : Bool) → (a || b) ≡ false → a ≡ false
or_first true b h = absurd (true≢false h)
or_first false b h = refl

or_second : (a b : Bool) → (a || b) ≡ false → b ≡ false
or_second true b h = absurd (true≢false h)
or_second false b h = h

not_moved : (b : Bool) → not b ≡ false → b ≡ true
not_moved true h = refl
not_moved false h = absurd (true≢false h)

still_at : (v v' : View) (place : At) → has_moved v v' place ≡ false → version v place ≡ version v' place
still_at v v' place h = eqb-true (version v place) (version v' place) (not_moved (nat_eq (version v place) (version v' place)) h)

or_true : {G : Type 0} (a b : Bool) → (a || b) ≡ true → (a ≡ true → G) → (b ≡ true → G) → G
or_true true b k f g = f refl
or_true false b k f g = g k

-- of some things of which none moved and one is the same, the one that is the same hasn't moved
among_still : {A G : Type 0} (moves is_it : A → Bool) (xs : List A) → list_any moves xs ≡ false → list_any is_it xs ≡ true → ((x : A) → is_it x ≡ true → moves x ≡ false → G) → G
among_still moves is_it [] h k f = absurd (true≢false (sym k))
among_still moves is_it (x ∷ xs) h k f =
    or_true (is_it x) (list_any is_it xs) k (λ e. f x e (or_first (moves x) (list_any moves xs) h)) (λ r. among_still moves is_it xs (or_second (moves x) (list_any moves xs) h) r f)

pub still_cells : (looks : Reading) (v v' : View) (n : ℕ) → moved looks v v' ≡ false → has_cell looks n ≡ true → version v (at.Cell n) ≡ version v' (at.Cell n)
still_cells looks v v' n h k =
    among_still (λ m. has_moved v v' (at.Cell m)) (nat_eq n) looks.cells (or_first _ (list_any (λ x. has_moved v v' (at.Local x)) looks.locals) h) k
    (λ m e q. subst (λ z. version v (at.Cell z) ≡ version v' (at.Cell z)) (sym (eqb-true n m e)) (still_at v v' (at.Cell m) q))

pub still_locals : (looks : Reading) (v v' : View) (x : Name) → moved looks v v' ≡ false → has_local looks x ≡ true → version v (at.Local x) ≡ version v' (at.Local x)
still_locals looks v v' x h k =
    among_still (λ y. has_moved v v' (at.Local y)) (λ y. nat_eq x.0 y.0) looks.locals (or_second (list_any (λ m. has_moved v v' (at.Cell m)) looks.cells) _ h) k
    (λ y e q. subst (λ z. unwrap_or (option_map (λ l. l.number) (local_at v.own.locals z)) 0 ≡ unwrap_or (option_map (λ l. l.number) (local_at v'.own.locals z)) 0) (sym (eqb-true x.0 y.0 e)) (still_at v v' (at.Local y) q))

pub by_versions : (p : Program) (part : Part) (v v' : View) → IsWithin p part → AreVersions v v' → moved part.reads v v' ≡ false → part_value p v part ≡ part_value p v' part
by_versions p part v v' within a still =
    by_looks p part v v' within (record {
      one = a.one;
      cells = λ n h. a.cells n (still_cells part.reads v v' n still h);
      locals = λ x h. a.locals x (still_locals part.reads v v' x still h);
    })

-- ---- programs

abbrev unwrap_to : {A : Type 0} → A → Option A → A
unwrap_to y None = y
unwrap_to y (Some x) = x

each_at : {A : Type 0} (Q : A → Type 0) (xs : List A) (i : ℕ) (x : A) → Each Q xs → slice_get xs i ≡ Some x → Q x
each_at Q [] i x h e = absurd (true≢false (ap is_some (sym e)))
each_at Q (y ∷ xs) zero x h e = subst Q (ap (unwrap_to y) e) h.0
each_at Q (y ∷ xs) (suc i) x h e = each_at Q xs i x h.1 e

pub by_program : (p : Program) (i : ℕ) (part : Part) (v v' : View) → ArePartsWithin p → slice_get (of_program p) i ≡ Some part → AreVersions v v' → moved part.reads v v' ≡ false → part_value p v part ≡ part_value p v' part
by_program p i part v v' within at a still = by_versions p part v v' (each_at (IsWithin p) (of_program p) i part within at) a still
