-- The first of what is offered.
use Rattle.std.proofs.Common.{◌≡◌, ◌<◌, ◌≤◌, cond, List, [], ◌∷◌, ◌++◌, Option, None, Some, All, fold, refl, sym, ap, ◌∙◌, inl, inr, subst, arith, append_assoc}
use Rattle.std.specs.List.{flat_map}
use Rattle.std.proofs.lemmas.Bool.{cases_lt, lt-ltb, le-ltb}
use Rattle.std.proofs.lemmas.Grind.{flat_map-append}
use Rattle.std.proofs.lemmas.List.{append-nil, map-append}
use Rattle.std.proofs.lemmas.List.Elements.{All-nil, All-cons, All-append, All-push, All-weaker}
use Rattle.std.proofs.lemmas.List.Sums.{fold-append}
use Rattle.sv_base.specs.Names.{Table}
use Rattle.sv_resolve.specs.declared.refusals.CheckKind.{CheckKind}
use Rattle.sv_resolve.specs.declared.refusals.CheckKind.TheVariants.{DeclaredTwice, UnknownName, AssignConst, CapturedAssign}
use Rattle.sv_resolve.specs.declared.refusals.CheckRefusal.{CheckRefusal}
use Rattle.sv_scopes.specs.declared.scope.FileScopes.{FileScopes}
use Rattle.sv_scopes.specs.declared.scope.Scope.{Scope}
use Rattle.sv_base.specs.declared.span.Span.{Span}
use Rattle.sv_resolve.specs.Earliest.{earlier, IsFirst}
use Rattle.sv_resolve.specs.Mistakes.{refused, all_scopes, declared_twice, unknown_names, constant_assigns, captured_assigns, mistakes}

abbrev IsBefore : CheckRefusal → CheckRefusal → Type 0
IsBefore a b = a.at.from < b.at.from

abbrev IsNoLater : CheckRefusal → CheckRefusal → Type 0
IsNoLater a b = a.at.from ≤ b.at.from

-- one more mistake
step : (first : Option CheckRefusal) (next : CheckRefusal) (done : List CheckRefusal) → IsFirst first done → IsFirst (earlier first next) (done ++ next ∷ [])
step None next done none_is = record {
  front = [];
  back = [];
  stands = ap (λ z. z ++ next ∷ []) none_is;
  before = All-nil (IsBefore next);
  behind = All-nil (IsNoLater next);
}
step (Some first) next done is = elim (cases_lt next.at.from first.at.from) [
  | inl sooner ↦ subst (λ b. IsFirst (cond b (Some next) (Some first)) (done ++ next ∷ [])) (sym (lt-ltb next.at.from first.at.from sooner)) (record {
    front = done;
    back = [];
    stands = refl;
    before = subst (All (IsBefore next)) (sym is.stands) (All-append (IsBefore next) is.front (first ∷ is.back)
        (All-weaker (IsBefore first) (IsBefore next) (λ other h. omega arith) is.front is.before)
        (All-cons (IsBefore next) first is.back sooner (All-weaker (IsNoLater first) (IsBefore next) (λ other h. omega arith) is.back is.behind)));
    behind = All-nil (IsNoLater next);
  })
  | inr later ↦ subst (λ b. IsFirst (cond b (Some next) (Some first)) (done ++ next ∷ [])) (sym (le-ltb next.at.from first.at.from later)) (record {
    front = is.front;
    back = is.back ++ next ∷ [];
    stands = ap (λ z. z ++ next ∷ []) is.stands ∙ append_assoc is.front (first ∷ is.back) (next ∷ []);
    before = is.before;
    behind = All-push (IsNoLater first) is.back next is.behind later;
  })
]

-- more mistakes behind those of which one is the first
pub IsFirst-fold : (first : Option CheckRefusal) (done rest : List CheckRefusal) → IsFirst first done → IsFirst (fold earlier first rest) (done ++ rest)
IsFirst-fold first done [] is = subst (IsFirst first) (sym (append-nil done)) is
IsFirst-fold first done (next ∷ rest) is = subst (IsFirst (fold earlier (earlier first next) rest)) (append_assoc done (next ∷ []) rest) (IsFirst-fold (earlier first next) (done ++ next ∷ []) rest (step first next done is))

-- what is left of all that was offered is the first
pub first_is : (list : List CheckRefusal) → IsFirst (fold earlier None list) list
first_is list = IsFirst-fold None [] list refl

-- ---- all scopes of a file

-- what the inner scopes offer, and then the top level, is what all of them offer
of_all : (kind : CheckKind) (f : Scope → List Span) (first : Option CheckRefusal) (file : FileScopes) → fold earlier (fold earlier first (refused kind (flat_map f file.inside))) (refused kind (f file.top)) ≡ fold earlier first (refused kind (flat_map f (all_scopes file)))
of_all kind f first file =
    let of = λ (z : List Span). refused kind z in
    sym (fold-append earlier first (of (flat_map f file.inside)) (of (f file.top)))
    ∙ ap (fold earlier first) (sym (map-append _ (flat_map f file.inside) (f file.top))
    ∙ ap of (ap (λ z. flat_map f file.inside ++ z) (sym (append-nil (f file.top))) ∙ sym (flat_map-append f file.inside (file.top ∷ []))))

pub all_offered : (texts : Table) (file : FileScopes) (f1 f2 f3 f4 f5 f6 : Option CheckRefusal) → f1 ≡ fold earlier None (refused DeclaredTwice (flat_map (declared_twice texts) file.inside))
    → f2 ≡ fold earlier f1 (refused DeclaredTwice (declared_twice texts file.top)) → f3 ≡ fold earlier f2 (refused UnknownName (unknown_names texts file.top))
    → f4 ≡ fold earlier f3 (refused AssignConst (flat_map constant_assigns file.inside)) → f5 ≡ fold earlier f4 (refused AssignConst (constant_assigns file.top))
    → f6 ≡ fold earlier f5 (refused CapturedAssign (flat_map captured_assigns file.inside)) → IsFirst f6 (mistakes texts file)
all_offered texts file f1 f2 f3 f4 f5 f6 e1 e2 e3 e4 e5 e6 =
    let twice = refused DeclaredTwice (flat_map (declared_twice texts) (all_scopes file)) in
    let unknown = refused UnknownName (unknown_names texts file.top) in
    let constant = refused AssignConst (flat_map constant_assigns (all_scopes file)) in
    let taken = refused CapturedAssign (flat_map captured_assigns file.inside) in
    let g2 : f2 ≡ fold earlier None twice = e2 ∙ ap (λ z. fold earlier z (refused DeclaredTwice (declared_twice texts file.top))) e1 ∙ of_all DeclaredTwice (declared_twice texts) None file in
    let g3 : f3 ≡ fold earlier None (twice ++ unknown) = e3 ∙ ap (λ z. fold earlier z unknown) g2 ∙ sym (fold-append earlier None twice unknown) in
    let g5 : f5 ≡ fold earlier None ((twice ++ unknown) ++ constant) =
    e5 ∙ ap (λ z. fold earlier z (refused AssignConst (constant_assigns file.top))) e4 ∙ of_all AssignConst constant_assigns f3 file
    ∙ ap (λ z. fold earlier z constant) g3 ∙ sym (fold-append earlier None (twice ++ unknown) constant) in
    let g6 : f6 ≡ fold earlier None (mistakes texts file) = e6 ∙ ap (λ z. fold earlier z taken) g5 ∙ sym (fold-append earlier None ((twice ++ unknown) ++ constant) taken) in
    subst (λ z. IsFirst z (mistakes texts file)) (sym g6) (first_is (mistakes texts file))
