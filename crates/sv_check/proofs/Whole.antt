-- The mistakes of a file, list by list.
use Rattle.std.proofs.Common.{◌≡◌, ℕ, List, [], ◌∷◌, ◌++◌, Option, None, Some, fold, length, refl, sym, ap, ◌∙◌, subst, arith, length-append}
use Rattle.std.specs.Prelude.{slice_get, option_map, Result, Ok, Err, OnOk}
use Rattle.std.proofs.lemmas.List.Sums.{fold-append}
use Rattle.std.proofs.lemmas.Option.{slice_get-map}
use Rattle.sv_ast.specs.declared.files.Bundle.{Bundle}
use Rattle.sv_ast.specs.declared.files.SourceFile.{SourceFile}
use Rattle.sv_base.specs.declared.span.Span.{Span}
use Rattle.sv_resolve.specs.declared.refusals.CheckKind.{CheckKind}
use Rattle.sv_resolve.specs.declared.refusals.CheckRefusal.{CheckRefusal}
use Rattle.sv_resolve.specs.Earliest.{earlier, IsFirst}
use Rattle.sv_resolve.specs.Mistakes.{refused}
use Rattle.sv_resolve.proofs.Offers.{IsFirst-fold}
use Rattle.sv_slots.specs.Sheets.{sheet, sheets}
use Rattle.sv_check.specs.First.{joined}
use Rattle.sv_check.proofs.Joined.{joined_first}

more : (first after : Option CheckRefusal) (done rest : List CheckRefusal) → after ≡ fold earlier first rest → IsFirst first done → IsFirst after (done ++ rest)
more first after done rest is was = subst (λ x. IsFirst x (done ++ rest)) (sym is) (IsFirst-fold first done rest was)

-- the first mistake of eight lists, of which the third has its first found apart
pub whole_first : (a b c d e f g h : List CheckRefusal) (own f1 f2 f3 f4 f5 f6 f7 f8 : Option CheckRefusal) → f1 ≡ fold earlier None a → f2 ≡ fold earlier f1 b → IsFirst own c → f3 ≡ joined f2 own
    → f4 ≡ fold earlier f3 d → f5 ≡ fold earlier f4 e → f6 ≡ fold earlier f5 f → f7 ≡ fold earlier f6 g → f8 ≡ fold earlier f7 h
    → IsFirst f8 (a ++ b ++ c ++ d ++ e ++ f ++ g ++ h)
whole_first a b c d e f g h own f1 f2 f3 f4 f5 f6 f7 f8 e1 e2 is e3 e4 e5 e6 e7 e8 =
    let i1 = more None f1 [] a e1 refl in
    let i2 = more f1 f2 a b e2 i1 in
    let i3 : IsFirst f3 (a ++ b ++ c) = subst (λ x. IsFirst x (a ++ b ++ c)) (sym e3) (joined_first f2 own (a ++ b) c i2 is) in
    let i4 = more f3 f4 (a ++ b ++ c) d e4 i3 in
    let i5 = more f4 f5 (a ++ b ++ c ++ d) e e5 i4 in
    let i6 = more f5 f6 (a ++ b ++ c ++ d ++ e) f e6 i5 in
    let i7 = more f6 f7 (a ++ b ++ c ++ d ++ e ++ f) g e7 i6 in
    more f7 f8 (a ++ b ++ c ++ d ++ e ++ f ++ g) h e8 i7

-- the mistakes of three lists that are offered in turn
pub three_offered : (a b c : List CheckRefusal) (f0 f1 f2 f3 : Option CheckRefusal) → f1 ≡ fold earlier f0 a → f2 ≡ fold earlier f1 b → f3 ≡ fold earlier f2 c → f3 ≡ fold earlier f0 (a ++ b ++ c)
three_offered a b c f0 f1 f2 f3 e1 e2 e3 =
    e3 ∙ ap (λ f. fold earlier f c) (e2 ∙ ap (λ f. fold earlier f b) e1 ∙ sym (fold-append earlier f0 a b)) ∙ sym (fold-append earlier f0 (a ++ b) c)

-- where there is no mistake, nothing waits
pub none_wait : (kind : CheckKind) (front : List CheckRefusal) (places : List Span) → front ++ refused kind places ≡ [] → places ≡ []
none_wait kind front [] e = refl
none_wait kind front (place ∷ places) e =
    let long = length-append front (refused kind (place ∷ places)) in
    let none = ap length e in
    absurd (omega arith)

-- where there is nothing, nothing stands in front
pub none_before : (front back : List CheckRefusal) → front ++ back ≡ [] → front ≡ []
none_before [] back e = refl
none_before (x ∷ front) back e = let none = ap length e in absurd (omega arith)

-- what is known of a file stands among what is known of all
pub sheet_there : (bundle : Bundle) (n : ℕ) (source : SourceFile) → slice_get bundle.files n ≡ Some source → slice_get (sheets bundle) n ≡ Some (sheet bundle.names bundle.files source)
sheet_there bundle n source there = slice_get-map (sheet bundle.names bundle.files) bundle.files n ∙ ap (option_map (sheet bundle.names bundle.files)) there

pub none_first : (first : Option CheckRefusal) (list : List CheckRefusal) → first ≡ None → IsFirst first list → list ≡ []
none_first first list e is = subst (λ f. IsFirst f list) e is

-- what a success says, said otherwise
pub on_ok : {E : Type 0} (result : Result (Unit {0}) E) {P Q : Type 0} → (P → Q) → OnOk result P → OnOk result Q
on_ok (Ok _) f p = f p
on_ok (Err _) f p = tt
