-- Reports that were printed one after another.
use Rattle.std.proofs.Common.{◌≡◌, ◌<◌, ◌≤◌, ◌+◌, ℕ, suc, List, [], ◌∷◌, ◌++◌, length, map, get_or, drop, refl, ap, sym, ◌∙◌, append_assoc, append-nil, add-one}
use Rattle.std.proofs.lemmas.List.{at_drop_more, at_drop_all}
use Rattle.sv_audience.specs.Reports.{report_at, reports_from}
use Rattle.sv_watch.specs.Ear.{Ear}

-- what is printed of the watchers from a place on stands behind what was printed
pub record Listed {B : Type 0} (ear : B → Ear) (all : List B) (index : ℕ) (was now : List ℕ) : Type 0 where
  pub whole : now ++ reports_from (suc index) (map ear (drop index all)) ≡ was ++ reports_from 1 (map ear all)

pub listed-none : {B : Type 0} (ear : B → Ear) (all : List B) (was : List ℕ) → Listed ear all 0 was was
listed-none ear all was = record { whole = refl }

pub listed-more : {B : Type 0} (ear : B → Ear) (all : List B) (i number : ℕ) (b : B) (was now next : List ℕ) → Listed ear all i was now → i < length all → b ≡ get_or all i b → number ≡ i + 1
    → next ≡ now ++ report_at number (ear b) → Listed ear all (i + 1) was next
listed-more ear all i number b was now next listed below at count printed =
    let rest : List ℕ = reports_from (suc (i + 1)) (map ear (drop (i + 1) all)) in
    let here : number ≡ suc i = count ∙ add-one i in
    let numbered : suc (i + 1) ≡ suc (suc i) = ap suc (add-one i) in
    record {
      whole = ap (λ t. t ++ rest) printed
          ∙ (append_assoc now (report_at number (ear b)) rest
          ∙ (ap (λ n. now ++ (report_at n (ear b) ++ rest)) here
          ∙ (ap (λ n. now ++ (report_at (suc i) (ear b) ++ reports_from n (map ear (drop (i + 1) all)))) numbered
          ∙ (ap (λ x. now ++ (report_at (suc i) (ear x) ++ reports_from (suc (suc i)) (map ear (drop (i + 1) all)))) at
          ∙ (sym (at_drop_more (λ l. now ++ reports_from (suc i) (map ear l)) all i b below) ∙ listed.whole)))));
    }

pub listed-all : {B : Type 0} (ear : B → Ear) (all : List B) (i : ℕ) (was now : List ℕ) → Listed ear all i was now → length all ≤ i → now ≡ was ++ reports_from 1 (map ear all)
listed-all ear all i was now listed past = sym (append-nil now) ∙ (sym (at_drop_all (λ l. now ++ reports_from (suc i) (map ear l)) all i past) ∙ listed.whole)

-- three pieces, one behind another
pub three : (text line report first second last : List ℕ) → first ≡ text ++ line → second ≡ first ++ report → last ≡ second ++ 10 ∷ [] → last ≡ text ++ (line ++ (report ++ 10 ∷ []))
three text line report first second last a b c =
    c ∙ (ap (λ t. t ++ 10 ∷ []) (b ∙ ap (λ t. t ++ report) a) ∙ (append_assoc (text ++ line) report (10 ∷ []) ∙ append_assoc text line (report ++ 10 ∷ [])))
