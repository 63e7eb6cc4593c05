-- Each step of a search leaves less work.
use Rattle.std.proofs.Common.{◌≡◌, ℕ, ◌+◌, ◌<◌, Bool, true, false, cond, List, [], ◌∷◌, ◌++◌, length, Some, sym, ap, ◌∙◌, subst, arith}
use Rattle.std.specs.Prelude.{not, count_by}
use Rattle.std.specs.List.{sum_by}
use Rattle.std.proofs.lemmas.List.Sums.{sum_by-set, sum_by_push}
use Rattle.sv_graph.specs.Links.{links_of, IsWhole}
use Rattle.sv_graph.specs.declared.marks.Frame.{Frame}
use Rattle.sv_graph.specs.Walk.{link_at, work_of}
use Rattle.sv_graph.specs.Search.{met_at, Meets, search_left}
use Rattle.sv_graph.proofs.Walking.{rest-some}
use Rattle.sv_graph.proofs.Underway.{behind}
use Rattle.sv_graph.proofs.Work.{few-links, less-entered}

module _ (links : List (List ℕ)) where
  pub less-done : (met : List Bool) (xs : List Frame) (f : Frame) → search_left links met xs < search_left links met (xs ++ f ∷ [])
  less-done met xs f = omega (arith, sum_by_push (work_of links) xs f)

  behind-push : (xs : List Frame) (f : Frame) → f.next < length (links_of links f.point) → sum_by (work_of links) (xs ++ behind f ∷ []) + 1 ≡ sum_by (work_of links) (xs ++ f ∷ [])
  behind-push xs f lt = omega (arith, sum_by_push (work_of links) xs f, sum_by_push (work_of links) xs (behind f))

  pub less-met : (met met' : List Bool) (q : ℕ) (xs : List Frame) (f : Frame) (frames' : List Frame) → IsWhole links → length met ≡ length links → link_at links f ≡ Some q
      → (b : Bool) → met_at met q ≡ b → Meets b q met (xs ++ behind f ∷ []) met' frames' → search_left links met' frames' < search_left links met (xs ++ f ∷ [])
  less-met met met' q xs f frames' whole size at true known e =
      let r = rest-some (links_of links f.point) f.next q at in
      subst (λ z. search_left links met' z < search_left links met (xs ++ f ∷ [])) (sym e.1)
      (subst (λ z. search_left links z (xs ++ behind f ∷ []) < search_left links met (xs ++ f ∷ [])) (sym e.0) (omega (arith, behind-push xs f r.2)))
  less-met met met' q xs f frames' whole size at false fresh e =
      let r = rest-some (links_of links f.point) f.next q at in
      let here : q < length links = whole.within f.point q r.1 in
      let within : q < length met = omega arith in
      let g : Frame = record { point = q; next = 0 } in
      let change = sum_by-set (λ x. cond (not x) 1 0) met q true false within in
      let was = ap (λ x. cond {A = ℕ} (not x) 1 0) fresh in
      let count : count_by not met' + 1 ≡ count_by not met = ap (λ z. count_by not z + 1) e.0 ∙ omega (arith, change, was) in
      let less = less-entered (count_by not met) (count_by not met') (sum_by length links + 2) (sum_by (work_of links) (xs ++ behind f ∷ [])) (work_of links g) count (omega (arith, few-links links q here)) in
      subst (λ z. search_left links met' z < search_left links met (xs ++ f ∷ [])) (sym e.1)
      (omega (arith, less, sum_by_push (work_of links) (xs ++ behind f ∷ []) g, behind-push xs f r.2))
