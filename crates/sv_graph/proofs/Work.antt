-- Each step of a walk leaves less work.
use Rattle.std.proofs.Common.{◌≡◌, ℕ, ◌+◌, ◌*◌, ◌<◌, ◌≤◌, false, cond, List, [], ◌∷◌, length, set, reverse, Some, refl, sym, ap, ◌∙◌, subst, arith}
use Rattle.std.specs.Prelude.{count_by}
use Rattle.std.specs.List.{sum_by}
use Rattle.std.proofs.lemmas.List.Sums.{sum_by-set, sum_by-cons, get_or-le-sum_by}
use Rattle.sv_graph.specs.Links.{links_of, IsWhole}
use Rattle.sv_graph.specs.declared.marks.Mark.{Mark}
use Rattle.sv_graph.specs.declared.marks.Mark.TheVariants.{New, Open, Done}
use Rattle.sv_graph.specs.declared.marks.Frame.{Frame}
use Rattle.sv_graph.specs.declared.walk.Walk.{Walk}
use Rattle.sv_graph.specs.Walk.{link_at, mark_of, is_new, IsWalk, Enters, work_of, work_left}
use Rattle.sv_graph.proofs.Walking.{rest-some, top-open, top_within}
use Rattle.sv_graph.proofs.Underway.{behind, reverse_push}

-- one more of the new points weighs more than a frame for it
pub less-entered : (m n big below was : ℕ) → n + 1 ≡ m → was + 1 ≤ big → big * n + (was + below) < big * m + below
less-entered m n big below was e le = let s : big * m ≡ big * n + big = ap (λ z. big * z) (sym e) ∙ omega arith in omega (arith, s)

module _ (links : List (List ℕ)) where
  work-cons : (f : Frame) (below : List Frame) → sum_by (work_of links) (f ∷ below) ≡ work_of links f + sum_by (work_of links) below
  work-cons f below = sum_by-cons (work_of links) f below

  -- the marks of a point of which none is new
  same-count : (marks marks' : List Mark) (p : ℕ) (m : Mark) → marks' ≡ set marks p m → p < length marks → is_new (mark_of marks p) ≡ false → is_new m ≡ false → count_by is_new marks' ≡ count_by is_new marks
  same-count marks marks' p m e within old new =
      let change = sum_by-set (λ x. cond (is_new x) 1 0) marks p m New within in
      let was = ap (λ b. cond {A = ℕ} b 1 0) old in
      let is = ap (λ b. cond {A = ℕ} b 1 0) new in
      ap (count_by is_new) e ∙ omega (arith, change, was, is)

  pub less-placed : (walk walk' : Walk) (f : Frame) (below : List Frame) → IsWalk links walk (f ∷ below) → walk'.marks.items ≡ set walk.marks.items f.point Done
      → work_left links walk' below < work_left links walk (f ∷ below)
  less-placed walk walk' f below w marks =
      let within = top_within links walk f below w in
      let same = same-count walk.marks.items walk'.marks.items f.point Done marks within (ap is_new (top-open links walk f below w)) refl in
      let product = ap (λ z. (sum_by length links + 2) * z) same in
      omega (arith, product, work-cons f below)

  less-behind : (walk : Walk) (f : Frame) (below : List Frame) → f.next < length (links_of links f.point) → work_left links walk (behind f ∷ below) + 1 ≡ work_left links walk (f ∷ below)
  less-behind walk f below lt = omega (arith, work-cons f below, work-cons (behind f) below)

  pub few-links : (p : ℕ) → p < length links → length (links_of links p) ≤ sum_by length links
  few-links p within = get_or-le-sum_by length links p [] within

  pub less-met : (walk walk' : Walk) (q : ℕ) (f : Frame) (below stack stack' : List Frame) → IsWalk links walk (f ∷ below) → IsWhole links → link_at links f ≡ Some q → reverse stack ≡ behind f ∷ below
      → (m : Mark) → mark_of walk.marks.items q ≡ m → Enters m q walk stack walk' stack' → work_left links walk' (reverse stack') < work_left links walk (f ∷ below)
  less-met walk walk' q f below stack stack' w whole next tops New new e =
      let r = rest-some (links_of links f.point) f.next q next in
      let here : q < length links = whole.within f.point q r.1 in
      let within : q < length walk.marks.items = omega (arith, w.size) in
      let entered : Frame = record { point = q; next = 0 } in
      let top : reverse stack' ≡ entered ∷ (behind f ∷ below) = ap reverse e.2 ∙ (reverse_push stack entered ∙ ap (λ z. entered ∷ z) tops) in
      let change = sum_by-set (λ x. cond (is_new x) 1 0) walk.marks.items q Open New within in
      let was = ap (λ x. cond {A = ℕ} (is_new x) 1 0) new in
      let count : count_by is_new walk'.marks.items + 1 ≡ count_by is_new walk.marks.items = ap (λ z. count_by is_new z + 1) e.1 ∙ omega (arith, change, was) in
      let less = less-entered (count_by is_new walk.marks.items) (count_by is_new walk'.marks.items) (sum_by length links + 2) (sum_by (work_of links) (behind f ∷ below)) (work_of links entered) count
      (omega (arith, few-links q here)) in
      subst (λ z. work_left links walk' z < work_left links walk (f ∷ below)) (sym top) (omega (arith, less, work-cons entered (behind f ∷ below), less-behind walk f below r.2))
  less-met walk walk' q f below stack stack' w whole next tops Open opened e =
      let r = rest-some (links_of links f.point) f.next q next in
      let top : reverse stack' ≡ behind f ∷ below = ap reverse e.1 ∙ tops in
      let marks = ap (λ z. (sum_by length links + 2) * count_by is_new z.marks.items) e.0 in
      subst (λ z. work_left links walk' z < work_left links walk (f ∷ below)) (sym top) (omega (arith, marks, less-behind walk f below r.2))
  less-met walk walk' q f below stack stack' w whole next tops Done done e =
      let r = rest-some (links_of links f.point) f.next q next in
      let top : reverse stack' ≡ behind f ∷ below = ap reverse e.1 ∙ tops in
      let marks = ap (λ z. (sum_by length links + 2) * count_by is_new z.marks.items) e.0 in
      subst (λ z. work_left links walk' z < work_left links walk (f ∷ below)) (sym top) (omega (arith, marks, less-behind walk f below r.2))
