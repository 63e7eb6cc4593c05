-- One step of a walk after another.
use Rattle.std.proofs.Common.{◌≡◌, ℕ, zero, suc, ◌+◌, ◌<◌, ◌≤◌, Bool, true, false, List, [], ◌∷◌, ◌++◌, length, drop, set, get_or, Some, None, refl, sym, ap, ◌∙◌, inl, inr, ◌⊎◌, subst, arith}
use Rattle.std.specs.List.{slice_get}
use Rattle.std.proofs.lemmas.Bool.{cases_eq, cases_lt, eq-eqb, ne_eqb, false≢true}
use Rattle.std.proofs.lemmas.List.{get_or-set_same, get_or-set_other, length-set, get_or_past, get_or_read}
use Rattle.sv_graph.specs.Links.{is_in, links_of}
use Rattle.sv_graph.specs.Path.{Path, more}
use Rattle.sv_graph.specs.declared.marks.Mark.{Mark}
use Rattle.sv_graph.specs.declared.marks.Mark.TheVariants.{New, Open, Done}
use Rattle.sv_graph.specs.declared.marks.Frame.{Frame}
use Rattle.sv_graph.specs.declared.walk.Walk.{Walk}
use Rattle.sv_graph.specs.Walk.{mark_of, is_new, is_open, is_done, one, frames_of, IsLinked, IsLine, IsWalk}
use Rattle.sv_graph.proofs.Points.{in_push, in_head, in_tail, pushed-other}

-- ---- what a frame links for

pub rest-none : (xs : List ℕ) (n : ℕ) → slice_get xs n ≡ None → (drop n xs ≡ []) × (length xs ≤ n)
rest-none [] zero h = (refl, omega arith)
rest-none [] (suc n) h = (refl, omega arith)
rest-none (x ∷ xs) zero h = cc
rest-none (x ∷ xs) (suc n) h = let r = rest-none xs n h in (r.0, omega (arith, r.1))

pub rest-some : (xs : List ℕ) (n q : ℕ) → slice_get xs n ≡ Some q → (drop n xs ≡ q ∷ drop (suc n) xs) × (is_in q xs ≡ true) × (n < length xs)
rest-some [] n q h = cc
rest-some (x ∷ xs) zero q h = let e : x ≡ q = cc in (ap (λ z. z ∷ xs) e, subst (λ z. is_in z (x ∷ xs) ≡ true) e (in_head x xs), omega arith)
rest-some (x ∷ xs) (suc n) q h = let r = rest-some xs n q h in (r.0, in_tail q x xs r.1, omega (arith, r.2))

-- ---- marks

marked-same : (marks : List Mark) (p q : ℕ) (m : Mark) → q < length marks → p ≡ q → mark_of (set marks q m) p ≡ m
marked-same marks p q m within same = rw same (get_or-set_same marks q m New within)

marked-other : (marks : List Mark) (p q : ℕ) (m : Mark) → (p ≡ q → ⊥) → mark_of (set marks q m) p ≡ mark_of marks p
marked-other marks p q m other = get_or-set_other marks q p m New other

frames-top : (p : ℕ) (f : Frame) (below : List Frame) → f.point ≡ p → frames_of p (f ∷ below) ≡ suc (frames_of p below)
frames-top p f below same = ap (λ b. one b + frames_of p below) (eq-eqb f.point p same) ∙ omega arith

frames-below : (p : ℕ) (f : Frame) (below : List Frame) → (f.point ≡ p → ⊥) → frames_of p (f ∷ below) ≡ frames_of p below
frames-below p f below other = ap (λ b. one b + frames_of p below) (ne_eqb f.point p other) ∙ omega arith

-- only an open mark is told by a frame
pub open-by : (m : Mark) → m ≡ Open → one (is_open m) ≡ 1
open-by m e = ap (λ z. one (is_open z)) e

opens : (m : Mark) → 0 < one (is_open m) → m ≡ Open
opens New h = absurd (omega arith)
opens Open h = refl
opens Done h = absurd (omega arith)

-- ---- a cycle

-- a point that has a frame leads to what the top one leads to
pub line-path : (links : List (List ℕ)) (f : Frame) (below : List Frame) (p q : ℕ) → IsLine links (f ∷ below) → 0 < frames_of p (f ∷ below) → Path (links_of links) f.point q → Path (links_of links) p q
line-path links f [] p q line here path = elim (cases_eq f.point p) [
  | inl same ↦ subst (λ z. Path (links_of links) z q) same path
  | inr other ↦ absurd (omega (arith, frames-below p f [] other))
]
line-path links f (g ∷ lower) p q line here path =
    let deeper = line-path links g lower p q line.1 in
    elim (cases_eq f.point p) [
      | inl same ↦ subst (λ z. Path (links_of links) z q) same path
      | inr other ↦ deeper (subst (λ z. 0 < z) (frames-below p f (g ∷ lower) other) here) (more line.0 path)
    ]

-- ---- marks after a change

changed : (marks marks' : List Mark) (q : ℕ) (m : Mark) → marks' ≡ set marks q m → q < length marks → (p : ℕ) →
    ((p ≡ q) × (mark_of marks' p ≡ m)) ⊎ ((p ≡ q → ⊥) × (mark_of marks' p ≡ mark_of marks p))
changed marks marks' q m e within p = elim (cases_eq p q) [
  | inl same ↦ inl (same, ap (λ z. mark_of z p) e ∙ marked-same marks p q m within same)
  | inr other ↦ inr (other, ap (λ z. mark_of z p) e ∙ marked-other marks p q m other)
]

-- a point with a mark other than the first one is there
marked_within : (marks : List Mark) (p : ℕ) → (mark_of marks p ≡ New → ⊥) → p < length marks
marked_within marks p known = elim (cases_lt p (length marks)) [ inl lt ↦ lt | inr past ↦ absurd (known (get_or_past marks p New past)) ]

-- the top frame's point is open
pub top-open : (links : List (List ℕ)) (walk : Walk) (f : Frame) (below : List Frame) → IsWalk links walk (f ∷ below) → mark_of walk.marks.items f.point ≡ Open
top-open links walk f below w = opens (mark_of walk.marks.items f.point) (omega (arith, w.opened f.point, frames-top f.point f below refl))

pub top_within : (links : List (List ℕ)) (walk : Walk) (f : Frame) (below : List Frame) → IsWalk links walk (f ∷ below) → f.point < length walk.marks.items
top_within links walk f below w = marked_within walk.marks.items f.point (λ e. let opened = top-open links walk f below w in cc)

-- the top frame's point is placed
pub place-walk : (links : List (List ℕ)) (walk walk' : Walk) (f : Frame) (below : List Frame) → IsWalk links walk (f ∷ below) → walk'.marks.items ≡ set walk.marks.items f.point Done
    → walk'.order.items ≡ walk.order.items ++ f.point ∷ [] → IsWalk links walk' below
place-walk links walk walk' f below w marks order =
    let within = top_within links walk f below w in
    let alone : frames_of f.point below ≡ 0 = omega (arith, w.opened f.point, frames-top f.point f below refl, open-by _ (top-open links walk f below w)) in
    record {
      size = ap length marks ∙ (length-set walk.marks.items f.point Done ∙ w.size);
      done = λ p. elim (changed walk.marks.items walk'.marks.items f.point Done marks within p) [
        | inl same ↦ ap (is_in p) order ∙ (ap (λ z. is_in p (walk.order.items ++ z ∷ [])) (sym same.0) ∙ (in_push p walk.order.items ∙ sym (ap is_done same.1)))
        | inr other ↦ ap (is_in p) order ∙ (pushed-other p f.point walk.order.items (λ e. other.0 (sym e)) ∙ (w.done p ∙ sym (ap is_done other.1)))
      ];
      opened = λ p. elim (changed walk.marks.items walk'.marks.items f.point Done marks within p) [
        | inl same ↦ ap (λ z. frames_of z below) same.0 ∙ (alone ∙ sym (ap (λ z. one (is_open z)) same.1))
        | inr other ↦ sym (frames-below p f below (λ e. other.0 (sym e))) ∙ (w.opened p ∙ sym (ap (λ z. one (is_open z)) other.1))
      ];
      line = w.line.1;
    }

-- a new point is entered
pub new-walk : (links : List (List ℕ)) (walk walk' : Walk) (q : ℕ) (frames : List Frame) → IsWalk links walk frames → q < length links → mark_of walk.marks.items q ≡ New → IsLinked links q frames
    → walk'.marks.items ≡ set walk.marks.items q Open → walk'.order.items ≡ walk.order.items → IsWalk links walk' (record { point = q; next = 0 } ∷ frames)
new-walk links walk walk' q frames w here new linked marks order =
    let f : Frame = record { point = q; next = 0 } in
    let within : q < length walk.marks.items = omega (arith, w.size) in
    let alone : frames_of q frames ≡ 0 = w.opened q ∙ ap (λ z. one (is_open z)) new in
    record {
      size = ap length marks ∙ (length-set walk.marks.items q Open ∙ w.size);
      done = λ p. elim (changed walk.marks.items walk'.marks.items q Open marks within p) [
        | inl same ↦ ap (is_in p) order ∙ (w.done p ∙ (ap (λ z. is_done (mark_of walk.marks.items z)) same.0 ∙ (ap is_done new ∙ sym (ap is_done same.1))))
        | inr other ↦ ap (is_in p) order ∙ (w.done p ∙ sym (ap is_done other.1))
      ];
      opened = λ p. elim (changed walk.marks.items walk'.marks.items q Open marks within p) [
        | inl same ↦ frames-top p f frames (sym same.0) ∙ (ap suc (ap (λ z. frames_of z frames) same.0 ∙ alone) ∙ sym (open-by _ same.1))
        | inr other ↦ frames-below p f frames (λ e. other.0 (sym e)) ∙ (w.opened p ∙ sym (ap (λ z. one (is_open z)) other.1))
      ];
      line = (linked, w.line);
    }

-- ---- a mark that was read

read-mark : (marks : List Mark) (p : ℕ) (m : Mark) → p < length marks → m ≡ get_or marks p m → mark_of marks p ≡ m
read-mark marks p m within e = sym (get_or_read marks p m within e New)

pub new_from_read : (marks : List Mark) (p : ℕ) (m : Mark) (b : Bool) → p < length marks → m ≡ get_or marks p m → b ≡ is_new m → b ≡ true → mark_of marks p ≡ New
new_from_read marks p m b within e is new = read-mark marks p m within e ∙ only m (sym is ∙ new)
  where
    only : (m : Mark) → is_new m ≡ true → m ≡ New
    only New h = refl
    only Open h = cc
    only Done h = cc

pub old_from_read : (marks : List Mark) (p : ℕ) (m : Mark) (b : Bool) → p < length marks → m ≡ get_or marks p m → b ≡ is_new m → b ≡ false → mark_of marks p ≡ New → ⊥
old_from_read marks p m b within e is old new =
    let both : is_new m ≡ true = ap is_new (sym (read-mark marks p m within e) ∙ new) in
    false≢true (sym old ∙ (is ∙ both))

-- what is placed is there
pub order_within : (links : List (List ℕ)) (walk : Walk) (p : ℕ) → IsWalk links walk [] → is_in p walk.order.items ≡ true → p < length links
order_within links walk p w here =
    let done : is_done (mark_of walk.marks.items p) ≡ true = sym (w.done p) ∙ here in
    let inside = marked_within walk.marks.items p (λ new. false≢true (sym (ap is_done new) ∙ done)) in
    omega (arith, inside, w.size)
