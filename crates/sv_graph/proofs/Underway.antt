-- A walk from one point that is underway, and the steps of its loop.
use Rattle.std.proofs.Common.{◌≡◌, ℕ, zero, suc, ◌+◌, ◌<◌, true, false, List, [], ◌∷◌, ◌++◌, length, drop, set, replicate, reverse, Some, None, Vec, Global, refl, sym, ap, ◌∙◌, subst, arith, add-one}
use Rattle.std.specs.List.{range_with_len}
use Rattle.std.proofs.lemmas.Bool.{false≢true}
use Rattle.std.proofs.lemmas.List.{reverse-append, length-replicate}
use Rattle.sv_graph.specs.Links.{is_in, links_of, IsWhole}
use Rattle.sv_graph.specs.Visits.{with_point, Visits, none, again, first}
use Rattle.sv_graph.specs.Path.{Path, one as step}
use Rattle.sv_graph.specs.declared.marks.Mark.{Mark}
use Rattle.sv_graph.specs.declared.marks.Mark.TheVariants.{New, Open, Done}
use Rattle.sv_graph.specs.declared.marks.Frame.{Frame}
use Rattle.sv_graph.specs.declared.walk.Walk.{Walk}
use Rattle.sv_graph.specs.Walk.{link_at, mark_of, is_open, is_done, one, frames_of, IsWalk, Finishes, Enters}
use Rattle.sv_graph.proofs.Points.{with_new}
use Rattle.sv_graph.proofs.Visiting.{visits-append}
use Rattle.sv_graph.proofs.Walking.{rest-none, rest-some, line-path, top-open, place-walk, new-walk, open-by}

pub reverse_push : {A : Type 0} (xs : List A) (x : A) → reverse (xs ++ x ∷ []) ≡ x ∷ reverse xs
reverse_push xs x = reverse-append xs (x ∷ [])

pub record IsUnderway (links : List (List ℕ)) (was : Walk) (start : ℕ) (walk : Walk) (frames : List Frame) : Type 0 where
  pub marked : IsWalk links walk frames
  pub visits : walk.is_cyclic ≡ false → (after : List ℕ) → Finishes links walk.order.items frames after → Visits (links_of links) was.order.items (start ∷ []) after
  pub earlier : walk.is_cyclic ≡ false → was.is_cyclic ≡ false
  pub known : walk.is_cyclic ≡ true → (p : ℕ) × Path (links_of links) p p

-- the frame behind the next point
abbrev pub behind : Frame → Frame
behind f = record { point = f.point; next = f.next + 1 }

pub start-underway : (links : List (List ℕ)) (was walk : Walk) (start : ℕ) (stack : List Frame) → IsWalk links was [] → start < length links → mark_of was.marks.items start ≡ New
    → (was.is_cyclic ≡ true → (p : ℕ) × Path (links_of links) p p) → Enters (mark_of was.marks.items start) start was [] walk stack → IsUnderway links was start walk (reverse stack)
start-underway links was walk start stack w within new known enters =
    let e : Enters New start was [] walk stack = subst (λ m. Enters m start was [] walk stack) new enters in
    let same_order : walk.order.items ≡ was.order.items = ap (λ z. z.order.items) e.0 in
    let same_cyclic : walk.is_cyclic ≡ was.is_cyclic = ap (λ z. z.is_cyclic) e.0 in
    let top : reverse stack ≡ record { point = start; next = 0 } ∷ [] = ap reverse e.2 in
    let absent : is_in start was.order.items ≡ false = w.done start ∙ ap is_done new in
    record {
      marked = subst (IsWalk links walk) (sym top) (new-walk links was walk start [] w within new tt e.1 same_order);
      visits = λ calm after ends.
          let f = subst (λ z. Finishes links walk.order.items z after) top ends in
          let v = subst (λ z. Visits (links_of links) z (links_of links start) f.0) same_order f.1 in
          subst (λ z. Visits (links_of links) was.order.items (start ∷ []) z) f.2 (first absent v none);
      earlier = λ calm. sym same_cyclic ∙ calm;
      known = λ cyclic. known (sym same_cyclic ∙ cyclic);
    }

pub place-underway : (links : List (List ℕ)) (was walk walk' : Walk) (start : ℕ) (f : Frame) (below : List Frame) → IsUnderway links was start walk (f ∷ below) → link_at links f ≡ None
    → walk'.marks.items ≡ set walk.marks.items f.point Done → walk'.order.items ≡ walk.order.items ++ f.point ∷ [] → walk'.is_cyclic ≡ walk.is_cyclic → IsUnderway links was start walk' below
place-underway links was walk walk' start f below u last marks order cyclic =
    let absent : is_in f.point walk.order.items ≡ false = u.marked.done f.point ∙ ap is_done (top-open links walk f below u.marked) in
    let done : drop f.next (links_of links f.point) ≡ [] = (rest-none (links_of links f.point) f.next last).0 in
    let placed : walk'.order.items ≡ with_point f.point walk.order.items = order ∙ sym (with_new f.point walk.order.items absent) in
    record {
      marked = place-walk links walk walk' f below u.marked marks order;
      visits = λ calm after ends. u.visits (sym cyclic ∙ calm) after
          (walk.order.items, subst (λ z. Visits (links_of links) walk.order.items z walk.order.items) (sym done) none, subst (λ z. Finishes links z below after) placed ends);
      earlier = λ calm. u.earlier (sym cyclic ∙ calm);
      known = λ is. u.known (sym cyclic ∙ is);
    }

-- the top frame goes on to its next point, which is entered
pub enter-underway : (links : List (List ℕ)) (was walk walk' : Walk) (start q : ℕ) (f : Frame) (below stack stack' : List Frame) → IsWhole links → IsUnderway links was start walk (f ∷ below) → link_at links f ≡ Some q
    → reverse stack ≡ behind f ∷ below → (m : Mark) → mark_of walk.marks.items q ≡ m → Enters m q walk stack walk' stack' → IsUnderway links was start walk' (reverse stack')
enter-underway links was walk walk' start q f below stack stack' whole u next tops New new e =
    let r = rest-some (links_of links f.point) f.next q next in
    let same_order : walk'.order.items ≡ walk.order.items = ap (λ z. z.order.items) e.0 in
    let same_cyclic : walk'.is_cyclic ≡ walk.is_cyclic = ap (λ z. z.is_cyclic) e.0 in
    let entered : Frame = record { point = q; next = 0 } in
    let top : reverse stack' ≡ entered ∷ (behind f ∷ below) = ap reverse e.2 ∙ (reverse_push stack entered ∙ ap (λ z. entered ∷ z) tops) in
    let absent : is_in q walk.order.items ≡ false = u.marked.done q ∙ ap is_done new in
    let marked : IsWalk links walk (behind f ∷ below) = record { size = u.marked.size; done = u.marked.done; opened = u.marked.opened; line = u.marked.line } in
    record {
      marked = subst (IsWalk links walk') (sym top) (new-walk links walk walk' q (behind f ∷ below) marked (whole.within f.point q r.1) new r.1 e.1 same_order);
      visits = λ calm after ends.
          let g = subst (λ z. Finishes links walk'.order.items z after) top ends in
          let v = subst (λ z. Visits (links_of links) z (links_of links q) g.0) same_order g.1 in
          let w = subst (λ z. Visits (links_of links) (with_point q g.0) (drop z (links_of links f.point)) g.2.0) (add-one f.next) g.2.1 in
          let joined : Visits (links_of links) walk.order.items (q ∷ drop (suc f.next) (links_of links f.point)) g.2.0 = first absent v w in
          u.visits (sym same_cyclic ∙ calm) after (g.2.0, subst (λ z. Visits (links_of links) walk.order.items z g.2.0) (sym r.0) joined, g.2.2);
      earlier = λ calm. u.earlier (sym same_cyclic ∙ calm);
      known = λ cyclic. u.known (sym same_cyclic ∙ cyclic);
    }
enter-underway links was walk walk' start q f below stack stack' whole u next tops Open opened e =
    let r = rest-some (links_of links f.point) f.next q next in
    let same_order : walk'.order.items ≡ walk.order.items = ap (λ z. z.order.items) e.0 in
    let same_marks : walk'.marks.items ≡ walk.marks.items = ap (λ z. z.marks.items) e.0 in
    let cyclic : walk'.is_cyclic ≡ true = ap (λ z. z.is_cyclic) e.0 in
    let top : reverse stack' ≡ behind f ∷ below = ap reverse e.1 ∙ tops in
    let here : 0 < frames_of q (f ∷ below) = omega (arith, u.marked.opened q, open-by _ opened) in
    record {
      marked = subst (IsWalk links walk') (sym top) (same-walk links walk walk' f below u.marked same_marks same_order);
      visits = λ calm. absurd (cc);
      earlier = λ calm. absurd (cc);
      known = λ is. (q, line-path links f below q q u.marked.line here (step r.1));
    }
  where
    same-walk : (links : List (List ℕ)) (walk walk' : Walk) (f : Frame) (below : List Frame) → IsWalk links walk (f ∷ below) → walk'.marks.items ≡ walk.marks.items → walk'.order.items ≡ walk.order.items
        → IsWalk links walk' (behind f ∷ below)
    same-walk links walk walk' f below w marks order = record {
      size = ap length marks ∙ w.size;
      done = λ p. ap (is_in p) order ∙ (w.done p ∙ sym (ap (λ z. is_done (mark_of z p)) marks));
      opened = λ p. w.opened p ∙ sym (ap (λ z. one (is_open (mark_of z p))) marks);
      line = w.line;
    }
enter-underway links was walk walk' start q f below stack stack' whole u next tops Done done e =
    let r = rest-some (links_of links f.point) f.next q next in
    let top : reverse stack' ≡ behind f ∷ below = ap reverse e.1 ∙ tops in
    let present : is_in q walk.order.items ≡ true = u.marked.done q ∙ ap is_done done in
    let marked : IsWalk links walk (behind f ∷ below) = record { size = u.marked.size; done = u.marked.done; opened = u.marked.opened; line = u.marked.line } in
    let still : IsUnderway links was start walk (behind f ∷ below) = record {
      marked = marked;
      visits = λ calm after ends.
          let w = subst (λ z. Visits (links_of links) walk.order.items (drop z (links_of links f.point)) ends.0) (add-one f.next) ends.1 in
          let joined : Visits (links_of links) walk.order.items (q ∷ drop (suc f.next) (links_of links f.point)) ends.0 = again present w in
          u.visits calm after (ends.0, subst (λ z. Visits (links_of links) walk.order.items z ends.0) (sym r.0) joined, ends.2);
      earlier = u.earlier;
      known = u.known;
    } in
    subst (λ z. IsUnderway links was start z (reverse stack')) (sym e.0) (subst (IsUnderway links was start walk) (sym top) still)

-- ---- from one point after another

pub range-more : (a n : ℕ) → range_with_len a (suc n) ≡ range_with_len a n ++ (a + n) ∷ []
range-more a zero = ap (λ z. z ∷ []) (omega arith)
range-more a (suc n) = ap (λ z. a ∷ z) (range-more (a + 1) n ∙ ap (λ z. range_with_len (a + 1) n ++ z ∷ []) (omega arith))

-- the walks from all points below a number are done
pub record IsWalked (links : List (List ℕ)) (count : ℕ) (walk : Walk) : Type 0 where
  pub marked : IsWalk links walk []
  pub visits : walk.is_cyclic ≡ false → Visits (links_of links) [] (range_with_len 0 count) walk.order.items
  pub known : walk.is_cyclic ≡ true → (p : ℕ) × Path (links_of links) p p

pub walked-none : (links : List (List ℕ)) (m : Vec Mark Global) (o : Vec ℕ Global) → m.items ≡ replicate (length links) New → o.items ≡ [] → IsWalked links 0 (record { marks = m; order = o; is_cyclic = false })
walked-none links m o marks order =
    let walk : Walk = record { marks = m; order = o; is_cyclic = false } in
    let fresh : (p : ℕ) → mark_of walk.marks.items p ≡ New = λ p. ap (λ z. mark_of z p) marks ∙ new-replicate (length links) p in
    record {
      marked = record {
        size = ap length marks ∙ length-replicate (length links) New;
        done = λ p. ap (is_in p) order ∙ sym (ap is_done (fresh p));
        opened = λ p. sym (ap (λ z. one (is_open z)) (fresh p));
        line = tt;
      };
      visits = λ _. subst (Visits (links_of links) [] []) (sym order) none;
      known = λ cyclic. absurd (false≢true cyclic);
    }
  where
    new-replicate : (n p : ℕ) → mark_of (replicate n New) p ≡ New
    new-replicate zero p = refl
    new-replicate (suc n) zero = refl
    new-replicate (suc n) (suc p) = new-replicate n p

pub walked-more : (links : List (List ℕ)) (walk walk' : Walk) (start : ℕ) → IsWalked links start walk → IsWalk links walk' []
    → (walk'.is_cyclic ≡ false → Visits (links_of links) walk.order.items (start ∷ []) walk'.order.items) → (walk'.is_cyclic ≡ false → walk.is_cyclic ≡ false)
    → (walk'.is_cyclic ≡ true → (p : ℕ) × Path (links_of links) p p) → IsWalked links (start + 1) walk'
walked-more links walk walk' start w marked visits earlier known = record {
  marked = marked;
  visits = λ calm. subst (λ z. Visits (links_of links) [] z walk'.order.items) (sym (ap (range_with_len 0) (add-one start) ∙ (range-more 0 start ∙ ap (λ z. range_with_len 0 start ++ z ∷ []) (omega arith))))
      (visits-append (w.visits (earlier calm)) (visits calm));
  known = known;
}

-- a point that is not new is passed over
pub done-visits : (links : List (List ℕ)) (walk : Walk) (start : ℕ) → IsWalk links walk [] → (mark_of walk.marks.items start ≡ New → ⊥) → Visits (links_of links) walk.order.items (start ∷ []) walk.order.items
done-visits links walk start w old = again (w.done start ∙ done-by (mark_of walk.marks.items start) old (sym (w.opened start))) none
  where
    done-by : (m : Mark) → (m ≡ New → ⊥) → one (is_open m) ≡ 0 → is_done m ≡ true
    done-by New old closed = absurd (old refl)
    done-by Open old closed = absurd (omega arith)
    done-by Done old closed = refl
