-- What is so of shapes before a patch and after it, and a walk beside them.
use Rattle.std.proofs.Common.{◌≡◌, ◌⊎◌, inl, inr, ℕ, zero, suc, ◌<◌, ◌≤◌, List, [], ◌∷◌, map, Option, Some, None, refl, sym, subst, arith}
use Rattle.std.specs.Prelude.{slice_get}
use Rattle.sv_attributes.specs.Each as lists
use Rattle.sv_code.proofs.Each.{each_front, each_back, each_append, each_mono}
use Rattle.sv_code.specs.Names.{Each}
use Rattle.sv_code.specs.declared.program.Program.{Program}
use Rattle.sv_parts.specs.Sides.{Sides}
use Rattle.sv_parts.specs.State.{Run, each, one}
use Rattle.sv_parts.specs.declared.state.State.{State}
use Rattle.sv_places.specs.Any.{Any}
use Rattle.sv_plan.specs.Plan as plans
use Rattle.sv_right.proofs.Lists.{Along, Matched, along_mono, along_of, matched_length, matched_at, some_same}
use Rattle.sv_right.proofs.Steps.{After, more_after, cons_after, Grows, grows_same, grows_on}
use Rattle.sv_right.specs.Claims.{Claim, Claimer, Walker, claim_each}
use Rattle.sv_right.specs.Given.{of_shape, of_row, versions, versions_in, versions_all}
use Rattle.sv_right.specs.Later.{ViewCells, AreAllLater, GoesOn}
use Rattle.sv_right.specs.Right.{IsTrue}
use Rattle.sv_shapes.specs.Places.{joined}
use Rattle.sv_shapes.specs.Shapes.{Opened, opened, parts_in}
use Rattle.sv_shapes.specs.declared.shape.Row.{Row, fold_out-Row}
use Rattle.sv_shapes.specs.declared.shape.Shape.{Shape, Shape-F, out-Shape, map-Shape, fold_out-Shape}
use Rattle.sv_view.specs.Level.{View}

-- ---- versions

-- numbers that were given before the next one
abbrev pub Below : ℕ → List ℕ → Type 0
Below k ns = Each (λ n. n < k) ns

pub below_on : (k k' : ℕ) → k ≤ k' → (ns : List ℕ) → Below k ns → Below k' ns
below_on k k' le ns h = each_mono (λ n. n < k) (λ n. n < k') (λ n lt. omega (arith, le, lt)) ns h

-- those of one layer
abbrev pub layer_versions : Shape-F Shape Row → List ℕ
layer_versions o = of_shape (map-Shape Shape Row (List ℕ) (List ℕ) versions versions_in o)

pub versions_out : (x : Shape) → versions x ≡ layer_versions (out-Shape x)
unfolding versions versions_in
versions_out x = fold_out-Shape (List ℕ) (List ℕ) of_shape of_row x

pub versions_row : (r : Row) → versions_in r ≡ versions_all r.parts
unfolding versions versions_in
versions_row r = fold_out-Row (List ℕ) (List ℕ) of_shape of_row r

-- what is so of what is joined is so of each part
pub joined_at : {A : Type 0} (Q : ℕ → Type 0) (f : A → List ℕ) (xs : List A) (j : ℕ) (x : A) → Each Q (joined (map f xs)) → slice_get xs j ≡ Some x → Each Q (f x)
joined_at Q f [] j x h e = absurd (cc)
joined_at Q f (y ∷ xs) zero x h e = subst (λ z. Each Q (f z)) (some_same e) (each_front Q (f y) (joined (map f xs)) h)
joined_at Q f (y ∷ xs) (suc j) x h e = joined_at Q f xs j x (each_back Q (f y) (joined (map f xs)) h) e

-- those of the content of a layer
pub parts_below : (k : ℕ) (o : Shape-F Shape Row) → Below k (layer_versions o) → Below k (versions_all (parts_in (Some o)))
parts_below k (Shape-F.Literal mark) h = tt
parts_below k (Shape-F.Text mark text) h = tt
parts_below k (Shape-F.Element mark typed states parts) h = h
parts_below k (Shape-F.Tag place texts) h = tt
parts_below k Shape-F.Nothing h = tt
parts_below k (Shape-F.Slot props parts) h = each_back (λ n. n < k) (map (λ prop. prop.number) props) (versions_all parts) h
parts_below k (Shape-F.If arm parts) h = h
parts_below k (Shape-F.Each number rows none) h = each_back (λ n. n < k) (joined (map versions_in rows)) (versions_all none) h.1
parts_below k (Shape-F.Key state parts) h = h

-- ---- claims

-- what a patch starts from: the cells for owners' views, the next number, and the claims on the shapes that there were
pub record Start : Type 0 where
  pub views : ViewCells
  pub next : ℕ
  pub olds : List Claim

-- a claim that there was, and that was true
abbrev pub WasTrue : Program → Start → Claim → Type 0
WasTrue p start c = IsTrue p c × Any (λ d. d ≡ c) start.olds

-- a claim that is true, and goes on from those that there were
abbrev pub StaysTrue : Program → Start → Claim → Type 0
StaysTrue p start c = IsTrue p c × GoesOn start.views start.next start.olds c

-- something is so of each claim, and the numbers of what they are on are below the next one
pub record HoldsAll (Q : Claim → Type 0) (claims : List Claim) (k : ℕ) (ns : List ℕ) : Type 0 where
  pub right : Each Q claims
  pub below : Below k ns

pub holds_on : (Q : Claim → Type 0) (claims : List Claim) (k k' : ℕ) (ns : List ℕ) → k ≤ k' → HoldsAll Q claims k ns → HoldsAll Q claims k' ns
holds_on Q claims k k' ns le h = record { right = h.right; below = below_on k k' le ns h.below }

-- ---- one layer

-- the claims on a layer
abbrev pub Layer : Type 0
Layer = View → Opened → List Claim

-- something is so of a layer on a view
abbrev HoldsOn : (Claim → Type 0) → Layer → View → ℕ → Shape-F Shape Row → Type 0
HoldsOn Q layer v k o = HoldsAll Q (layer v (Some o)) k (layer_versions o)

-- a layer is right on a view
abbrev pub NowLayer : Program → Start → Layer → View → ℕ → Shape-F Shape Row → Type 0
NowLayer p start layer v k o = HoldsOn (StaysTrue p start) layer v k o

-- what was shown is right on the old view, of which the new one is later
abbrev WasHeld : Program → Start → Layer → Sides → ℕ → Opened → Type 0
WasHeld p start layer at k None = Unit {0}
WasHeld p start layer at k (Some o) = AreAllLater start.views at.old at.new × HoldsOn (WasTrue p start) layer at.old k o

-- so it is since the start
abbrev pub WasLayer : Program → Start → Layer → Sides → ℕ → Opened → Type 0
WasLayer p start layer at k held = (start.next ≤ k) × WasHeld p start layer at k held

-- a step gives what is right on the new view
abbrev pub StaysLayer : Program → Start → (Sides → Opened → Run Shape) → Layer → Type 0
StaysLayer p start run layer =
    (at : Sides) (held : Opened) (s : State) → WasLayer p start layer at s.counters.next held → After (run at held s) (λ x u. NowLayer p start layer at.new u.counters.next (out-Shape x) × Grows s u)

pub made : (p : Program) (start : Start) (layer : Layer) (v : View) (k : ℕ) (x : Shape) (o : Shape-F Shape Row) → out-Shape x ≡ o → NowLayer p start layer v k o → NowLayer p start layer v k (out-Shape x)
made p start layer v k x o e h = subst (NowLayer p start layer v k) (sym e) h

-- ---- fragments

-- the shape of a fragment is right on a view
abbrev NowOne : Program → Start → Claimer → View → ℕ → Shape → Type 0
NowOne p start claim v k x = HoldsAll (StaysTrue p start) (claim v (Some x)) k (versions x)

-- what was shown of a fragment is right on the old view, of which the new one is later
abbrev WasShown : Program → Start → Claimer → Sides → ℕ → Option Shape → Type 0
WasShown p start claim at k None = Unit {0}
WasShown p start claim at k (Some x) = AreAllLater start.views at.old at.new × HoldsAll (WasTrue p start) (claim at.old (Some x)) k (versions x)

-- so it is since the start
abbrev WasOne : Program → Start → Claimer → Sides → ℕ → Option Shape → Type 0
WasOne p start claim at k old = (start.next ≤ k) × WasShown p start claim at k old

-- a plan gives what is right on the new view
abbrev pub StaysOne : Program → Start → plans.Planner → Claimer → Type 0
StaysOne p start plan claim =
    (at : Sides) (old : Option Shape) (s : State) → WasOne p start claim at s.counters.next old → After (plan at old s) (λ x u. NowOne p start claim at.new u.counters.next x × Grows s u)

shown_on : (p : Program) (start : Start) (claim : Claimer) (at : Sides) (k k' : ℕ) → k ≤ k' → (old : Option Shape) → WasShown p start claim at k old → WasShown p start claim at k' old
shown_on p start claim at k k' le None h = tt
shown_on p start claim at k k' le (Some x) h = (h.0, holds_on (WasTrue p start) (claim at.old (Some x)) k k' (versions x) le h.1)

was_on : (p : Program) (start : Start) (claim : Claimer) (at : Sides) (k k' : ℕ) → k ≤ k' → (old : Option Shape) → WasOne p start claim at k old → WasOne p start claim at k' old
was_on p start claim at k k' le old h = (omega (arith, h.0, le), shown_on p start claim at k k' le old h.1)

shown_opened : (p : Program) (start : Start) (layer : Layer) (at : Sides) (k : ℕ) (old : Option Shape) → WasShown p start (λ v o. layer v (opened o)) at k old → WasHeld p start layer at k (opened old)
shown_opened p start layer at k None h = tt
shown_opened p start layer at k (Some x) h = (h.0, record { right = h.1.right; below = subst (Below k) (versions_out x) h.1.below })

pub by_layer : (p : Program) (start : Start) (run : Sides → Opened → Run Shape) (layer : Layer) → StaysLayer p start run layer → StaysOne p start (λ at old s. run at (opened old) s) (λ v old. layer v (opened old))
by_layer p start run layer stays at old s was =
    more_after (run at (opened old) s) (λ x u. NowLayer p start layer at.new u.counters.next (out-Shape x) × Grows s u) (λ x u. NowOne p start (λ v o. layer v (opened o)) at.new u.counters.next x × Grows s u)
    (stays at (opened old) s (was.0, shown_opened p start layer at s.counters.next old was.1))
    (λ x u h. (record { right = h.0.right; below = subst (Below u.counters.next) (sym (versions_out x)) h.0.below }, h.1))

-- ---- fragments beside one another

-- the shapes of fragments are right on a view
abbrev pub NowAll : Program → Start → Walker → View → ℕ → List Shape → Type 0
NowAll p start walk v k xs = HoldsAll (StaysTrue p start) (walk v xs) k (versions_all xs)

-- nothing was shown, or it is right on the old view, of which the new one is later
abbrev WereShown : Program → Start → Walker → Sides → ℕ → List Shape → Type 0
WereShown p start walk at k olds = (olds ≡ []) ⊎ (AreAllLater start.views at.old at.new × HoldsAll (WasTrue p start) (walk at.old olds) k (versions_all olds))

-- so it is since the start
abbrev pub WereAll : Program → Start → Walker → Sides → ℕ → List Shape → Type 0
WereAll p start walk at k olds = (start.next ≤ k) × WereShown p start walk at k olds

-- a walk gives what is right on the new view
abbrev pub StayAll : Program → Start → plans.Walker → Walker → Type 0
StayAll p start walk claims =
    (at : Sides) (olds : List Shape) (s : State) → WereAll p start claims at s.counters.next olds → After (walk at olds s) (λ xs u. NowAll p start claims at.new u.counters.next xs × Grows s u)

were_shown : (p : Program) (start : Start) (walk : Walker) (at : Sides) (k k' : ℕ) → k ≤ k' → (olds : List Shape) → WereShown p start walk at k olds → WereShown p start walk at k' olds
were_shown p start walk at k k' le olds (inl e) = inl e
were_shown p start walk at k k' le olds (inr h) = inr (h.0, holds_on (WasTrue p start) (walk at.old olds) k k' (versions_all olds) le h.1)

pub were_on : (p : Program) (start : Start) (walk : Walker) (at : Sides) (k k' : ℕ) → k ≤ k' → (olds : List Shape) → WereAll p start walk at k olds → WereAll p start walk at k' olds
were_on p start walk at k k' le olds h = (omega (arith, h.0, le), were_shown p start walk at k k' le olds h.1)

-- something holds of each item of two lists, which are equally long
abbrev pub Pairs : {A B : Type 0} → (A → B → Type 0) → List A → List B → Type 0
Pairs R [] [] = Unit {0}
Pairs R [] (y ∷ ys) = ⊥
Pairs R (x ∷ xs) [] = ⊥
Pairs R (x ∷ xs) (y ∷ ys) = R x y × Pairs R xs ys

pub each_along : {A B : Type 0} (Q : B → Type 0) (f : A → ℕ → List B) (i : ℕ) (xs : List A) → Along (λ x j. Each Q (f x j)) i xs → Each Q (lists.each f i xs)
each_along Q f i [] h = tt
each_along Q f i (x ∷ xs) h = each_append Q (f x i) (lists.each f (suc i) xs) h.0 (each_along Q f (suc i) xs h.1)

pub along_each : {A B : Type 0} (Q : B → Type 0) (f : A → ℕ → List B) (i : ℕ) (xs : List A) → Each Q (lists.each f i xs) → Along (λ x j. Each Q (f x j)) i xs
along_each Q f i [] h = tt
along_each Q f i (x ∷ xs) h = (each_front Q (f x i) (lists.each f (suc i) xs) h, along_each Q f (suc i) xs (each_back Q (f x i) (lists.each f (suc i) xs) h))

was_one : (p : Program) (start : Start) (claim : Claimer) (at : Sides) (k : ℕ) (olds : List Shape) (j : ℕ) → start.next ≤ k → AreAllLater start.views at.old at.new → Below k (versions_all olds) →
    (o : Option Shape) → slice_get olds j ≡ o → Each (WasTrue p start) (claim at.old o) → WasOne p start claim at k o
was_one p start claim at k olds j since all below None e h = (since, tt)
was_one p start claim at k olds j since all below (Some x) e h = (since, (all, record { right = h; below = joined_at (λ n. n < k) versions olds j x below e }))

each_was : (p : Program) (start : Start) (at : Sides) (k : ℕ) (claims : List Claimer) (olds : List Shape) → start.next ≤ k → WereShown p start (claim_each claims) at k olds →
    Along (λ claim j. WasOne p start claim at k (slice_get olds j)) 0 claims
each_was p start at k claims olds since (inl e) =
    subst (λ xs. Along (λ claim j. WasOne p start claim at k (slice_get xs j)) 0 claims) (sym e) (along_of (λ claim j. WasOne p start claim at k (slice_get [] j)) (λ claim j. (since, tt)) 0 claims)
each_was p start at k claims olds since (inr h) =
    along_mono (λ claim j. Each (WasTrue p start) (claim at.old (slice_get olds j))) (λ claim j. WasOne p start claim at k (slice_get olds j))
    (λ claim j q. was_one p start claim at k olds j since h.0 h.1.below (slice_get olds j) refl q) 0 claims (along_each (WasTrue p start) (λ claim j. claim at.old (slice_get olds j)) 0 claims h.1.right.1)

-- each shape is right on a view
abbrev AreNow : Program → Start → View → ℕ → ℕ → List Claimer → List Shape → Type 0
AreNow p start v k i claims xs = Matched (λ claim j x. NowOne p start claim v k x) i claims xs

below_all : (p : Program) (start : Start) (v : View) (k i : ℕ) (claims : List Claimer) (xs : List Shape) → AreNow p start v k i claims xs → Below k (versions_all xs)
below_all p start v k i [] [] h = tt
below_all p start v k i [] (x ∷ xs) h = absurd h
below_all p start v k i (c ∷ claims) [] h = absurd h
below_all p start v k i (c ∷ claims) (x ∷ xs) h = each_append (λ n. n < k) (versions x) (versions_all xs) h.0.below (below_all p start v k (suc i) claims xs h.1)

right_all : (p : Program) (start : Start) (v : View) (k : ℕ) (claims : List Claimer) (xs : List Shape) → AreNow p start v k 0 claims xs → Each (StaysTrue p start) (claim_each claims v xs)
right_all p start v k claims xs h = (
  (matched_length (λ claim j x. NowOne p start claim v k x) 0 claims xs h, tt),
  each_along (StaysTrue p start) (λ claim j. claim v (slice_get xs j)) 0 claims (matched_at (λ claim o. Each (StaysTrue p start) (claim v o)) 0 claims xs (rights 0 claims xs h)),
) where
  rights : (i : ℕ) (cs : List Claimer) (ys : List Shape) → AreNow p start v k i cs ys → Matched (λ claim j x. Each (StaysTrue p start) (claim v (Some x))) i cs ys
  rights i [] [] q = tt
  rights i [] (y ∷ ys) q = q
  rights i (c ∷ cs) [] q = q
  rights i (c ∷ cs) (y ∷ ys) q = (q.0.right, rights (suc i) cs ys q.1)

walk_from : (p : Program) (start : Start) (at : Sides) (olds : List Shape) (i : ℕ) (ps : List plans.Planner) (claims : List Claimer) (s : State) → Pairs (StaysOne p start) ps claims →
    Along (λ claim j. WasOne p start claim at s.counters.next (slice_get olds j)) i claims →
    After (each (λ plan j u. one (plan at (slice_get olds j) u)) i ps s) (λ xs u. AreNow p start at.new u.counters.next i claims xs × Grows s u)
walk_from p start at olds i [] [] s stay was = (tt, grows_same s)
walk_from p start at olds i [] (c ∷ claims) s stay was = absurd stay
walk_from p start at olds i (plan ∷ ps) [] s stay was = absurd stay
walk_from p start at olds i (plan ∷ ps) (c ∷ claims) s stay was =
    cons_after (plan at (slice_get olds i) s) (λ v. each (λ q j u. one (q at (slice_get olds j) u)) (suc i) ps v) (λ x u. NowOne p start c at.new u.counters.next x × Grows s u)
    (λ xs u. AreNow p start at.new u.counters.next i (c ∷ claims) xs × Grows s u) (stay.0 at (slice_get olds i) s was.0)
    (λ x v h. more_after (each (λ q j u. one (q at (slice_get olds j) u)) (suc i) ps v) (λ zs u. AreNow p start at.new u.counters.next (suc i) claims zs × Grows v u)
    (λ zs u. AreNow p start at.new u.counters.next i (c ∷ claims) (x ∷ zs) × Grows s u)
    (walk_from p start at olds (suc i) ps claims v stay.1
    (along_mono (λ claim j. WasOne p start claim at s.counters.next (slice_get olds j)) (λ claim j. WasOne p start claim at v.counters.next (slice_get olds j))
    (λ claim j q. was_on p start claim at s.counters.next v.counters.next h.1 (slice_get olds j) q) (suc i) claims was.1))
    (λ zs u r. ((holds_on (StaysTrue p start) (c at.new (Some x)) v.counters.next u.counters.next (versions x) r.1 h.0, r.0), grows_on s v u h.1 r.1)))

pub walk_stays : (p : Program) (start : Start) (ps : List plans.Planner) (claims : List Claimer) → Pairs (StaysOne p start) ps claims → StayAll p start (plans.plan_each ps) (claim_each claims)
walk_stays p start ps claims stay at olds s were =
    more_after (plans.plan_each ps at olds s) (λ xs u. AreNow p start at.new u.counters.next 0 claims xs × Grows s u) (λ xs u. NowAll p start (claim_each claims) at.new u.counters.next xs × Grows s u)
    (walk_from p start at olds 0 ps claims s stay (each_was p start at s.counters.next claims olds were.0 were.1))
    (λ xs u h. (record { right = right_all p start at.new u.counters.next claims xs h.0; below = below_all p start at.new u.counters.next 0 claims xs h.0 }, h.1))
