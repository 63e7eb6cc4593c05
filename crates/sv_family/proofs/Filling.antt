-- Each tag of a component has its child, while children come and go.
use Rattle.std.proofs.Common.{◌≡◌, ◌≢◌, ◌⊎◌, ⊎_elim, inl, inr, ℕ, ◌+◌, ◌≤◌, ◌<◌, Bool, true, false, nat_eq, List, [], ◌∷◌, ◌++◌, Option, None, Some, is_some, if◌then◌else◌, refl, sym, ap, subst, ◌∙◌, arith}
use Rattle.std.specs.Prelude.{slice_get, slice_set}
use Rattle.std.proofs.lemmas.Bool.{cases_eq, eq-eqb}
use Rattle.sv_code.proofs.Each.{each_mono}
use Rattle.sv_code.specs.Names.{Each}
use Rattle.sv_code.specs.declared.program.Component.{Component}
use Rattle.sv_code.specs.declared.program.Program.{Program}
use Rattle.sv_code.specs.declared.tags.Tag.{Tag}
use Rattle.sv_family.proofs.Course.{MakesNone}
use Rattle.sv_family.proofs.Going.{childless, holds-stay}
use Rattle.sv_family.proofs.Held.{given_most, held_places, same_owner, kid_loads}
use Rattle.sv_family.proofs.Holding.{each_both}
use Rattle.sv_family.proofs.Passing.{own, leaving_at, leaving-head, pending-done, child-absent}
use Rattle.sv_family.proofs.Removal.{found-before, found-other}
use Rattle.sv_family.proofs.Staying.{Stay, shown_holds}
use Rattle.sv_family.specs.Family.{Family, IsShown, IsFilled, AreFilled, holds_in}
use Rattle.sv_family.specs.Kin.{Kins, parent_at}
use Rattle.sv_family.specs.Pending.{Pending, pending_of, AreBefore}
use Rattle.sv_meaning.specs.Components.{component_at}
use Rattle.sv_parts.specs.declared.state.Effect.{Effect}
use Rattle.sv_parts.specs.declared.state.Effect.TheVariants.{Create, Set, Destroy}
use Rattle.sv_parts.specs.declared.state.Given.{Given}
use Rattle.sv_places.proofs.Lookups.{found-put, found-put_other, found-left}
use Rattle.sv_places.specs.Keeping.{parts_of, destroyed_by}
use Rattle.sv_places.specs.Numbers.{count, given}
use Rattle.sv_shapes.specs.Places.{places_all}
use Rattle.sv_shapes.specs.Showing.{Showing, shown_of, child_at, places_of, with_child, without_child, removed}
use Rattle.sv_shapes.specs.declared.shown.Shown.{Shown}
use Rattle.sv_stands.proofs.Stands.{places_held}
use Rattle.sv_stands.specs.Holds.{Hold}
use Rattle.sv_places.specs.Any.{Any}
use Rattle.sv_stands.specs.Lent.{Makes}
use Rattle.sv_tokens.specs.Counting.{one}
use Rattle.sv_view.specs.Level.{View}

-- ---- effects

-- one of those that are to run is the first, or one of the others
pub any_next : (Q : Effect → Type 0) (pend : Pending) (q : ℕ) (e : Effect) (es : List Effect) (r : ℕ) → Any Q (pending_of ((q, e ∷ es) ∷ pend) r) → Q e ⊎ Any Q (pending_of ((q, es) ∷ pend) r)
any_next Q pend q e es r = by (nat_eq q r) where
  by : (b : Bool) → Any Q ((if b then e ∷ es else []) ++ pending_of pend r) → Q e ⊎ Any Q ((if b then es else []) ++ pending_of pend r)
  by true h = h
  by false h = inr h

-- an effect that makes no child is done
pub filled_next : (p : Program) (pend : Pending) (q : ℕ) (e : Effect) (es : List Effect) (ks : Kins) (s : Showing) →
    ((h : Hold) (t : Tag) (c : Component) → slice_get p.tags h.tag ≡ Some t → component_at p t.file ≡ Some c → Makes h e → ⊥) → AreFilled p ((q, e ∷ es) ∷ pend) [] ks s → AreFilled p ((q, es) ∷ pend) [] ks s
filled_next p pend q e es ks s none f r x is = ⊎_elim (λ gone. absurd gone) (λ all. inr (each_mono _ _ one_filled (holds_in p ks r x) all)) (f r x is)
  where
    one_filled : (h : Hold) → IsFilled p s (pending_of ((q, e ∷ es) ∷ pend) r) h → IsFilled p s (pending_of ((q, es) ∷ pend) r) h
    one_filled h filled t c tag comp = ⊎_elim (λ there. inl there) (λ made. ⊎_elim (λ first. absurd (none h t c tag comp first)) (λ later. inr later) (any_next (Makes h) pend q e es r made)) (filled t c tag comp)

pub filled_ends : (p : Program) (pend : Pending) (q : ℕ) (ks : Kins) (s : Showing) → AreFilled p ((q, []) ∷ pend) [] ks s → AreFilled p pend [] ks s
filled_ends p pend q ks s f r x is = subst (λ es. Any (λ l. l ≡ r) [] ⊎ Each (IsFilled p s es) (holds_in p ks r x)) (pending-done pend q r) (f r x is)

pub filled_sets : (p : Program) (pend : Pending) (q place : ℕ) (props : List Given) (view : Option View) (es : List Effect) (ks : Kins) (s : Showing) → AreFilled p ((q, Set place props view ∷ es) ∷ pend) [] ks s →
    AreFilled p ((q, es) ∷ pend) [] ks s
filled_sets p pend q place props view es ks s f = filled_next p pend q (Set place props view) es ks s (λ h t c tag comp m. m) f

pub filled_creates : (p : Program) (pend : Pending) (q place t : ℕ) (props : List Given) (view : View) (es : List Effect) (ks : Kins) (s : Showing) → MakesNone p t →
    AreFilled p ((q, Create place t props view ∷ es) ∷ pend) [] ks s → AreFilled p ((q, es) ∷ pend) [] ks s
filled_creates p pend q place t props view es ks s none f =
    filled_next p pend q (Create place t props view) es ks s (λ h tag c is comp m. none tag c (ap (slice_get p.tags) m.1 ∙ is) comp) f

pub filled_destroys : (p : Program) (pend : Pending) (q place : ℕ) (es : List Effect) (ks : Kins) (s : Showing) → child_at s place ≡ None → AreFilled p ((q, Destroy place ∷ es) ∷ pend) [] ks s →
    AreFilled p ((q, es) ∷ pend) [] ks (without_child s place)
filled_destroys p pend q place es ks s none f =
    subst (λ t. AreFilled p ((q, es) ∷ pend) [] ks t) (sym (child-absent s place none)) (filled_next p pend q (Destroy place) es ks s (λ h t c tag comp m. m) f)

-- ---- places

-- the place of each of some holds counts
each_counted : (hs all : List Hold) → ((n : ℕ) → count n (places_held hs) ≤ count n (places_held all)) → Each (λ h. 1 ≤ count h.place (places_held all)) hs
each_counted [] all le = tt
each_counted (x ∷ hs) all le =
    (let e : one (nat_eq x.place x.place) ≡ 1 = ap one (eq-eqb x.place x.place refl) in let l = le x.place in omega (arith, e, l), each_counted hs all (λ n. let l = le n in omega (arith, l)))

shown_counted : (p : Program) (ks : Kins) (s : Showing) (q : ℕ) (x : Shown) → shown_of s q ≡ Some x → IsShown p ks q x → Each (λ h. 1 ≤ count h.place (places_all (parts_of s q))) (holds_in p ks q x)
shown_counted p ks s q x is shown =
    subst (λ l. Each (λ h. 1 ≤ count h.place l) (holds_in p ks q x)) (held_places p ks s q x is shown) (each_counted (holds_in p ks q x) (holds_in p ks q x) (λ n. omega arith))

-- at another place the same child stands, and none more is to be made
module _ (p : Program) (s : Showing) (place : ℕ) (was now : List Effect) (less : (h : Hold) → Any (Makes h) was → Any (Makes h) now) where
  filled_beside : (h : Hold) → h.place ≢ place → IsFilled p s was h → IsFilled p (without_child s place) now h
  filled_beside h other filled t c tag comp =
      ⊎_elim (λ there. inl (ap is_some (found-left s.children place h.place other) ∙ there)) (λ made. inr (less h made)) (filled t c tag comp)

  filled_around : (hs : List Hold) → Each (λ h. h.place ≢ place) hs → Each (IsFilled p s was) hs → Each (IsFilled p (without_child s place) now) hs
  filled_around hs others all = each_both (λ h. h.place ≢ place) (IsFilled p s was) (IsFilled p (without_child s place) now) filled_beside hs others all

-- a child of an instance that is leaving leaves
pub filled_leaves : (p : Program) (pend : Pending) (leaving : List ℕ) (q place n : ℕ) (ks : Kins) (s : Showing) (next : ℕ) → child_at s place ≡ Some n → parent_at ks n ≡ Some q → Any (λ l. l ≡ q) leaving →
    Family p pend None leaving ks s next → AreFilled p pend leaving ks s → AreFilled p pend (n ∷ leaving) ks (without_child s place)
filled_leaves p pend leaving q place n ks s next child parent going f filled r x is = ⊎_elim
    (λ same. inl (inr (subst (λ k. Any (λ l. l ≡ k) leaving) (sym same) going)))
    (λ other. ⊎_elim
    (λ gone. inl (inr gone))
    (λ all. inr (filled_around p s place (pending_of pend r) (pending_of pend r) (λ h m. m) (holds_in p ks r x)
    (each_mono _ _ (λ h counts same. other (owner other h counts same)) (holds_in p ks r x) (shown_counted p ks s r x is (f.shown r x is))) all))
    (filled r x is))
    (cases_eq r q)
  where
    owner : r ≢ q → (h : Hold) → 1 ≤ count h.place (places_all (parts_of s r)) → h.place ≡ place → r ≡ q
    owner other h counts same =
        same_owner pend ks s next f.places r q place
        (let a : 1 ≤ count place (places_all (parts_of s r)) = subst (λ l. 1 ≤ count l (places_all (parts_of s r))) same counts in omega (arith, a))
        (let k = kid_loads pend ks s next f.places q place n child parent in omega (arith, k))

-- a place that is to be left is one that no instance shows
left_unshown : (p : Program) (pend : Pending) (q place : ℕ) (es : List Effect) (ks : Kins) (s : Showing) (next : ℕ) → Family p ((q, Destroy place ∷ es) ∷ pend) None [] ks s next → (r : ℕ) →
    1 ≤ count place (places_all (parts_of s r)) → ⊥
left_unshown p pend q place es ks s next f r counts = ⊎_elim
    (λ same.
    let c : 1 ≤ count place (places_all (parts_of s q)) = subst (λ k. 1 ≤ count place (places_all (parts_of s k))) same counts in
    let o = f.places.once q place in
    absurd (omega (arith, c, o, g, l)))
    (λ other. let a = f.places.apart r q place other in absurd (omega (arith, counts, a, g, l)))
    (cases_eq r q)
  where
    g : given 0 next place ≤ 1
    g = given_most next place

    l : 1 ≤ leaving_at ((q, Destroy place ∷ es) ∷ pend) q place
    l =
        let a = leaving-head pend q (Destroy place) es q place in
        let b : own (nat_eq q q) (count place (destroyed_by (Destroy place))) ≡ count place (destroyed_by (Destroy place)) = ap (λ b. own b (count place (destroyed_by (Destroy place)))) (eq-eqb q q refl) in
        let c : count place (destroyed_by (Destroy place)) ≡ 1 = ap (λ b. one b + 0) (eq-eqb place place refl) in
        omega (arith, a, b, c)

-- the child at such a place leaves
pub filled_leaves_destroyed : (p : Program) (pend : Pending) (q place : ℕ) (es : List Effect) (n : ℕ) (ks : Kins) (s : Showing) (next : ℕ) → Family p ((q, Destroy place ∷ es) ∷ pend) None [] ks s next →
    AreFilled p ((q, Destroy place ∷ es) ∷ pend) [] ks s → AreFilled p ((q, es) ∷ pend) (n ∷ []) ks (without_child s place)
filled_leaves_destroyed p pend q place es n ks s next f filled r x is = ⊎_elim
    (λ gone. absurd gone)
    (λ all. inr (filled_around p s place (pending_of ((q, Destroy place ∷ es) ∷ pend) r) (pending_of ((q, es) ∷ pend) r)
    (λ h m. ⊎_elim (λ none. absurd none) (λ more. more) (any_next (Makes h) pend q (Destroy place) es r m)) (holds_in p ks r x)
    (each_mono _ _ (λ h counts same. left_unshown p pend q place es ks s next f r (subst (λ l. 1 ≤ count l (places_all (parts_of s r))) same counts)) (holds_in p ks r x) (shown_counted p ks s r x is (f.shown r x is))) all))
    (filled r x is)

-- who has no children goes
pub filled_goes : (p : Program) (pend : Pending) (leaving : List ℕ) (n : ℕ) (ks : Kins) (s : Showing) (next : ℕ) → AreBefore n pend → Each (λ l. l < n) leaving →
    ((place : ℕ) → Any (λ l. l ≡ place) (places_of s n) → child_at s place ≡ None) → Family p pend None (n ∷ leaving) ks s next → AreFilled p pend (n ∷ leaving) ks s →
    AreFilled p pend leaving (slice_set ks n None) (removed s n)
filled_goes p pend leaving n ks s next before earlier nobody f filled q x is =
    let other = found-other n q s.shown x f.sorted is in
    let was = found-before n q s.shown x f.sorted is in
    ⊎_elim
    (λ gone. ⊎_elim (λ same. absurd (other (sym same))) (λ more. inl more) gone)
    (λ all. inr (subst (Each (IsFilled p s (pending_of pend q))) (sym (holds-stay ks n (childless p pend leaving n ks s next before earlier nobody f) p s f.sorted f.lent q x other (f.shown q x was))) all))
    (filled q x was)

-- ---- children that are made

-- all stay
pub filled_stays : (p : Program) (pend : Pending) (new : Option ℕ) (leaving : List ℕ) (ks later : Kins) (s : Showing) (next : ℕ) → Stay ks later → Family p pend new leaving ks s next → AreFilled p pend leaving ks s →
    AreFilled p pend leaving later s
filled_stays p pend new leaving ks later s next stay f filled q x is =
    subst (λ hs. Any (λ l. l ≡ q) leaving ⊎ Each (IsFilled p s (pending_of pend q)) hs) (sym (shown_holds ks later stay f.parents p q x (f.shown q x is))) (filled q x is)

-- and one more stands at a place
pub filled_makes : (p : Program) (pend : Pending) (q place t : ℕ) (props : List Given) (view : View) (es : List Effect) (n : ℕ) (ks : Kins) (s : Showing) → AreFilled p ((q, Create place t props view ∷ es) ∷ pend) [] ks s →
    AreFilled p ((q, es) ∷ pend) [] ks (with_child s place n)
filled_makes p pend q place t props view es n ks s filled r x is = ⊎_elim (λ gone. absurd gone) (λ all. inr (each_mono _ _ one_filled (holds_in p ks r x) all)) (filled r x is)
  where
    here : (a : ℕ) → place ≡ a → is_some (child_at (with_child s place n) a) ≡ true
    here a same = ap (λ z. is_some (child_at (with_child s place n) z)) (sym same) ∙ ap is_some (found-put s.children place n)

    there : (a : ℕ) → is_some (child_at s a) ≡ true → is_some (child_at (with_child s place n) a) ≡ true
    there a some = ⊎_elim (λ same. here a (sym same)) (λ other. ap is_some (found-put_other s.children place n a other) ∙ some) (cases_eq a place)

    one_filled : (h : Hold) → IsFilled p s (pending_of ((q, Create place t props view ∷ es) ∷ pend) r) h → IsFilled p (with_child s place n) (pending_of ((q, es) ∷ pend) r) h
    one_filled h was tag c is_tag comp = ⊎_elim
        (λ some. inl (there h.place some))
        (λ made. ⊎_elim (λ first. inl (here h.place first.0)) (λ later. inr later) (any_next (Makes h) pend q (Create place t props view) es r made))
        (was tag c is_tag comp)
