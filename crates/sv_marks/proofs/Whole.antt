-- A mark stands at one node of a page at most: what is drawn of an instance has it only where the instance is in the line of the one in whose shapes it stands.
use Rattle.std.proofs.Common.{◌≡◌, ◌≢◌, ⊎_elim, ℕ, zero, suc, ◌≤◌, Bool, true, false, nat_eq, ◌||◌, List, [], ◌∷◌, length, Option, Some, None, refl, sym, ap, ◌∙◌, arith}
use Rattle.std.proofs.lemmas.Bool.{cases_lt, eqb-true, eqb-false}
use Rattle.std.proofs.lemmas.List.{get_or_past}
use Rattle.std.proofs.lemmas.Option.{none-some}
use Rattle.std.specs.Option.{option_map_or}
use Rattle.sv_code.specs.declared.program.Program.{Program}
use Rattle.sv_document.specs.Marks.{marks}
use Rattle.sv_document.specs.declared.tree.Node.{Node}
use Rattle.sv_family.proofs.Held.{given_most, child_by_place}
use Rattle.sv_family.specs.Family.{Family}
use Rattle.sv_family.specs.Kin.{Kins, parent_at}
use Rattle.sv_family.specs.Numbers.{AreNumbers, numbers_in}
use Rattle.sv_fresh.specs.Fresh.{viewed, instance_nodes, page_nodes, drawn}
use Rattle.sv_fresh.specs.Scene.{Tags, markup_at, parts_at}
use Rattle.sv_fresh.specs.Sources.{recorded_view}
use Rattle.sv_marks.proofs.Forms.{held}
use Rattle.sv_marks.proofs.Lines.{line_below, line_once, line_further}
use Rattle.sv_marks.proofs.Markup.{recorded, markup_held}
use Rattle.sv_marks.proofs.Searching.{Found, found_in, alone_in, Counted, counted_below}
use Rattle.sv_marks.proofs.Weights.{weights}
use Rattle.sv_marks.specs.Lines.{one_of, is_up, in_line, stands}
use Rattle.sv_places.proofs.Loads.{numbers-nil}
use Rattle.sv_places.specs.Keeping.{parts_of}
use Rattle.sv_places.specs.Numbers.{count, numbers_all}
use Rattle.sv_plan.specs.Patch.{old_parts}
use Rattle.sv_shapes.specs.Places.{places_all}
use Rattle.sv_shapes.specs.Showing.{Showing, shown_of, child_at}
use Rattle.sv_shapes.specs.declared.shown.Shown.{Shown}
use Rattle.sv_states.specs.declared.states.TheConstants.{DEPTH_LIMIT}
use Rattle.sv_tokens.proofs.Counting.{one-most}
use Rattle.sv_tokens.specs.Counting.{one, times}
use Rattle.sv_view.specs.Level.{View}
use Rattle.sv_world.specs.declared.world.World.{World}

-- who stands at a place, where one of some instances does
record IsStanding (s : Showing) (f : ℕ → Bool) (place : ℕ) : Type 0 where
  child : ℕ
  there : child_at s place ≡ Some child
  is : f child ≡ true

standing : (s : Showing) (f : ℕ → Bool) (place : ℕ) → stands s f place ≡ true → IsStanding s f place
standing s f place = by (child_at s place) refl
  where
    by : (o : Option ℕ) → child_at s place ≡ o → one_of f o ≡ true → IsStanding s f place
    by None e h = absurd (cc)
    by (Some n) e h = record { child = n; there = e; is = h }

-- what is recorded is what is shown
same_parts : (p : Program) (w : World) (s : Showing) (inst n : ℕ) → parts_at (recorded p w s inst) n ≡ parts_of s n
unfolding parts_at
same_parts p w s inst n = by (shown_of s n)
  where
    by : (o : Option Shown) → option_map_or (λ x. x.parts) o [] ≡ old_parts o
    by None = refl
    by (Some x) = refl

module _ (p : Program) (w : World) (ks : Kins) (s : Showing) (next : ℕ) (h : Family p [] None [] ks s next) (k : ℕ) (some : k ≢ 0) where
  abbrev places_at : ℕ → List ℕ
  places_at n = places_all (parts_of s n)

  -- who stands at a place of an instance is a child of it
  owned : (n place c : ℕ) → 1 ≤ count place (places_at n) → child_at s place ≡ Some c → parent_at ks c ≡ Some n
  owned n place c le is = child_by_place [] ks s next h.places [] h.children n place c is (omega (arith, le))

  place_once : (n place : ℕ) → count place (places_at n) ≤ 1
  place_once n place = let o = h.places.once n place in let g = given_most next place in omega (arith, o, g)

  -- ---- where the mark stands in what is shown of one instance at most

  module _ (d : ℕ) (alone : (n : ℕ) → count k (numbers_in s n) ≤ one (nat_eq n d)) where
    abbrev line : ℕ → Bool
    line = in_line ks d

    abbrev at_line : ℕ → Bool
    at_line = stands s line

    -- below that instance nobody is in its line
    none_below : times at_line (places_at d) ≡ 0
    none_below = ⊎_elim (λ none. none) (λ found. absurd (by found (standing s line found.number found.passes))) (found_in at_line (places_at d))
      where
        by : (found : Found at_line (places_at d)) → IsStanding s line found.number → ⊥
        by found c =
            let lt = h.parents.earlier c.child d (owned d found.number c.child found.stands c.there) in
            let le = line_below ks h.parents c.child (suc d) d c.is in
            absurd (omega (arith, lt, le))

    -- of the children of an instance one at most is in the line, and stands at one place
    one_place : (n : ℕ) (a : Found at_line (places_at n)) (b : ℕ) → 1 ≤ count b (places_at n) → at_line b ≡ true → a.number ≡ b
    one_place n a b le is =
        let x = standing s line a.number a.passes in
        let y = standing s line b is in
        let same = line_once ks h.parents x.child y.child n (suc d) d (owned n a.number x.child a.stands x.there) (owned n b y.child le y.there) x.is y.is in
        h.children.once a.number b x.child x.there (y.there ∙ ap Some (sym same))

    -- where one of them is, the instance is
    children_held : (n : ℕ) → times at_line (places_at n) ≤ one (line n)
    children_held n = ⊎_elim (λ none. omega (arith, none)) (λ found. by found (standing s line found.number found.passes)) (found_in at_line (places_at n))
      where
        by : (found : Found at_line (places_at n)) → IsStanding s line found.number → times at_line (places_at n) ≤ one (line n)
        by found c =
            let above = ap one (line_further ks h.parents c.child n (suc d) d (omega arith) (owned n found.number c.child found.stands c.there) c.is) in
            let all = alone_in at_line found.number (places_at n) (one_place n found) in
            let once = place_once n found.number in
            omega (arith, above, all, once)

    -- the shapes of an instance, with those of its children who are in the line
    shapes_held : (n : ℕ) → weights k at_line (parts_of s n) ≤ one (line n)
    shapes_held n = by (nat_eq n d) refl
      where
        by : (b : Bool) → nat_eq n d ≡ b → weights k at_line (parts_of s n) ≤ one (line n)
        by true e =
            let same = eqb-true n d e in
            let mark = alone n in
            let most = one-most (nat_eq n d) in
            let none : times at_line (places_at n) ≡ 0 = ap (λ m. times at_line (places_at m)) same ∙ none_below in
            let here : one (line n) ≡ 1 = ap (λ b. one (b || one_of (is_up ks n d) (parent_at ks d))) e in
            omega (arith, mark, most, none, here)
        by false e =
            let mark = alone n in
            let other = ap one e in
            let children = children_held n in
            omega (arith, mark, other, children)

    -- ---- instances

    viewed_held : (bound : ℕ) (draw : View → List Node) → ((v : View) → held k some at_line (draw v) ≤ bound) → (o : Option View) → held k some at_line (viewed o draw) ≤ bound
    viewed_held bound draw drawn None = omega arith
    viewed_held bound draw drawn (Some v) = drawn v

    -- an instance with all below it has the mark where it is in the line, and once at most
    nodes_held : (room inst : ℕ) (tags : Tags) (owner : Option View) (n : ℕ) → held k some at_line (instance_nodes (recorded p w s inst) room tags owner n) ≤ one (line n)
    unfolding instance_nodes
    nodes_held zero inst tags owner n = omega arith
    nodes_held (suc room) inst tags owner n =
        viewed_held (one (line n)) _ (λ v.
        let walk = markup_held k some p w s n (instance_nodes (recorded p w s n) room) line (nodes_held room n) tags (markup_at (recorded p w s inst) n) v (parts_at (recorded p w s inst) n) in
        let same = ap (weights k at_line) (same_parts p w s inst n) in
        let all = shapes_held n in
        omega (arith, walk, same, all)) (recorded_view s owner n)

    pub drawn_once : count k (marks (drawn p w s)) ≤ 1
    unfolding drawn page_nodes
    drawn_once = let all = nodes_held DEPTH_LIMIT 1 (None ∷ []) None 1 in let most = one-most (line 1) in omega (arith, all, most)

  -- ---- in whose shapes the mark stands

  -- nothing is shown of who isn't live
  none_past : (n : ℕ) → length ks ≤ n → count k (numbers_in s n) ≡ 0
  none_past n past = by (shown_of s n) refl
    where
      by : (o : Option Shown) → shown_of s n ≡ o → count k (numbers_all (old_parts o)) ≡ 0
      by None e = ap (count k) numbers-nil
      by (Some x) e = let shown = h.shown n x e in absurd (none-some shown.kin (sym (get_or_past ks n None past) ∙ shown.live))

  -- the one in whose shapes the mark stands is found, if there is one
  pub page_once : AreNumbers s next → count k (marks (drawn p w s)) ≤ 1
  page_once numbers = ⊎_elim
      (λ there. drawn_once there.number (λ n. apart there n (nat_eq n there.number) refl))
      (λ none. drawn_once 0 (λ n. ⊎_elim (λ lt. let e = none n lt in omega (arith, e)) (λ past. let e = none_past n past in omega (arith, e)) (cases_lt n (length ks))))
      (counted_below (λ n. count k (numbers_in s n)) (length ks))
    where
      apart : (there : Counted (λ n. count k (numbers_in s n))) (n : ℕ) (b : Bool) → nat_eq n there.number ≡ b → count k (numbers_in s n) ≤ one (nat_eq n there.number)
      apart there n true e = let o = numbers.once n k in let g = given_most next k in let is = ap one e in omega (arith, o, g, is)
      apart there n false e =
          let o = numbers.apart n there.number k (eqb-false n there.number e) in let g = given_most next k in let c = there.counts in omega (arith, o, g, c)
