-- Whole markup on views that agree: an induction over fragments.
use Rattle.std.proofs.Common.{◌≡◌, ℕ, zero, suc, Bool, true, false, ◌||◌, List, [], ◌∷◌, ◌++◌, map, Option, Some, None, option_map, refl, sym, ap₂, subst, if◌then◌else◌}
use Rattle.std.specs.Prelude.{slice_get}
use Rattle.sv_agree.proofs.Fitting.{IsIn, IsKeyIn, in_row}
use Rattle.sv_agree.proofs.Forms.{FilledAgrees, AgreesOne, AgreesAll, all_wider, in_first, walk_agrees, agrees_literal, agrees_text, agrees_element, agrees_tag, agrees_slot, agrees_if, agrees_key, agrees_each}
use Rattle.sv_agree.proofs.Scopes.{or_true, part_look}
use Rattle.sv_agree.specs.Agreeing.{OfOwners, in_any, frag_slot, arm_slot, has_slot, slot_in_arm, slot_in_tag, slot_within, AgreesAbove}
use Rattle.sv_agree.specs.Scopes.{Scope, StaysIn}
use Rattle.sv_base.specs.declared.names.Name.{Name}
use Rattle.sv_code.proofs.Each.{each_front, each_back}
use Rattle.sv_code.specs.Content as content
use Rattle.sv_code.specs.Content.{Node, Looks, nodes, node, of_arm}
use Rattle.sv_code.specs.Names.{Each}
use Rattle.sv_code.specs.Parts as parts
use Rattle.sv_code.specs.Within.{IsWithin}
use Rattle.sv_code.specs.declared.fragments.Frag.{Frag, Frag-F, roll-Frag, map-Frag, fold-roll-Frag, ind-Frag}
use Rattle.sv_code.specs.declared.fragments.FragArm.{FragArm, FragArm-F, roll-FragArm, map-FragArm, fold-FragArm, fold-roll-FragArm}
use Rattle.sv_code.specs.declared.parts.Part.{Part}
use Rattle.sv_code.specs.declared.program.Program.{Program}
use Rattle.sv_code.specs.declared.tags.Tag.{Tag}
use Rattle.sv_plan.specs.Plan.{body_at, head}
use Rattle.sv_right.proofs.Forms.{if_layer}
use Rattle.sv_right.proofs.Rows.{each_layer}
use Rattle.sv_right.specs.Claims.{Claimer, Filled, ArmClaims, claim_each, arm_step, step, claimer, walker}
use Rattle.sv_shapes.specs.Shapes.{opened}
use Rattle.sv_view.specs.Level.{View}
use Rattle.sv_view.specs.View.{owner_of}

-- the looks in a fragment, of which those in one for a slot of a name don't count: it shows nothing where it is written
abbrev pub shown_looks : Node → Looks
shown_looks n bound = if n.named then [] else n.looks bound

pub shown_of : (Q : content.Look → Type 0) (n : Node) (bound : List Name) → Each Q (n.looks bound) → Each Q (shown_looks n bound)
shown_of Q n bound h = by n.named
  where
    by : (b : Bool) → Each Q (if b then [] else n.looks bound)
    by true = tt
    by false = h

-- a fragment fits in a scope
abbrev pub FragFits : Program → Scope → Frag → Type 0
FragFits p scope f = Each (IsWithin p) (parts.of_frag f) × Each (StaysIn p scope.reading) (shown_looks (node f) scope.bound)

module _ (p : Program) (depth : ℕ) (tags tags' : List (Option ℕ)) (slot slot' : List ℕ → Option Filled)
    (filled : (name : List ℕ) (v v' : View) → AgreesAbove p depth tags tags' (owner_of v) (owner_of v') → FilledAgrees p depth (slot name) (slot' name) v v')
    (tag_fits : (k : ℕ) (t : Tag) → slice_get p.tags k ≡ Some t → Each (IsWithin p) (parts.of_attrs t.attrs)) where
  abbrev owners : OfOwners
  owners = AgreesAbove p depth tags tags'

  -- whether a slot stands in a fragment, in a branch, in some fragments
  abbrev slotted_frag : Frag → Bool
  slotted_frag = has_slot (slot_in_tag p depth)

  abbrev slotted_arm : FragArm → Bool
  slotted_arm = slot_in_arm (slot_in_tag p depth)

  abbrev slotted_all : List Frag → Bool
  slotted_all = slot_within p depth

  abbrev first_step : Frag-F Claimer ArmClaims → Claimer
  first_step f v old = step tags slot f v (opened old)

  abbrev second_step : Frag-F Claimer ArmClaims → Claimer
  second_step f v old = step tags' slot' f v (opened old)

  abbrev first_of : Frag → Claimer
  first_of = claimer tags slot

  abbrev second_of : Frag → Claimer
  second_of = claimer tags' slot'

  abbrev first_arm : FragArm → ArmClaims
  first_arm = fold-FragArm Claimer ArmClaims first_step arm_step

  abbrev second_arm : FragArm → ArmClaims
  second_arm = fold-FragArm Claimer ArmClaims second_step arm_step

  abbrev arm_parts : FragArm → List Part
  arm_parts = fold-FragArm (List Part) (List Part) parts.frag parts.arm

  abbrev Stays : Scope → content.Look → Type 0
  Stays scope look = StaysIn p scope.reading look

  -- claims on a fragment that fits in a scope agree there
  abbrev FragAgrees : Frag → Type 0
  FragAgrees f = (scope : Scope) → Each (IsWithin p) (parts.of_frag f) → Each (Stays scope) (shown_looks (node f) scope.bound) → AgreesOne p depth owners scope (slotted_frag f) (first_of f) (second_of f)

  -- a branch has the same condition, which fits in the scope, and so does its content
  abbrev ArmPair : Scope → Bool → ArmClaims → ArmClaims → Type 0
  ArmPair scope has a b = ((a.0 ≡ b.0) × IsIn p scope a.0) × AgreesAll p depth owners scope has (claim_each a.1) (claim_each b.1)

  abbrev ArmAgrees : FragArm → Type 0
  ArmAgrees a = (scope : Scope) → Each (IsWithin p) (arm_parts a) → Each (Stays scope) (of_arm a scope.bound) → ArmPair scope (slotted_arm a) (first_arm a) (second_arm a)

  abbrev KnownFrag : Type 0
  KnownFrag = (f : Frag) × FragAgrees f

  abbrev KnownArm : Type 0
  KnownArm = (a : FragArm) × ArmAgrees a

  abbrev bare_frag : Frag-F KnownFrag KnownArm → Frag-F Frag FragArm
  bare_frag = map-Frag KnownFrag KnownArm Frag FragArm (λ x. x.0) (λ x. x.0)

  abbrev bare_arm : FragArm-F KnownFrag KnownArm → FragArm-F Frag FragArm
  bare_arm = map-FragArm KnownFrag KnownArm Frag FragArm (λ x. x.0) (λ x. x.0)

  -- ---- fragments beside one another

  abbrev OneAgrees : Scope → Frag → Type 0
  OneAgrees scope f = AgreesOne p depth owners scope (slotted_frag f) (first_of f) (second_of f)

  known_frags : (fs : List KnownFrag) (scope : Scope) → Each (IsWithin p) (parts.of_frags (map (λ x. x.0) fs)) → Each (Stays scope) (nodes (map node (map (λ x. x.0) fs)) scope.bound) →
      Each (OneAgrees scope) (map (λ x. x.0) fs)
  known_frags [] scope h k = tt
  known_frags (f ∷ fs) scope h k =
      let more = parts.of_frags (map (λ x. x.0) fs) in
      let looks = nodes (map node (map (λ x. x.0) fs)) scope.bound in (
        f.1 scope (each_front (IsWithin p) (parts.of_frag f.0) more h) (shown_of (Stays scope) (node f.0) scope.bound (each_front (Stays scope) ((node f.0).looks scope.bound) looks k)),
        known_frags fs scope (each_back (IsWithin p) (parts.of_frag f.0) more h) (each_back (Stays scope) ((node f.0).looks scope.bound) looks k),
      )

  abbrev AllAgree : Scope → List Frag → Type 0
  AllAgree scope fs = AgreesAll p depth owners scope (slotted_all fs) (claim_each (map first_of fs)) (claim_each (map second_of fs))

  children_agree : (fs : List KnownFrag) (scope : Scope) → Each (IsWithin p) (parts.of_frags (map (λ x. x.0) fs)) → Each (Stays scope) (nodes (map node (map (λ x. x.0) fs)) scope.bound) →
      AllAgree scope (map (λ x. x.0) fs)
  children_agree fs scope h k = walk_agrees p depth owners scope slotted_frag first_of second_of (map (λ x. x.0) fs) (known_frags fs scope h k)

  -- ---- branches

  abbrev ArmFits : Scope → FragArm → Type 0
  ArmFits scope a = ArmPair scope (slotted_arm a) (first_arm a) (second_arm a)

  known_arms : (arms : List KnownArm) (scope : Scope) → Each (IsWithin p) (parts.in_turn (map arm_parts (map (λ x. x.0) arms))) →
      Each (Stays scope) (content.in_turn (map of_arm (map (λ x. x.0) arms)) scope.bound) → Each (ArmFits scope) (map (λ x. x.0) arms)
  known_arms [] scope h k = tt
  known_arms (a ∷ arms) scope h k =
      let more = parts.in_turn (map arm_parts (map (λ x. x.0) arms)) in
      let looks = content.in_turn (map of_arm (map (λ x. x.0) arms)) scope.bound in (
        a.1 scope (each_front (IsWithin p) (arm_parts a.0) more h) (each_front (Stays scope) (of_arm a.0 scope.bound) looks k),
        known_arms arms scope (each_back (IsWithin p) (arm_parts a.0) more h) (each_back (Stays scope) (of_arm a.0 scope.bound) looks k),
      )

  same_tests : (scope : Scope) (arms : List FragArm) → Each (ArmFits scope) arms → map (λ b. b.0) (map first_arm arms) ≡ map (λ b. b.0) (map second_arm arms)
  same_tests scope [] h = refl
  same_tests scope (a ∷ arms) h = ap₂ (λ (t : Part) ts. t ∷ ts) h.0.0.0 (same_tests scope arms h.1)

  tests_in : (scope : Scope) (arms : List FragArm) → Each (ArmFits scope) arms → Each (IsIn p scope) (map (λ b. b.0) (map first_arm arms))
  tests_in scope [] h = tt
  tests_in scope (a ∷ arms) h = (h.0.0.1, tests_in scope arms h.1)

  -- the content of a branch, or of the last one
  body_agrees : (scope : Scope) (arms : List FragArm) (last : List Frag) (i : ℕ) → Each (ArmFits scope) arms → AllAgree scope last →
      AgreesAll p depth owners scope (in_any (map slotted_arm arms) || slotted_all last) (claim_each (body_at (map first_arm arms) (Some (map first_of last)) i)) (claim_each (body_at (map second_arm arms) (Some (map second_of last)) i))
  body_agrees scope [] last i h agrees = agrees
  body_agrees scope (a ∷ arms) last zero h agrees =
      all_wider p depth owners scope (slotted_arm a) (in_any (map slotted_arm (a ∷ arms)) || slotted_all last) (claim_each (first_arm a).1) (claim_each (second_arm a).1)
      (λ e. in_first (slotted_arm a || in_any (map slotted_arm arms)) (slotted_all last) (in_first (slotted_arm a) (in_any (map slotted_arm arms)) e)) h.0.1
  body_agrees scope (a ∷ arms) last (suc i) h agrees =
      all_wider p depth owners scope (in_any (map slotted_arm arms) || slotted_all last) (in_any (map slotted_arm (a ∷ arms)) || slotted_all last)
      (claim_each (body_at (map first_arm arms) (Some (map first_of last)) i)) (claim_each (body_at (map second_arm arms) (Some (map second_of last)) i))
      (or_more (slotted_arm a) (in_any (map slotted_arm arms)) (slotted_all last)) (body_agrees scope arms last i h.1 agrees)
    where
      or_more : (a b c : Bool) → (b || c) ≡ true → ((a || b) || c) ≡ true
      or_more true b c e = refl
      or_more false b c e = e

  -- ---- one layer

  -- the claims on a layer, what is evaluated and looked at in it, and whether a slot stands in it
  abbrev firsts : Frag-F Frag FragArm → Claimer
  firsts x = first_step (map-Frag Frag FragArm Claimer ArmClaims first_of first_arm x)

  abbrev seconds : Frag-F Frag FragArm → Claimer
  seconds x = second_step (map-Frag Frag FragArm Claimer ArmClaims second_of second_arm x)

  abbrev parts_of : Frag-F Frag FragArm → List Part
  parts_of x = parts.frag (map-Frag Frag FragArm (List Part) (List Part) parts.of_frag arm_parts x)

  abbrev node_of : Frag-F Frag FragArm → Node
  node_of x = content.frag (map-Frag Frag FragArm Node Looks node of_arm x)

  abbrev slot_of : Frag-F Frag FragArm → Bool
  slot_of x = frag_slot (slot_in_tag p depth) (map-Frag Frag FragArm Bool Bool slotted_frag slotted_arm x)

  abbrev LayerAgrees : Frag-F Frag FragArm → Type 0
  LayerAgrees x = (scope : Scope) → Each (IsWithin p) (parts_of x) → Each (Stays scope) (shown_looks (node_of x) scope.bound) → AgreesOne p depth owners scope (slot_of x) (firsts x) (seconds x)

  no_last : (arms : List ArmClaims) (i : ℕ) → body_at arms (Some []) i ≡ body_at arms None i
  no_last [] i = refl
  no_last (a ∷ arms) zero = refl
  no_last (a ∷ arms) (suc i) = no_last arms i

  if_agrees : (scope : Scope) (arms : List FragArm) (last : List Frag) (first_last second_last : Option (List Claimer)) →
      ((i : ℕ) → body_at (map first_arm arms) (Some (map first_of last)) i ≡ body_at (map first_arm arms) first_last i) →
      ((i : ℕ) → body_at (map second_arm arms) (Some (map second_of last)) i ≡ body_at (map second_arm arms) second_last i) → Each (ArmFits scope) arms → AllAgree scope last →
      AgreesOne p depth owners scope (in_any (map slotted_arm arms) || slotted_all last)
      (λ v old. if_layer (map (λ b. b.0) (map first_arm arms)) (λ i. claim_each (body_at (map first_arm arms) first_last i)) v (opened old))
      (λ v old. if_layer (map (λ b. b.0) (map second_arm arms)) (λ i. claim_each (body_at (map second_arm arms) second_last i)) v (opened old))
  if_agrees scope arms last first_last second_last e e' fits agrees = λ v v' old.
      agrees_if p depth owners scope (in_any (map slotted_arm arms) || slotted_all last) (map (λ b. b.0) (map first_arm arms)) (map (λ b. b.0) (map second_arm arms))
      (λ i. claim_each (body_at (map first_arm arms) first_last i)) (λ i. claim_each (body_at (map second_arm arms) second_last i)) (same_tests scope arms fits) (tests_in scope arms fits)
      (λ i. subst (λ cs. AgreesAll p depth owners scope (in_any (map slotted_arm arms) || slotted_all last) (claim_each cs) (claim_each (body_at (map second_arm arms) second_last i))) (e i)
      (subst (λ cs. AgreesAll p depth owners scope (in_any (map slotted_arm arms) || slotted_all last) (claim_each (body_at (map first_arm arms) (Some (map first_of last)) i)) (claim_each cs)) (e' i)
      (body_agrees scope arms last i fits agrees))) v v' (opened old)

  key_in : (scope : Scope) (key : Option Part) → Each (IsWithin p) (parts.if_any (λ k. k ∷ []) key) → Each (Stays scope) (content.given (option_map content.of_part key) scope.bound) → IsKeyIn p scope key
  key_in scope None h k = tt
  key_in scope (Some part) h k = (h.0, k.0)

  each_agrees : (scope : Scope) (list : Part) (item : Name) (index : Option Name) (key : Option Part) (body none : List KnownFrag) →
      Each (IsWithin p) (list ∷ (parts.if_any (λ k. k ∷ []) key ++ (parts.of_frags (map (λ x. x.0) body) ++ parts.of_frags (map (λ x. x.0) none)))) →
      Each (Stays scope)
      (part_look scope.bound list ∷ ((content.given (option_map content.of_part key) (content.row_names item index ++ scope.bound) ++ nodes (map node (map (λ x. x.0) body)) (content.row_names item index ++ scope.bound))
      ++ nodes (map node (map (λ x. x.0) none)) scope.bound)) →
      AgreesOne p depth owners scope (slotted_all (map (λ x. x.0) body) || slotted_all (map (λ x. x.0) none))
      (λ v old. each_layer (head list item index key) (claim_each (map first_of (map (λ x. x.0) body))) (claim_each (map first_of (map (λ x. x.0) none))) v (opened old))
      (λ v old. each_layer (head list item index key) (claim_each (map second_of (map (λ x. x.0) body))) (claim_each (map second_of (map (λ x. x.0) none))) v (opened old))
  each_agrees scope list item index key body none h k = λ v v' old.
      let row = in_row (head list item index key) scope in
      let bs = map (λ x. x.0) body in
      let ns = map (λ x. x.0) none in
      let slot = slotted_all bs || slotted_all ns in
      let key_parts = parts.if_any (λ k. k ∷ []) key in
      let rest = each_back (IsWithin p) key_parts (parts.of_frags bs ++ parts.of_frags ns) h.1 in
      let key_looks = content.given (option_map content.of_part key) row.bound in
      let body_looks = nodes (map node bs) row.bound in
      let none_looks = nodes (map node ns) scope.bound in
      let inner = each_front (Stays scope) (key_looks ++ body_looks) none_looks k.1 in
      agrees_each p depth owners scope slot (head list item index key) (claim_each (map first_of bs)) (claim_each (map second_of bs)) (claim_each (map first_of ns)) (claim_each (map second_of ns)) (h.0, k.0)
      (key_in row key (each_front (IsWithin p) key_parts (parts.of_frags bs ++ parts.of_frags ns) h.1) (each_front (Stays scope) key_looks body_looks inner))
      (all_wider p depth owners row (slotted_all bs) slot (claim_each (map first_of bs)) (claim_each (map second_of bs)) (in_first (slotted_all bs) (slotted_all ns))
      (children_agree body row (each_front (IsWithin p) (parts.of_frags bs) (parts.of_frags ns) rest) (each_back (Stays scope) key_looks body_looks inner)))
      (all_wider p depth owners scope (slotted_all ns) slot (claim_each (map first_of ns)) (claim_each (map second_of ns)) (or_true (slotted_all bs) (slotted_all ns))
      (children_agree none scope (each_back (IsWithin p) (parts.of_frags bs) (parts.of_frags ns) rest) (each_back (Stays scope) (key_looks ++ body_looks) none_looks k.1))) v v' (opened old)

  frag_layer : (y : Frag-F KnownFrag KnownArm) → LayerAgrees (bare_frag y)
  frag_layer (Frag-F.Text text) scope h k = λ v v' old. agrees_literal p depth owners scope false v v' (opened old)
  frag_layer (Frag-F.Show part) scope h k = λ v v' old. agrees_text p depth owners scope false part (h.0, k.0) v v' (opened old)
  frag_layer (Frag-F.Element span name attrs children) scope h k = λ v v' old.
      let cs = map (λ x. x.0) children in
      let looks = content.of_attrs attrs scope.bound in
      agrees_element p depth owners scope (slotted_all cs) attrs (claim_each (map first_of cs)) (claim_each (map second_of cs))
      (each_front (IsWithin p) (parts.of_attrs attrs) (parts.of_frags cs) h, each_front (Stays scope) looks (nodes (map node cs) scope.bound) k)
      (children_agree children scope (each_back (IsWithin p) (parts.of_attrs attrs) (parts.of_frags cs) h) (each_back (Stays scope) looks (nodes (map node cs) scope.bound) k)) v v' (opened old)
  frag_layer (Frag-F.Tag tag reads) scope h k = λ v v' old. agrees_tag p depth scope tags tags' tag reads (tag_fits tag) k.0 v v' (opened old)
  frag_layer (Frag-F.Named name lets inner) scope h k = λ v v' old a. tt
  frag_layer (Frag-F.Slot span name attrs own reads) scope h k = λ v v' old.
      let os = map (λ x. x.0) own in
      let looks = content.of_attrs attrs scope.bound in
      agrees_slot p depth owners scope (slotted_all os) attrs (slot name) (slot' name) (claim_each (map first_of os)) (claim_each (map second_of os))
      (each_front (IsWithin p) (parts.of_attrs attrs) (parts.of_frags os) h, each_front (Stays scope) looks (nodes (map node os) scope.bound) k.1) (filled name)
      (children_agree own scope (each_back (IsWithin p) (parts.of_attrs attrs) (parts.of_frags os) h) (each_back (Stays scope) looks (nodes (map node os) scope.bound) k.1)) v v' (opened old)
  frag_layer (Frag-F.If arms None) scope h k =
      let bare = map (λ x. x.0) arms in
      if_agrees scope bare [] None None (no_last (map first_arm bare)) (no_last (map second_arm bare))
      (known_arms arms scope (each_front (IsWithin p) (parts.in_turn (map arm_parts bare)) [] h) (each_front (Stays scope) (content.in_turn (map of_arm bare) scope.bound) [] k)) (children_agree [] scope tt tt)
  frag_layer (Frag-F.If arms (Some last)) scope h k =
      let bare = map (λ x. x.0) arms in
      let ls = map (λ x. x.0) last in
      let own = parts.in_turn (map arm_parts bare) in
      let looks = content.in_turn (map of_arm bare) scope.bound in
      if_agrees scope bare ls (Some (map first_of ls)) (Some (map second_of ls)) (λ i. refl) (λ i. refl)
      (known_arms arms scope (each_front (IsWithin p) own (parts.of_frags ls) h) (each_front (Stays scope) looks (nodes (map node ls) scope.bound) k))
      (children_agree last scope (each_back (IsWithin p) own (parts.of_frags ls) h) (each_back (Stays scope) looks (nodes (map node ls) scope.bound) k))
  frag_layer (Frag-F.Each list item index key body None) scope h k = each_agrees scope list item index key body [] h k
  frag_layer (Frag-F.Each list item index key body (Some none)) scope h k = each_agrees scope list item index key body none h k
  frag_layer (Frag-F.Key part body) scope h k = λ v v' old.
      let bs = map (λ x. x.0) body in
      agrees_key p depth owners scope (slotted_all bs) part (claim_each (map first_of bs)) (claim_each (map second_of bs)) (h.0, k.0) (children_agree body scope h.1 k.1) v v' (opened old)

  -- ---- whole fragments

  frag_whole : (x : Frag-F Frag FragArm) (y : Frag-F KnownFrag KnownArm) → bare_frag y ≡ x → FragAgrees (roll-Frag x)
  frag_whole x y e scope h k =
      subst (λ b. AgreesOne p depth owners scope b (first_of (roll-Frag x)) (second_of (roll-Frag x))) (sym (fold-roll-Frag Bool Bool (frag_slot (slot_in_tag p depth)) arm_slot x))
      (subst (λ c. AgreesOne p depth owners scope (slot_of x) c (second_of (roll-Frag x))) (sym (fold-roll-Frag Claimer ArmClaims first_step arm_step x))
      (subst (AgreesOne p depth owners scope (slot_of x) (firsts x)) (sym (fold-roll-Frag Claimer ArmClaims second_step arm_step x))
      (subst LayerAgrees e (frag_layer y) scope (subst (Each (IsWithin p)) (fold-roll-Frag (List Part) (List Part) parts.frag parts.arm x) h)
      (subst (λ n. Each (Stays scope) (shown_looks n scope.bound)) (fold-roll-Frag Node Looks content.frag content.arm x) k))))

  abbrev ArmLayer : FragArm-F Frag FragArm → Type 0
  ArmLayer x =
      (scope : Scope) → Each (IsWithin p) (parts.arm (map-FragArm Frag FragArm (List Part) (List Part) parts.of_frag arm_parts x)) →
      Each (Stays scope) (content.arm (map-FragArm Frag FragArm Node Looks node of_arm x) scope.bound) →
      ArmPair scope (arm_slot (map-FragArm Frag FragArm Bool Bool slotted_frag slotted_arm x)) (arm_step (map-FragArm Frag FragArm Claimer ArmClaims first_of first_arm x))
      (arm_step (map-FragArm Frag FragArm Claimer ArmClaims second_of second_arm x))

  arm_layer : (y : FragArm-F KnownFrag KnownArm) → ArmLayer (bare_arm y)
  arm_layer y scope h k = ((refl, (h.0, k.0)), children_agree y.body scope h.1 k.1)

  arm_whole : (x : FragArm-F Frag FragArm) (y : FragArm-F KnownFrag KnownArm) → bare_arm y ≡ x → ArmAgrees (roll-FragArm x)
  arm_whole x y e scope h k =
      subst (λ b. ArmPair scope b (first_arm (roll-FragArm x)) (second_arm (roll-FragArm x))) (sym (fold-roll-FragArm Bool Bool (frag_slot (slot_in_tag p depth)) arm_slot x))
      (subst (λ c. ArmPair scope (arm_slot (map-FragArm Frag FragArm Bool Bool slotted_frag slotted_arm x)) c (second_arm (roll-FragArm x))) (sym (fold-roll-FragArm Claimer ArmClaims first_step arm_step x))
      (subst (ArmPair scope (arm_slot (map-FragArm Frag FragArm Bool Bool slotted_frag slotted_arm x)) (arm_step (map-FragArm Frag FragArm Claimer ArmClaims first_of first_arm x)))
      (sym (fold-roll-FragArm Claimer ArmClaims second_step arm_step x))
      (subst ArmLayer e (arm_layer y) scope (subst (Each (IsWithin p)) (fold-roll-FragArm (List Part) (List Part) parts.frag parts.arm x) h)
      (subst (λ looks. Each (Stays scope) (looks scope.bound)) (fold-roll-FragArm Node Looks content.frag content.arm x) k))))

  frags_agree : (fs : List Frag) (scope : Scope) → Each (FragFits p scope) fs → Each (OneAgrees scope) fs
  frags_agree [] scope h = tt
  frags_agree (f ∷ fs) scope h = (ind-Frag FragAgrees ArmAgrees frag_whole arm_whole f scope h.0.0 h.0.1, frags_agree fs scope h.1)

  -- whole markup agrees
  pub walker_agrees : (fs : List Frag) (scope : Scope) → Each (FragFits p scope) fs → AgreesAll p depth owners scope (slotted_all fs) (walker tags slot fs) (walker tags' slot' fs)
  walker_agrees fs scope h = walk_agrees p depth owners scope slotted_frag first_of second_of fs (frags_agree fs scope h)
