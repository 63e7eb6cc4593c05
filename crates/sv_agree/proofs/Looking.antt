-- Where a slot stands in fragments, something looks there: the slot itself, or a tag in whose content one counts.
use Rattle.std.proofs.Common.{◌≡◌, ℕ, Bool, true, false, ◌||◌, List, [], ◌∷◌, ◌++◌, map, Option, Some, None, option_map, refl, sym, subst, true≢false, if◌then◌else◌}
use Rattle.sv_agree.specs.Agreeing.{Counts, in_any, frag_slot, arm_slot, has_slot, slot_in_arm, have_slot}
use Rattle.sv_base.specs.declared.names.Name.{Name}
use Rattle.sv_code.proofs.Each.{each_front, each_back}
use Rattle.sv_code.specs.Content as content
use Rattle.sv_code.specs.Content.{Look, ByTag, BySlot, Node, Looks, nodes, node, of_arm, in_content, let_names, row_names}
use Rattle.sv_code.specs.Names.{Each}
use Rattle.sv_code.specs.declared.fragments.Frag.{Frag, Frag-F, roll-Frag, map-Frag, fold-roll-Frag, ind-Frag}
use Rattle.sv_code.specs.declared.fragments.FragArm.{FragArm, FragArm-F, roll-FragArm, map-FragArm, fold-roll-FragArm}
use Rattle.sv_code.specs.declared.parts.Part.{Part}
use Rattle.sv_code.specs.declared.parts.Reading.{Reading}

or_either : {G : Type 0} (a b : Bool) → (a || b) ≡ true → (a ≡ true → G) → (b ≡ true → G) → G
or_either true b e f g = f refl
or_either false b e f g = g e

module _ (counts : Counts) (P : Look → Type 0) (G : Type 0) (by_slot : (bound : List Name) (reads : Reading) → P (record { by = BySlot; bound = bound; reads = reads }) → G)
    (by_tag : (bound : List Name) (tag : ℕ) (reads : Reading) → counts tag ≡ true → P (record { by = ByTag tag; bound = bound; reads = reads }) → G) where
  none : false ≡ true → G
  none e = absurd (true≢false (sym e))

  abbrev FragLooks : Frag → Type 0
  FragLooks f = (bound : List Name) → has_slot counts f ≡ true → Each P ((node f).looks bound) → G

  abbrev ArmLooks : FragArm → Type 0
  ArmLooks a = (bound : List Name) → slot_in_arm counts a ≡ true → Each P (of_arm a bound) → G

  abbrev KnownFrag : Type 0
  KnownFrag = (f : Frag) × FragLooks f

  abbrev KnownArm : Type 0
  KnownArm = (a : FragArm) × ArmLooks a

  abbrev bare_frag : Frag-F KnownFrag KnownArm → Frag-F Frag FragArm
  bare_frag = map-Frag KnownFrag KnownArm Frag FragArm (λ x. x.0) (λ x. x.0)

  abbrev bare_arm : FragArm-F KnownFrag KnownArm → FragArm-F Frag FragArm
  bare_arm = map-FragArm KnownFrag KnownArm Frag FragArm (λ x. x.0) (λ x. x.0)

  known_frags : (fs : List KnownFrag) (bound : List Name) → have_slot counts (map (λ x. x.0) fs) ≡ true → Each P (nodes (map node (map (λ x. x.0) fs)) bound) → G
  known_frags [] bound e h = none e
  known_frags (f ∷ fs) bound e h =
      let looks = (node f.0).looks bound in
      let more = nodes (map node (map (λ x. x.0) fs)) bound in
      or_either (has_slot counts f.0) (have_slot counts (map (λ x. x.0) fs)) e (λ q. f.1 bound q (each_front P looks more h)) (λ q. known_frags fs bound q (each_back P looks more h))

  known_arms : (arms : List KnownArm) (bound : List Name) → in_any (map (slot_in_arm counts) (map (λ x. x.0) arms)) ≡ true → Each P (content.in_turn (map of_arm (map (λ x. x.0) arms)) bound) → G
  known_arms [] bound e h = none e
  known_arms (a ∷ arms) bound e h =
      let looks = of_arm a.0 bound in
      let more = content.in_turn (map of_arm (map (λ x. x.0) arms)) bound in
      or_either (slot_in_arm counts a.0) (in_any (map (slot_in_arm counts) (map (λ x. x.0) arms))) e (λ q. a.1 bound q (each_front P looks more h)) (λ q. known_arms arms bound q (each_back P looks more h))

  abbrev LayerLooks : Frag-F Frag FragArm → Type 0
  LayerLooks x =
      (bound : List Name) → frag_slot counts (map-Frag Frag FragArm Bool Bool (has_slot counts) (slot_in_arm counts) x) ≡ true →
      Each P ((content.frag (map-Frag Frag FragArm Node Looks node of_arm x)).looks bound) → G

  if_looks : (arms : List KnownArm) (last : List KnownFrag) (bound : List Name) → (in_any (map (slot_in_arm counts) (map (λ x. x.0) arms)) || have_slot counts (map (λ x. x.0) last)) ≡ true →
      Each P (content.in_turn (map of_arm (map (λ x. x.0) arms)) bound ++ nodes (map node (map (λ x. x.0) last)) bound) → G
  if_looks arms last bound e h =
      let looks = content.in_turn (map of_arm (map (λ x. x.0) arms)) bound in
      let more = nodes (map node (map (λ x. x.0) last)) bound in
      or_either (in_any (map (slot_in_arm counts) (map (λ x. x.0) arms))) (have_slot counts (map (λ x. x.0) last)) e (λ q. known_arms arms bound q (each_front P looks more h))
      (λ q. known_frags last bound q (each_back P looks more h))

  each_looks : (key : Option Part) (names : List Name) (body rest : List KnownFrag) (bound : List Name) → (have_slot counts (map (λ x. x.0) body) || have_slot counts (map (λ x. x.0) rest)) ≡ true →
      Each P ((content.given (option_map content.of_part key) (names ++ bound) ++ nodes (map node (map (λ x. x.0) body)) (names ++ bound)) ++ nodes (map node (map (λ x. x.0) rest)) bound) → G
  each_looks key names body rest bound e h =
      let keys = content.given (option_map content.of_part key) (names ++ bound) in
      let looks = nodes (map node (map (λ x. x.0) body)) (names ++ bound) in
      let more = nodes (map node (map (λ x. x.0) rest)) bound in
      or_either (have_slot counts (map (λ x. x.0) body)) (have_slot counts (map (λ x. x.0) rest)) e (λ q. known_frags body (names ++ bound) q (each_back P keys looks (each_front P (keys ++ looks) more h)))
      (λ q. known_frags rest bound q (each_back P (keys ++ looks) more h))

  frag_layer : (y : Frag-F KnownFrag KnownArm) → LayerLooks (bare_frag y)
  frag_layer (Frag-F.Text text) bound e h = none e
  frag_layer (Frag-F.Show part) bound e h = none e
  frag_layer (Frag-F.Element span name attrs children) bound e h =
      known_frags children bound e (each_back P (content.of_attrs attrs bound) (nodes (map node (map (λ x. x.0) children)) bound) h)
  frag_layer (Frag-F.Tag tag reads) bound e h = by_tag bound tag reads e h.0
  frag_layer (Frag-F.Named name lets inner) bound e h = inner.1 (let_names lets ++ bound) e h
  frag_layer (Frag-F.Slot span name attrs own reads) bound e h = by_slot bound reads h.0
  frag_layer (Frag-F.If arms None) bound e h = if_looks arms [] bound e h
  frag_layer (Frag-F.If arms (Some last)) bound e h = if_looks arms last bound e h
  frag_layer (Frag-F.Each list item index key body None) bound e h = each_looks key (row_names item index) body [] bound e h.1
  frag_layer (Frag-F.Each list item index key body (Some rest)) bound e h = each_looks key (row_names item index) body rest bound e h.1
  frag_layer (Frag-F.Key part body) bound e h = known_frags body bound e h.1

  frag_whole : (x : Frag-F Frag FragArm) (y : Frag-F KnownFrag KnownArm) → bare_frag y ≡ x → FragLooks (roll-Frag x)
  frag_whole x y q bound e h =
      subst LayerLooks q (frag_layer y) bound (subst (λ b. b ≡ true) (fold-roll-Frag Bool Bool (frag_slot counts) arm_slot x) e)
      (subst (λ (n : Node). Each P (n.looks bound)) (fold-roll-Frag Node Looks content.frag content.arm x) h)

  abbrev ArmLayer : FragArm-F Frag FragArm → Type 0
  ArmLayer x =
      (bound : List Name) → arm_slot (map-FragArm Frag FragArm Bool Bool (has_slot counts) (slot_in_arm counts) x) ≡ true → Each P (content.arm (map-FragArm Frag FragArm Node Looks node of_arm x) bound) → G

  arm_layer : (y : FragArm-F KnownFrag KnownArm) → ArmLayer (bare_arm y)
  arm_layer y bound e h = known_frags y.body bound e h.1

  arm_whole : (x : FragArm-F Frag FragArm) (y : FragArm-F KnownFrag KnownArm) → bare_arm y ≡ x → ArmLooks (roll-FragArm x)
  arm_whole x y q bound e h =
      subst ArmLayer q (arm_layer y) bound (subst (λ b. b ≡ true) (fold-roll-FragArm Bool Bool (frag_slot counts) arm_slot x) e)
      (subst (λ (looks : Looks). Each P (looks bound)) (fold-roll-FragArm Node Looks content.frag content.arm x) h)

  -- ---- fragments and content

  pub frags_look : (fs : List Frag) (bound : List Name) → have_slot counts fs ≡ true → Each P (content.of_frags fs bound) → G
  frags_look [] bound e h = none e
  frags_look (f ∷ fs) bound e h =
      let looks = (node f).looks bound in
      let more = content.of_frags fs bound in
      or_either (has_slot counts f) (have_slot counts fs) e (λ q. ind-Frag FragLooks ArmLooks frag_whole arm_whole f bound q (each_front P looks more h)) (λ q. frags_look fs bound q (each_back P looks more h))

  in_content_looks : (names : List Name) (f : Frag) → has_slot counts f ≡ true → Each P (in_content names (node f) []) → G
  in_content_looks names f e h = by (node f).named h
    where
      by : (b : Bool) → Each P ((if b then (node f).looks else content.within names (node f).looks) []) → G
      by true k = ind-Frag FragLooks ArmLooks frag_whole arm_whole f [] e k
      by false k = ind-Frag FragLooks ArmLooks frag_whole arm_whole f (names ++ []) e k

  pub content_looks : (names : List Name) (fs : List Frag) → have_slot counts fs ≡ true → Each P (content.in_turn (map (λ f. in_content names (node f)) fs) []) → G
  content_looks names [] e h = none e
  content_looks names (f ∷ fs) e h =
      let looks = in_content names (node f) [] in
      let more = content.in_turn (map (λ g. in_content names (node g)) fs) [] in
      or_either (has_slot counts f) (have_slot counts fs) e (λ q. in_content_looks names f q (each_front P looks more h)) (λ q. content_looks names fs q (each_back P looks more h))
