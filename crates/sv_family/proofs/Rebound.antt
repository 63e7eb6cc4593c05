-- What is so of each look in something, whatever names are round it, is so of each where other names are.
use Rattle.std.proofs.Common.{◌≡◌, Bool, true, false, List, [], ◌∷◌, ◌++◌, Option, None, Some, map, option_map, sym, subst}
use Rattle.std.specs.Prelude.{if◌then◌else◌}
use Rattle.sv_base.specs.declared.names.Name.{Name}
use Rattle.sv_code.proofs.Each.{each_append, each_back, each_front}
use Rattle.sv_code.specs.Content as looks
use Rattle.sv_code.specs.Content.{Look, Looker, ByPart, ByHandler, ByTag, BySlot, Looks, Node}
use Rattle.sv_code.specs.Names.{Each}
use Rattle.sv_code.specs.declared.fragments.Frag.{Frag, Frag-F, roll-Frag, map-Frag, fold-roll-Frag, ind-Frag}
use Rattle.sv_code.specs.declared.fragments.FragArm.{FragArm, FragArm-F, roll-FragArm, map-FragArm, fold-roll-FragArm}
use Rattle.sv_code.specs.declared.fragments.FragAttr.{FragAttr}
use Rattle.sv_code.specs.declared.fragments.FragAttr.TheVariants as attr_form
use Rattle.sv_code.specs.declared.fragments.FragValue.{FragValue}
use Rattle.sv_code.specs.declared.fragments.FragValue.TheVariants as value_form
use Rattle.sv_code.specs.declared.fragments.FragValuePart.{FragValuePart}
use Rattle.sv_code.specs.declared.fragments.FragValuePart.TheVariants as part_form
use Rattle.sv_code.specs.declared.fragments.LetName.{LetName}
use Rattle.sv_code.specs.declared.parts.Part.{Part}
use Rattle.sv_code.specs.declared.parts.Reading.{Reading}

-- a fact of looks that doesn't look at the names round them
pub record IsFree (P : Look → Type 0) : Type 0 where
  pub moves : (by : Looker) (reads : Reading) (from to : List Name) → P (record { by = by; bound = from; reads = reads }) → P (record { by = by; bound = to; reads = reads })

module _ (P : Look → Type 0) (free : IsFree P) where
  pub record Moves (xs : Looks) : Type 0 where
    pub each : (from to : List Name) → Each P (xs from) → Each P (xs to)

  moves_nothing : Moves looks.nothing
  moves_nothing = record { each = λ from to h. tt }

  moves_one : (by : Looker) (reads : Reading) → Moves (looks.one by reads)
  moves_one by reads = record { each = λ from to h. (free.moves by reads from to h.0, tt) }

  moves_both : (xs ys : Looks) → Moves xs → Moves ys → Moves (looks.both xs ys)
  moves_both xs ys h k = record { each = λ from to q. each_append P (xs to) (ys to) (h.each from to (each_front P (xs from) (ys from) q)) (k.each from to (each_back P (xs from) (ys from) q)) }

  moves_within : (names : List Name) (xs : Looks) → Moves xs → Moves (looks.within names xs)
  moves_within names xs h = record { each = λ from to q. h.each (names ++ from) (names ++ to) q }

  moves_list : {X : Type 0} (f : X → Looks) → ((x : X) → Moves (f x)) → (xs : List X) → Moves (looks.in_turn (map f xs))
  moves_list f h [] = moves_nothing
  moves_list f h (x ∷ xs) = moves_both (f x) (looks.in_turn (map f xs)) (h x) (moves_list f h xs)

  -- ---- attributes

  moves_part : (p : Part) → Moves (looks.of_part p)
  moves_part p = moves_one ByPart p.reads

  moves_value_part : (p : FragValuePart) → Moves (looks.of_value_part p)
  moves_value_part (part_form.Text text) = moves_nothing
  moves_value_part (part_form.Show shown) = moves_part shown

  moves_value : (v : FragValue) → Moves (looks.of_value v)
  moves_value value_form.Bare = moves_nothing
  moves_value (value_form.Parts list) = moves_list looks.of_value_part moves_value_part list

  moves_attr : (a : FragAttr) → Moves (looks.of_attr a)
  moves_attr (attr_form.Plain span name value) = moves_value value
  moves_attr (attr_form.On handler reads) = moves_one (ByHandler handler) reads
  moves_attr (attr_form.Bind span name target) = moves_part target
  moves_attr (attr_form.Class span name test) = moves_part test

  moves_attrs : (attrs : List FragAttr) → Moves (looks.of_attrs attrs)
  moves_attrs attrs = moves_list looks.of_attr moves_attr attrs

  -- ---- fragments

  abbrev FragMoves : Frag → Type 0
  FragMoves f = Moves (looks.node f).looks

  abbrev ArmMoves : FragArm → Type 0
  ArmMoves a = Moves (looks.of_arm a)

  abbrev KnownFrag : Type 0
  KnownFrag = (x : Frag) × FragMoves x

  abbrev KnownArm : Type 0
  KnownArm = (x : FragArm) × ArmMoves x

  moves_nodes : (list : List KnownFrag) → Moves (looks.nodes (map looks.node (map (λ p. p.0) list)))
  moves_nodes [] = moves_nothing
  moves_nodes (x ∷ list) = moves_both (looks.node x.0).looks (looks.nodes (map looks.node (map (λ p. p.0) list))) x.1 (moves_nodes list)

  moves_arms : (list : List KnownArm) → Moves (looks.in_turn (map looks.of_arm (map (λ p. p.0) list)))
  moves_arms [] = moves_nothing
  moves_arms (x ∷ list) = moves_both (looks.of_arm x.0) (looks.in_turn (map looks.of_arm (map (λ p. p.0) list))) x.1 (moves_arms list)

  moves_key : (key : Option Part) → Moves (looks.given (option_map looks.of_part key))
  moves_key None = moves_nothing
  moves_key (Some p) = moves_part p

  moves_rows : (list : Part) (item : Name) (index : Option Name) (key : Option Part) (body : List KnownFrag) (last : Looks) → Moves last →
      Moves (looks.both (looks.of_part list) (looks.both (looks.within (looks.row_names item index) (looks.both (looks.given (option_map looks.of_part key)) (looks.nodes (map looks.node (map (λ p. p.0) body))))) last))
  moves_rows list item index key body last h = moves_both _ _ (moves_part list) (moves_both _ _ (moves_within (looks.row_names item index) _ (moves_both _ _ (moves_key key) (moves_nodes body))) h)

  abbrev bare_frag : Frag-F KnownFrag KnownArm → Frag-F Frag FragArm
  bare_frag = map-Frag KnownFrag KnownArm Frag FragArm (λ p. p.0) (λ p. p.0)

  abbrev seen_frag : Frag-F Frag FragArm → Node
  seen_frag x = looks.frag (map-Frag Frag FragArm Node Looks looks.node looks.of_arm x)

  abbrev bare_arm : FragArm-F KnownFrag KnownArm → FragArm-F Frag FragArm
  bare_arm = map-FragArm KnownFrag KnownArm Frag FragArm (λ p. p.0) (λ p. p.0)

  abbrev seen_arm : FragArm-F Frag FragArm → Looks
  seen_arm x = looks.arm (map-FragArm Frag FragArm Node Looks looks.node looks.of_arm x)

  frag_layer : (y : Frag-F KnownFrag KnownArm) → Moves (seen_frag (bare_frag y)).looks
  frag_layer (Frag-F.Text text) = moves_nothing
  frag_layer (Frag-F.Show shown) = moves_part shown
  frag_layer (Frag-F.Element span name attrs children) = moves_both _ _ (moves_attrs attrs) (moves_nodes children)
  frag_layer (Frag-F.Tag tag reads) = moves_one (ByTag tag) reads
  frag_layer (Frag-F.Named slot lets node) = moves_within (looks.let_names lets) _ node.1
  frag_layer (Frag-F.Slot span name attrs own reads) = moves_both _ _ (moves_one BySlot reads) (moves_both _ _ (moves_attrs attrs) (moves_nodes own))
  frag_layer (Frag-F.If arms None) = moves_both _ _ (moves_arms arms) moves_nothing
  frag_layer (Frag-F.If arms (Some last)) = moves_both _ _ (moves_arms arms) (moves_nodes last)
  frag_layer (Frag-F.Each list item index key body None) = moves_rows list item index key body _ moves_nothing
  frag_layer (Frag-F.Each list item index key body (Some none)) = moves_rows list item index key body _ (moves_nodes none)
  frag_layer (Frag-F.Key shown body) = moves_both _ _ (moves_part shown) (moves_nodes body)

  arm_layer : (y : FragArm-F KnownFrag KnownArm) → Moves (seen_arm (bare_arm y))
  arm_layer y = moves_both _ _ (moves_part y.test) (moves_nodes y.body)

  frag_step : (x : Frag-F Frag FragArm) (y : Frag-F KnownFrag KnownArm) → bare_frag y ≡ x → FragMoves (roll-Frag x)
  frag_step x y e = subst (λ (n : Node). Moves n.looks) (sym (fold-roll-Frag Node Looks looks.frag looks.arm x)) (subst (λ z. Moves (seen_frag z).looks) e (frag_layer y))

  arm_step : (x : FragArm-F Frag FragArm) (y : FragArm-F KnownFrag KnownArm) → bare_arm y ≡ x → ArmMoves (roll-FragArm x)
  arm_step x y e = subst Moves (sym (fold-roll-FragArm Node Looks looks.frag looks.arm x)) (subst (λ z. Moves (seen_arm z)) e (arm_layer y))

  frag_moves : (f : Frag) → FragMoves f
  frag_moves = ind-Frag FragMoves ArmMoves frag_step arm_step

  -- ---- content

  -- what is so of each look in content, as the content of a tag, is so of each in it as markup
  pub content_moves : (lets : List LetName) (list : List Frag) → Each P (looks.of_content lets list) → Each P (looks.of_frags list [])
  content_moves lets [] h = tt
  content_moves lets (f ∷ list) h =
      each_append P ((looks.node f).looks []) (looks.of_frags list []) (by (looks.node f).named (each_front P (looks.in_content (looks.let_names lets) (looks.node f) []) (looks.of_content lets list) h))
      (content_moves lets list (each_back P (looks.in_content (looks.let_names lets) (looks.node f) []) (looks.of_content lets list) h))
    where
      by : (b : Bool) → Each P ((if b then (looks.node f).looks else looks.within (looks.let_names lets) (looks.node f).looks) []) → Each P ((looks.node f).looks [])
      by true k = k
      by false k = (frag_moves f).each (looks.let_names lets ++ []) [] k

  -- and back
  pub content_back : (lets : List LetName) (list : List Frag) → Each P (looks.of_frags list []) → Each P (looks.of_content lets list)
  content_back lets [] h = tt
  content_back lets (f ∷ list) h =
      each_append P (looks.in_content (looks.let_names lets) (looks.node f) []) (looks.of_content lets list) (by (looks.node f).named (each_front P ((looks.node f).looks []) (looks.of_frags list []) h))
      (content_back lets list (each_back P ((looks.node f).looks []) (looks.of_frags list []) h))
    where
      by : (b : Bool) → Each P ((looks.node f).looks []) → Each P ((if b then (looks.node f).looks else looks.within (looks.let_names lets) (looks.node f).looks) [])
      by true k = k
      by false k = (frag_moves f).each [] (looks.let_names lets ++ []) k
