-- The search finds what matches.
use Rattle.std.proofs.Common.{◌≡◌, ℕ, Bool, true, false, List, [], ◌∷◌, ◌++◌, map, refl, ap, sym, ◌∙◌, subst, append_assoc}
use Rattle.std.specs.Prelude.{Result, Ok, Err, OnOk}
use Rattle.sv_document.specs.Element.{Element}
use Rattle.sv_document.specs.Target.{Path}
use Rattle.sv_document.specs.declared.tree.Node.{Node, Node-F, roll-Node, map-Node, fold-roll-Node, fold_out-Node, ind-Node}
use Rattle.sv_document.specs.declared.tree.Node.TheVariants as node
use Rattle.sv_select.specs.Matching.{Found, Place, is_page, own, through}
use Rattle.sv_select.specs.Matching as matching
use Rattle.sv_select.specs.Reach.{on_page, entered, ends}
use Rattle.sv_select.specs.Search.{Spot, spot}
use Rattle.sv_select.specs.Search as search
use Rattle.sv_select.specs.Texts.{form_text, node_text, text_in}
use Rattle.sv_select.specs.declared.reach.Reach.{Reach}
use Rattle.sv_select.specs.declared.selector.Link.{Link}
use Rattle.sv_select.proofs.Reaching.{reach, on_page-reach, entered-reach, ends-through}

module _ (links : List Link) where
  abbrev place : Node → Place
  place = matching.place (through links is_page)

  abbrev reached : Path → List Reach
  reached path = reach is_page links path

  -- a node's spot and place show its text, and the spot finds what the place does
  pub record Agrees (s : Spot) (p : Place) (text : List ℕ) : Type 0 where
    pub spotted : s.text ≡ text
    pub placed : p.text ≡ text
    pub finds : (above : Path) → s.found (reached above) ≡ p.found above

  abbrev AgreesAt : Node → Type 0
  AgreesAt node = Agrees (spot links node) (place node) (node_text node)

  abbrev Known : Type 0
  Known = (node : Node) × AgreesAt node

  abbrev bare : List Known → List Node
  bare known = map (λ k. k.0) known

  all-spotted : (known : List Known) → search.texts (map (spot links) (bare known)) ≡ text_in (bare known)
  all-spotted [] = refl
  all-spotted (k ∷ known) = ap (λ t. t ++ search.texts (map (spot links) (bare known))) k.1.spotted ∙ ap (λ t. node_text k.0 ++ t) (all-spotted known)

  all-placed : (known : List Known) → matching.texts (map place (bare known)) ≡ text_in (bare known)
  all-placed [] = refl
  all-placed (k ∷ known) = ap (λ t. t ++ matching.texts (map place (bare known))) k.1.placed ∙ ap (λ t. node_text k.0 ++ t) (all-placed known)

  all-found : (known : List Known) (above : Path) → search.each (reached above) (map (spot links) (bare known)) ≡ matching.each above (map place (bare known))
  all-found [] above = refl
  all-found (k ∷ known) above =
      ap (λ f. f ++ search.each (reached above) (map (spot links) (bare known))) (k.1.finds above) ∙ ap (λ f. (place k.0).found above ++ f) (all-found known above)

  abbrev spot_layer : Node-F Node → Spot
  spot_layer x = search.form links (map-Node Node Spot (spot links) x)

  abbrev place_layer : Node-F Node → Place
  place_layer x = matching.form (through links is_page) (map-Node Node Place place x)

  abbrev text_layer : Node-F Node → List ℕ
  text_layer x = form_text (map-Node Node (List ℕ) node_text x)

  abbrev bare_layer : Node-F Known → Node-F Node
  bare_layer = map-Node Known Node (λ k. k.0)

  element-found : (e : Element) (known : List Known) (above : Path)
      → own (ends false links e (reached above)) e (search.texts (map (spot links) (bare known))) ++ search.each (entered false links e (reached above)) (map (spot links) (bare known))
      ≡ own (through links is_page (e ∷ above)) e (matching.texts (map place (bare known))) ++ matching.each (e ∷ above) (map place (bare known))
  element-found e known above =
      ap (λ m. own m e (search.texts (map (spot links) (bare known))) ++ search.each (entered false links e (reached above)) (map (spot links) (bare known))) (ends-through is_page links e above)
      ∙ ap (λ t. own (through links is_page (e ∷ above)) e t ++ search.each (entered false links e (reached above)) (map (spot links) (bare known))) (all-spotted known ∙ sym (all-placed known))
      ∙ ap (λ r. own (through links is_page (e ∷ above)) e (matching.texts (map place (bare known))) ++ search.each r (map (spot links) (bare known))) (entered-reach is_page links e above)
      ∙ ap (λ f. own (through links is_page (e ∷ above)) e (matching.texts (map place (bare known))) ++ f) (all-found known (e ∷ above))

  layer : (y : Node-F Known) → Agrees (spot_layer (bare_layer y)) (place_layer (bare_layer y)) (text_layer (bare_layer y))
  layer (Node-F.Element e known) = record { spotted = all-spotted known; placed = all-placed known; finds = element-found e known }
  layer (Node-F.Text mark text) = record { spotted = refl; placed = refl; finds = λ above. refl }

  step : (x : Node-F Node) (y : Node-F Known) → bare_layer y ≡ x → AgreesAt (roll-Node x)
  step x y e =
      subst (λ s. Agrees s (place (roll-Node x)) (node_text (roll-Node x))) (sym (fold-roll-Node Spot (search.form links) x))
      (subst (λ p. Agrees (spot_layer x) p (node_text (roll-Node x))) (sym (fold-roll-Node Place (matching.form (through links is_page)) x))
      (subst (Agrees (spot_layer x) (place_layer x)) (sym (fold-roll-Node (List ℕ) form_text x))
      (subst (λ z. Agrees (spot_layer z) (place_layer z) (text_layer z)) e (layer y))))

  agrees : (node : Node) → AgreesAt node
  agrees = ind-Node AgreesAt step

  -- the texts of spots are those of their nodes
  pub spotted_texts : (nodes : List Node) → search.texts (map (spot links) nodes) ≡ text_in nodes
  spotted_texts [] = refl
  spotted_texts (node ∷ nodes) = ap (λ t. t ++ search.texts (map (spot links) nodes)) (agrees node).spotted ∙ ap (λ t. node_text node ++ t) (spotted_texts nodes)

  -- from the page on, the search finds what matches
  pub found_matches : (nodes : List Node) (above : Path) → search.found_in links (reached above) nodes ≡ matching.each above (map place nodes)
  found_matches [] above = refl
  found_matches (node ∷ nodes) above =
      ap (λ f. f ++ search.found_in links (reached above) nodes) ((agrees node).finds above) ∙ ap (λ f. (place node).found above ++ f) (found_matches nodes above)

-- ---- what one element adds

element-spot : (links : List Link) (e : Element) (nodes : List Node) → spot links (node.Element e nodes) ≡ search.form links (Node-F.Element e (map (spot links) nodes))
element-spot links e nodes = fold_out-Node Spot (search.form links) (node.Element e nodes) ∙ ap (λ x. search.form links (map-Node _ _ (spot links) x)) (node.outs-Element e nodes)

from_element : (links : List Link) (outer : List Reach) (e : Element) (nodes : List Node)
    → search.found_from links outer (node.Element e nodes) ≡ own (ends false links e outer) e (text_in nodes) ++ search.found_in links (entered false links e outer) nodes
from_element links outer e nodes =
    ap (λ (s : Spot). s.found outer) (element-spot links e nodes)
    ∙ ap (λ t. own (ends false links e outer) e t ++ search.found_in links (entered false links e outer) nodes) (spotted_texts links nodes)

pub found_element : (links : List Link) (outer reached slice : List Reach) (n : Node) (e : Element) (nodes kids : List Node) (m : Bool) (old mid new : List Found)
    → n ≡ node.Element e nodes → kids ≡ nodes → reached ≡ entered false links e outer → slice ≡ reached → m ≡ ends false links e outer
    → mid ≡ old ++ own m e (text_in kids) → new ≡ mid ++ search.found_in links slice kids → new ≡ old ++ search.found_from links outer n
found_element links outer reached slice n e nodes kids m old mid new here same known seen is first more =
    more ∙ ap (λ x. x ++ search.found_in links slice kids) first ∙ append_assoc old (own m e (text_in kids)) (search.found_in links slice kids)
    ∙ ap (λ x. old ++ x)
    (ap (λ ks. own m e (text_in ks) ++ search.found_in links slice ks) same
    ∙ ap (λ b. own b e (text_in nodes) ++ search.found_in links slice nodes) is
    ∙ ap (λ r. own (ends false links e outer) e (text_in nodes) ++ search.found_in links r nodes) (seen ∙ known)
    ∙ sym (from_element links outer e nodes)
    ∙ ap (search.found_from links outer) (sym here))

-- ---- from the page on

pub all_matches : (links own_links : List Link) (nodes : List Node) (reached slice : List Reach) (old new : List Found) → own_links ≡ links → reached ≡ on_page true own_links → slice ≡ reached
    → old ≡ [] → new ≡ old ++ search.found_in own_links slice nodes → new ≡ matching.each [] (map (place links) nodes)
all_matches links own_links nodes reached slice old new same known seen none more =
    more ∙ ap (λ x. x ++ search.found_in own_links slice nodes) none
    ∙ ap (λ r. search.found_in own_links r nodes) (seen ∙ known ∙ on_page-reach is_page own_links)
    ∙ found_matches own_links nodes [] ∙ ap (λ ls. matching.each [] (map (place ls) nodes)) same

-- what follows where a call ends well
pub on_ok : {A E : Type 0} (r : Result A E) (P Q : Type 0) → OnOk r P → (P → Q) → OnOk r Q
on_ok (Ok x) P Q h f = f h
on_ok (Err e) P Q h f = h
