-- What kind of node a call is given.
use Rattle.std.proofs.Common.{◌≡◌, ◌≢◌, ◌+◌, ℕ, List, [], ◌∷◌, true, false, Option, Some, refl, ap, sym, ◌∙◌, arith, subst}
use Rattle.std.proofs.lemmas.Bool.{eq-eqb}
use Rattle.sv_tokens.specs.Counting.{Has}
use Rattle.sv_tokens.specs.Token.{Name, Element, Anchor, Page, texts, opens}
use Rattle.sv_tokens.specs.Edit.{Inserted}
use Rattle.sv_tokens.specs.Seen.{seen, view_of}
use Rattle.sv_tokens.proofs.Counting.{has-right, has-here}
use Rattle.sv_tokens.proofs.Seen.{seen-append, same_view}
use Rattle.sv_nodes.specs.Nodes.{Kind, element, text, anchor, Cell, Nodes, name_of, opening, start, tokens_of, is_element}
use Rattle.sv_nodes.specs.Sound.{IsSound}
use Rattle.sv_nodes.proofs.Around.{around, has-begins, passes_here, texts-narrows, opens-narrows}
use Rattle.sv_nodes.proofs.Growing.{some, opens-element}

no : false ≡ true → ⊥
no e = cc

texts-text : (k : ℕ) (n p : Name) (number : Option ℕ) (w : Kind) → texts k (opening n p number w) ≡ true → (bytes : List ℕ) × (w ≡ text bytes)
texts-text k n p number (element e) h = absurd (no h)
texts-text k n p number (text bytes) h = (bytes, refl)
texts-text k n p number anchor h = absurd (no h)

-- the node is a text
pub kind-text : (at : Nodes) (next p : ℕ) (c : Cell) → IsSound at next → at p ≡ Some c → Has (texts p) (tokens_of at) → (bytes : List ℕ) × (c.kind ≡ text bytes)
kind-text at next p c sound here has =
    let a = around at next p sound (has-begins p (texts p) (tokens_of at) (texts-narrows p) has) in
    let w = texts-text p (name_of p a.cell) a.cell.parent a.cell.number a.cell.kind (passes_here at next p (texts p) sound (texts-narrows p) a has) in
    (w.0, ap (λ (z : Cell). z.kind) (some (sym here ∙ a.here)) ∙ w.1)

-- the node is an element
pub kind-element : (at : Nodes) (next p : ℕ) (c : Cell) → IsSound at next → at p ≡ Some c → Has (opens p) (tokens_of at) → (e : Element) × (c.kind ≡ element e)
kind-element at next p c sound here has =
    let a = around at next p sound (has-begins p (opens p) (tokens_of at) (opens-narrows p) has) in
    let w = opens-element p (name_of p a.cell) a.cell.parent a.cell.number a.cell.kind (passes_here at next p (opens p) sound (opens-narrows p) a has) in
    (w.0, ap (λ (z : Cell). z.kind) (some (sym here ∙ a.here)) ∙ w.1)

-- a text is not the page
pub text-below : (at : Nodes) (next p : ℕ) (c : Cell) (bytes : List ℕ) → IsSound at next → at p ≡ Some c → c.kind ≡ text bytes → p ≢ 0
text-below at next p c bytes sound here kind zero =
    let same : c ≡ sound.root.cell = some (sym here ∙ (ap at zero ∙ sound.root.at)) in
    no (ap is_element (sym kind) ∙ (ap (λ (z : Cell). is_element z.kind) same ∙ sound.root.shape))

opening-opens : (n p : Name) (number : Option ℕ) (w : Kind) → is_element w ≡ true → opens n.key (opening n p number w) ≡ true
opening-opens n p number (element e) h = eq-eqb n.key n.key refl
opening-opens n p number (text bytes) h = absurd (no h)
opening-opens n p number anchor h = absurd (no h)

-- the page itself is an element
pub page-stands : (at : Nodes) (next : ℕ) → IsSound at next → Has (opens 0) (tokens_of at)
page-stands at next sound =
    let a = around at next 0 sound (sound.stands 0 sound.root.cell sound.root.at) in
    let shape = ap (λ (z : Cell). is_element z.kind) (some (sym a.here ∙ sound.root.at)) ∙ sound.root.shape in
    subst (λ z. Has (opens 0) z) (sym a.old) (has-right (opens 0) a.pre _ (has-here (opens 0) (start 0 a.cell) _ (opening-opens (name_of 0 a.cell) a.cell.parent a.cell.number a.cell.kind shape)))

-- nobody sees a new anchor
pub seen-anchor : (old new : Page) (parent : ℕ) (before : Option ℕ) (key : ℕ) (above : Name) → Inserted old.tokens new.tokens parent before (Anchor key above ∷ []) → new.next ≡ old.next + 0 → view_of new ≡ view_of old
seen-anchor old new parent before key above i next =
    same_view (seen new.tokens) (seen old.tokens) new.next old.next
    (ap seen i.is ∙ (seen-append i.pre (Anchor key above ∷ i.post) ∙ (sym (seen-append i.pre i.post) ∙ sym (ap seen i.was)))) (omega (arith, next))
