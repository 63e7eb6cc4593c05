-- A node is printed round its children.
use Rattle.std.proofs.Common.{◌≡◌, ◌<◌, ◌≤◌, ◌+◌, ℕ, List, [], ◌∷◌, ◌++◌, Bool, Option, length, get_or, drop, Some, refl, ap, sym, ◌∙◌, append_assoc, append-nil}
use Rattle.sv_tokens.specs.Token.{Name, Token}
use Rattle.sv_nodes.specs.Nodes.{Kind, element, text, anchor, Cell, Nodes, name_of, opening, ending, finish, walk, levels}
use Rattle.sv_nodes.specs.Sound.{IsSound}
use Rattle.sv_nodes.proofs.Walk.{walk-node}
use Rattle.sv_nodes.proofs.Finding.{rest-cons, rest-none}
use Rattle.sv_html.specs.Html.{html, token_html}
use Rattle.sv_dom.specs.Printed.{before_html, after_html}

pub html-append : (numbers : Bool) (xs ys : List Token) → html numbers (xs ++ ys) ≡ html numbers xs ++ html numbers ys
html-append numbers [] ys = refl
html-append numbers (x ∷ xs) ys = ap (λ z. token_html numbers x ++ z) (html-append numbers xs ys) ∙ sym (append_assoc (token_html numbers x) (html numbers xs) (html numbers ys))

opening-html : (numbers : Bool) (n p : Name) (number : Option ℕ) (w : Kind) → token_html numbers (opening n p number w) ≡ before_html numbers n.serial number w
opening-html numbers n p number (element e) = refl
opening-html numbers n p number (text bytes) = refl
opening-html numbers n p number anchor = refl

ending-html : (numbers : Bool) (n : Name) (w : Kind) → html numbers (ending n w) ≡ after_html n.serial w
ending-html numbers n (element e) = append-nil _
ending-html numbers n (text bytes) = refl
ending-html numbers n anchor = refl

pub html-node : (numbers : Bool) (at : Nodes) (next k : ℕ) (c : Cell) → IsSound at next → at k ≡ Some c
    → html numbers (walk levels at (k ∷ [])) ≡ before_html numbers c.serial c.number c.kind ++ (html numbers (walk levels at c.children) ++ after_html c.serial c.kind)
html-node numbers at next k c sound here =
    ap (html numbers) (walk-node at next k c sound here)
    ∙ (λ i. opening-html numbers (name_of k c) c.parent c.number c.kind i
    ++ (html-append numbers (walk levels at c.children) (finish k c) ∙ ap (λ z. html numbers (walk levels at c.children) ++ z) (ending-html numbers (name_of k c) c.kind)) i)

-- the node's start has been printed
pub printed-first : (old new front rest all : List ℕ) → new ≡ old ++ front → all ≡ front ++ rest → new ++ rest ≡ old ++ all
printed-first old new front rest all grown is = rw (grown, is) (append_assoc old front rest)

-- one more child has been printed
pub printed-next : (numbers : Bool) (at : Nodes) (ks : List ℕ) (i k : ℕ) (old new end all : List ℕ) → i < length ks → k ≡ get_or ks i 0
    → new ≡ old ++ html numbers (walk levels at (k ∷ [])) → old ++ (html numbers (walk levels at (drop i ks)) ++ end) ≡ all → new ++ (html numbers (walk levels at (drop (i + 1) ks)) ++ end) ≡ all
printed-next numbers at ks i k old new end all below is grown so_far =
    let split = ap (html numbers) (rest-cons at ks i k below is) ∙ html-append numbers (walk levels at (k ∷ [])) (walk levels at (drop (i + 1) ks)) in
    rw (grown, append_assoc) (ap (λ t. old ++ t) (sym (append_assoc _ _ end) ∙ ap (λ t. t ++ end) (sym split)) ∙ so_far)

-- all children have been printed
pub printed-all : (numbers : Bool) (at : Nodes) (ks : List ℕ) (i : ℕ) (old end all : List ℕ) → length ks ≤ i → old ++ (html numbers (walk levels at (drop i ks)) ++ end) ≡ all → old ++ end ≡ all
printed-all numbers at ks i old end all past so_far = ap (λ t. old ++ (t ++ end)) (sym (ap (html numbers) (rest-none at ks i past))) ∙ so_far
