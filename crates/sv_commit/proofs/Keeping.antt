-- What is placed keeps its node.
use Rattle.std.proofs.Common.{◌≡◌, ◌≤◌, ℕ, List, ◌∷◌, map, refl, ap, sym, ◌∙◌, subst}
use Rattle.std.specs.Prelude.{◌==◌}
use Rattle.std.proofs.lemmas.Bool.{eq-eqb}
use Rattle.std.proofs.lemmas.List.{map-append}
use Rattle.sv_tokens.specs.Counting.{Has}
use Rattle.sv_tokens.proofs.Counting.{has-right, has-here}
use Rattle.sv_live.specs.declared.live.Named.{Named}
use Rattle.sv_live.specs.declared.live.Live.{Live, Live-F, out-Live, fold_out-Live, map-Live}
use Rattle.sv_live.specs.declared.live.Live.TheVariants as live
use Rattle.sv_live.specs.declared.node.Own.{Own}
use Rattle.sv_live.specs.declared.node.Node.{Node}
use Rattle.sv_live.specs.declared.node.Node.TheVariants as node
use Rattle.sv_live.specs.Known.{by_mark, by_place, number, number_in, known, asks, asks_in, text_node, element_node, inside, seat}
use Rattle.sv_live.specs.Kept.{IsNamed, IsSeated, IsSole, IsKept, kept_text, kept_element, kept_hole, AreKept}
use Rattle.sv_live.specs.Shown.{plain, plainly, plainly_all}
use Rattle.sv_live.specs.Walk.{Walk, KeepsOthers, Places}
use Rattle.sv_live.proofs.Kept.{places-one, are-kept-later}
use Rattle.sv_commit.proofs.Names.{number-Text, number-Element, number-Hole}

-- one was placed
pub places-it : (next : ℕ) (old stood new : Walk) (l : Live) (n : ℕ) → number l ≡ n → new.placed ≡ l ∷ stood.placed → new.rest ≡ stood.rest → stood.placed ≡ old.placed → KeepsOthers n old.rest stood.rest → IsKept next (known n old.rest) l → Places next old new
places-it next old stood new l n is placed rest same others kept =
    places-one next old new l (placed ∙ ap (λ z. l ∷ z) same) (λ k other. ap (known k) rest ∙ others k (λ e. other (e ∙ sym is))) (subst (λ m. IsKept next (known m old.rest) l) (sym is) kept)

pub places-Text : (next : ℕ) (old stood new : Walk) (mark : ℕ) (n : Named) (text : List ℕ) → new.placed ≡ live.Text mark n text ∷ stood.placed → new.rest ≡ stood.rest → stood.placed ≡ old.placed → KeepsOthers (by_mark mark) old.rest stood.rest
    → IsNamed next (text_node (known (by_mark mark) old.rest)) n → Places next old new
places-Text next old stood new mark n text placed rest same others named =
    places-it next old stood new (live.Text mark n text) (by_mark mark) (number-Text mark n text) placed rest same others (kept_text next (known (by_mark mark) old.rest) mark n text named)

pub places-Hole : (next : ℕ) (old stood new : Walk) (place anchor : ℕ) (parts : List Live) → new.placed ≡ live.Hole place anchor parts ∷ stood.placed → new.rest ≡ stood.rest → stood.placed ≡ old.placed → KeepsOthers (by_place place) old.rest stood.rest
    → IsSeated (seat (known (by_place place) old.rest)) (record { anchor = anchor; parts = parts }) → Places next old new
places-Hole next old stood new place anchor parts placed rest same others seated =
    places-it next old stood new (live.Hole place anchor parts) (by_place place) (number-Hole place anchor parts) placed rest same others (kept_hole next (known (by_place place) old.rest) place anchor parts seated)

pub places-Element : (next later : ℕ) (old stood new : Walk) (n : Named) (own shown : Own) (was parts : List Live) → next ≤ later → own ≡ shown → new.placed ≡ live.Element n own parts ∷ stood.placed → new.rest ≡ stood.rest → stood.placed ≡ old.placed
    → KeepsOthers (by_mark shown.mark) old.rest stood.rest → IsNamed next (element_node shown.name (known (by_mark shown.mark) old.rest)) n → was ≡ inside shown.name (known (by_mark shown.mark) old.rest) → AreKept later was parts → Places next old new
places-Element next later old stood new n own shown was parts le is placed rest same others named below kept =
    let found = known (by_mark shown.mark) old.rest in
    let inner : AreKept next (inside shown.name found) parts = subst (λ (ws : List Live). AreKept next ws parts) below (are-kept-later next later was parts le kept) in
    places-it next old stood new (live.Element n own parts) (by_mark shown.mark) (number-Element n own parts ∙ ap (λ (o : Own). by_mark o.mark) is) placed rest same others
    (subst (λ (o : Own). IsKept next found (live.Element n o parts)) (sym is) (kept_element next found n shown parts named inner))

-- ---- what is placed was asked for

asked-in : (n : ℕ) (y : Live-F Live) → asks n (plain (map-Live _ _ plainly y)) ≡ (number_in y == n)
asked-in n (Live-F.Text mark named text) = ap (asks_in n) (node.outs-Text mark text)
asked-in n (Live-F.Element named own parts) = ap (asks_in n) (node.outs-Element own (map plainly parts))
asked-in n (Live-F.Hole place anchor parts) = ap (asks_in n) (node.outs-Hole place)

asked : (n : ℕ) (l : Live) → asks n (plainly l) ≡ (number l == n)
unfolding plainly
asked n l = ap (asks n) (fold_out-Live Node plain l) ∙ asked-in n (out-Live l)

pub sole-asked : (l : Live) (now : List Live) (nodes : List Node) → IsSole l now → plainly_all now ≡ nodes → Has (asks (number l)) nodes
unfolding plainly_all
sole-asked l now nodes sole shown =
    subst (Has (asks (number l))) (sym (ap (map plainly) sole.is ∙ map-append plainly sole.front (l ∷ sole.back)) ∙ shown)
    (has-right (asks (number l)) (map plainly sole.front) _ (has-here (asks (number l)) (plainly l) _ (asked (number l) l ∙ eq-eqb (number l) (number l) refl)))
