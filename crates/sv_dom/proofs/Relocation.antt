-- A node goes elsewhere among its siblings, and its change tells it.
use Rattle.std.proofs.Common.{◌≡◌, ◌≢◌, ◌≤◌, ◌==◌, ℕ, List, [], ◌∷◌, ◌++◌, Bool, true, false, Option, Some, None, refl, ap, sym, ◌∙◌, arith, ◌⊎◌, inl, inr, subst}
use Rattle.std.specs.Prelude.{is_some, if◌then◌else◌, ◌↔◌, IsNone, IfSome}
use Rattle.std.proofs.lemmas.Bool.{cases_eq, eq-eqb, ne_eqb}
use Rattle.sv_tokens.specs.Counting.{times, leads}
use Rattle.sv_tokens.specs.Token.{Name, Token, begins, node_of, name_at, parent_at, lacks_number}
use Rattle.sv_tokens.specs.Edit.{Moved}
use Rattle.sv_tokens.specs.Seen.{seen, view_of, starts, follows}
use Rattle.sv_tokens.specs.Replay.{parent_in, replay, replay_if}
use Rattle.sv_tokens.specs.declared.change.Change.{Change}
use Rattle.sv_tokens.specs.declared.change.Change.TheVariants.{Move}
use Rattle.sv_tokens.proofs.Counting.{times-append}
use Rattle.sv_tokens.proofs.Seen.{seen-append, seen-three, same_view, follows-once, IsNumbered-fewer}
use Rattle.sv_tokens.proofs.Moving.{times-Moved, seen-Moved}
use Rattle.sv_tokens.proofs.Replay.{IsNode, replay-move, moved-changes, moved-stays}
use Rattle.sv_nodes.specs.Nodes.{Kind, element, text, anchor, Cell, Nodes, name_of, opening, start, finish, walk, levels, tokens_of, is_anchor}
use Rattle.sv_nodes.specs.Sound.{IsSound}
use Rattle.sv_nodes.specs.Moves.{Moves}
use Rattle.sv_nodes.specs.declared.shift.Followers.{Followers}
use Rattle.sv_nodes.proofs.Around.{around}
use Rattle.sv_nodes.proofs.Growing.{some}
use Rattle.sv_nodes.proofs.Moving.{Relocated, relocated}
use Rattle.sv_nodes.proofs.Places.{parent-cell}
use Rattle.sv_nodes.proofs.Shown.{fewer-ends, seen-cell, seen-anchor}
use Rattle.sv_nodes.proofs.Walk.{begins-own}
use Rattle.sv_dom.specs.Dom.{page_of, IsDom, relocation}
use Rattle.sv_dom.proofs.Making.{name-here}
use Rattle.sv_dom.proofs.Telling.{serial-later, closed}

no : true ≡ false → ⊥
no e = cc

-- the parent of a node that is seen
parent_in-opening : (n p : Name) (number : Option ℕ) (w : Kind) (ts : List Token) → is_anchor w ≡ false → parent_in (seen (opening n p number w ∷ ts)) ≡ p.serial
parent_in-opening n p number (element e) ts shown = refl
parent_in-opening n p number (text bytes) ts shown = refl
parent_in-opening n p number anchor ts shown = absurd (no shown)

node_of-opening : (n p : Name) (number : Option ℕ) (w : Kind) → is_anchor w ≡ false → node_of (opening n p number w) ≡ n
node_of-opening n p number (element e) shown = refl
node_of-opening n p number (text bytes) shown = refl
node_of-opening n p number anchor shown = absurd (no shown)

-- the name of a node that is seen
name-shown : (at : Nodes) (next k : ℕ) (c : Cell) → IsSound at next → at k ≡ Some c → is_anchor c.kind ≡ false → name_at k (tokens_of at) ≡ name_of k c
name-shown at next k c sound here shown =
    let a = around at next k sound (sound.stands k c here) in
    let cell : a.cell ≡ c = some (sym a.here ∙ here) in
    ap (name_at k) a.old ∙ (name-here k a.pre _ (start k a.cell) (begins-own k a.cell) (subst (λ z. times (begins k) z ≤ 1) a.old (sound.once k))
    ∙ (ap (λ (z : Cell). node_of (start k z)) cell ∙ node_of-opening (name_of k c) c.parent c.number c.kind shown))

-- what is told of a move: nothing, and nothing that is seen changed, or where the node is seen now
pub data Outcome (at at' : Nodes) (next number key : ℕ) (cell : Cell) (followers : Followers) : Type 0 where
  stays : relocation cell followers.earlier followers.later ≡ None → view_of (page_of at' next number) ≡ view_of (page_of at next number) → Outcome at at' next number key cell followers
  goes : relocation cell followers.earlier followers.later ≡ Some (Move (name_at key (tokens_of at)).serial followers.later)
      → view_of (page_of at' next number) ≡ replay (Move (name_at key (tokens_of at)).serial followers.later) (view_of (page_of at next number))
      → view_of (page_of at' next number) ≢ view_of (page_of at next number) → Outcome at at' next number key cell followers

module _ (at at' : Nodes) (next number key : ℕ) (before : Option ℕ) (followers : Followers) (dom : IsDom at next number) (other : key ≢ 0) (moves : Moves at at' key before followers) where
  abbrev c : Cell
  c = moves.cell

  r : Relocated at at' next key before followers moves.cell
  r = relocated at at' next key before followers dom.sound moves

  pub moved-dom : IsDom at' next number
  moved-dom = record {
    sound = r.sound;
    numbered = IsNumbered-fewer (seen (tokens_of at)) (seen (tokens_of at')) next (λ s. (let e = seen-Moved (starts s) (tokens_of at) (tokens_of at') key c.parent.key before r.tokens in omega (arith, e))) dom.numbered;
    counted = (let e = times-Moved lacks_number (tokens_of at) (tokens_of at') key c.parent.key before r.tokens in let d = dom.counted in omega (arith, e, d));
  }

  -- what is told, by the node as it stands now
  pub told-is : (cell : Cell) (told : Option Change) → at' key ≡ Some cell → told ≡ relocation cell followers.earlier followers.later → told ≡ relocation moves.cell followers.earlier followers.later
  told-is cell told here is = is ∙ ap (λ z. relocation z followers.earlier followers.later) (some (sym here ∙ r.same))

  pub moved-tokens : Moved (tokens_of at) (tokens_of at') key (parent_at key (tokens_of at)).key before
  moved-tokens = subst (λ (n : Name). Moved (tokens_of at) (tokens_of at') key n.key before) (sym (parent-cell at next key c dom.sound moves.was)) r.tokens

  abbrev own : List Token
  own = start key c ∷ (walk r.level at c.children ++ finish key c)

  seen_was : seen (tokens_of at) ≡ seen r.pre ++ (seen own ++ seen r.post)
  seen_was = ap seen r.was ∙ seen-three r.pre own r.post

  seen_is : seen (tokens_of at') ≡ seen r.front ++ (seen own ++ seen r.back)
  seen_is = ap seen r.is ∙ seen-three r.front own r.back

  split : seen r.pre ++ seen r.post ≡ seen r.front ++ seen r.back
  split = sym (seen-append r.pre r.post) ∙ (ap seen r.others ∙ seen-append r.front r.back)

  -- a place in the page without the node is the only one
  place_once : (n : ℕ) → times (follows c.parent.serial n) (seen r.pre ++ seen r.post) ≤ 1
  place_once n =
      let once = follows-once c.parent.serial n next (seen (tokens_of at)) dom.numbered (λ s. fewer-ends s levels at (0 ∷ [])) in
      let x = ap (times (follows c.parent.serial n)) seen_was ∙ times-append (follows c.parent.serial n) (seen r.pre) (seen own ++ seen r.post) in
      let y = times-append (follows c.parent.serial n) (seen own) (seen r.post) in
      let z = times-append (follows c.parent.serial n) (seen r.pre) (seen r.post) in
      omega (arith, once, x, y, z)

  view_by : seen (tokens_of at') ≡ seen (tokens_of at) → view_of (page_of at' next number) ≡ view_of (page_of at next number)
  view_by e = same_view (seen (tokens_of at')) (seen (tokens_of at)) next next e refl

  -- nobody sees where an anchor goes
  hidden_stays : is_anchor c.kind ≡ true → seen (tokens_of at') ≡ seen (tokens_of at)
  hidden_stays hidden =
      let none = seen-anchor r.level at key c (dom.sound.proper key c moves.was) hidden in
      seen_is ∙ (ap (λ z. seen r.front ++ (z ++ seen r.back)) none ∙ (sym split ∙ (ap (λ z. seen r.pre ++ (z ++ seen r.post)) (sym none) ∙ sym seen_was)))

  same_stays : followers.earlier ≡ followers.later → seen (tokens_of at') ≡ seen (tokens_of at)
  same_stays same =
      seen_is ∙ (moved-stays c.parent.serial followers.later (seen r.pre) (seen own) (seen r.post) (seen r.front) (seen r.back) split (place_once followers.later)
      (subst (λ n. leads (follows c.parent.serial n) (seen r.post) ≡ true) same r.earlier) r.later ∙ sym seen_was)

  node : is_anchor c.kind ≡ false → IsNode c.serial (seen own)
  node shown = seen-cell r.level at key c (dom.sound.proper key c moves.was) shown

  shown_told : is_anchor c.kind ≡ false → view_of (page_of at' next number) ≡ replay (Move c.serial followers.later) (view_of (page_of at next number))
  shown_told shown =
      let above = sym (parent_in-opening (name_of key c) c.parent c.number c.kind (walk r.level at c.children ++ finish key c) shown) in
      replay-move (page_of at next number) (page_of at' next number) r.pre own r.post r.front r.back c.serial followers.later (dom.numbered.once c.serial) (closed at next number dom c.serial)
      (serial-later at next key c dom.sound moves.was other) (node shown) r.was r.others r.is refl
      (subst (λ p. times (follows p followers.later) (seen r.pre ++ seen r.post) ≤ 1) above (place_once followers.later))
      (subst (λ p. leads (follows p followers.later) (seen r.back) ≡ true) above r.later)

  shown_differs : is_anchor c.kind ≡ false → followers.earlier ≢ followers.later → view_of (page_of at' next number) ≢ view_of (page_of at next number)
  shown_differs shown apart e =
      moved-changes c.parent.serial c.serial followers.earlier followers.later (seen r.pre) (seen own) (seen r.post) (seen r.front) (seen r.back) (node shown)
      (subst (λ z. times (starts c.serial) z ≤ 1) seen_was (dom.numbered.once c.serial)) r.earlier r.later apart
      (sym seen_was ∙ (sym (ap (λ v. v.tokens) e) ∙ seen_is))

  pub moved-outcome : Outcome at at' next number key c followers
  moved-outcome = by (is_anchor c.kind) refl (cases_eq followers.earlier followers.later)
    where
      serial : is_anchor c.kind ≡ false → c.serial ≡ (name_at key (tokens_of at)).serial
      serial shown = ap (λ (n : Name). n.serial) (sym (name-shown at next key c dom.sound moves.was shown))

      by : (b : Bool) → is_anchor c.kind ≡ b → (followers.earlier ≡ followers.later) ⊎ (followers.earlier ≢ followers.later) → Outcome at at' next number key c followers
      by true hidden cases = stays (ap (λ b. if b then None else (if followers.earlier == followers.later then None else Some (Move c.serial followers.later))) hidden) (view_by (hidden_stays hidden))
      by false shown (inl same) =
          stays (ap (λ b. if b then None else (if followers.earlier == followers.later then None else Some (Move c.serial followers.later))) shown
          ∙ ap (λ b. if b then None else Some (Move c.serial followers.later)) (eq-eqb followers.earlier followers.later same)) (view_by (same_stays same))
      by false shown (inr apart) =
          goes (ap (λ b. if b then None else (if followers.earlier == followers.later then None else Some (Move c.serial followers.later))) shown
          ∙ (ap (λ b. if b then None else Some (Move c.serial followers.later)) (ne_eqb followers.earlier followers.later apart) ∙ ap (λ n. Some (Move n followers.later)) (serial shown)))
          (shown_told shown ∙ ap (λ n. replay (Move n followers.later) (view_of (page_of at next number))) (serial shown)) (shown_differs shown apart)

-- what the outcome says of the answer
pub outcome-told : (at at' : Nodes) (next number key : ℕ) (cell : Cell) (followers : Followers) (told : Option Change) → told ≡ relocation cell followers.earlier followers.later → Outcome at at' next number key cell followers
    → view_of (page_of at' next number) ≡ replay_if told (view_of (page_of at next number))
outcome-told at at' next number key cell followers told is (stays none same) = same ∙ ap (λ t. replay_if t (view_of (page_of at next number))) (sym (is ∙ none))
outcome-told at at' next number key cell followers told is (goes move replayed differs) = replayed ∙ ap (λ t. replay_if t (view_of (page_of at next number))) (sym (is ∙ move))

pub outcome-none : (at at' : Nodes) (next number key : ℕ) (cell : Cell) (followers : Followers) (told : Option Change) → told ≡ relocation cell followers.earlier followers.later → Outcome at at' next number key cell followers
    → IsNone told ↔ (view_of (page_of at' next number) ≡ view_of (page_of at next number))
outcome-none at at' next number key cell followers told is (stays none same) = (λ h. same, λ h. ap is_some (is ∙ none))
outcome-none at at' next number key cell followers told is (goes move replayed differs) = (λ h. absurd (no (sym (ap is_some (is ∙ move)) ∙ h)), λ same. absurd (differs same))

pub outcome-some : (at at' : Nodes) (next number key : ℕ) (cell : Cell) (followers : Followers) (told : Option Change) → told ≡ relocation cell followers.earlier followers.later → Outcome at at' next number key cell followers
    → IfSome told (λ change. (place : ℕ) × (change ≡ Move (name_at key (tokens_of at)).serial place))
outcome-some at at' next number key cell followers told is (stays none same) = subst (λ t. IfSome t (λ change. (place : ℕ) × (change ≡ Move (name_at key (tokens_of at)).serial place))) (sym (is ∙ none)) tt
outcome-some at at' next number key cell followers told is (goes move replayed differs) =
    subst (λ t. IfSome t (λ change. (place : ℕ) × (change ≡ Move (name_at key (tokens_of at)).serial place))) (sym (is ∙ move)) (followers.later, refl)
