-- The empty page.
use Rattle.std.proofs.Common.{◌≡◌, ◌≢◌, ◌+◌, ◌==◌, ℕ, [], ◌∷◌, Some, None, refl, ap, sym, ◌∙◌, arith, ◌⊎◌, inl, inr, subst}
use Rattle.std.proofs.lemmas.Bool.{cases_eq, eq-eqb}
use Rattle.slab.specs.Slab.{Slab, Updates}
use Rattle.sv_tokens.specs.Counting.{times, one}
use Rattle.sv_tokens.specs.Token.{named, Open, Close, begins}
use Rattle.sv_tokens.specs.Replay.{bare}
use Rattle.sv_tokens.proofs.Counting.{one-most}
use Rattle.sv_nodes.specs.Nodes.{element, Cell, Nodes, name_of, levels, tokens_of, weight}
use Rattle.sv_nodes.specs.Sound.{AreParts, IsProper, IsSound}
use Rattle.sv_nodes.specs.Cells.{cell_of, nodes_of}
use Rattle.sv_nodes.specs.declared.entry.Entry.{Entry}
use Rattle.sv_nodes.proofs.Walk.{walk-leaf}
use Rattle.sv_nodes.proofs.Growing.{some, none_some}
use Rattle.sv_nodes.proofs.Places.{levels-is}
use Rattle.sv_nodes.proofs.Slabs.{changes-updates}

-- the page itself, which is never given a printed number
abbrev pub root_cell : Cell
root_cell = record { serial = 0; parent = named 0 0; number = Some 0; kind = element (bare []); children = [] }

pub record Started (at : Nodes) : Type 0 where
  pub root : at 0 ≡ Some root_cell
  pub others : (k : ℕ) → k ≢ 0 → at k ≡ None

pub started : (empty slab : Slab Entry) (entry : Entry) (key : ℕ) → empty.slots ≡ [] → key ≡ 0 → Updates empty slab key (Some entry) → cell_of entry ≡ root_cell → Started (nodes_of slab.slots)
started empty slab entry key none_there zero_is updates is =
    let changes = changes-updates empty slab key (Some entry) updates in
    record {
      root = ap (nodes_of slab.slots) (sym zero_is) ∙ (changes.here ∙ ap Some is);
      others = λ k ne. changes.others k (λ e. ne (e ∙ zero_is)) ∙ ap (λ slots. nodes_of slots k) none_there;
    }

module _ (at : Nodes) (s : Started at) where
  pub start-tokens : tokens_of at ≡ Open (named 0 0) (named 0 0) (Some 0) (bare []) ∷ Close (named 0 0) [] ∷ []
  start-tokens = let all = levels-is in walk-leaf levels at 0 root_cell s.root refl (omega (arith, all))

  only : (k : ℕ) (cell : Cell) → at k ≡ Some cell → (k ≡ 0) × (root_cell ≡ cell)
  only k cell here = by (cases_eq k 0)
    where
      by : (k ≡ 0) ⊎ (k ≢ 0) → (k ≡ 0) × (root_cell ≡ cell)
      by (inl e) = (e, some (sym s.root ∙ (ap at (sym e) ∙ here)))
      by (inr ne) = absurd (none_some (sym (s.others k ne) ∙ here))

  pub start-sound : IsSound at 1
  start-sound = record {
    root = record { cell = root_cell; at = s.root; first = refl; shape = refl };
    bounded = (let all = levels-is in omega (arith, all));
    below = λ k cell here. (let o = only k cell here in let n = ap (λ c. c.serial + weight c.kind) o.1 in omega (arith, n));
    parts = λ k cell here. (let o = only k cell here in subst (λ (c : Cell). AreParts at (name_of k c) c.children) o.1 tt);
    proper = λ k cell here. (let o = only k cell here in subst (λ (c : Cell). IsProper c.kind c.children) o.1 tt);
    linked = λ k cell here ne. absurd (ne (only k cell here).0);
    once = λ k. (let n = ap (times (begins k)) start-tokens in let m = one-most (0 == k) in omega (arith, n, m));
    stands = λ k cell here. (let o = only k cell here in let n = ap (times (begins k)) start-tokens in let w = ap one (eq-eqb 0 k (sym o.0)) in omega (arith, n, w));
  }
