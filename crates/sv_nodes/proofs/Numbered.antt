-- A node takes its printed number, and then its children, one after another.
use Rattle.std.proofs.Common.{◌≡◌, ◌≢◌, ◌<◌, ◌≤◌, ◌+◌, ◌==◌, ℕ, List, [], ◌∷◌, ◌++◌, ◌^◌, true, false, Option, Some, None, refl, ap, sym, ◌∙◌, arith, subst, append_assoc, append-nil, length, get_or, drop, take, add-one}
use Rattle.std.specs.Prelude.{option_map, IsSome, IsSomeAnd}
use Rattle.std.proofs.Math.Seq.{take-suc}
use Rattle.std.proofs.lemmas.List.{take_all, take-append-drop, get_or_default}
use Rattle.std.proofs.lemmas.Bool.{eq-eqb}
use Rattle.slab.specs.Slab.{Slab, get}
use Rattle.sv_tokens.specs.Counting.{times, one}
use Rattle.sv_tokens.specs.Token.{Token, begins, lacks_number}
use Rattle.sv_tokens.specs.Numbering.{numbered}
use Rattle.sv_tokens.proofs.Counting.{times-append}
use Rattle.sv_tokens.proofs.Numbering.{give, numbered-cons, numbered-none, numbered-append}
use Rattle.sv_nodes.specs.Nodes.{Cell, Nodes, start, finish, walk, levels, serial_at}
use Rattle.sv_nodes.specs.Sound.{IsSound}
use Rattle.sv_nodes.specs.Steps.{Rewrites}
use Rattle.sv_nodes.specs.Numbers.{lacks, given, unnumbered, Numbers}
use Rattle.sv_nodes.specs.Cells.{cell_of, kind_of, nodes_of}
use Rattle.sv_nodes.specs.declared.entry.Entry.{Entry}
use Rattle.sv_nodes.proofs.Slabs.{at_node}
use Rattle.sv_nodes.proofs.Places.{levels-is}
use Rattle.sv_nodes.proofs.Walk.{agree, walk-nil, walk-append, walk-node, Within, within-left, within-right, within-children}
use Rattle.sv_nodes.proofs.Finding.{rest-cons, rest-none, child-below}
use Rattle.sv_nodes.proofs.Numbering.{start-given, plain-given, same-begins, sound-same, rewrites-same, lacks-start, lacks-finish, below-begins, below-lacks, below-once}

-- part of the way: the node has its number, and so have the first of its children with all below them
pub record Part (old now : Nodes) (key from number i : ℕ) : Type 0 where
  pub cell : Cell
  pub at : old key ≡ Some cell
  pub own : now key ≡ Some (given from cell)
  pub tokens : walk levels now (take i cell.children) ++ numbered number (walk levels now (drop i cell.children)) ≡ numbered (from + one (lacks cell.number cell.kind)) (walk levels old cell.children)
  pub count : number + times lacks_number (walk levels now (drop i cell.children)) ≡ from + one (lacks cell.number cell.kind) + times lacks_number (walk levels old cell.children)
  pub others : (k : ℕ) → k ≢ key → times (begins k) (walk levels old cell.children) ≡ 0 → now k ≡ old k
  pub same : unnumbered now ≡ unnumbered old

pub part-start : (old now : Nodes) (next key from number : ℕ) (c : Cell) → IsSound old next → old key ≡ Some c → Rewrites old now key (given from) → number ≡ from + one (lacks c.number c.kind)
    → Part old now key from number 0
part-start old now next key from number c sound here rewrites is = record {
  cell = c;
  at = here;
  own = rewrites.here ∙ ap (option_map (given from)) here;
  tokens = ap (λ z. z ++ numbered number (walk levels now c.children)) (walk-nil levels now) ∙ (ap (numbered number) still ∙ ap (λ n. numbered n (walk levels old c.children)) is);
  count = (let e = ap (times lacks_number) still in omega (arith, e, is));
  others = λ k ne none. rewrites.others k ne;
  same = rewrites-same old now key from rewrites;
}
  where
    still : walk levels now c.children ≡ walk levels old c.children
    still = agree levels old now next sound c.children (within-children old next levels key c sound here (omega arith))
        (λ k has. rewrites.others k (λ e. (let once = below-once old next key c sound here k in let own = ap one (eq-eqb key k (sym e)) in omega (arith, once, own, has))))

-- one child more
module _ (old now now' : Nodes) (next key from number after i x : ℕ) (sound : IsSound old next) (p : Part old now key from number i) (inside : i < length p.cell.children) (is : x ≡ get_or p.cell.children i 0)
    (its : Numbers now now' x number after) where
  abbrev ks : List ℕ
  ks = p.cell.children

  abbrev back : List ℕ
  back = drop (i + 1) ks

  sound_now : IsSound now next
  sound_now = sound-same old now next p.same sound

  abbrev c : Cell
  c = given from p.cell

  children : c.children ≡ ks
  children = ap (λ (z : Cell). z.children) (plain-given from p.cell)

  front_is : take (i + 1) ks ≡ take i ks ++ (x ∷ [])
  front_is = ap (λ n. take n ks) (add-one i) ∙ (take-suc ks i 0 inside ∙ ap (λ z. take i ks ++ (z ∷ [])) (sym is))

  split : ks ≡ take i ks ++ (x ∷ back)
  split = sym (take-append-drop (i + 1) ks) ∙ (ap (λ z. z ++ back) front_is ∙ append_assoc (take i ks) (x ∷ []) back)

  parts : walk levels now ks ≡ walk levels now (take i ks) ++ (walk levels now (x ∷ []) ++ walk levels now back)
  parts = ap (walk levels now) split ∙ (walk-append levels now (take i ks) (x ∷ back) ∙ ap (λ z. walk levels now (take i ks) ++ z) (walk-append levels now (x ∷ []) back))

  counts : (j : ℕ) → times (begins j) (walk levels now ks) ≡ times (begins j) (walk levels now (take i ks)) + (times (begins j) (walk levels now (x ∷ [])) + times (begins j) (walk levels now back))
  counts j =
      let a = ap (times (begins j)) parts in
      let b = times-append (begins j) (walk levels now (take i ks)) (walk levels now (x ∷ []) ++ walk levels now back) in
      let d = times-append (begins j) (walk levels now (x ∷ [])) (walk levels now back) in
      omega (arith, a, b, d)

  once : (j : ℕ) → one (key == j) + times (begins j) (walk levels now ks) ≤ 1
  once j = subst (λ z. one (key == j) + times (begins j) (walk levels now z) ≤ 1) children (below-once now next key c sound_now p.own j)

  within : Within now levels (take i ks ++ (x ∷ back))
  within = subst (λ z. Within now levels z) (children ∙ split) (within-children now next levels key c sound_now p.own (omega arith))

  before_it : walk levels now' (take i ks) ≡ walk levels now (take i ks)
  before_it = agree levels now now' next sound_now (take i ks) (within-left now levels (take i ks) (x ∷ back) within) (λ j has. its.others j (let a = counts j in let b = once j in omega (arith, a, b, has)))

  behind_it : walk levels now' back ≡ walk levels now back
  behind_it = agree levels now now' next sound_now back (within-right now levels (x ∷ []) back (within-right now levels (take i ks) (x ∷ back) within)) (λ j has. its.others j (let a = counts j in let b = once j in omega (arith, a, b, has)))

  rest : walk levels now (drop i ks) ≡ walk levels now (x ∷ []) ++ walk levels now back
  rest = rest-cons now ks i x inside is

  abbrev own_tokens : List Token
  own_tokens = walk levels now (x ∷ [])

  tokens_now : walk levels now' (take (i + 1) ks) ++ numbered after (walk levels now' back) ≡ walk levels now (take i ks) ++ numbered number (walk levels now (drop i ks))
  tokens_now =
      ap (λ z. walk levels now' z ++ numbered after (walk levels now' back)) front_is
      ∙ (ap (λ z. z ++ numbered after (walk levels now' back)) (walk-append levels now' (take i ks) (x ∷ []))
      ∙ ((λ j. (before_it j ++ its.tokens j) ++ numbered (its.after j) (behind_it j))
      ∙ (append_assoc (walk levels now (take i ks)) (numbered number own_tokens) _
      ∙ (ap (λ z. walk levels now (take i ks) ++ z) (sym (numbered-append number own_tokens (walk levels now back)))
      ∙ ap (λ z. walk levels now (take i ks) ++ numbered number z) (sym rest)))))

  pub part-next : Part old now' key from after (i + 1)
  part-next = record {
    cell = p.cell;
    at = p.at;
    own = its.others key (let a = counts key in let b = once key in let e = ap one (eq-eqb key key refl) in omega (arith, a, b, e)) ∙ p.own;
    tokens = tokens_now ∙ p.tokens;
    count =
        (let a = ap (times lacks_number) behind_it in
        let b = ap (times lacks_number) rest in
        let d = times-append lacks_number own_tokens (walk levels now back) in
        let e = p.count in
        let f = its.after in
        omega (arith, a, b, d, e, f));
    others = λ k ne none. its.others k (let a = counts k in let b = same-begins k levels old now ks p.same in omega (arith, a, b, none)) ∙ p.others k ne none;
    same = its.same ∙ p.same;
  }

-- all children
module _ (old now : Nodes) (next key from number i : ℕ) (sound : IsSound old next) (p : Part old now key from number i) (past : length p.cell.children ≤ i) where
  abbrev first : Token
  first = start key p.cell

  abbrev last : List Token
  last = finish key p.cell

  abbrev second : ℕ
  second = from + one (lacks p.cell.number p.cell.kind)

  abbrev below : List Token
  below = walk levels old p.cell.children

  sound_then : IsSound now next
  sound_then = sound-same old now next p.same sound

  all : walk levels now p.cell.children ≡ numbered second below
  all =
      ap (walk levels now) (sym (take_all i p.cell.children past))
      ∙ (sym (append-nil (walk levels now (take i p.cell.children)))
      ∙ (ap (λ z. walk levels now (take i p.cell.children) ++ numbered number z) (sym (rest-none now p.cell.children i past)) ∙ p.tokens))

  inner : walk levels now (given from p.cell).children ≡ numbered second below
  inner = ap (λ (z : Cell). walk levels now z.children) (plain-given from p.cell) ∙ all

  whole : walk levels now (key ∷ []) ≡ numbered from (walk levels old (key ∷ []))
  whole =
      walk-node now next key (given from p.cell) sound_then p.own
      ∙ ((λ j. start-given from key p.cell j ∷ (inner j ++ finish key (plain-given from p.cell j)))
      ∙ (ap (λ z. give from first ∷ (numbered second below ++ z)) (sym (numbered-none (second + times lacks_number below) last (lacks-finish key p.cell)))
      ∙ (ap (λ z. give from first ∷ z) (sym (numbered-append second below last))
      ∙ (ap (λ b. give from first ∷ numbered (from + one b) (below ++ last)) (sym (lacks-start key p.cell))
      ∙ (sym (numbered-cons from first (below ++ last))
      ∙ ap (numbered from) (sym (walk-node old next key p.cell sound p.at)))))))

  pub part-end : Numbers old now key from number
  part-end = record {
    tokens = whole;
    after =
        (let a = ap (times lacks_number) (rest-none now p.cell.children i past) in
        let b = below-lacks old next key p.cell sound p.at in
        let e = p.count in
        omega (arith, a, b, e));
    others = λ k none.
        (let a = below-begins old next key p.cell sound p.at k in
        p.others k (λ e. (let own = ap one (eq-eqb key k (sym e)) in omega (arith, a, own, none))) (omega (arith, a, none)));
    same = p.same;
  }

-- ---- in the slab

-- there are numbers enough for the first
pub room-first : (slab : Slab Entry) (next key number : ℕ) → IsSound (nodes_of slab.slots) next → IsSome (get slab key)
    → number + times lacks_number (walk levels (nodes_of slab.slots) (key ∷ [])) ≤ next
    → IsSomeAnd (get slab key) (λ entry. number + one (lacks entry.number (kind_of entry.content)) < 2 ^ 64)
room-first slab next key number sound live room = go (get slab key) refl live
  where
    go : (o : Option Entry) → get slab key ≡ o → IsSome o → IsSomeAnd o (λ entry. number + one (lacks entry.number (kind_of entry.content)) < 2 ^ 64)
    go None at here = absurd (no here)
      where
        no : false ≡ true → ⊥
        no e = cc
    go (Some entry) at here =
        let all = below-lacks (nodes_of slab.slots) next key (cell_of entry) sound (at_node slab key entry at) in
        omega (arith, all, room, sound.bounded, levels-is)

-- the children stay
pub entry-children : (slab : Slab Entry) (key from : ℕ) (cell : Cell) (entry : Entry) → get slab key ≡ Some entry → nodes_of slab.slots key ≡ Some (given from cell) → entry.children.items ≡ cell.children
entry-children slab key from cell entry at own =
    ap (λ (z : Cell). z.children) (some (sym (at_node slab key entry at) ∙ own)) ∙ ap (λ (z : Cell). z.children) (plain-given from cell)
  where
    some : {x y : Cell} → Some x ≡ Some y → x ≡ y
    some e = cc

-- the children were those when the node took its number
pub first-children : (old now : Nodes) (slab : Slab Entry) (key from number i : ℕ) (entry : Entry) → Rewrites old (nodes_of slab.slots) key (given from) → get slab key ≡ Some entry
    → (p : Part old now key from number i) → entry.children.items ≡ p.cell.children
first-children old now slab key from number i entry rewrites at p = entry-children slab key from p.cell entry at (rewrites.here ∙ ap (option_map (given from)) p.at)

pub child-is : (items ks : List ℕ) (i x : ℕ) → items ≡ ks → i < length ks → x ≡ get_or items i x → x ≡ get_or ks i 0
child-is items ks i x e inside is = is ∙ (ap (λ z. get_or z i x) e ∙ get_or_default ks i x 0 inside)

-- a child may take its number
pub record IsTurn (old : Nodes) (slab : Slab Entry) (next key child number : ℕ) : Type 0 where
  pub sound : IsSound (nodes_of slab.slots) next
  pub live : IsSome (get slab child)
  pub later : serial_at old key < serial_at (nodes_of slab.slots) child
  pub below : serial_at (nodes_of slab.slots) child ≤ next
  pub room : number + times lacks_number (walk levels (nodes_of slab.slots) (child ∷ [])) ≤ next

pub child-turn : (old : Nodes) (slab : Slab Entry) (next key from number i x : ℕ) → IsSound old next → from + times lacks_number (walk levels old (key ∷ [])) ≤ next
    → (p : Part old (nodes_of slab.slots) key from number i) → i < length p.cell.children → x ≡ get_or p.cell.children i 0 → IsTurn old slab next key x number
child-turn old slab next key from number i x sound enough p inside is =
    let now = nodes_of slab.slots in
    let sound_now = sound-same old now next p.same sound in
    let children = ap (λ (z : Cell). z.children) (plain-given from p.cell) in
    let b = child-below slab next key (given from p.cell) i x sound_now p.own (subst (λ z. i < length z) (sym children) inside) (is ∙ ap (λ z. get_or z i 0) (sym children)) in
    let was : serial_at old key ≡ p.cell.serial = rw p.at refl in
    let its : serial_at now key ≡ (given from p.cell).serial = rw p.own refl in
    let same = ap (λ (z : Cell). z.serial) (plain-given from p.cell) in
    let rest = ap (times lacks_number) (rest-cons now p.cell.children i x inside is) in
    let parts = times-append lacks_number (walk levels now (x ∷ [])) (walk levels now (drop (i + 1) p.cell.children)) in
    let all = below-lacks old next key p.cell sound p.at in
    record {
      sound = sound_now;
      live = b.live;
      later = omega (arith, b.later, was, its, same);
      below = b.below;
      room = omega (arith, rest, parts, all, p.count, enough);
    }
