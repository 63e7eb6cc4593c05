-- What tags give to slots fits in what the tags look at.
use Rattle.std.proofs.Common.{◌≡◌, ℕ, zero, suc, Bool, true, false, ◌||◌, ◌&&◌, List, [], ◌∷◌, ◌++◌, map, Option, Some, None, refl, sym, ◌∙◌, subst, if◌then◌else◌}
use Rattle.std.specs.Prelude.{slice_get}
use Rattle.std.specs.Str.{bytes_eq}
use Rattle.sv_agree.proofs.Forms.{in_first}
use Rattle.sv_agree.proofs.Markup.{shown_looks, shown_of, FragFits}
use Rattle.sv_agree.proofs.Scopes.{inside, or_true}
use Rattle.sv_agree.specs.Agreeing.{Counts, frag_slot, arm_slot, has_slot, slot_in_arm, have_slot}
use Rattle.sv_agree.specs.Scopes.{Scope, only, StaysIn}
use Rattle.sv_base.specs.declared.names.Name.{Name}
use Rattle.sv_code.proofs.Each.{each_front, each_back}
use Rattle.sv_code.specs.Content as content
use Rattle.sv_code.specs.Content.{Look, Node, Looks, nodes, node, of_arm, in_content, let_names, of_content, IsSeenBy, IsTold, AreContentsSeen}
use Rattle.sv_code.specs.Names.{Each}
use Rattle.sv_code.specs.Parts as parts
use Rattle.sv_code.specs.Within.{IsWithin, ArePartsWithin}
use Rattle.sv_code.specs.declared.fragments.Frag.{Frag, Frag-F, out-Frag, map-Frag, fold_out-Frag}
use Rattle.sv_code.specs.declared.fragments.FragArm.{FragArm, fold-FragArm}
use Rattle.sv_code.specs.declared.fragments.LetName.{LetName}
use Rattle.sv_code.specs.declared.parts.Part.{Part}
use Rattle.sv_code.specs.declared.parts.Reading.{Reading}
use Rattle.sv_code.specs.declared.program.Program.{Program}
use Rattle.sv_code.specs.declared.tags.Tag.{Tag}
use Rattle.sv_plan.specs.Content.{Content, Opened, content_of, content_named, named_as, or_else, is_empty, has_default}
use Rattle.sv_right.proofs.Lists.{some_same}

-- ---- the tags of a program

each_at : {A : Type 0} (Q : A → Type 0) (xs : List A) (j : ℕ) (x : A) → Each Q xs → slice_get xs j ≡ Some x → Q x
each_at Q [] j x h e = absurd (cc)
each_at Q (y ∷ xs) zero x h e = subst Q (some_same e) h.0
each_at Q (y ∷ xs) (suc j) x h e = each_at Q xs j x h.1 e

each_turn : {A : Type 0} (Q : Part → Type 0) (f : A → List Part) (xs : List A) → Each Q (parts.in_turn (map f xs)) → Each (λ x. Each Q (f x)) xs
each_turn Q f [] h = tt
each_turn Q f (x ∷ xs) h = (each_front Q (f x) (parts.in_turn (map f xs)) h, each_turn Q f xs (each_back Q (f x) (parts.in_turn (map f xs)) h))

pub each_both : {A : Type 0} (Q R : A → Type 0) (xs : List A) → Each Q xs → Each R xs → Each (λ x. Q x × R x) xs
each_both Q R [] h k = tt
each_both Q R (x ∷ xs) h k = ((h.0, k.0), each_both Q R xs h.1 k.1)

tag_within : (p : Program) → ArePartsWithin p → (k : ℕ) (t : Tag) → slice_get p.tags k ≡ Some t → Each (IsWithin p) (parts.of_tag t)
tag_within p within k t e =
    let files = parts.in_turn (map (λ f. parts.of_file f.code) p.files) in
    let own = parts.in_turn (map parts.of_tag p.tags) in
    let handlers = parts.in_turn (map parts.of_handler p.handlers) in
    each_at (λ (z : Tag). Each (IsWithin p) (parts.of_tag z)) p.tags k t (each_turn (IsWithin p) parts.of_tag p.tags (each_front (IsWithin p) own handlers (each_back (IsWithin p) files (own ++ handlers) within))) e

pub attrs_within : (p : Program) → ArePartsWithin p → (k : ℕ) (t : Tag) → slice_get p.tags k ≡ Some t → Each (IsWithin p) (parts.of_attrs t.attrs)
attrs_within p within k t e = each_front (IsWithin p) (parts.of_attrs t.attrs) (parts.of_frags t.content) (tag_within p within k t e)

pub content_within : (p : Program) → ArePartsWithin p → (k : ℕ) (t : Tag) → slice_get p.tags k ≡ Some t → Each (IsWithin p) (parts.of_frags t.content)
content_within p within k t e = each_back (IsWithin p) (parts.of_attrs t.attrs) (parts.of_frags t.content) (tag_within p within k t e)

-- looks in the content of a tag stay within what the tag looks at
pub content_stays : (p : Program) → AreContentsSeen p → (k : ℕ) (t : Tag) → slice_get p.tags k ≡ Some t → Each (StaysIn p (Some t.reads)) (of_content t.lets t.content)
content_stays p seen k t e =
    each_both (IsSeenBy t.reads) (IsTold p.tags p.handlers) (of_content t.lets t.content) (each_at content.IsContentSeen p.tags k t seen.tags e)
    (each_back (IsTold p.tags p.handlers) (content.of_attrs t.attrs []) (of_content t.lets t.content)
    (each_at (λ (z : Tag). Each (IsTold p.tags p.handlers) (content.of_tag z)) p.tags k t seen.inside e))

-- ---- fragments that fit

-- in a scope with a list of names, fragments fit one by one
pub each_fits : (p : Program) (scope : Scope) (fs : List Frag) → Each (IsWithin p) (parts.of_frags fs) → Each (StaysIn p scope.reading) (content.of_frags fs scope.bound) → Each (FragFits p scope) fs
each_fits p scope [] h k = tt
each_fits p scope (f ∷ fs) h k =
    let looks = (node f).looks scope.bound in
    let more = nodes (map node fs) scope.bound in (
      (each_front (IsWithin p) (parts.of_frag f) (parts.of_frags fs) h, shown_of (StaysIn p scope.reading) (node f) scope.bound (each_front (StaysIn p scope.reading) looks more k)),
      each_fits p scope fs (each_back (IsWithin p) (parts.of_frag f) (parts.of_frags fs) h) (each_back (StaysIn p scope.reading) looks more k),
    )

-- ---- content

-- the scope of content with names for slot props
abbrev pub in_lets : List LetName → Reading → Scope
in_lets lets reads = inside (let_names lets) (only reads)

-- content fits in what a tag looks at, and a slot stands in there only where one stands in the tag
pub record Given (p : Program) (counts : Counts) (reads : Reading) (slot : Bool) (c : Content) : Type 0 where
  pub frags : Each (FragFits p (in_lets c.lets reads)) c.frags
  pub slots : have_slot counts c.frags ≡ true → slot ≡ true

module _ (p : Program) (counts : Counts) (reads : Reading) where
  abbrev Stays : Look → Type 0
  Stays look = StaysIn p (Some reads) look

  -- the looks of content, where some names are in its default part
  abbrev looks_in : List Name → List Frag → List Look
  looks_in names fs = content.in_turn (map (λ f. in_content names (node f)) fs) []

  default_looks : (names : List Name) (n : Node) → Each Stays (in_content names n []) → Each Stays (shown_looks n (names ++ []))
  default_looks names n h = by n.named h
    where
      by : (b : Bool) → Each Stays ((if b then n.looks else content.within names n.looks) []) → Each Stays (if b then [] else n.looks (names ++ []))
      by true k = tt
      by false k = k

  default_fits : (lets : List LetName) (fs : List Frag) → Each (IsWithin p) (parts.of_frags fs) → Each Stays (looks_in (let_names lets) fs) → Each (FragFits p (in_lets lets reads)) fs
  default_fits lets [] h k = tt
  default_fits lets (f ∷ fs) h k =
      let looks = in_content (let_names lets) (node f) [] in
      let more = looks_in (let_names lets) fs in (
        (each_front (IsWithin p) (parts.of_frag f) (parts.of_frags fs) h, default_looks (let_names lets) (node f) (each_front Stays looks more k)),
        default_fits lets fs (each_back (IsWithin p) (parts.of_frag f) (parts.of_frags fs) h) (each_back Stays looks more k),
      )

  -- ---- content for a slot of a name

  abbrev parts_out : Opened → List Part
  parts_out x = parts.frag (map-Frag Frag FragArm (List Part) (List Part) parts.of_frag (fold-FragArm (List Part) (List Part) parts.frag parts.arm) x)

  abbrev node_out : Opened → Node
  node_out x = content.frag (map-Frag Frag FragArm Node Looks node of_arm x)

  abbrev slot_out : Opened → Bool
  slot_out x = frag_slot counts (map-Frag Frag FragArm Bool Bool (has_slot counts) (slot_in_arm counts) x)

  or_false : (b : Bool) → (b || false) ≡ true → b ≡ true
  or_false true e = refl
  or_false false e = e

  named_given : (names : List Name) (name : List ℕ) (x : Opened) (c : Content) → Each (IsWithin p) (parts_out x) → Each Stays (in_content names (node_out x) []) → named_as name x ≡ Some c → Given p counts reads (slot_out x) c
  named_given names name (Frag-F.Named slot lets inner) c h k e = by (bytes_eq slot name) e
    where
      by : (b : Bool) → (if b then Some (record { lets = lets; frags = inner ∷ [] }) else None) ≡ Some c → Given p counts reads (has_slot counts inner) c
      by true q =
          subst (Given p counts reads (has_slot counts inner)) (some_same q)
          (record { frags = ((h, shown_of Stays (node inner) (let_names lets ++ []) k), tt); slots = or_false (has_slot counts inner) })
      by false q = absurd (cc)
  named_given names name (Frag-F.Text text) c h k e = absurd (cc)
  named_given names name (Frag-F.Show part) c h k e = absurd (cc)
  named_given names name (Frag-F.Element span own attrs children) c h k e = absurd (cc)
  named_given names name (Frag-F.Tag tag looks) c h k e = absurd (cc)
  named_given names name (Frag-F.Slot span own attrs frags looks) c h k e = absurd (cc)
  named_given names name (Frag-F.If arms last) c h k e = absurd (cc)
  named_given names name (Frag-F.Each list item index key body last) c h k e = absurd (cc)
  named_given names name (Frag-F.Key part body) c h k e = absurd (cc)

  given_wider : (part whole : Bool) (c : Content) → (part ≡ true → whole ≡ true) → Given p counts reads part c → Given p counts reads whole c
  given_wider part whole c wider g = record { frags = g.frags; slots = λ e. wider (g.slots e) }

  all_given : (names : List Name) (name : List ℕ) (fs : List Frag) (c : Content) → Each (IsWithin p) (parts.of_frags fs) → Each Stays (looks_in names fs) → content_named name fs ≡ Some c → Given p counts reads (have_slot counts fs) c
  all_given names name [] c h k e = absurd (cc)
  all_given names name (f ∷ fs) c h k e =
      by (named_as name (out-Frag f)) refl e
      (λ q. given_wider (have_slot counts fs) (have_slot counts (f ∷ fs)) c (or_true (has_slot counts f) (have_slot counts fs)) (all_given names name fs c (each_back (IsWithin p) (parts.of_frag f) (parts.of_frags fs) h) (each_back Stays looks more k) q))
    where
      looks : List Look
      looks = in_content names (node f) []

      more : List Look
      more = looks_in names fs

      own : (d : Content) → named_as name (out-Frag f) ≡ Some d → Given p counts reads (has_slot counts f) d
      own d q =
          subst (λ b. Given p counts reads b d) (sym (fold_out-Frag Bool Bool (frag_slot counts) arm_slot f))
          (named_given names name (out-Frag f) d (subst (Each (IsWithin p)) (fold_out-Frag (List Part) (List Part) parts.frag parts.arm f) (each_front (IsWithin p) (parts.of_frag f) (parts.of_frags fs) h))
          (subst (λ n. Each Stays (in_content names n [])) (fold_out-Frag Node Looks content.frag content.arm f) (each_front Stays looks more k)) q)

      by : (o : Option Content) → named_as name (out-Frag f) ≡ o → or_else o (content_named name fs) ≡ Some c → (content_named name fs ≡ Some c → Given p counts reads (have_slot counts (f ∷ fs)) c) →
          Given p counts reads (have_slot counts (f ∷ fs)) c
      by None is q rest = rest q
      by (Some d) is q rest = given_wider (has_slot counts f) (have_slot counts (f ∷ fs)) c (in_first (has_slot counts f) (have_slot counts fs)) (own c (is ∙ q))

-- what a tag gives to a slot of some name fits in what the tag looks at
pub tag_gives : (p : Program) (counts : Counts) (name : List ℕ) (t : Tag) (c : Content) → Each (IsWithin p) (parts.of_frags t.content) → Each (StaysIn p (Some t.reads)) (of_content t.lets t.content) → content_of name t ≡ Some c →
    Given p counts t.reads (have_slot counts t.content) c
tag_gives p counts name t c h k e = by (is_empty name && has_default t.content) e
  where
    by : (b : Bool) → (if b then Some (record { lets = t.lets; frags = t.content }) else content_named name t.content) ≡ Some c → Given p counts t.reads (have_slot counts t.content) c
    by true q = subst (Given p counts t.reads (have_slot counts t.content)) (some_same q) (record { frags = default_fits p counts t.reads t.lets t.content h k; slots = λ s. s })
    by false q = all_given p counts t.reads (let_names t.lets) name t.content c h k q
