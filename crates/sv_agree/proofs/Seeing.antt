-- Where a slot stands, the cell of the owner's view is looked at, by tags at any depth.
use Rattle.std.proofs.Common.{◌≡◌, ℕ, zero, suc, true, List, [], Option, Some, None, sym, ap, ◌∙◌, subst, true≢false}
use Rattle.std.specs.Prelude.{slice_get}
use Rattle.sv_agree.proofs.Contents.{each_both, content_stays}
use Rattle.sv_agree.proofs.Looking.{frags_look, content_looks}
use Rattle.sv_agree.proofs.Scopes.{cell_in}
use Rattle.sv_agree.specs.Agreeing.{slot_in, slot_in_tag, slot_within}
use Rattle.sv_agree.specs.Scopes.{StaysIn}
use Rattle.sv_agree.specs.Seeing.{SlotsSeeViews, TagsSeeViews}
use Rattle.sv_base.specs.declared.names.Name.{Name}
use Rattle.sv_code.proofs.Each.{each_back}
use Rattle.sv_code.specs.Content as content
use Rattle.sv_code.specs.Content.{Look, ByPart, Sees, SeesView, HasView, AreContentsSeen, let_names, of_content}
use Rattle.sv_code.specs.Names.{Each}
use Rattle.sv_code.specs.declared.fragments.Frag.{Frag}
use Rattle.sv_code.specs.declared.parts.Reading.{Reading}
use Rattle.sv_code.specs.declared.program.Program.{Program}
use Rattle.sv_code.specs.declared.tags.Tag.{Tag}
use Rattle.sv_right.proofs.Lists.{some_same}
use Rattle.sv_right.specs.Right.{IsThere}

has_there : (reads : Reading) (view : Option ℕ) → HasView reads view → IsThere view
has_there reads None h = h
has_there reads (Some cell) h = tt

-- a reading that sees one with the cell has the cell
seen_through : (reads inner : Reading) (bound : List Name) (view : Option ℕ) → Sees reads bound inner → HasView inner view → HasView reads view
seen_through reads inner bound None sees h = h
seen_through reads inner bound (Some cell) sees h = cell_in (Some reads) (record { by = ByPart; bound = bound; reads = inner }) cell sees h

module _ (p : Program) (view : Option ℕ) (seen : AreContentsSeen p) where
  abbrev SeesAt : ℕ → Look → Type 0
  SeesAt depth look = SeesView p.tags view depth look

  -- a look in the content of a tag
  abbrev SeesIn : ℕ → Tag → Look → Type 0
  SeesIn depth t look = SeesAt depth look × StaysIn p (Some t.reads) look

  abbrev TagSees : ℕ → Type 0
  TagSees depth = (k : ℕ) (t : Tag) → slice_get p.tags k ≡ Some t → slot_within p depth t.content ≡ true → Each (SeesAt (suc depth)) (of_content t.lets t.content) → HasView t.reads view

  -- a tag of which it is told
  inner_sees : (depth : ℕ) → TagSees depth → (k : ℕ) → slot_in_tag p (suc depth) k ≡ true → (s : content.Stands (λ t. Each (SeesAt (suc depth)) (content.of_tag t)) p.tags k) → HasView s.item.reads view
  inner_sees depth sees k e s =
      sees k s.item s.there (sym (ap (slot_in (slot_in_tag p depth)) s.there) ∙ e) (each_back (SeesAt (suc depth)) (content.of_attrs s.item.attrs []) (of_content s.item.lets s.item.content) s.holds)

  in_content_of : (depth k : ℕ) (t : Tag) → slice_get p.tags k ≡ Some t → slot_within p depth t.content ≡ true → Each (SeesAt (suc depth)) (of_content t.lets t.content) →
      ((j : ℕ) → slot_in_tag p depth j ≡ true → (reads : Reading) (bound : List Name) → SeesIn (suc depth) t (record { by = content.ByTag j; bound = bound; reads = reads }) → HasView t.reads view) → HasView t.reads view
  in_content_of depth k t is e h by_tag =
      content_looks (slot_in_tag p depth) (SeesIn (suc depth) t) (HasView t.reads view) (λ bound reads s. seen_through t.reads reads bound view s.1.0 s.0) (λ bound j reads q s. by_tag j q reads bound s) (let_names t.lets)
      t.content e (each_both (SeesAt (suc depth)) (StaysIn p (Some t.reads)) (of_content t.lets t.content) h (content_stays p seen k t is))

  tag_sees : (depth : ℕ) → TagSees depth
  tag_sees zero k t is e h = in_content_of zero k t is e h (λ j q reads bound s. absurd (true≢false (sym q)))
  tag_sees (suc depth) k t is e h =
      in_content_of (suc depth) k t is e h
      (λ j q reads bound s.
      let inner = inner_sees depth (tag_sees depth) j q s.0 in
      seen_through t.reads reads bound view s.1.0
      (seen_through reads s.0.item.reads [] view (subst (λ (z : Tag). Sees reads [] z.reads) (some_same (sym s.1.1.there ∙ s.0.there)) s.1.1.holds.content) inner))

  frags_see : (depth : ℕ) (frags : List Frag) (bound : List Name) → slot_within p depth frags ≡ true → Each (SeesAt (suc depth)) (content.of_frags frags bound) → IsThere view
  frags_see zero frags bound e h =
      frags_look (slot_in_tag p zero) (SeesAt 1) (IsThere view) (λ names reads s. has_there reads view s) (λ names k reads q s. absurd (true≢false (sym q))) frags bound e h
  frags_see (suc depth) frags bound e h =
      frags_look (slot_in_tag p (suc depth)) (SeesAt (suc (suc depth))) (IsThere view) (λ names reads s. has_there reads view s)
      (λ names k reads q s. has_there s.item.reads view (inner_sees depth (tag_sees depth) k q s)) frags bound e h

pub slots_see : SlotsSeeViews
slots_see p view depth frags bound seen e h = frags_see p view seen depth frags bound e h

pub tags_see : TagsSeeViews
tags_see p view depth k t seen is e h = tag_sees p view seen depth k t is e h
