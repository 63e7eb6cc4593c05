-- What stands for a handler or a component's tag looks at what that does.
use Rattle.std.proofs.Common.{◌≡◌, ℕ, zero, suc, ◌+◌, ◌<◌, Bool, true, false, List, [], ◌∷◌, ◌++◌, Option, None, Some, map, option_map, refl, sym, subst, ◌∙◌, arith, slice_get, nat_eq, eq-eqb}
use Rattle.std.specs.Prelude.{if◌then◌else◌}
use Rattle.std.specs.Option.{option_to_list}
use Rattle.sv_ast.specs.declared.markup_tree.TagAttr.{TagAttr}
use Rattle.sv_ast.specs.declared.names.Named.{Named}
use Rattle.sv_ast.specs.declared.names.Ref.TheVariants.{Plain}
use Rattle.sv_base.specs.declared.names.Name.{Name}
use Rattle.sv_code.proofs.Each.{each_append, each_front, each_back, each_mono}
use Rattle.sv_code.specs.declared.fragments.Frag.{Frag}
use Rattle.sv_code.specs.declared.fragments.LetName.{LetName}
use Rattle.sv_code.specs.declared.parts.Part.{Part}
use Rattle.sv_code.specs.declared.parts.Reading.{Reading}
use Rattle.sv_code.specs.declared.tags.Tag.{Tag}
use Rattle.sv_code.specs.Content as looks
use Rattle.sv_code.specs.Content.{Look, ByPart, ByHandler, ByTag, BySlot, Sees, IsSeenBy, IsTagSeen, HasView, SeesView}
use Rattle.sv_code.specs.Names.{Each}
use Rattle.sv_code.specs.Parts.{if_any}
use Rattle.sv_code.specs.Within.{has_cell}
use Rattle.sv_deps.specs.Looks as deps
use Rattle.sv_deps.specs.Looks.{Looked, gathered, looked_at, tag_looks}
use Rattle.sv_names.proofs.Same.{has-firsts}
use Rattle.sv_scopes.specs.Attributes.{lets as declared_lets}
use Rattle.sv_scopes.specs.Parts.{names_of}
use Rattle.sv_scopes.specs.Rows.{row_names}
use Rattle.sv_scopes.specs.declared.scope.Declared.{Declared}
use Rattle.sv_scopes.specs.declared.scope.TheConstants.{VIEW}
use Rattle.sv_fragments.specs.Attributes.{heard}
use Rattle.sv_fragments.specs.Frags.{row_refs}
use Rattle.sv_fragments.specs.Tags.{Form, let_refs, has_own_lets, own_refs}
use Rattle.sv_fragments.proofs.Looking.{among_below}
use Rattle.sv_within.proofs.Keeping.{HidesNoView}
use Rattle.sv_within.proofs.Seeing.{same_name, each_two, each_from_all, each_among, IsFound, finds_both, finds_one, finds_attrs, content_found, gathered_sees}

-- a look is at cells below so many
abbrev pub IsBelow : ℕ → Look → Type 0
IsBelow count look = Each (λ n. n < count) look.reads.cells

-- ---- handlers

sees_itself : (reads : Reading) → Sees reads [] reads
sees_itself reads = record { cells = each_among nat_eq (λ n. eq-eqb n n refl) reads.cells; locals = each_among same_name (λ x. eq-eqb x.0 x.0 refl) reads.locals }

pub heard_seen : (o : Option Part) → Each (λ p. Sees (heard o) [] p.reads) (if_any (λ p. p ∷ []) o)
heard_seen None = tt
heard_seen (Some p) = (sees_itself p.reads, tt)

pub heard_below : (count : ℕ) (o : Option Part) → Each (IsBelow count) (looks.given (option_map looks.of_part o) []) → Each (λ n. n < count) (heard o).cells
heard_below count None h = tt
heard_below count (Some p) h = h.0

-- ---- tags

-- what is gathered of cells is below their count
pub gathered_below : (count : ℕ) (found : Looked) → Each (λ n. n < count) (gathered count found).cells
gathered_below count found =
    each_mono (λ n. n < 0 + count) (λ n. n < count) (λ n h. omega (arith, h)) (gathered count found).cells
    (each_from_all (λ n. n < 0 + count) (gathered count found).cells (among_below 0 count found.cells))

-- the content of a tag is seen by what it looks at
pub content_seen : (count : ℕ) (lets : List LetName) (list : List Frag) → Each (IsBelow count) (looks.of_content lets list) → Each (IsSeenBy (looked_at count lets list)) (looks.of_content lets list)
content_seen count lets list below =
    let found = deps.content (deps.let_names lets) list [] in
    each_two (IsFound found) (IsBelow count) (IsSeenBy (gathered count found)) (gathered_sees count found) (looks.of_content lets list) (content_found lets list) below

-- and so are its attributes, and what it looks at itself, by the fragment that stands for it
pub tag_seen : (count : ℕ) (t : Tag) → Each (IsBelow count) (looks.of_attrs t.attrs []) → Each (λ n. n < count) t.reads.cells → IsTagSeen (tag_looks count t.attrs t.reads) t
tag_seen count t below own =
    let attrs = looks.of_attrs t.attrs in
    let content = looks.one ByPart t.reads in
    let both = deps.both (deps.attrs t.attrs) (deps.read t.reads) in
    let finds = finds_both attrs content (deps.attrs t.attrs) (deps.read t.reads) (finds_attrs t.attrs) (finds_one ByPart t.reads) in
    let Seen = IsSeenBy (gathered count (both [])) in
    let seen = each_two (IsFound (both [])) (IsBelow count) Seen (gathered_sees count (both [])) (attrs [] ++ content []) (finds.all [] [] (λ x h. h)) (each_append (IsBelow count) (attrs []) (content []) below (own, tt)) in
    record { attrs = each_front Seen (attrs []) (content []) seen; content = (each_back Seen (attrs []) (content []) seen).0 }

-- ---- the owner's view

-- a part and a handler are no `<slot>`
pub part_views : (tags : List Tag) (view : Option ℕ) (depth : ℕ) (bound : List Name) (reads : Reading) → SeesView tags view depth (record { by = ByPart; bound = bound; reads = reads })
part_views tags view zero bound reads = tt
part_views tags view (suc depth) bound reads = tt

pub handler_views : (tags : List Tag) (view : Option ℕ) (depth n : ℕ) (bound : List Name) (reads : Reading) → SeesView tags view depth (record { by = ByHandler n; bound = bound; reads = reads })
handler_views tags view zero n bound reads = tt
handler_views tags view (suc depth) n bound reads = tt

pub slot_views : (tags : List Tag) (view : Option ℕ) (cell depth : ℕ) (bound : List Name) (reads : Reading) → view ≡ Some cell → has_cell reads cell ≡ true → SeesView tags view depth (record { by = BySlot; bound = bound; reads = reads })
slot_views tags view cell zero bound reads is h = tt
slot_views tags view cell (suc depth) bound reads is h = subst (HasView reads) (sym is) h

-- a tag is one where the looks in it are so, less deep
pub tag_views : (tags : List Tag) (view : Option ℕ) (depth n : ℕ) (bound : List Name) (reads : Reading) (t : Tag) → slice_get tags n ≡ Some t → ((d : ℕ) → Each (SeesView tags view d) (looks.of_tag t)) → SeesView tags view depth (record { by = ByTag n; bound = bound; reads = reads })
tag_views tags view zero n bound reads t at h = tt
tag_views tags view (suc depth) n bound reads t at h = record { item = t; there = at; holds = h depth }

-- names of rows and slot props don't hide it
pub free_of : {X : Type 0} (name : X → Name) (xs : List X) → HidesNoView (map (λ x. Plain (name x)) xs)
free_of name [] = refl
free_of name (x ∷ xs) = free_of name xs

pub rows_free : (item : Named) (index : Option Named) → HidesNoView (row_refs item index)
rows_free item index = has-firsts VIEW (row_names item index) ∙ free_of (λ (i : Named). i.name) (item ∷ option_to_list index)

pub lets_free : (list : List TagAttr) → HidesNoView (let_refs list)
lets_free list = has-firsts VIEW (names_of (declared_lets list)) ∙ free_of (λ (d : Declared). d.name) (declared_lets list)

pub own_free : (form : Form) (list : List TagAttr) → HidesNoView (own_refs form list)
own_free form list = by (has_own_lets form list)
  where
    by : (b : Bool) → HidesNoView (if b then let_refs list else [])
    by true = lets_free list
    by false = refl
