-- The spots of each form of a fragment, and their parts in tables that grow.
use Rattle.std.proofs.Common.{◌≡◌, ℕ, zero, suc, List, [], ◌∷◌, ◌++◌, Option, None, Some, append_assoc, map, is_some, true≢false, slice_get, sym, ap, subst, ◌∙◌}
use Rattle.sv_ast.specs.declared.markup_tree.TagAttr.{TagAttr}
use Rattle.sv_base.specs.declared.span.Span.{Span}
use Rattle.sv_code.specs.declared.fragments.Frag
use Rattle.sv_code.specs.declared.fragments.Frag.{Frag as AnyFrag, Frag-F, fold-roll-Frag}
use Rattle.sv_code.specs.declared.fragments.Frag.TheVariants as form
use Rattle.sv_code.specs.declared.fragments.FragArm.{FragArm, fold-roll-FragArm}
use Rattle.sv_code.specs.declared.fragments.FragAttr.{FragAttr}
use Rattle.sv_code.specs.declared.parts.Part.{Part}
use Rattle.sv_code.specs.declared.parts.Reading.{Reading}
use Rattle.sv_code.specs.declared.tags.Handler.{Handler}
use Rattle.sv_code.specs.declared.tags.Tag.{Tag}
use Rattle.sv_fragments.specs.Attributes.{lets, slot_name}
use Rattle.sv_fragments.specs.Frags.{with_none}
use Rattle.sv_fragments.specs.Tags.{named_by}
use Rattle.sv_meant.specs.Spots.{Spot, Own, OfHandler, OfTag, Spread, none, one, hears, holds, frag, arm, alone, if_any, in_turn, of_attrs, of_frag, of_frags, of_arm}
use Rattle.sv_within.proofs.Contents.{Row}

abbrev Ss : Type 0
Ss = List Spot

-- ---- each form

pub text_spots : (text : List ℕ) → of_frag (form.Text text) ≡ []
unfolding Frag.roll-Frag denote.Hole.Carrier.roll
text_spots text = fold-roll-Frag Ss Ss frag arm (Frag-F.Text text)

pub show_spots : (shown : Part) → of_frag (form.Show shown) ≡ alone shown
unfolding Frag.roll-Frag denote.Hole.Carrier.roll
show_spots shown = fold-roll-Frag Ss Ss frag arm (Frag-F.Show shown)

pub element_spots : (span : Span) (name : List ℕ) (a : List FragAttr) (b : List AnyFrag) → of_frag (form.Element span name a b) ≡ of_attrs a ++ of_frags b
unfolding Frag.roll-Frag denote.Hole.Carrier.roll
element_spots span name a b = fold-roll-Frag Ss Ss frag arm (Frag-F.Element span name a b)

pub slot_spots : (span : Span) (name : List ℕ) (a : List FragAttr) (own : List AnyFrag) (reads : Reading) → of_frag (form.Slot span name a own reads) ≡ of_attrs a ++ of_frags own
unfolding Frag.roll-Frag denote.Hole.Carrier.roll
slot_spots span name a own reads = fold-roll-Frag Ss Ss frag arm (Frag-F.Slot span name a own reads)

pub tag_spots : (n : ℕ) (reads : Reading) → of_frag (form.Tag n reads) ≡ OfTag n ∷ []
unfolding Frag.roll-Frag denote.Hole.Carrier.roll
tag_spots n reads = fold-roll-Frag Ss Ss frag arm (Frag-F.Tag n reads)

pub named_spots : (list : List TagAttr) (made : AnyFrag) → of_frag (named_by list made) ≡ of_frag made
unfolding Frag.roll-Frag denote.Hole.Carrier.roll
named_spots list made = fold-roll-Frag Ss Ss frag arm (Frag-F.Named (slot_name list) (lets list) made)

pub if_spots : (arms : List FragArm) (last : Option (List AnyFrag)) → of_frag (form.If arms last) ≡ in_turn (map of_arm arms) ++ if_any of_frags last
unfolding Frag.roll-Frag denote.Hole.Carrier.roll
if_spots arms None = fold-roll-Frag Ss Ss frag arm (Frag-F.If arms None)
if_spots arms (Some last) = fold-roll-Frag Ss Ss frag arm (Frag-F.If arms (Some last))

pub each_spots : (r : Row) (last : Option (List AnyFrag)) → of_frag (with_none r last) ≡ (alone r.list ++ (if_any alone r.key ++ of_frags r.body)) ++ if_any of_frags last
unfolding Frag.roll-Frag denote.Hole.Carrier.roll
each_spots r None = fold-roll-Frag Ss Ss frag arm (Frag-F.Each r.list r.item r.index r.key r.body None) ∙ ap (λ z. Own r.list ∷ z) (sym (append_assoc (if_any alone r.key) (of_frags r.body) []))
each_spots r (Some last) = fold-roll-Frag Ss Ss frag arm (Frag-F.Each r.list r.item r.index r.key r.body (Some last)) ∙ ap (λ z. Own r.list ∷ z) (sym (append_assoc (if_any alone r.key) (of_frags r.body) (of_frags last)))

pub key_spots : (shown : Part) (body : List AnyFrag) → of_frag (form.Key shown body) ≡ alone shown ++ of_frags body
unfolding Frag.roll-Frag denote.Hole.Carrier.roll
key_spots shown body = fold-roll-Frag Ss Ss frag arm (Frag-F.Key shown body)

pub arm_spots : (test : Part) (body : List AnyFrag) → of_arm (record { test = test; body = body }) ≡ alone test ++ of_frags body
arm_spots test body = fold-roll-FragArm Ss Ss frag arm (record { test = test; body = body })

-- ---- their parts

front_stands : {A : Type 0} (xs more : List A) (n : ℕ) (x : A) → slice_get xs n ≡ Some x → slice_get (xs ++ more) n ≡ Some x
front_stands [] more n x at = absurd (true≢false (ap is_some (sym at)))
front_stands (y ∷ xs) more zero x at = at
front_stands (y ∷ xs) more (suc n) x at = front_stands xs more n x at

-- in tables with more behind what they have
pub spread_grows : (tags more : List Tag) (handlers others : List Handler) (spots : List Spot) (parts : List Part) → Spread tags handlers spots parts → Spread (tags ++ more) (handlers ++ others) spots parts
spread_grows tags more handlers others spots parts none = none
spread_grows tags more handlers others spots parts (one p ss ps h) = one p ss ps (spread_grows tags more handlers others ss ps h)
spread_grows tags more handlers others spots parts (hears n x inner ss ps at k h) =
    hears n x inner ss ps (front_stands handlers others n x at) (spread_grows tags more handlers others _ inner k) (spread_grows tags more handlers others ss ps h)
spread_grows tags more handlers others spots parts (holds n x inner ss ps at k h) =
    holds n x inner ss ps (front_stands tags more n x at) (spread_grows tags more handlers others _ inner k) (spread_grows tags more handlers others ss ps h)

-- one behind the other
pub spread_both : (tags : List Tag) (handlers : List Handler) (xs ys : List Spot) (ps qs : List Part) → Spread tags handlers xs ps → Spread tags handlers ys qs → Spread tags handlers (xs ++ ys) (ps ++ qs)
spread_both tags handlers xs ys ps qs none l = l
spread_both tags handlers xs ys ps qs (one p ss more h) l = one p (ss ++ ys) (more ++ qs) (spread_both tags handlers ss ys more qs h l)
spread_both tags handlers xs ys ps qs (hears n x inner ss more at k h) l =
    subst (Spread tags handlers (OfHandler n ∷ (ss ++ ys))) (sym (append_assoc inner more qs)) (hears n x inner (ss ++ ys) (more ++ qs) at k (spread_both tags handlers ss ys more qs h l))
spread_both tags handlers xs ys ps qs (holds n x inner ss more at k h) l =
    subst (Spread tags handlers (OfTag n ∷ (ss ++ ys))) (sym (append_assoc inner more qs)) (holds n x inner (ss ++ ys) (more ++ qs) at k (spread_both tags handlers ss ys more qs h l))
