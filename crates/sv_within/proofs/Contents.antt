-- The parts of each form of a fragment, and the looks in it, by those of what it is made of.
use Rattle.std.proofs.Common.{◌≡◌, ℕ, List, [], ◌∷◌, ◌++◌, Option, None, Some, option_map, refl, sym, ap, ◌∙◌, append_assoc}
use Rattle.std.specs.Option.{option_to_list}
use Rattle.sv_ast.specs.declared.markup_tree.TagAttr.{TagAttr}
use Rattle.sv_base.specs.declared.names.Name.{Name}
use Rattle.sv_base.specs.declared.span.Span.{Span}
use Rattle.sv_code.specs.declared.fragments.Frag
use Rattle.sv_code.specs.declared.fragments.Frag.{Frag as AnyFrag, Frag-F, fold-roll-Frag}
use Rattle.sv_code.specs.declared.fragments.Frag.TheVariants as frag
use Rattle.sv_code.specs.declared.fragments.FragArm.{FragArm, fold-FragArm, fold-roll-FragArm}
use Rattle.sv_code.specs.declared.fragments.FragAttr.{FragAttr}
use Rattle.sv_code.specs.declared.fragments.FragValue.{FragValue}
use Rattle.sv_code.specs.declared.fragments.FragValuePart.{FragValuePart}
use Rattle.sv_code.specs.declared.parts.Part.{Part}
use Rattle.sv_code.specs.declared.parts.Reading.{Reading}
use Rattle.sv_code.specs.declared.tags.Handler.{Handler}
use Rattle.sv_code.specs.Content as looks
use Rattle.sv_code.specs.Content.{Look, ByTag, BySlot}
use Rattle.sv_code.specs.Parts as parts
use Rattle.sv_code.specs.Parts.{if_any}
use Rattle.sv_fragments.specs.Builds.{Builds}
use Rattle.sv_fragments.specs.Attributes.{lets, slot_name}
use Rattle.sv_fragments.specs.Tags.{filled, named_by}
use Rattle.sv_fragments.specs.Frags.{head, with_none}
use Rattle.sv_within.proofs.Keeping.{Same, IsEmpty, beside, several, optional, inside}
use Rattle.sv_within.specs.Staying.{Contents, frags_contents}

abbrev Ps : Type 0
Ps = List Part

-- ---- types that have no name outside of the crate that makes them

abbrev made_by : {A B C D : Type 0} → (A → B → C → Builds D) → Type 0
made_by {D = D} make = D

abbrev taken_by : {A B C : Type 0} → (A → B → C) → Type 0
taken_by {A = A} make = A

-- what stands in a tag
abbrev pub Filled : Type 0
Filled = made_by filled

-- the list of an each block with its key
abbrev pub Head : Type 0
Head = made_by head

-- and with its rows
abbrev pub Row : Type 0
Row = taken_by with_none

-- ---- of what there is in each

abbrev pub alone : Contents Part
alone = record { parts = λ p. p ∷ []; looks = looks.of_part }

abbrev pub of_value_part : Contents FragValuePart
of_value_part = record { parts = parts.of_value_part; looks = looks.of_value_part }

abbrev pub of_value : Contents FragValue
of_value = record { parts = parts.of_value; looks = looks.of_value }

abbrev pub of_attr : Contents FragAttr
of_attr = record { parts = parts.of_attr; looks = looks.of_attr }

abbrev pub of_attrs : Contents (List FragAttr)
of_attrs = record { parts = parts.of_attrs; looks = looks.of_attrs }

abbrev pub of_handler : Contents Handler
of_handler = record { parts = parts.of_handler; looks = λ h. looks.given (option_map looks.of_part h.listener) }

abbrev pub of_frag : Contents AnyFrag
of_frag = record { parts = parts.of_frag; looks = λ f. (looks.node f).looks }

abbrev pub of_frags : Contents (List AnyFrag)
of_frags = frags_contents

-- those of a branch of an if block
abbrev pub of_arm : Contents FragArm
of_arm = record { parts = fold-FragArm Ps Ps parts.frag parts.arm; looks = looks.of_arm }

abbrev pub of_filled : Contents Filled
of_filled = record { parts = λ f. parts.of_attrs f.attrs ++ parts.of_frags f.content; looks = λ f. looks.both (looks.of_attrs f.attrs) (looks.of_frags f.content) }

-- those of a list with a key, where a row has some names
abbrev pub of_head : List Name → Contents Head
of_head names = record {
  parts = λ h. h.list ∷ if_any alone.parts h.key;
  looks = λ h. looks.both (looks.of_part h.list) (looks.within names (looks.given (option_map looks.of_part h.key)));
}

abbrev pub of_row : Contents Row
of_row = record {
  parts = λ r. r.list ∷ (if_any alone.parts r.key ++ parts.of_frags r.body);
  looks = λ r. looks.both (looks.of_part r.list) (looks.within (looks.row_names r.item r.index) (looks.both (looks.given (option_map looks.of_part r.key)) (looks.of_frags r.body)));
}

-- ---- each form

pub own_attrs : (own : Option FragAttr) (more : List FragAttr) → Same (beside (optional of_attr) of_attrs) (own, more) of_attrs (option_to_list own ++ more)
own_attrs None more = record { parts = refl; looks = λ bound. refl }
own_attrs (Some a) more = record { parts = refl; looks = λ bound. refl }

pub text_empty : (text : List ℕ) → IsEmpty of_frag (frag.Text text)
unfolding Frag.roll-Frag denote.Hole.Carrier.roll
text_empty text = record { parts = fold-roll-Frag Ps Ps parts.frag parts.arm (Frag-F.Text text); looks = λ bound. ap (λ n. n.looks bound) (fold-roll-Frag looks.Node looks.Looks looks.frag looks.arm (Frag-F.Text text)) }

pub show_same : (shown : Part) → Same alone shown of_frag (frag.Show shown)
unfolding Frag.roll-Frag denote.Hole.Carrier.roll
show_same shown = record { parts = fold-roll-Frag Ps Ps parts.frag parts.arm (Frag-F.Show shown); looks = λ bound. ap (λ n. n.looks bound) (fold-roll-Frag looks.Node looks.Looks looks.frag looks.arm (Frag-F.Show shown)) }

pub element_same : (span : Span) (name : List ℕ) (a : List FragAttr) (b : List AnyFrag) → Same (beside of_attrs of_frags) (a, b) of_frag (frag.Element span name a b)
unfolding Frag.roll-Frag denote.Hole.Carrier.roll
element_same span name a b = record { parts = fold-roll-Frag Ps Ps parts.frag parts.arm (Frag-F.Element span name a b); looks = λ bound. ap (λ n. n.looks bound) (fold-roll-Frag looks.Node looks.Looks looks.frag looks.arm (Frag-F.Element span name a b)) }

pub slot_parts : (span : Span) (name : List ℕ) (a : List FragAttr) (own : List AnyFrag) (reads : Reading) → parts.of_frag (frag.Slot span name a own reads) ≡ parts.of_attrs a ++ parts.of_frags own
unfolding Frag.roll-Frag denote.Hole.Carrier.roll
slot_parts span name a own reads = fold-roll-Frag Ps Ps parts.frag parts.arm (Frag-F.Slot span name a own reads)

pub slot_node_looks : (span : Span) (name : List ℕ) (a : List FragAttr) (own : List AnyFrag) (reads : Reading) (bound : List Name)
    → (looks.node (frag.Slot span name a own reads)).looks bound ≡ record { by = BySlot; bound = bound; reads = reads } ∷ (looks.of_attrs a bound ++ looks.of_frags own bound)
unfolding Frag.roll-Frag denote.Hole.Carrier.roll
slot_node_looks span name a own reads bound = ap (λ n. n.looks bound) (fold-roll-Frag looks.Node looks.Looks looks.frag looks.arm (Frag-F.Slot span name a own reads))

pub tag_parts : (n : ℕ) (reads : Reading) → parts.of_frag (frag.Tag n reads) ≡ []
unfolding Frag.roll-Frag denote.Hole.Carrier.roll
tag_parts n reads = fold-roll-Frag Ps Ps parts.frag parts.arm (Frag-F.Tag n reads)

pub tag_node_looks : (n : ℕ) (reads : Reading) (bound : List Name) → (looks.node (frag.Tag n reads)).looks bound ≡ record { by = ByTag n; bound = bound; reads = reads } ∷ []
unfolding Frag.roll-Frag denote.Hole.Carrier.roll
tag_node_looks n reads bound = ap (λ n. n.looks bound) (fold-roll-Frag looks.Node looks.Looks looks.frag looks.arm (Frag-F.Tag n reads))

pub named_same : (list : List TagAttr) (made : AnyFrag) → Same (inside (looks.let_names (lets list)) of_frag) made of_frag (named_by list made)
unfolding Frag.roll-Frag denote.Hole.Carrier.roll
named_same list made = record { parts = fold-roll-Frag Ps Ps parts.frag parts.arm (Frag-F.Named (slot_name list) (lets list) made); looks = λ bound. ap (λ n. n.looks bound) (fold-roll-Frag looks.Node looks.Looks looks.frag looks.arm (Frag-F.Named (slot_name list) (lets list) made)) }

pub if_same : (arms : List FragArm) (last : Option (List AnyFrag)) → Same (beside (several of_arm) (optional of_frags)) (arms, last) of_frag (frag.If arms last)
unfolding Frag.roll-Frag denote.Hole.Carrier.roll
if_same arms None = record { parts = fold-roll-Frag Ps Ps parts.frag parts.arm (Frag-F.If arms None); looks = λ bound. ap (λ n. n.looks bound) (fold-roll-Frag looks.Node looks.Looks looks.frag looks.arm (Frag-F.If arms None)) }
if_same arms (Some last) = record { parts = fold-roll-Frag Ps Ps parts.frag parts.arm (Frag-F.If arms (Some last)); looks = λ bound. ap (λ n. n.looks bound) (fold-roll-Frag looks.Node looks.Looks looks.frag looks.arm (Frag-F.If arms (Some last))) }

pub each_same : (r : Row) (none : Option (List AnyFrag)) → Same (beside of_row (optional of_frags)) (r, none) of_frag (with_none r none)
unfolding Frag.roll-Frag denote.Hole.Carrier.roll
each_same r None = record {
  parts = fold-roll-Frag Ps Ps parts.frag parts.arm (Frag-F.Each r.list r.item r.index r.key r.body None) ∙ ap (λ z. r.list ∷ z) (sym (append_assoc (if_any alone.parts r.key) (parts.of_frags r.body) []));
  looks = λ bound. ap (λ n. n.looks bound) (fold-roll-Frag looks.Node looks.Looks looks.frag looks.arm (Frag-F.Each r.list r.item r.index r.key r.body None));
}
each_same r (Some none) = record {
  parts = fold-roll-Frag Ps Ps parts.frag parts.arm (Frag-F.Each r.list r.item r.index r.key r.body (Some none)) ∙ ap (λ z. r.list ∷ z) (sym (append_assoc (if_any alone.parts r.key) (parts.of_frags r.body) (parts.of_frags none)));
  looks = λ bound. ap (λ n. n.looks bound) (fold-roll-Frag looks.Node looks.Looks looks.frag looks.arm (Frag-F.Each r.list r.item r.index r.key r.body (Some none)));
}

pub key_same : (shown : Part) (body : List AnyFrag) → Same (beside alone of_frags) (shown, body) of_frag (frag.Key shown body)
unfolding Frag.roll-Frag denote.Hole.Carrier.roll
key_same shown body = record { parts = fold-roll-Frag Ps Ps parts.frag parts.arm (Frag-F.Key shown body); looks = λ bound. ap (λ n. n.looks bound) (fold-roll-Frag looks.Node looks.Looks looks.frag looks.arm (Frag-F.Key shown body)) }

pub arm_same : (test : Part) (body : List AnyFrag) → Same (beside alone of_frags) (test, body) of_arm (record { test = test; body = body })
arm_same test body = record {
  parts = fold-roll-FragArm Ps Ps parts.frag parts.arm (record { test = test; body = body });
  looks = λ bound. ap (λ l. l bound) (fold-roll-FragArm looks.Node looks.Looks looks.frag looks.arm (record { test = test; body = body }));
}
