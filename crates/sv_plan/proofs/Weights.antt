-- How much there is to walk.
use Rattle.std.proofs.Common.{◌≡◌, ℕ, suc, zero, ◌+◌, ◌<◌, ◌≤◌, Bool, true, false, List, [], ◌∷◌, length, map, get_or, refl, sym, ap, ◌∙◌, arith, Option, Some, None, unwrap_or, ◌&&◌, if◌then◌else◌}
use Rattle.std.specs.List.{slice_get}
use Rattle.std.specs.Option.{option_and_then}
use Rattle.std.specs.Str.{bytes_eq}
use Rattle.sv_base.specs.declared.names.Name.{Name}
use Rattle.sv_base.specs.declared.span.Span.{Span}
use Rattle.sv_code.specs.declared.fragments.Frag.{Frag, Frag-F, out-Frag, fold-Frag, fold_out-Frag, map-Frag}
use Rattle.sv_code.specs.declared.fragments.Frag.TheVariants as frag
use Rattle.sv_code.specs.declared.fragments.FragArm.{FragArm, FragArm-F, fold-FragArm, fold_out-FragArm}
use Rattle.sv_code.specs.declared.fragments.FragAttr.{FragAttr}
use Rattle.sv_code.specs.declared.parts.Part.{Part}
use Rattle.sv_code.specs.declared.parts.Reading.{Reading}
use Rattle.sv_code.specs.declared.program.Program.{Program}
use Rattle.sv_code.specs.declared.tags.Tag.{Tag}
use Rattle.sv_plan.specs.Content.{Content, content_at, content_of, content_named, named_as, or_else, is_empty, has_default, outer_tags}
use Rattle.sv_plan.specs.Plan.{body_in}

abbrev pub total : List ℕ → ℕ
total [] = 0
total (n ∷ ns) = (n + 2) + total ns

abbrev pub given : Option (List ℕ) → ℕ
given None = 0
given (Some ns) = total ns

abbrev pub frag_weight : Frag-F ℕ ℕ → ℕ
frag_weight (Frag-F.Text text) = 1
frag_weight (Frag-F.Show part) = 1
frag_weight (Frag-F.Element span name attrs children) = total children + 4
frag_weight (Frag-F.Tag tag reads) = 1
frag_weight (Frag-F.Named slot lets node) = node + 3
frag_weight (Frag-F.Slot span name attrs own reads) = total own + 6
frag_weight (Frag-F.If arms last) = (total arms + given last) + 6
frag_weight (Frag-F.Each list item index key body none) = (total body + given none) + 8
frag_weight (Frag-F.Key part body) = total body + 6

abbrev pub arm_weight : FragArm-F ℕ ℕ → ℕ
arm_weight a = total a.body

unfoldable pub weight : Frag → ℕ
weight = fold-Frag ℕ ℕ frag_weight arm_weight

unfoldable pub weight_of : FragArm → ℕ
weight_of = fold-FragArm ℕ ℕ frag_weight arm_weight

unfoldable pub weights : List Frag → ℕ
weights frags = total (map weight frags)

unfoldable pub arms_weight : List FragArm → ℕ
arms_weight arms = total (map weight_of arms)

-- what the slots may show that are filled by a tag
abbrev tag_weight : Option Tag → ℕ
tag_weight None = 0
tag_weight (Some t) = weights t.content + 3

abbrev owed_by : Program → Option ℕ → ℕ
owed_by p None = 0
owed_by p (Some k) = tag_weight (slice_get p.tags k)

-- what the slots may show that are filled by these tags
unfoldable pub owed : Program → List (Option ℕ) → ℕ
owed p [] = 0
owed p (tag ∷ tags) = owed_by p tag + owed p tags

weight-out : (f : Frag) → weight f ≡ frag_weight (map-Frag _ _ _ _ weight weight_of (out-Frag f))
unfolding weight weight_of
weight-out f = fold_out-Frag ℕ ℕ frag_weight arm_weight f

arm-out : (a : FragArm) → weight_of a ≡ weights a.body
unfolding weight weight_of weights
arm-out a = fold_out-FragArm ℕ ℕ frag_weight arm_weight a

abbrev pub frags_in : Option (List Frag) → List Frag
frags_in frags = unwrap_or frags []

pub weight-Element : (f : Frag) (span : Span) (name : List ℕ) (attrs : List FragAttr) (children : List Frag) → f ≡ frag.Element span name attrs children → weight f ≡ weights children + 4
unfolding weights
weight-Element f span name attrs children is = rw (is, weight-out, frag.outs-Element) refl

pub weight-Slot : (f : Frag) (span : Span) (name : List ℕ) (attrs : List FragAttr) (own : List Frag) (reads : Reading) → f ≡ frag.Slot span name attrs own reads → weight f ≡ weights own + 6
unfolding weights
weight-Slot f span name attrs own reads is = rw (is, weight-out, frag.outs-Slot) refl

pub weight-If : (f : Frag) (arms : List FragArm) (last : Option (List Frag)) → f ≡ frag.If arms last → weight f ≡ (arms_weight arms + weights (frags_in last)) + 6
unfolding arms_weight weights
weight-If f arms None is = rw (is, weight-out, frag.outs-If) refl
weight-If f arms (Some last) is = rw (is, weight-out, frag.outs-If) refl

pub weight-Each : (f : Frag) (list : Part) (item : Name) (index : Option Name) (key : Option Part) (body : List Frag) (none : Option (List Frag)) → f ≡ frag.Each list item index key body none →
    weight f ≡ (weights body + weights (frags_in none)) + 8
unfolding weights
weight-Each f list item index key body None is = rw (is, weight-out, frag.outs-Each) refl
weight-Each f list item index key body (Some none) is = rw (is, weight-out, frag.outs-Each) refl

pub weight-Key : (f : Frag) (part : Part) (body : List Frag) → f ≡ frag.Key part body → weight f ≡ weights body + 6
unfolding weights
weight-Key f part body is = rw (is, weight-out, frag.outs-Key) refl

-- a fragment weighs less than those that it stands among
pub item-weight : (fs : List Frag) (i : ℕ) (f : Frag) → i < length fs → f ≡ get_or fs i f → weight f < weights fs
unfolding weights
item-weight [] i f lt is = absurd (omega arith)
item-weight (x ∷ fs) zero f lt is = rw is (omega arith)
item-weight (x ∷ fs) (suc i) f lt is = let h : weight f < total (map weight fs) = item-weight fs i f (omega arith) is in omega arith

pub body-weight : (arms : List FragArm) (last : List Frag) (i : ℕ) → weights (body_in arms last i) ≤ arms_weight arms + weights last
unfolding arms_weight
body-weight [] last i = omega arith
body-weight (a ∷ arms) last zero = let e : weight_of a ≡ weights a.body = arm-out a in omega arith
body-weight (a ∷ arms) last (suc i) = let h : weights (body_in arms last i) ≤ total (map weight_of arms) + weights last = body-weight arms last i in omega arith

-- ---- content

abbrev frags_of : Option Content → List Frag
frags_of None = []
frags_of (Some c) = c.frags

-- what goes to a slot of a name weighs no more than the fragment
named-weight : (name : List ℕ) (f : Frag) (x : Frag-F Frag FragArm) (c : Content) → out-Frag f ≡ x → named_as name x ≡ Some c → weights c.frags ≤ weight f
unfolding weights
named-weight name f (Frag-F.Named slot lets node) c is e = go (bytes_eq slot name) e
  where
    same : weight f ≡ weight node + 3
    same = weight-out f ∙ ap (λ y. frag_weight (map-Frag _ _ _ _ weight weight_of y)) is

    go : (b : Bool) → (if b then Some (record { lets = lets; frags = node ∷ [] }) else None) ≡ Some c → total (map weight c.frags) ≤ weight f
    go true h = let frags : c.frags ≡ node ∷ [] = ap (λ o. frags_of o) (sym h) in rw frags (omega (arith, same))
    go false h = absurd (cc)
named-weight name f _ c is e = absurd (cc)

-- nor more than the fragments that it stands among
content-weight : (name : List ℕ) (fs : List Frag) (c : Content) → content_named name fs ≡ Some c → weights c.frags ≤ weights fs
unfolding weights
content-weight name [] c e = absurd (cc)
content-weight name (f ∷ fs) c e = go (named_as name (out-Frag f)) refl (content-weight name fs c) e
  where
    go : (r : Option Content) → named_as name (out-Frag f) ≡ r → (content_named name fs ≡ Some c → total (map weight c.frags) ≤ total (map weight fs)) → or_else r (content_named name fs) ≡ Some c →
        total (map weight c.frags) ≤ (weight f + 2) + total (map weight fs)
    go None h less e' = let rest : total (map weight c.frags) ≤ total (map weight fs) = less e' in omega arith
    go (Some d) h less e' = let own : total (map weight c.frags) ≤ weight f = named-weight name f (out-Frag f) c refl (h ∙ e') in omega arith

given-weight : (name : List ℕ) (t : Tag) (c : Content) → content_of name t ≡ Some c → weights c.frags ≤ weights t.content
given-weight name t c e = go (is_empty name && has_default t.content) e
  where
    go : (b : Bool) → (if b then Some (record { lets = t.lets; frags = t.content }) else content_named name t.content) ≡ Some c → weights c.frags ≤ weights t.content
    go true h = let frags : c.frags ≡ t.content = ap (λ o. frags_of o) (sym h) in rw frags (omega arith)
    go false h = content-weight name t.content c h

pub owed-content : (p : Program) (tags : List (Option ℕ)) (name : List ℕ) (c : Content) → content_at p tags name ≡ Some c → (weights c.frags + 3) + owed p (outer_tags tags) ≤ owed p tags
unfolding owed
owed-content p [] name c e = absurd (cc)
owed-content p (None ∷ tags) name c e = absurd (cc)
owed-content p (Some k ∷ tags) name c e = go (slice_get p.tags k) e
  where
    go : (t : Option Tag) → option_and_then (content_of name) t ≡ Some c → (weights c.frags + 3) + owed p tags ≤ tag_weight t + owed p tags
    go None h = absurd (cc)
    go (Some t) h = let fits : weights c.frags ≤ weights t.content = given-weight name t c h in omega arith
