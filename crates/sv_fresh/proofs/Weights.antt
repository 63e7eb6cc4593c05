-- How much there is to draw: the measure of the walk. Content of slots and markup of children weigh less than the whole program; each time the
-- walk goes on in one of them, it has gone up a level or down to a child, and fewer such steps are left.
use Rattle.std.proofs.Common.{◌≡◌, ℕ, zero, suc, ◌+◌, ◌*◌, ◌<◌, ◌≤◌, Bool, true, false, ◌&&◌, List, [], ◌∷◌, length, map, get_or, refl, sym, ap, arith, Option, Some, None, if◌then◌else◌}
use Rattle.std.proofs.Math.Nat.{mul-le-mul_left, mul-suc}
use Rattle.std.specs.Prelude.{unwrap_or, slice_get}
use Rattle.std.specs.Option.{option_and_then}
use Rattle.std.specs.Str.{bytes_eq}
use Rattle.sv_base.specs.declared.names.Name.{Name}
use Rattle.sv_base.specs.declared.span.Span.{Span}
use Rattle.sv_code.specs.declared.fragments.Frag.{Frag, Frag-F, out-Frag, fold-Frag, fold_out-Frag, map-Frag}
use Rattle.sv_code.specs.declared.fragments.Frag.TheVariants as frag
use Rattle.sv_code.specs.declared.fragments.FragArm.{FragArm, FragArm-F, fold-FragArm, fold_out-FragArm}
use Rattle.sv_code.specs.declared.fragments.FragAttr.{FragAttr}
use Rattle.sv_code.specs.declared.parts.Part.{Part}
use Rattle.sv_code.specs.declared.parts.Reading.{Reading}
use Rattle.sv_code.specs.declared.program.FileCode.{FileCode}
use Rattle.sv_code.specs.declared.program.FileCode.TheVariants as code
use Rattle.sv_code.specs.declared.program.Program.{Program}
use Rattle.sv_code.specs.declared.program.ProgramFile.{ProgramFile}
use Rattle.sv_code.specs.declared.tags.Tag.{Tag}
use Rattle.sv_fresh.specs.Scene.{Page, Scene, Tags, markup_at}
use Rattle.sv_instance.specs.declared.instance.Instance.{Instance}
use Rattle.sv_plan.specs.Content.{Content, Opened, content_at, content_of, content_named, named_as, or_else, is_empty, has_default, outer_tags}
use Rattle.sv_plan.specs.Plan.{body_in}
use Rattle.sv_meaning.specs.Components.{component_in, component_for, markup_of}
use Rattle.sv_states.specs.States.{live}

-- ---- fragments

abbrev pub total : List ℕ → ℕ
total [] = 0
total (n ∷ ns) = suc n + total ns

abbrev pub total_in : Option (List ℕ) → ℕ
total_in None = 0
total_in (Some ns) = total ns

abbrev pub frag_weight : Frag-F ℕ ℕ → ℕ
frag_weight (Frag-F.Text t) = 1
frag_weight (Frag-F.Show part) = 1
frag_weight (Frag-F.Element span name attrs children) = total children + 4
frag_weight (Frag-F.Tag k reads) = 4
frag_weight (Frag-F.Named slot lets inner) = inner + 4
frag_weight (Frag-F.Slot span name attrs own reads) = total own + 4
frag_weight (Frag-F.If arms last) = (total arms + total_in last) + 4
frag_weight (Frag-F.Each part item index key body last) = (total body + total_in last) + 8
frag_weight (Frag-F.Key part body) = total body + 4

abbrev pub arm_weight : FragArm-F ℕ ℕ → ℕ
arm_weight a = total a.body

unfoldable pub weight : Frag → ℕ
weight = fold-Frag ℕ ℕ frag_weight arm_weight

unfoldable pub weight_of : FragArm → ℕ
weight_of = fold-FragArm ℕ ℕ frag_weight arm_weight

unfoldable pub weights : List Frag → ℕ
weights fs = total (map weight fs)

unfoldable pub arms_weight : List FragArm → ℕ
arms_weight arms = total (map weight_of arms)

weight-out : (f : Frag) → weight f ≡ frag_weight (map-Frag _ _ _ _ weight weight_of (out-Frag f))
unfolding weight weight_of
weight-out f = fold_out-Frag ℕ ℕ frag_weight arm_weight f

arm-out : (a : FragArm) → weight_of a ≡ weights a.body
unfolding weight weight_of weights
arm-out a = fold_out-FragArm ℕ ℕ frag_weight arm_weight a

pub weight-Element : (f : Frag) (span : Span) (name : List ℕ) (attrs : List FragAttr) (kids : List Frag) → f ≡ frag.Element span name attrs kids → weight f ≡ weights kids + 4
unfolding weights
weight-Element f span name attrs kids is = rw (is, weight-out, frag.outs-Element) refl

pub weight-Tag : (f : Frag) (k : ℕ) (reads : Reading) → f ≡ frag.Tag k reads → weight f ≡ 4
weight-Tag f k reads is = rw (is, weight-out, frag.outs-Tag) refl

pub weight-Slot : (f : Frag) (span : Span) (name : List ℕ) (attrs : List FragAttr) (own : List Frag) (reads : Reading) → f ≡ frag.Slot span name attrs own reads → weight f ≡ weights own + 4
unfolding weights
weight-Slot f span name attrs own reads is = rw (is, weight-out, frag.outs-Slot) refl

pub weight-If : (f : Frag) (arms : List FragArm) (last : Option (List Frag)) → f ≡ frag.If arms last → weight f ≡ (arms_weight arms + weights (unwrap_or last [])) + 4
unfolding arms_weight weights
weight-If f arms None is = rw (is, weight-out, frag.outs-If) refl
weight-If f arms (Some fs) is = rw (is, weight-out, frag.outs-If) refl

pub weight-Each : (f : Frag) (part : Part) (item : Name) (index : Option Name) (key : Option Part) (body : List Frag) (last : Option (List Frag)) → f ≡ frag.Each part item index key body last →
    weight f ≡ (weights body + weights (unwrap_or last [])) + 8
unfolding weights
weight-Each f part item index key body None is = rw (is, weight-out, frag.outs-Each) refl
weight-Each f part item index key body (Some fs) is = rw (is, weight-out, frag.outs-Each) refl

pub weight-Key : (f : Frag) (part : Part) (body : List Frag) → f ≡ frag.Key part body → weight f ≡ weights body + 4
unfolding weights
weight-Key f part body is = rw (is, weight-out, frag.outs-Key) refl

-- an item of a list weighs less
pub item-weight : (fs : List Frag) (i : ℕ) (f : Frag) → i < length fs → f ≡ get_or fs i f → weight f < weights fs
unfolding weights
item-weight [] i f lt is = absurd (omega arith)
item-weight (x ∷ xs) zero f lt is = rw is (omega arith)
item-weight (x ∷ xs) (suc i) f lt is = let h : weight f < total (map weight xs) = item-weight xs i f (omega arith) is in omega arith

-- so does the content of a branch
pub body-weight : (arms : List FragArm) (last : List Frag) (i : ℕ) → weights (body_in arms last i) ≤ arms_weight arms + weights last
unfolding arms_weight
body-weight [] last i = omega arith
body-weight (a ∷ arms) last zero = let e : weight_of a ≡ weights a.body = arm-out a in omega arith
body-weight (a ∷ arms) last (suc i) = let h : weights (body_in arms last i) ≤ total (map weight_of arms) + weights last = body-weight arms last i in omega arith

-- ---- the whole program

abbrev pub file_weight : FileCode → ℕ
file_weight (code.Component c) = weights c.markup
file_weight (code.Module m) = 0

unfoldable pub files_weight : List ProgramFile → ℕ
files_weight [] = 0
files_weight (f ∷ files) = file_weight f.code + files_weight files

unfoldable pub tags_weight : List Tag → ℕ
tags_weight [] = 0
tags_weight (t ∷ tags) = weights t.content + tags_weight tags

-- more than any markup or content in it
unfoldable pub program_weight : Program → ℕ
program_weight p = (files_weight p.files + tags_weight p.tags) + 8

none-weight : weights [] ≡ 0
unfolding weights
none-weight = refl

file-markup : (c : FileCode) → weights (markup_of (component_in c)) ≡ file_weight c
file-markup (code.Component c) = refl
file-markup (code.Module m) = none-weight

files-markup : (files : List ProgramFile) (k : ℕ) → weights (markup_of (option_and_then (λ f. component_in f.code) (slice_get files k))) ≤ files_weight files
unfolding files_weight
files-markup [] k = rw none-weight (omega arith)
files-markup (f ∷ files) zero = let e = file-markup f.code in omega arith
files-markup (f ∷ files) (suc k) = let h = files-markup files k in omega arith

instance-markup : (p : Program) (i : Option Instance) → weights (markup_of (component_for p i)) ≤ files_weight p.files
instance-markup p None = rw none-weight (omega arith)
instance-markup p (Some i) = files-markup p.files i.place.component

-- the markup of an instance
pub markup-weight : (page : Page) (n : ℕ) → weights (markup_at page n) + 8 ≤ program_weight page.program
unfolding markup_at program_weight
markup-weight page n = let h = instance-markup page.program (live page.world.states n) in omega arith

some_same : {A : Type 0} {a b : A} → Some a ≡ Some b → a ≡ b
some_same q = cc

if_some : {A : Type 0} (b : Bool) (x c : A) → (if b then Some x else None) ≡ Some c → x ≡ c
if_some true x c e = some_same e
if_some false x c e = absurd (cc)

one-weight : (f : Frag) → weights (f ∷ []) ≡ weight f + 1
unfolding weights
one-weight f = omega arith

named-weight : (name : List ℕ) (o : Opened) (c : Content) → named_as name o ≡ Some c → weights c.frags ≤ frag_weight (map-Frag _ _ _ _ weight weight_of o)
named-weight name (Frag-F.Named slot lets inner) c e =
    let q : weights c.frags ≡ weights (inner ∷ []) = ap (λ (x : Content). weights x.frags) (sym (if_some (bytes_eq slot name) (record { lets = lets; frags = inner ∷ [] }) c e)) in
    let h = one-weight inner in omega arith
named-weight name (Frag-F.Text t) c e = absurd (cc)
named-weight name (Frag-F.Show part) c e = absurd (cc)
named-weight name (Frag-F.Element span own attrs children) c e = absurd (cc)
named-weight name (Frag-F.Tag k reads) c e = absurd (cc)
named-weight name (Frag-F.Slot span own attrs content reads) c e = absurd (cc)
named-weight name (Frag-F.If arms last) c e = absurd (cc)
named-weight name (Frag-F.Each part item index key body last) c e = absurd (cc)
named-weight name (Frag-F.Key part body) c e = absurd (cc)

either-weight : (a b : Option Content) (c : Content) (m n : ℕ) → or_else a b ≡ Some c → (a ≡ Some c → weights c.frags ≤ m) → (b ≡ Some c → weights c.frags ≤ n) → weights c.frags ≤ m + n
either-weight None b c m n e f g = let h = g e in omega arith
either-weight (Some x) b c m n e f g = let h = f e in omega arith

found-weight : (name : List ℕ) (fs : List Frag) (c : Content) → content_named name fs ≡ Some c → weights c.frags ≤ weights fs
unfolding weights
found-weight name [] c e = absurd (cc)
found-weight name (f ∷ fs) c e =
    let h : weights c.frags ≤ frag_weight (map-Frag _ _ _ _ weight weight_of (out-Frag f)) + weights fs = either-weight (named_as name (out-Frag f)) (content_named name fs) c _ _ e (named-weight name (out-Frag f) c) (found-weight name fs c) in
    let q = weight-out f in
    omega arith

tag-weight : (b : Bool) (name : List ℕ) (t : Tag) (c : Content) → (if b then Some (record { lets = t.lets; frags = t.content }) else content_named name t.content) ≡ Some c → weights c.frags ≤ weights t.content
tag-weight true name t c e = let q : weights c.frags ≡ weights t.content = ap (λ (x : Content). weights x.frags) (sym (some_same e)) in omega arith
tag-weight false name t c e = found-weight name t.content c e

tags-weight : (name : List ℕ) (tags : List Tag) (k : ℕ) (c : Content) → option_and_then (content_of name) (slice_get tags k) ≡ Some c → weights c.frags ≤ tags_weight tags
unfolding tags_weight
tags-weight name [] k c e = absurd (cc)
tags-weight name (t ∷ tags) zero c e = let h = tag-weight (is_empty name && has_default t.content) name t c e in omega arith
tags-weight name (t ∷ tags) (suc k) c e = let h = tags-weight name tags k c e in omega arith

-- content that is given to a slot
pub content-weight : (p : Program) (tags : Tags) (name : List ℕ) (c : Content) → content_at p tags name ≡ Some c → weights c.frags + 8 ≤ program_weight p
unfolding program_weight
content-weight p [] name c e = absurd (cc)
content-weight p (None ∷ tags) name c e = absurd (cc)
content-weight p (Some k ∷ tags) name c e = let h = tags-weight name p.tags k c e in omega arith

pub content-level : (p : Program) (tags : Tags) (name : List ℕ) (c : Content) → content_at p tags name ≡ Some c → length tags ≡ suc (length (outer_tags tags))
content-level p [] name c e = absurd (cc)
content-level p (tag ∷ tags) name c e = refl

-- ---- steps that are left

-- how often the walk of an instance may still go up a level, or down to a child
abbrev pub steps : Scene → ℕ
steps s = (s.room + s.room) + length s.tags

unfoldable pub measure : ℕ → ℕ → ℕ → ℕ
measure whole n w = whole * n + w

-- one step less outweighs what weighs less than the whole
pub deeper : (whole m n w v : ℕ) → m < n → w < whole → measure whole m w < measure whole n v
unfolding measure
deeper whole m n w v lt less = let h : whole * suc m ≤ whole * n = mul-le-mul_left whole lt in let e : whole * suc m ≡ whole * m + whole = mul-suc whole m in omega arith

pub lighter : (whole m n w v : ℕ) → m ≡ n → w < v → measure whole m w < measure whole n v
unfolding measure
lighter whole m n w v e less = rw e (omega arith)

-- what is drawn in an instance, and what of an instance itself
abbrev pub inside : Scene → ℕ → ℕ
inside s w = measure (program_weight s.page.program) (suc (steps s)) w

abbrev pub whole : Scene → ℕ
whole s = measure (program_weight s.page.program) (steps s) 0

pub same : (s : Scene) (w v : ℕ) → w < v → inside s w < inside s v
same s w v lt = lighter (program_weight s.page.program) (suc (steps s)) (suc (steps s)) w v refl lt

-- content that is given to a slot, an instance at its tag, and what is drawn in it
pub upward : (s : Scene) (tags : Tags) (w v : ℕ) → length s.tags ≡ suc (length tags) → w < program_weight s.page.program → inside (record s { tags = tags }) w < inside s v
upward s tags w v e lt = deeper (program_weight s.page.program) (suc (steps (record s { tags = tags }))) (suc (steps s)) w v (omega arith) lt

pub downward : (s : Scene) (tag : Option ℕ) (v : ℕ) → 0 < v → whole (record s { tags = tag ∷ s.tags }) < inside s v
downward s tag v lt = lighter (program_weight s.page.program) (steps (record s { tags = tag ∷ s.tags })) (suc (steps s)) 0 v (omega arith) lt

pub inward : (s : Scene) (room w : ℕ) → s.room ≡ suc room → w < program_weight s.page.program → inside (record s { room = room }) w < whole s
inward s room w e lt = deeper (program_weight s.page.program) (suc (steps (record s { room = room }))) (steps s) w 0 (omega arith) lt
