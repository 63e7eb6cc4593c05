-- The content that tags give fits, and the whole markup of an instance stays right.
use Rattle.std.proofs.Common.{◌≡◌, inl, inr, ℕ, zero, suc, Bool, true, false, ◌&&◌, List, [], ◌∷◌, ◌++◌, map, Option, Some, None, option_map, refl, ◌∙◌, subst, if◌then◌else◌}
use Rattle.std.specs.Option.{option_and_then}
use Rattle.std.specs.Prelude.{slice_get}
use Rattle.std.specs.Str.{bytes_eq}
use Rattle.sv_code.proofs.Each.{each_front, each_back, each_append, each_mono}
use Rattle.sv_code.specs.Names.{Each}
use Rattle.sv_code.specs.Parts as parts
use Rattle.sv_code.specs.Within.{IsWithin}
use Rattle.sv_code.specs.declared.fragments.Frag.{Frag, Frag-F, out-Frag, map-Frag, fold_out-Frag}
use Rattle.sv_code.specs.declared.fragments.FragArm.{FragArm, fold-FragArm}
use Rattle.sv_code.specs.declared.parts.Part.{Part}
use Rattle.sv_code.specs.declared.program.Program.{Program}
use Rattle.sv_code.specs.declared.tags.Tag.{Tag}
use Rattle.sv_parts.specs.Sides.{Sides}
use Rattle.sv_parts.specs.declared.state.State.{State}
use Rattle.sv_places.specs.Any.{Any}
use Rattle.sv_plan.specs.Content.{Content, Opened, content_at, content_of, content_named, named_as, or_else, is_empty, has_default}
use Rattle.sv_plan.specs.Plan as plans
use Rattle.sv_right.proofs.Lists.{some_same}
use Rattle.sv_right.proofs.Markup.{walker_stays}
use Rattle.sv_right.proofs.Slots.{FilledStays}
use Rattle.sv_right.proofs.Standing.{Start, WasTrue, StaysTrue, StayAll, NowAll}
use Rattle.sv_right.proofs.Steps.{After, ok_after, Grows, grows_same}
use Rattle.sv_right.specs.Claims.{Claim, walker, slotted, claims}
use Rattle.sv_right.specs.Fits.{Fits, AllFit}
use Rattle.sv_right.specs.Later.{ViewCells, AreAllLater, GoesOn}
use Rattle.sv_right.specs.Right.{IsTrue}
use Rattle.sv_right.specs.Staying.{Stands, FirstIsRight, PatchesStayRight, TagsGoOn}
use Rattle.sv_shapes.specs.declared.shape.Shape.{Shape}
use Rattle.sv_view.specs.Level.{View}
use Rattle.sv_within.specs.Keys.{Head, frag_heads, arm_heads, heads_of, heads_all, IsHeadSeen, AreKeysSeen}

-- ---- tags

-- what is so of all is so of each part
pub turn_at : {A : Type 0} (Q : Part → Type 0) (f : A → List Part) (xs : List A) (j : ℕ) (x : A) → Each Q (parts.in_turn (map f xs)) → slice_get xs j ≡ Some x → Each Q (f x)
turn_at Q f [] j x h e = absurd (cc)
turn_at Q f (y ∷ xs) zero x h e = subst (λ z. Each Q (f z)) (some_same e) (each_front Q (f y) (parts.in_turn (map f xs)) h)
turn_at Q f (y ∷ xs) (suc j) x h e = turn_at Q f xs j x (each_back Q (f y) (parts.in_turn (map f xs)) h) e

pub each_at : {A : Type 0} (Q : A → Type 0) (xs : List A) (j : ℕ) (x : A) → Each Q xs → slice_get xs j ≡ Some x → Q x
each_at Q [] j x h e = absurd (cc)
each_at Q (y ∷ xs) zero x h e = subst Q (some_same e) h.0
each_at Q (y ∷ xs) (suc j) x h e = each_at Q xs j x h.1 e

tag_within : (p : Program) → AllFit p → (k : ℕ) (t : Tag) → slice_get p.tags k ≡ Some t → Each (IsWithin p) (parts.of_tag t)
tag_within p all k t e =
    let files = parts.in_turn (map (λ f. parts.of_file f.code) p.files) in
    let own = parts.in_turn (map parts.of_tag p.tags) in
    let handlers = parts.in_turn (map parts.of_handler p.handlers) in
    turn_at (IsWithin p) parts.of_tag p.tags k t (each_front (IsWithin p) own handlers (each_back (IsWithin p) files (own ++ handlers) all.within)) e

tag_attrs : (p : Program) → AllFit p → (k : ℕ) (t : Tag) → slice_get p.tags k ≡ Some t → Each (IsWithin p) (parts.of_attrs t.attrs)
tag_attrs p all k t e = each_front (IsWithin p) (parts.of_attrs t.attrs) (parts.of_frags t.content) (tag_within p all k t e)

tag_content : (p : Program) → AllFit p → (k : ℕ) (t : Tag) → slice_get p.tags k ≡ Some t → Fits p t.content
tag_content p all k t e = record {
  within = each_back (IsWithin p) (parts.of_attrs t.attrs) (parts.of_frags t.content) (tag_within p all k t e);
  keys = each_at (λ (z : Tag). AreKeysSeen z.content) p.tags k t all.keys e;
}

-- ---- content

-- the list of an each block looks at what the key of its rows looks at
abbrev Seen : Head → Type 0
Seen h = IsHeadSeen h h.key

first_fits : (p : Program) (f : Frag) (fs : List Frag) → Fits p (f ∷ fs) → Each (IsWithin p) (parts.of_frag f) × Each Seen (heads_of f)
first_fits p f fs h = (each_front (IsWithin p) (parts.of_frag f) (parts.of_frags fs) h.within, each_front Seen (heads_of f) (heads_all fs) h.keys)

rest_fits : (p : Program) (f : Frag) (fs : List Frag) → Fits p (f ∷ fs) → Fits p fs
rest_fits p f fs h = record { within = each_back (IsWithin p) (parts.of_frag f) (parts.of_frags fs) h.within; keys = each_back Seen (heads_of f) (heads_all fs) h.keys }

-- the parts in a layer
abbrev parts_out : Opened → List Part
parts_out x = parts.frag (map-Frag Frag FragArm (List Part) (List Part) parts.of_frag (fold-FragArm (List Part) (List Part) parts.frag parts.arm) x)

-- the heads of each blocks in a layer
abbrev heads_out : Opened → List Head
heads_out x = frag_heads (map-Frag Frag FragArm (List Head) (List Head) heads_of (fold-FragArm (List Head) (List Head) frag_heads arm_heads) x)

-- what goes to a slot with a name
named_fits : (p : Program) (name : List ℕ) (x : Opened) (c : Content) → Each (IsWithin p) (parts_out x) × Each Seen (heads_out x) → named_as name x ≡ Some c → Fits p c.frags
named_fits p name (Frag-F.Named slot lets node) c h e = by (bytes_eq slot name) e
  where
    by : (b : Bool) → (if b then Some (record { lets = lets; frags = node ∷ [] }) else None) ≡ Some c → Fits p c.frags
    by true q =
        subst (λ (z : Content). Fits p z.frags) (some_same q)
        (record { within = each_append (IsWithin p) (parts.of_frag node) [] h.0 tt; keys = each_append Seen (heads_of node) [] h.1 tt })
    by false q = absurd (cc)
named_fits p name (Frag-F.Text text) c h e = absurd (cc)
named_fits p name (Frag-F.Show part) c h e = absurd (cc)
named_fits p name (Frag-F.Element span own attrs children) c h e = absurd (cc)
named_fits p name (Frag-F.Tag tag reads) c h e = absurd (cc)
named_fits p name (Frag-F.Slot span own attrs frags reads) c h e = absurd (cc)
named_fits p name (Frag-F.If arms last) c h e = absurd (cc)
named_fits p name (Frag-F.Each list item index key body last) c h e = absurd (cc)
named_fits p name (Frag-F.Key part body) c h e = absurd (cc)

content_fits : (p : Program) (name : List ℕ) (fs : List Frag) (c : Content) → Fits p fs → content_named name fs ≡ Some c → Fits p c.frags
content_fits p name [] c h e = absurd (cc)
content_fits p name (f ∷ fs) c h e = by (named_as name (out-Frag f)) refl e (λ q. content_fits p name fs c (rest_fits p f fs h) q)
  where
    own : Each (IsWithin p) (parts_out (out-Frag f)) × Each Seen (heads_out (out-Frag f))
    own = (
      subst (Each (IsWithin p)) (fold_out-Frag (List Part) (List Part) parts.frag parts.arm f) (first_fits p f fs h).0,
      subst (Each Seen) (fold_out-Frag (List Head) (List Head) frag_heads arm_heads f) (first_fits p f fs h).1,
    )

    by : (o : Option Content) → named_as name (out-Frag f) ≡ o → or_else o (content_named name fs) ≡ Some c → (content_named name fs ≡ Some c → Fits p c.frags) → Fits p c.frags
    by None is q rest = rest q
    by (Some d) is q rest = named_fits p name (out-Frag f) c own (is ∙ q)

given_fits : (p : Program) (name : List ℕ) (t : Tag) (c : Content) → Fits p t.content → content_of name t ≡ Some c → Fits p c.frags
given_fits p name t c h e = by (is_empty name && has_default t.content) e
  where
    by : (b : Bool) → (if b then Some (record { lets = t.lets; frags = t.content }) else content_named name t.content) ≡ Some c → Fits p c.frags
    by true q = subst (λ (z : Content). Fits p z.frags) (some_same q) h
    by false q = content_fits p name t.content c h q

at_fits : (p : Program) (tags : List (Option ℕ)) (name : List ℕ) (c : Content) → AllFit p → content_at p tags name ≡ Some c → Fits p c.frags
at_fits p [] name c all e = absurd (cc)
at_fits p (None ∷ tags) name c all e = absurd (cc)
at_fits p (Some k ∷ tags) name c all e = by (slice_get p.tags k) refl e
  where
    by : (o : Option Tag) → slice_get p.tags k ≡ o → option_and_then (content_of name) o ≡ Some c → Fits p c.frags
    by None is q = absurd (cc)
    by (Some t) is q = given_fits p name t c (tag_content p all k t is) q

-- ---- levels

slotted_stays : (p : Program) (start : Start) (tags : List (Option ℕ)) (name : List ℕ) → AllFit p → FilledStays p start (plans.slotted p tags name) (slotted p tags name)
slotted_stays p start [] name all = tt
slotted_stays p start (tag ∷ tags) name all = by (λ x. slotted_stays p start tags x all) (content_at p (tag ∷ tags) name) refl
  where
    by : ((x : List ℕ) → FilledStays p start (plans.slotted p tags x) (slotted p tags x)) → (o : Option Content) → content_at p (tag ∷ tags) name ≡ o →
        FilledStays p start (option_map (λ c. record { lets = c.lets; walk = plans.walker p (plans.slotted p tags) c.frags }) o)
        (option_map (λ c. record { lets = c.lets; walk = walker tags (slotted p tags) c.frags }) o)
    by outer None is = tt
    by outer (Some c) is = (refl, walker_stays p start tags (plans.slotted p tags) (slotted p tags) outer (tag_attrs p all) c.frags (at_fits p (tag ∷ tags) name c all is))

-- the markup of an instance stays right
all_stay : (p : Program) (start : Start) (tags : List (Option ℕ)) (frags : List Frag) → AllFit p → Fits p frags → StayAll p start (plans.plan_all p tags frags) (claims p tags frags)
unfolding plans.plan_all claims
all_stay p start tags frags all fits = walker_stays p start tags (plans.slotted p tags) (slotted p tags) (λ x. slotted_stays p start tags x all) (tag_attrs p all) frags fits

-- ---- the laws

pub first : FirstIsRight
first p tags frags at shapes s s' all fits e =
    let start : Start = record { views = λ _. None; next = s.counters.next; olds = [] } in
    let h = ok_after (plans.plan_all p tags frags at [] s) _ shapes s' (all_stay p start tags frags all fits at [] s (grows_same s, inl refl)) e in
    record { right = each_mono (StaysTrue p start) (IsTrue p) (λ c q. q.0) (claims p tags frags at.new shapes) h.0.right; below = h.0.below }

-- claims that are among the old ones, where they are true
were_true : (p : Program) (start : Start) (cs : List Claim) → ((c : Claim) → Any (λ d. d ≡ c) cs → Any (λ d. d ≡ c) start.olds) → Each (IsTrue p) cs → Each (WasTrue p start) cs
were_true p start [] inside h = tt
were_true p start (c ∷ cs) inside h = ((h.0, inside c (inl refl)), were_true p start cs (λ d q. inside d (inr q)) h.1)

-- what a patch of some shapes starts from
abbrev begun : Program → ViewCells → List (Option ℕ) → List Frag → View → State → List Shape → Start
begun p views tags frags old s olds = record { views = views; next = s.counters.next; olds = claims p tags frags old olds }

-- what a patch of right shapes gives
patched : (p : Program) (views : ViewCells) (tags : List (Option ℕ)) (frags : List Frag) (at : Sides) (olds : List Shape) (s : State) → AllFit p → Fits p frags → AreAllLater views at.old at.new →
    Stands p tags frags at.old s.counters.next olds →
    After (plans.plan_all p tags frags at olds s) (λ xs u. NowAll p (begun p views tags frags at.old s olds) (claims p tags frags) at.new u.counters.next xs × Grows s u)
patched p views tags frags at olds s all fits later were =
    let start : Start = begun p views tags frags at.old s olds in
    all_stay p start tags frags all fits at olds s (grows_same s, inr (later, record { right = were_true p start (claims p tags frags at.old olds) (λ c q. q) were.right; below = were.below }))

pub patches : PatchesStayRight
patches p views tags frags at olds shapes s s' all fits later were e =
    let h = ok_after (plans.plan_all p tags frags at olds s) _ shapes s' (patched p views tags frags at olds s all fits later were) e in
    record { right = each_mono (StaysTrue p (begun p views tags frags at.old s olds)) (IsTrue p) (λ c q. q.0) (claims p tags frags at.new shapes) h.0.right; below = h.0.below }

pub going_on : TagsGoOn
going_on p views tags frags at olds shapes s s' all fits later were e =
    let h = ok_after (plans.plan_all p tags frags at olds s) _ shapes s' (patched p views tags frags at olds s all fits later were) e in
    each_mono (StaysTrue p (begun p views tags frags at.old s olds)) (GoesOn views s.counters.next (claims p tags frags at.old olds)) (λ c q. q.1) (claims p tags frags at.new shapes) h.0.right
