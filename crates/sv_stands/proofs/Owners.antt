-- What looks in the content that a tag gives to the slots of its component looks in that of the tag; and owners for some markup serve what stands in there.
use Rattle.std.proofs.Common.{◌≡◌, ℕ, Bool, true, false, List, [], ◌∷◌, ◌++◌, Option, Some, None, refl, subst, ◌∙◌, inl, inr}
use Rattle.std.specs.Option.{option_and_then}
use Rattle.std.specs.Prelude.{slice_get, ◌&&◌, if◌then◌else◌}
use Rattle.std.specs.Str.{bytes_eq}
use Rattle.sv_base.specs.declared.names.Name.{Name}
use Rattle.sv_code.proofs.Each.{each_append, each_back, each_front}
use Rattle.sv_code.specs.Content as looks
use Rattle.sv_code.specs.Content.{Look, ByTag, BySlot, Looks, Node, of_frags, let_names}
use Rattle.sv_code.specs.Names.{Each}
use Rattle.sv_code.specs.declared.fragments.Frag.{Frag, Frag-F, out-Frag, map-Frag, fold_out-Frag}
use Rattle.sv_code.specs.declared.fragments.FragArm.{FragArm}
use Rattle.sv_code.specs.declared.program.Program.{Program}
use Rattle.sv_code.specs.declared.tags.Tag.{Tag}
use Rattle.sv_plan.specs.Content as plan
use Rattle.sv_plan.specs.Content.{Content, Opened, content_at, content_named, named_as, or_else, is_empty, has_default}
use Rattle.sv_stands.proofs.Lending.{Within, within_same}
use Rattle.sv_places.specs.Any.{Any}
use Rattle.sv_stands.specs.Standing.{HasSlot, here, inside, content_of, content_in, OwnersFor}
use Rattle.sv_view.specs.Level.{Level}

some_same : {A : Type 0} {x y : A} → Some x ≡ Some y → x ≡ y
some_same e = cc

module _ (Q : Look → Type 0) where
  -- ---- content that is given to a slot

  -- what looks in one layer
  abbrev seen_frag : Opened → Node
  seen_frag x = looks.frag (map-Frag Frag FragArm Node Looks looks.node looks.of_arm x)

  -- a fact of each look in some content, where some names are round it
  pub record IsSo (c : Content) : Type 0 where
    pub bound : List Name
    pub each : Each Q (of_frags c.frags bound)

  named_so : (name : List ℕ) (x : Opened) (c : Content) → Each Q ((seen_frag x).looks []) → named_as name x ≡ Some c → IsSo c
  named_so name (Frag-F.Named slot lets node) c h e = by (bytes_eq slot name) e
    where
      by : (b : Bool) → (if b then Some (record { lets = lets; frags = node ∷ [] }) else None) ≡ Some c → IsSo c
      by true q = subst IsSo (some_same q) (record { bound = let_names lets ++ []; each = each_append Q ((looks.node node).looks (let_names lets ++ [])) [] h tt })
      by false q = absurd (cc)
  named_so name (Frag-F.Text text) c h e = absurd (cc)
  named_so name (Frag-F.Show part) c h e = absurd (cc)
  named_so name (Frag-F.Element span own attrs children) c h e = absurd (cc)
  named_so name (Frag-F.Tag tag reads) c h e = absurd (cc)
  named_so name (Frag-F.Slot span own attrs frags reads) c h e = absurd (cc)
  named_so name (Frag-F.If arms last) c h e = absurd (cc)
  named_so name (Frag-F.Each list item index key body last) c h e = absurd (cc)
  named_so name (Frag-F.Key part body) c h e = absurd (cc)

  content_so : (name : List ℕ) (fs : List Frag) (c : Content) → Each Q (of_frags fs []) → content_named name fs ≡ Some c → IsSo c
  content_so name [] c h e = absurd (cc)
  content_so name (f ∷ fs) c h e = by (named_as name (out-Frag f)) refl e (λ q. content_so name fs c (each_back Q ((looks.node f).looks []) (of_frags fs []) h) q)
    where
      own : Each Q ((seen_frag (out-Frag f)).looks [])
      own = subst (λ (n : Node). Each Q (n.looks [])) (fold_out-Frag Node Looks looks.frag looks.arm f) (each_front Q ((looks.node f).looks []) (of_frags fs []) h)

      by : (o : Option Content) → named_as name (out-Frag f) ≡ o → or_else o (content_named name fs) ≡ Some c → (content_named name fs ≡ Some c → IsSo c) → IsSo c
      by None is q rest = rest q
      by (Some d) is q rest = named_so name (out-Frag f) c own (is ∙ q)

  given_so : (name : List ℕ) (o : Option Tag) (c : Content) → Each Q (of_frags (content_of o) []) → option_and_then (plan.content_of name) o ≡ Some c → IsSo c
  given_so name None c h e = absurd (cc)
  given_so name (Some t) c h e = by (is_empty name && has_default t.content) e
    where
      by : (b : Bool) → (if b then Some (record { lets = t.lets; frags = t.content }) else content_named name t.content) ≡ Some c → IsSo c
      by true q = subst IsSo (some_same q) (record { bound = []; each = h })
      by false q = content_so name t.content c h q

-- ---- what looks in markup

-- what looks is what looks somewhere in some markup, whatever names are round it there
abbrev pub Among : List Frag → Look → Type 0
Among whole look = Any (λ other. other.by ≡ look.by) (of_frags whole [])

looks_among : (whole : List Frag) (list : List Look) → Within list (of_frags whole []) → Each (Among whole) list
looks_among whole [] h = tt
looks_among whole (x ∷ list) h = (h.into (λ other. other.by ≡ x.by) (inl refl), looks_among whole list (record { into = λ Q q. h.into Q (inr q) }))

pub all_among : (whole : List Frag) → Each (Among whole) (of_frags whole [])
all_among whole = looks_among whole (of_frags whole []) (within_same (of_frags whole []))

module _ (p : Program) where
  slot_by : {G : Type 0} (frags : List Frag) → HasSlot p frags → (Any (λ look. look.by ≡ BySlot) (of_frags frags []) → G) →
      ((k : ℕ) (t : Tag) → Any (λ look. look.by ≡ ByTag k) (of_frags frags []) → slice_get p.tags k ≡ Some t → HasSlot p t.content → G) → G
  slot_by frags (here _ q) f g = f q
  slot_by frags (inside _ k t q is s) f g = g k t q is s

  no_slot : HasSlot p [] → ⊥
  no_slot s = slot_by [] s (λ q. q) (λ k t q is r. q)

  -- where a tag stands in some markup, and a slot in the content of the tag, the markup has one
  pub tag_has : (whole : List Frag) (k : ℕ) → Any (λ look. look.by ≡ ByTag k) (of_frags whole []) → HasSlot p (content_in p k) → HasSlot p whole
  tag_has whole k q s = by (slice_get p.tags k) refl s
    where
      by : (o : Option Tag) → slice_get p.tags k ≡ o → HasSlot p (content_of o) → HasSlot p whole
      by None is r = absurd (no_slot r)
      by (Some t) is r = inside whole k t q is r

  -- what looks in the content that a tag gives to a slot is in the content of the tag
  pub given_among : (k : ℕ) (tags : List (Option ℕ)) (name : List ℕ) (c : Content) → content_at p (Some k ∷ tags) name ≡ Some c → IsSo (Among (content_in p k)) c
  given_among k tags name c e = given_so (Among (content_in p k)) name (slice_get p.tags k) c (all_among (content_in p k)) e

  -- ---- owners

  -- owners for some markup serve other markup, which has a slot only where that has one
  pub owners_fewer : (few more : List Frag) → (HasSlot p few → HasSlot p more) → (tags : List (Option ℕ)) (owners : List Level) → OwnersFor p more tags owners → OwnersFor p few tags owners
  owners_fewer few more f [] owners h = tt
  owners_fewer few more f (None ∷ tags) owners h = tt
  owners_fewer few more f (Some k ∷ tags) [] h = λ s. h (f s)
  owners_fewer few more f (Some k ∷ tags) (l ∷ owners) h = λ s. h (f s)
