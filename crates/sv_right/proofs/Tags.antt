-- Component tags.
use Rattle.std.proofs.Common.{◌≡◌, ◌⊎◌, inl, inr, ℕ, ◌+◌, ◌≤◌, Bool, true, false, List, [], ◌∷◌, map, Option, Some, None, unwrap_or, refl, sym, ap, subst, arith, Ok}
use Rattle.std.specs.Prelude.{slice_get}
use Rattle.sv_code.specs.Names.{Each}
use Rattle.sv_code.specs.Parts.{of_attr, of_attrs}
use Rattle.sv_code.specs.Within.{IsWithin}
use Rattle.sv_code.specs.declared.fragments.FragAttr.{FragAttr}
use Rattle.sv_code.specs.declared.program.Program.{Program}
use Rattle.sv_code.specs.declared.tags.Tag.{Tag}
use Rattle.sv_local.specs.Versions.{AreVersions}
use Rattle.sv_meaning.specs.Components.{component_at}
use Rattle.sv_parts.specs.Sides.{Sides}
use Rattle.sv_parts.specs.State.{andThen, remembered}
use Rattle.sv_parts.specs.Tags.{texts_at, passed_value, offered, offer_step, offers_step, texts_of, create_step, props_given, props_at, view_for, set_step, keep_step, tag_by, tag_over, tag_step}
use Rattle.sv_parts.specs.declared.state.Given.{Given}
use Rattle.sv_parts.specs.declared.state.State.{State}
use Rattle.sv_places.specs.Any.{Any}
use Rattle.sv_right.proofs.Attributes.{attrs_within}
use Rattle.sv_right.proofs.Lists.{Along, Matched, along_mono, along_both, along_of, matched_same, map_get, plain_after}
use Rattle.sv_right.proofs.Passing.{WerePassed, attr_texts}
use Rattle.sv_right.proofs.Standing.{Start, Layer, NowLayer, WasLayer, StaysLayer, made}
use Rattle.sv_right.proofs.Steps.{After, then_after, more_after, Grows, Up, grows_same, grows_on}
use Rattle.sv_right.specs.Claims.{Claim, OfTag}
use Rattle.sv_right.specs.Later.{IsEarlier, GoesOnAt}
use Rattle.sv_right.specs.Right.{IsTagTrue, kept_texts}
use Rattle.sv_shapes.specs.Shapes.{Opened, texts_in, place_in}
use Rattle.sv_shapes.specs.declared.shape.Shape.{Shape, Shape-F, out-Shape}
use Rattle.sv_shapes.specs.declared.shape.Shape.TheVariants as shape
use Rattle.sv_view.specs.Level.{View}

-- ---- what is kept of attributes

-- no text was kept, as they are new, or those of the old view
abbrev WereOffers : Program → List FragAttr → Sides → Bool → List (List (List ℕ)) → Type 0
WereOffers p attrs at is_new texts = ((texts ≡ []) × (is_new ≡ true)) ⊎ (AreVersions at.old at.new × (texts ≡ map (kept_texts p at.old) attrs))

-- the same of the attribute with a number
abbrev WasOffer : Program → Sides → Bool → List (List (List ℕ)) → FragAttr → ℕ → Type 0
WasOffer p at is_new texts a i = WerePassed (kept_texts p at.old a) at is_new (texts_at texts i)

were_offers : (p : Program) (attrs : List FragAttr) (at : Sides) (is_new : Bool) (texts : List (List (List ℕ))) → WereOffers p attrs at is_new texts → Along (WasOffer p at is_new texts) 0 attrs
were_offers p attrs at is_new texts (inl h) =
    subst (λ ts. Along (WasOffer p at is_new ts) 0 attrs) (sym h.0) (along_of (WasOffer p at is_new []) (λ a i. inl (refl, h.1)) 0 attrs)
were_offers p attrs at is_new texts (inr h) =
    subst (λ ts. Along (WasOffer p at is_new ts) 0 attrs) (sym h.1)
    (along_mono (λ a i. slice_get (map (kept_texts p at.old) attrs) i ≡ Some (kept_texts p at.old a)) (WasOffer p at is_new (map (kept_texts p at.old) attrs))
    (λ a i e. inr (h.0, ap (λ o. unwrap_or o []) e)) 0 attrs (map_get (kept_texts p at.old) attrs))

offer_after : (p : Program) (a : FragAttr) (texts : List (List ℕ)) (is_new : Bool) (at : Sides) (s : State) → Each (IsWithin p) (of_attr a) → WerePassed (kept_texts p at.old a) at is_new texts →
    After (offer_step p a texts is_new at s) (λ o u. (o.texts ≡ kept_texts p at.new a) × Grows s u)
offer_after p a texts is_new at s fits was =
    then_after (passed_value p a texts is_new at s) (λ v u. Ok (offered a is_new v, u)) (λ x u. (x.texts ≡ kept_texts p at.new a) × Grows s u) (λ o u. (o.texts ≡ kept_texts p at.new a) × Grows s u)
    (attr_texts p a texts is_new at s fits was) (λ x u h. h)

offers_after : (p : Program) (attrs : List FragAttr) (texts : List (List (List ℕ))) (is_new : Bool) (at : Sides) (s : State) → Each (IsWithin p) (of_attrs attrs) → WereOffers p attrs at is_new texts →
    After (offers_step p attrs texts is_new at s) (λ offers u. (texts_of offers ≡ map (kept_texts p at.new) attrs) × Grows s u)
offers_after p attrs texts is_new at s fits were =
    more_after (offers_step p attrs texts is_new at s) (λ offers u. Matched (λ a i o. o.texts ≡ kept_texts p at.new a) 0 attrs offers × Grows s u) (λ offers u. (texts_of offers ≡ map (kept_texts p at.new) attrs) × Grows s u)
    (plain_after (λ a i u. offer_step p a (texts_at texts i) is_new at u) (λ a i. Each (IsWithin p) (of_attr a) × WasOffer p at is_new texts a i) (λ a i o. o.texts ≡ kept_texts p at.new a)
    (λ a i u h. offer_after p a (texts_at texts i) is_new at u h.0 h.1) 0 attrs s
    (along_both (λ a i. Each (IsWithin p) (of_attr a)) (WasOffer p at is_new texts) (λ a i. Each (IsWithin p) (of_attr a) × WasOffer p at is_new texts a i) (λ a i h k. (h, k)) 0 attrs (attrs_within p 0 attrs fits)
    (were_offers p attrs at is_new texts were)))
    (λ offers u h. (matched_same (kept_texts p at.new) (λ o. o.texts) 0 attrs offers h.0, h.1))

-- ---- tags

set_up : (place : ℕ) (props : List Given) (view : Option View) (s : State) → After (set_step place props view s) (Up s)
set_up place [] None s = grows_same s
set_up place [] (Some view) s = grows_same s
set_up place (g ∷ props) view s = grows_same s

keep_up : (place : ℕ) (props : List Given) (view : Option View) (at : Sides) (s : State) → After (keep_step place props view at s) (Up s)
keep_up place props view at s =
    then_after (set_step place props view s) (λ _ v. remembered (record { place = place; locals = at.new.own.locals }) v) (Up s) (Up s) (set_up place props view s) (λ _ v g. g)

-- what is claimed of a component's tag
abbrev pub tag_layer : List (Option ℕ) → ℕ → Layer
tag_layer tags tag v held = OfTag tags tag v held ∷ []

-- a tag that is there, with the texts of its attributes
abbrev Tagged : Program → Start → List (Option ℕ) → ℕ → View → State → Shape → State → Type 0
Tagged p start tags tag v s x u = NowLayer p start (tag_layer tags tag) v u.counters.next (out-Shape x) × Grows s u

tagged : (p : Program) (start : Start) (tags : List (Option ℕ)) (tag place : ℕ) (t : Tag) (texts : List (List (List ℕ))) (v : View) (k : ℕ) → slice_get p.tags tag ≡ Some t → texts ≡ map (kept_texts p v) t.attrs →
    GoesOnAt start.views start.next start.olds v (Some place) → NowLayer p start (tag_layer tags tag) v k (out-Shape (shape.Tag place texts))
tagged p start tags tag place t texts v k is e goes =
    made p start (tag_layer tags tag) v k (shape.Tag place texts) (Shape-F.Tag place texts) (shape.outs-Tag place texts)
    (record { right = ((subst (λ o. IsTagTrue p v o (Some (Shape-F.Tag place texts))) (sym is) (tt, e), goes), tt); below = tt })

-- the texts of a tag that was there, and that it stood at its place on an earlier view
record WasTag (p : Program) (start : Start) (t : Tag) (at : Sides) (place : ℕ) (olds : List (List (List ℕ))) : Type 0 where
  versions : AreVersions at.old at.new
  texts : olds ≡ map (kept_texts p at.old) t.attrs
  earlier : Any (IsEarlier start.views at.new place) start.olds

tag_after : (p : Program) (start : Start) (tags : List (Option ℕ)) (tag : ℕ) (t : Tag) (old : Option ℕ) (texts : List (List (List ℕ))) (at : Sides) (s : State) → slice_get p.tags tag ≡ Some t →
    Each (IsWithin p) (of_attrs t.attrs) → start.next ≤ s.counters.next → ((place : ℕ) → old ≡ Some place → WasTag p start t at place texts) →
    After (tag_by p tag t old texts at s) (Tagged p start tags tag at.new s)
tag_after p start tags tag t None texts at s is fits since was =
    then_after (offers_step p t.attrs [] true at s) (λ offers v. create_step tag (props_given (props_at (component_at p t.file)) offers) (texts_of offers) at v)
    (λ offers u. (texts_of offers ≡ map (kept_texts p at.new) t.attrs) × Grows s u) (Tagged p start tags tag at.new s) (offers_after p t.attrs [] true at s fits (inl (refl, refl)))
    (λ offers v h. (tagged p start tags tag v.counters.next t (texts_of offers) at.new (v.counters.next + 1) is h.0 (inl (omega (arith, since, h.1))), omega (arith, h.1)))
tag_after p start tags tag t (Some place) texts at s is fits since was =
    then_after (offers_step p t.attrs texts false at s)
    (λ offers v. andThen (keep_step place (props_given (props_at (component_at p t.file)) offers) (view_for p t at) at v) (λ _ u. Ok (shape.Tag place (texts_of offers), u)))
    (λ offers u. (texts_of offers ≡ map (kept_texts p at.new) t.attrs) × Grows s u) (Tagged p start tags tag at.new s)
    (offers_after p t.attrs texts false at s fits (inr ((was place refl).versions, (was place refl).texts)))
    (λ offers v h. then_after (keep_step place (props_given (props_at (component_at p t.file)) offers) (view_for p t at) at v) (λ _ u. Ok (shape.Tag place (texts_of offers), u)) (Up v) (Tagged p start tags tag at.new s)
    (keep_up place (props_given (props_at (component_at p t.file)) offers) (view_for p t at) at v)
    (λ _ u g. (tagged p start tags tag place t (texts_of offers) at.new u.counters.next is h.0 (inr (was place refl).earlier), grows_on s v u h.1 g)))

-- where something is so of a claim that is among some, it is so of one of them
among : (Q : Claim → Type 0) (c : Claim) (claims : List Claim) → Q c → Any (λ d. d ≡ c) claims → Any Q claims
among Q c [] h k = absurd k
among Q c (d ∷ claims) h (inl e) = inl (subst Q (sym e) h)
among Q c (d ∷ claims) h (inr k) = inr (among Q c claims h k)

was_tag : (p : Program) (start : Start) (tags : List (Option ℕ)) (tag : ℕ) (t : Tag) (at : Sides) (k : ℕ) (held : Opened) → slice_get p.tags tag ≡ Some t → WasLayer p start (tag_layer tags tag) at k held →
    (place : ℕ) → place_in held ≡ Some place → WasTag p start t at place (texts_in held)
was_tag p start tags tag t at k None is was place e = absurd (cc)
was_tag p start tags tag t at k (Some o) is was place e = record {
  versions = was.1.0.own.versions;
  texts = (subst (λ z. IsTagTrue p at.old z (Some o)) is was.1.1.right.0.0).1;
  earlier = among (IsEarlier start.views at.new place) (OfTag tags tag at.old (Some o)) start.olds (e, was.1.0) was.1.1.right.0.1;
}

pub tag_stays : (p : Program) (start : Start) (tags : List (Option ℕ)) (tag : ℕ) → ((t : Tag) → slice_get p.tags tag ≡ Some t → Each (IsWithin p) (of_attrs t.attrs)) →
    StaysLayer p start (λ at held s. tag_step p tag (place_in held) (texts_in held) at s) (tag_layer tags tag)
tag_stays p start tags tag fits at held s was = by (slice_get p.tags tag) refl
  where
    by : (o : Option Tag) → slice_get p.tags tag ≡ o → After (tag_over p tag o (place_in held) (texts_in held) at s) (Tagged p start tags tag at.new s)
    by None is = (
      made p start (tag_layer tags tag) at.new s.counters.next shape.Nothing Shape-F.Nothing shape.outs-Nothing
          (record { right = ((subst (λ o. IsTagTrue p at.new o (Some Shape-F.Nothing)) (sym is) refl, tt), tt); below = tt }),
      grows_same s,
    )
    by (Some t) is = tag_after p start tags tag t (place_in held) (texts_in held) at s is (fits t is) was.0 (was_tag p start tags tag t at s.counters.next held is was)
