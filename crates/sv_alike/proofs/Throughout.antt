-- What is drawn of what instances hold is what evaluations give, by the room that is left for components.
use Rattle.std.proofs.Common.{◌≡◌, ℕ, zero, suc, List, [], ◌∷◌, Option, Some, None, option_map, refl, sym, ap, ◌∙◌, subst}
use Rattle.std.specs.List.{filter_map, cons_option}
use Rattle.std.specs.Prelude.{slice_get}
use Rattle.sv_agree.proofs.Holding.{holding}
use Rattle.sv_agree.specs.Holding.{hold_of}
use Rattle.sv_agree.proofs.Drawing.{drawing}
use Rattle.sv_agree.proofs.Onward.{in_turn, alike}
use Rattle.sv_agree.proofs.Standing.{standing}
use Rattle.sv_agree.specs.Agreeing.{AgreesFor}
use Rattle.sv_agree.specs.Scopes.{StaysIn, only, everything}
use Rattle.sv_agree.specs.Standing.{Pairs, ClaimsStandAlike}
use Rattle.sv_alike.proofs.Modules.{child_agrees}
use Rattle.sv_alike.specs.Alike.{TagsOf, markup_in, ViewBefore, AgreesBefore, IsChildAlike, AreEachAlike}
use Rattle.sv_alike.specs.Drawing.{InstancesAsEvaluated, PageAsEvaluated}
use Rattle.sv_alike.specs.Views.{Views, evaluated, page_in, evaluated_page}
use Rattle.sv_code.proofs.Each.{each_of}
use Rattle.sv_code.specs.Content as content
use Rattle.sv_code.specs.Content.{AreContentsSeen}
use Rattle.sv_code.specs.Names.{Each}
use Rattle.sv_code.specs.Within.{ArePartsWithin}
use Rattle.sv_code.specs.declared.program.Program.{Program}
use Rattle.sv_code.specs.declared.tags.Tag.{Tag}
use Rattle.sv_fresh.specs.Fresh.{instance_nodes, page_nodes, drawn, child_nodes, tag_nodes}
use Rattle.sv_fresh.specs.Scene.{Tags, markup_at, parts_at}
use Rattle.sv_fresh.specs.declared.source.Source.TheVariants.{Evaluated, Recorded}
use Rattle.sv_right.proofs.Lists.{some_same}
use Rattle.sv_right.specs.Claims.{Claim, OfCount, OfLiteral, OfText, OfElement, OfTag, OfSlot, OfIf, OfEach, OfKey, claims}
use Rattle.sv_right.specs.Drawing.{AreLevelsNamed, AreNamed, DrawsAlike, nodes_of}
use Rattle.sv_right.specs.Right.{IsTrue, IsTagTrue}
use Rattle.sv_shapes.specs.Shapes.{Opened, place_in}
use Rattle.sv_shapes.specs.Showing.{Showing, shown_of, child_at}
use Rattle.sv_shapes.specs.declared.shown.Shown.{Shown}
use Rattle.sv_states.specs.declared.states.TheConstants.{DEPTH_LIMIT}
use Rattle.sv_stands.specs.Holds.{Hold}
use Rattle.sv_view.specs.Level.{View}
use Rattle.sv_view.specs.View.{levels_of, started}
use Rattle.sv_world.specs.declared.world.World.{World}

each_option : (Q : Hold → Type 0) (o : Option Hold) (hs : List Hold) → Each Q (cons_option o hs) → ((h : Hold) → o ≡ Some h → Q h) × Each Q hs
each_option Q None hs k = (λ h e. absurd (cc), k)
each_option Q (Some g) hs k = (λ h e. subst Q (some_same e) k.0, k.1)

-- what holds of all holds that are claimed holds of that of each claim
each_claimed : (Q : Hold → Type 0) (cs : List Claim) → Each Q (filter_map hold_of cs) → Each (λ c. (h : Hold) → hold_of c ≡ Some h → Q h) cs
each_claimed Q [] k = tt
each_claimed Q (c ∷ cs) k = let both = each_option Q (hold_of c) (filter_map hold_of cs) k in (both.0, each_claimed Q cs both.1)

no_place : {o : Option ℕ} (place : ℕ) → o ≡ None → o ≡ Some place → ⊥
no_place place none some = absurd (cc)

-- the view of an instance has the names of the one that is recorded
named_before : (views : Views) (owner kept : Option View) (n : ℕ) (b : ViewBefore views owner n) → AreLevelsNamed (levels_of owner) (levels_of kept) → AreNamed b.view (started n [] kept)
named_before views owner kept n b named = ((b.inst, b.locals), subst (λ ls. AreLevelsNamed ls (levels_of kept)) (sym b.owners) named)

module _ (p : Program) (w : World) (tags_of : TagsOf) (showing : Showing) (views : Views) where
  -- an instance is drawn alike where so much room is left
  abbrev DrawsInstances : ℕ → Type 0
  DrawsInstances room = (i : ℕ) (tags : Tags) (owner kept : Option View) (n : ℕ) → AreLevelsNamed (levels_of owner) (levels_of kept) → AgreesBefore p w tags_of showing views owner tags n →
      evaluated (page_in Evaluated p w showing i) views room tags owner n ≡ instance_nodes (page_in Recorded p w showing i) room tags kept n

  -- what agrees with a child's view before one owner's agrees with that before another one
  goes_over : AreEachAlike p w tags_of showing views → (k n : ℕ) (t : Tag) (tags tags' : Tags) (o o' : View) → slice_get p.tags k ≡ Some t → ((depth : ℕ) → AgreesFor p depth (only t.reads) tags tags' t.content o o') →
      AgreesBefore p w tags_of showing views (Some o) (Some k ∷ tags) n → AgreesBefore p w tags_of showing views (Some o') (Some k ∷ tags') n
  goes_over all k n t tags tags' o o' is agrees c = record {
    shown = c.shown;
    is = c.is;
    agrees = λ v e depth.
        let before = (all n c.shown c.is).before in
        let first = before.there (Some o) in
        let second = before.there (Some o') in
        subst (λ u. AgreesFor p depth everything (tags_of c.shown.view) (Some k ∷ tags') (markup_in p w n) c.shown.view u) (some_same (sym second.is ∙ e))
        (in_turn p depth everything (tags_of c.shown.view) (Some k ∷ tags) (Some k ∷ tags') (markup_in p w n) c.shown.view first.view second.view (c.agrees first.view first.is depth)
        (child_agrees p depth k t tags tags' (markup_in p w n) o o' first.view second.view is (before.own (Some o) (Some o')) (before.modules (Some o) (Some o')) first.owners second.owners (agrees depth)));
  }

  module _ (all : AreEachAlike p w tags_of showing views) (room : ℕ) (draws : DrawsInstances room) (i : ℕ) where
    -- the child at a place of the tag
    child_draws : (k : ℕ) (t : Tag) (tags tags' : Tags) (o now kept : View) (place : ℕ) → slice_get p.tags k ≡ Some t → ((depth : ℕ) → AgreesFor p depth (only t.reads) tags tags' t.content o now) →
        AreNamed now kept → IsChildAlike p w tags_of showing views (record { place = place; tag = k; tags = tags; view = o }) → (child : Option ℕ) → child_at showing place ≡ child →
        child_nodes (evaluated (page_in Evaluated p w showing i) views room) tags' k now child ≡ child_nodes (instance_nodes (page_in Recorded p w showing i) room) tags' k kept child
    child_draws k t tags tags' o now kept place is agrees named h None e = refl
    child_draws k t tags tags' o now kept place is agrees named h (Some n) e =
        draws i (Some k ∷ tags') (Some now) (Some kept) n named (goes_over all k n t tags tags' o now is agrees (h n e))

    -- the place that is held of a tag, where there is one
    place_draws : (k : ℕ) (tags tags' : Tags) (o now kept : View) (held : Opened) →
        ((t : Tag) → slice_get p.tags k ≡ Some t → (depth : ℕ) → AgreesFor p depth (only t.reads) tags tags' t.content o now) → AreNamed now kept →
        ((h : Hold) → hold_of (OfTag tags k o held) ≡ Some h → IsChildAlike p w tags_of showing views h) → (tag : Option Tag) → slice_get p.tags k ≡ tag → IsTagTrue p o tag held →
        (place : Option ℕ) → place_in held ≡ place →
        tag_nodes (page_in Evaluated p w showing i) (evaluated (page_in Evaluated p w showing i) views room) tags' k now place
        ≡ tag_nodes (page_in Recorded p w showing i) (instance_nodes (page_in Recorded p w showing i) room) tags' k kept place
    place_draws k tags tags' o now kept held agrees named h tag is true None e = refl
    place_draws k tags tags' o now kept held agrees named h None is true (Some place) e = absurd (no_place place true e)
    place_draws k tags tags' o now kept held agrees named h (Some t) is true (Some place) e =
        child_draws k t tags tags' o now kept place is (agrees t is) named
        (h (record { place = place; tag = k; tags = tags; view = o }) (ap (option_map (λ (m : ℕ). record { place = m; tag = k; tags = tags; view = o })) e)) (child_at showing place) refl

    -- what is claimed of a tag, beside what is claimed of it on the view on which it was shown
    claim_draws : (c d : Claim) → ClaimsStandAlike p c d → IsTrue p c → ((h : Hold) → hold_of c ≡ Some h → IsChildAlike p w tags_of showing views h) →
        DrawsAlike (page_in Evaluated p w showing i) (evaluated (page_in Evaluated p w showing i) views room) (instance_nodes (page_in Recorded p w showing i) room) d
    claim_draws c (OfCount count shapes) s true h = tt
    claim_draws c (OfLiteral held) s true h = tt
    claim_draws c (OfText part v held) s true h = tt
    claim_draws c (OfElement attrs v held) s true h = tt
    claim_draws c (OfSlot attrs v held) s true h = tt
    claim_draws c (OfIf tests v held) s true h = tt
    claim_draws c (OfEach head v held) s true h = tt
    claim_draws c (OfKey part v held) s true h = tt
    claim_draws (OfCount count shapes) (OfTag tags' k' v' held') s true h = absurd s
    claim_draws (OfLiteral held) (OfTag tags' k' v' held') s true h = absurd s
    claim_draws (OfText part v held) (OfTag tags' k' v' held') s true h = absurd s
    claim_draws (OfElement attrs v held) (OfTag tags' k' v' held') s true h = absurd s
    claim_draws (OfSlot attrs v held) (OfTag tags' k' v' held') s true h = absurd s
    claim_draws (OfIf tests v held) (OfTag tags' k' v' held') s true h = absurd s
    claim_draws (OfEach head v held) (OfTag tags' k' v' held') s true h = absurd s
    claim_draws (OfKey part v held) (OfTag tags' k' v' held') s true h = absurd s
    claim_draws (OfTag tags k v held) (OfTag tags' k' v' held') s true h = λ now kept values named.
        rw (sym s.tag, sym s.held)
        (place_draws k tags tags' v now kept held (λ t is depth. alike p depth (only t.reads) tags tags' t.content v v' now (s.content t is depth) values) named h (slice_get p.tags k) refl true (place_in held) refl)

    all_draw : (cs ds : List Claim) → Pairs (ClaimsStandAlike p) cs ds → Each (IsTrue p) cs → Each (λ c. (h : Hold) → hold_of c ≡ Some h → IsChildAlike p w tags_of showing views h) cs →
        Each (DrawsAlike (page_in Evaluated p w showing i) (evaluated (page_in Evaluated p w showing i) views room) (instance_nodes (page_in Recorded p w showing i) room)) ds
    all_draw [] [] s true h = tt
    all_draw [] (d ∷ ds) s true h = absurd s
    all_draw (c ∷ cs) [] s true h = absurd s
    all_draw (c ∷ cs) (d ∷ ds) s true h = (claim_draws c d s.0 true.0 h.0, all_draw cs ds s.1 true.1 h.1)

  -- ---- an instance

  evaluated_at : (room i : ℕ) (tags : Tags) (owner : Option View) (n : ℕ) (v : View) (x : Shown) → views owner n ≡ Some v → shown_of showing n ≡ Some x →
      evaluated (page_in Evaluated p w showing i) views (suc room) tags owner n
      ≡ nodes_of (page_in Evaluated p w showing n) (evaluated (page_in Evaluated p w showing n) views room) tags (markup_in p w n) v x.parts
  unfolding evaluated markup_at parts_at
  evaluated_at room i tags owner n v x e is = rw (e, is) refl

  recorded_at : (room i : ℕ) (tags : Tags) (kept : Option View) (n : ℕ) (x : Shown) → shown_of showing n ≡ Some x →
      instance_nodes (page_in Recorded p w showing i) (suc room) tags kept n
      ≡ nodes_of (page_in Recorded p w showing n) (instance_nodes (page_in Recorded p w showing n) room) tags (markup_in p w n) (started n [] kept) x.parts
  unfolding instance_nodes markup_at parts_at
  recorded_at room i tags kept n x is = rw (is) refl

  none_left : (i : ℕ) (tags : Tags) (owner kept : Option View) (n : ℕ) →
      evaluated (page_in Evaluated p w showing i) views zero tags owner n ≡ instance_nodes (page_in Recorded p w showing i) zero tags kept n
  unfolding evaluated instance_nodes
  none_left i tags owner kept n = refl

  module _ (within : ArePartsWithin p) (seen : AreContentsSeen p) (all : AreEachAlike p w tags_of showing views) where
    instances : (room : ℕ) → DrawsInstances room
    instances zero i tags owner kept n named c = none_left i tags owner kept n
    instances (suc room) i tags owner kept n named c =
        let x = c.shown in
        let at = all n x c.is in
        let now = at.before.there owner in
        let markup = markup_in p w n in
        evaluated_at room i tags owner n now.view x now.is c.is
        ∙ (drawing (page_in Evaluated p w showing n) 0 (evaluated (page_in Evaluated p w showing n) views room) (instance_nodes (page_in Recorded p w showing n) room) (tags_of x.view) tags markup x.view
        now.view (started n [] kept) x.parts within seen at.within (c.agrees now.view now.is 0) (named_before views owner kept n now named) at.right
        (all_draw all room (instances room) n (claims p (tags_of x.view) markup x.view x.parts) (claims p tags markup now.view x.parts)
        (standing p everything (tags_of x.view) tags markup x.view now.view x.parts within seen
        (record { within = at.within; looks = each_of (StaysIn p None) (λ look. tt) (content.of_frags markup []) }) (λ depth. c.agrees now.view now.is depth)) at.right
        (each_claimed (IsChildAlike p w tags_of showing views) (claims p (tags_of x.view) markup x.view x.parts)
        (subst (Each (IsChildAlike p w tags_of showing views)) (sym (holding p (tags_of x.view) markup x.view x.parts at.fits)) at.children)))
        ∙ sym (recorded_at room i tags kept n x c.is))

    of_room : (room : ℕ) → AgreesBefore p w tags_of showing views None (None ∷ []) 1 →
        instance_nodes (page_in Recorded p w showing 1) room (None ∷ []) None 1 ≡ evaluated (page_in Evaluated p w showing 1) views room (None ∷ []) None 1
    of_room room root = sym (instances room 1 (None ∷ []) None None 1 tt root)

pub instances_throughout : InstancesAsEvaluated
instances_throughout p w tags_of showing views within seen all room i tags owner kept n named c = instances p w tags_of showing views within seen all room i tags owner kept n named c

pub throughout : PageAsEvaluated
unfolding drawn page_nodes evaluated_page
throughout p w tags_of showing views within seen h = of_room p w tags_of showing views within seen h.each DEPTH_LIMIT h.root
