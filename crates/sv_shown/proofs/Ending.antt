-- Where what is shown is true, and each live instance is shown on its present cells, the page that is recorded is the fresh page of the present states.
use Rattle.std.proofs.Common.{◌≡◌, ⊎_elim, ℕ, true, List, [], ◌∷◌, map, Option, Some, None, option_map, is_some, slice_get, refl, sym, ap, subst, ◌∙◌, arith}
use Rattle.std.proofs.lemmas.Bool.{true≢false}
use Rattle.std.proofs.lemmas.Option.{none-some, same_Some}
use Rattle.sv_agree.specs.Agreeing.{AgreesFor, AgreesForTag, AgreesAbove, slot_within}
use Rattle.sv_agree.specs.Scopes.{AgreesAt, everything, only}
use Rattle.sv_alike.proofs.Modules.{child_agrees}
use Rattle.sv_alike.proofs.Present.{views_stand, on_present}
use Rattle.sv_alike.proofs.Throughout.{throughout}
use Rattle.sv_alike.specs.Alike.{IsChildAlike, AreEachAlike, markup_in as markup_at}
use Rattle.sv_alike.specs.Views.{evaluated_page, present_views}
use Rattle.sv_code.specs.Compiled.{IsCompiled}
use Rattle.sv_code.specs.Names.{Each}
use Rattle.sv_code.specs.Parts.{of_frags}
use Rattle.sv_code.specs.Within.{IsWithin}
use Rattle.sv_code.specs.declared.program.Component.{Component}
use Rattle.sv_code.specs.declared.program.Program.{Program}
use Rattle.sv_code.specs.declared.tags.Tag.{Tag}
use Rattle.sv_course.proofs.WatchingPhases.{count_present}
use Rattle.sv_course.specs.Watched.{AreWatched, IsLentStill, view_in}
use Rattle.sv_family.proofs.Holding.{each_both}
use Rattle.sv_family.proofs.Owning.{slots_are_owned}
use Rattle.sv_family.proofs.Pictures.{pictured, kin_at, tags-same, markup-same}
use Rattle.sv_family.proofs.Staying.{is_there, child_live}
use Rattle.sv_family.specs.Family.{Family, HoldIsKept, holds_in, markup_in}
use Rattle.sv_family.specs.Kin.{Kin, Kins, kin_of, kins, tag_at, tags_in, tags_now, parent_of, is_cell_in, takes_view}
use Rattle.sv_first.proofs.Pages.{empty_drawn, empty_evaluated, root_tag, slot_lends}
use Rattle.sv_first.proofs.Slots.{same_at}
use Rattle.sv_flush.specs.Records.{ShowsPresent}
use Rattle.sv_flush.specs.Showing.{tags_of}
use Rattle.sv_flush.specs.declared.page.Page.{Page}
use Rattle.sv_fresh.specs.Fresh.{drawn}
use Rattle.sv_instance.specs.Cells.{count_of, present}
use Rattle.sv_instance.specs.declared.instance.Instance.{Instance}
use Rattle.sv_meaning.specs.Components.{component_at, markup_of}
use Rattle.sv_numbered.specs.Numbered.{at}
use Rattle.sv_places.specs.Fits.{Fits}
use Rattle.sv_right.specs.Right.{AreRight}
use Rattle.sv_seen.proofs.Markup.{markup_fits}
use Rattle.sv_seen.proofs.Spots.{spots, component-is}
use Rattle.sv_shapes.specs.Showing.{shown_of, child_at}
use Rattle.sv_shapes.specs.declared.shown.Shown.{Shown}
use Rattle.sv_shown.specs.Fresh.{IsTrue, IsFresh}
use Rattle.sv_shown.specs.True.{ChildIsHeld}
use Rattle.sv_stands.specs.Holds.{Hold, holds}
use Rattle.sv_states.specs.States.{live}
use Rattle.sv_value.specs.Value.{Val}
use Rattle.sv_view.specs.Cell.{Cell}
use Rattle.sv_view.specs.Level.{Level, View}
use Rattle.sv_view.specs.Local.{Local}
use Rattle.sv_view.specs.View.{levels, levels_of, owner_of}
use Rattle.sv_within.specs.Keys.{AreAllKeysSeen}
use Rattle.sv_world.specs.World.{view_before, present_view}

-- ---- present cells

same_level : (l : Level) (n : ℕ) (cells : List Cell) (locals : List Local) (constants : List (Option Val)) → l.inst ≡ n → l.cells ≡ cells → l.locals ≡ locals → l.constants ≡ constants →
    l ≡ record { inst = n; cells = cells; locals = locals; constants = constants }
same_level l n cells locals constants inst cell local constant = rw (sym inst, sym cell, sym local, sym constant) refl

-- an instance that is shown on its present cells is shown before the view that it was lent last
lent_last : (p : Program) (x : Shown) (i : Instance) → x.view.own.cells ≡ present i.cells.now → IsLentStill p x i → (c : ℕ) → view_in (component_at p i.place.component) ≡ Some c → x.view.owners ≡ levels_of i.owner_view
lent_last p x i cells still c view = ⊎_elim
    (λ moved. let e = ap (λ cs. count_of (slice_get cs c)) cells ∙ count_present i.cells.now c in absurd (omega (arith, moved, e)))
    (λ same. same)
    (still c view)

-- ---- views

-- what has a cell for its owner's view
pub record HasCell (o : Option Component) : Type 0 where
  pub cell : ℕ
  pub is : view_in o ≡ Some cell

pub cell_of : (o : Option Component) (cells : ℕ) → takes_view o cells ≡ true → HasCell o
cell_of None cells e = absurd (true≢false (sym e))
cell_of (Some c) cells e = by c.view refl e where
  by : (v : Option ℕ) → c.view ≡ v → is_cell_in cells v ≡ true → HasCell (Some c)
  by None is k = absurd (true≢false (sym k))
  by (Some n) is k = record { cell = n; is = is }

-- views of the same own level agree
pub same_view : (p : Program) (v v' : View) → v.own ≡ v'.own → v.modules ≡ v'.modules → AgreesAt everything v v'
same_view p v v' own modules =
    subst (λ l. AgreesAt everything v (record { own = l; owners = v'.owners; modules = v'.modules })) own
    (subst (λ ms. AgreesAt everything v (record { own = v.own; owners = v'.owners; modules = ms })) modules (same_at p everything v.own v.owners v'.owners v.modules))

module _ (p : Program) (m : Page) (compiled : IsCompiled p) (keys : AreAllKeysSeen p) (h : IsTrue p m) (shows : ShowsPresent m) (watched : AreWatched p m.world.modules (shown_of m.showing) m.world.states) where
  abbrev ks : Kins
  ks = kins m.world.states

  family : Family p [] None [] ks m.showing m.counters.next
  family = h.family.0

  -- an instance is shown on its present cells and constants, and before the view that it was lent last, where it has a cell for that
  pub record IsPresently (n : ℕ) (x : Shown) : Type 0 where
    pub instance : Instance
    pub there : live m.world.states n ≡ Some instance
    pub own : x.view.own ≡ (present_view m.world.modules n instance).own
    pub modules : x.view.modules ≡ m.world.modules
    pub owners : (c : ℕ) → view_in (component_at p instance.place.component) ≡ Some c → x.view.owners ≡ levels_of instance.owner_view

  pub presently : (n : ℕ) (x : Shown) → shown_of m.showing n ≡ Some x → IsPresently n x
  presently n x is =
      let s = family.shown n x is in
      let i = pictured m.world.states n s.kin s.live in
      let right = h.all.right n x is in
      let now = shows n i.instance i.live_is in
      let fixed = watched.fixed n x i.instance is i.live_is in
      let cells : x.view.own.cells ≡ present i.instance.cells.now = ap (λ (y : Shown). y.view.own.cells) (same_Some x now.last (sym is ∙ now.shown)) ∙ now.cells in
      record {
        instance = i.instance;
        there = i.live_is;
        own = same_level x.view.own n (present i.instance.cells.now) [] i.instance.setup.constants right.inst cells right.locals fixed.constants;
        modules = fixed.modules;
        owners = lent_last p x i.instance cells (watched.lent n x i.instance is i.live_is);
      }

  -- a live instance is shown
  recorded : (n : ℕ) (kin : Kin) → at ks n ≡ Some kin → is_some (shown_of m.showing n) ≡ true
  recorded n kin alive = let i = pictured m.world.states n kin alive in ap is_some (shows n i.instance i.live_is).shown

  same_tags : (v : View) → tags_of m.world v ≡ tags_in ks v
  same_tags v = tags-same m.world v

  same_markup : (n : ℕ) → markup_at p m.world n ≡ markup_in p ks n
  same_markup n = markup-same p m.world n

  -- ---- a child

  module _ (q : ℕ) (g : Hold) (kept : HoldIsKept ks m.showing g) (held : ChildIsHeld p [] ks m.showing q g) (n : ℕ) (there : child_at m.showing g.place ≡ Some n) (kin : Kin) (alive : at ks n ≡ Some kin)
      (y : Shown) (is : shown_of m.showing n ≡ Some y) where
    abbrev its : IsPresently n y
    its = presently n y is

    -- its view, before the hold's
    abbrev now : View
    now = view_before (Some g.view) m.world.modules n its.instance

    same_kin : kin_of its.instance ≡ kin
    same_kin = same_Some (kin_of its.instance) kin (sym (kin_at m.world.states n (Some its.instance) its.there) ∙ alive)

    -- it was lent a view
    module _ (v : View) (was : kin.lent ≡ Some v) where
      owners_are : (c : ℕ) → view_in (component_at p kin.place.component) ≡ Some c → y.view.owners ≡ levels v
      owners_are c view = its.owners c (ap (λ (k : Kin). view_in (component_at p k.place.component)) same_kin ∙ view) ∙ (ap (λ (k : Kin). levels_of k.lent) same_kin ∙ ap levels_of was)

      tags_are : tags_in ks y.view ≡ Some g.tag ∷ tags_in ks v
      tags_are =
          let s = family.shown n y is in
          s.tags
          ∙ (ap (tags_now ks n) (same_Some s.kin kin (sym s.live ∙ alive))
          ∙ (ap (λ o. map (tag_at ks) (n ∷ map (λ l. l.inst) (levels_of o))) was ∙ ap (λ t. t ∷ tags_in ks v) (kept n kin there alive).tag))

      -- that view agrees with the hold's
      followed : (t : Tag) → slice_get p.tags g.tag ≡ Some t → (depth : ℕ) → AgreesFor p depth (only t.reads) (tags_in ks v) g.tags t.content v g.view
      followed = ⊎_elim (λ none. absurd none) (λ agrees. agrees) ((held n kin there alive).followed v was).agrees

      above : (c : ℕ) → view_in (component_at p kin.place.component) ≡ Some c → (depth : ℕ) → slot_within p depth (markup_in p ks n) ≡ true →
          AgreesAbove p depth (tags_in ks y.view) (Some g.tag ∷ g.tags) (owner_of y.view) (owner_of now)
      above c view depth slot = subst (λ ts. AgreesAbove p depth ts (Some g.tag ∷ g.tags) (owner_of y.view) (owner_of now)) (sym tags_are) (by (slice_get p.tags g.tag) refl) where
        by : (o : Option Tag) → slice_get p.tags g.tag ≡ o → AgreesAbove p depth (Some g.tag ∷ tags_in ks v) (Some g.tag ∷ g.tags) (owner_of y.view) (owner_of now)
        by None e = (refl, subst (λ o. AgreesForTag p depth o (AgreesAbove p depth (tags_in ks v) g.tags) (owner_of y.view) (owner_of now)) (sym e) tt)
        by (Some t) e = (child_agrees p depth g.tag t (tags_in ks v) g.tags (markup_in p ks n) v g.view y.view now e its.own its.modules (owners_are c view) refl (followed t e depth)).1 slot

    owners_agree : (depth : ℕ) → slot_within p depth (markup_in p ks n) ≡ true → AgreesAbove p depth (tags_in ks y.view) (Some g.tag ∷ g.tags) (owner_of y.view) (owner_of now)
    owners_agree depth slot =
        let takes = slot_lends p (slots_are_owned p compiled.contents compiled) ks family.cells n kin depth alive slot in
        let c = cell_of (component_at p kin.place.component) kin.cells takes in
        let parent = sym (ap (λ o. is_some (parent_of o)) alive) ∙ family.children.parent g.place n there in
        let v = is_there kin.lent (⊎_elim (λ none. absurd (none-some n none)) (λ some. some) (family.lent.there n kin alive parent takes)) in
        above v.0 v.1 c.cell c.is depth slot

    agrees_in : (depth : ℕ) → AgreesFor p depth everything (tags_in ks y.view) (Some g.tag ∷ g.tags) (markup_in p ks n) y.view now
    agrees_in depth = (same_view p y.view now its.own its.modules, owners_agree depth)

    agrees : (v : View) → present_views m.world (Some g.view) n ≡ Some v → (depth : ℕ) → AgreesFor p depth everything (tags_of m.world y.view) (Some g.tag ∷ g.tags) (markup_at p m.world n) y.view v
    agrees v e depth =
        subst (λ ts. AgreesFor p depth everything ts (Some g.tag ∷ g.tags) (markup_at p m.world n) y.view v) (sym (same_tags y.view))
        (subst (λ fs. AgreesFor p depth everything (tags_in ks y.view) (Some g.tag ∷ g.tags) fs y.view v) (sym (same_markup n))
        (subst (λ u. AgreesFor p depth everything (tags_in ks y.view) (Some g.tag ∷ g.tags) (markup_in p ks n) y.view u)
        (same_Some now v (sym (ap (option_map (view_before (Some g.view) m.world.modules n)) its.there) ∙ e)) (agrees_in depth)))

  child_alike : (q : ℕ) (g : Hold) → HoldIsKept ks m.showing g → ChildIsHeld p [] ks m.showing q g → IsChildAlike p m.world (tags_of m.world) m.showing (present_views m.world) g
  child_alike q g kept held n there =
      let kin = is_there (at ks n) (child_live [] ks m.showing family.children g.place n there) in
      let y = is_there (shown_of m.showing n) (recorded n kin.0 kin.1) in
      record { shown = y.0; is = y.1; agrees = agrees q g kept held n there kin.0 kin.1 y.0 y.1 }

  -- ---- all that are shown

  same_holds : (n : ℕ) (x : Shown) → holds p (tags_of m.world x.view) (markup_at p m.world n) x.view x.parts ≡ holds_in p ks n x
  same_holds n x = ap (λ ts. holds p ts (markup_at p m.world n) x.view x.parts) (same_tags x.view) ∙ ap (λ fs. holds p (tags_in ks x.view) fs x.view x.parts) (same_markup n)

  each_alike : AreEachAlike p m.world (tags_of m.world) m.showing (present_views m.world)
  each_alike n x is = let i = presently n x is in record {
    within = subst (λ c. Each (IsWithin p) (of_frags (markup_of c))) (component-is p m.world n) (markup_fits p compiled.within keys (at (spots m.world.states) n)).within;
    fits = subst (λ ts. Fits p ts (markup_at p m.world n) x.parts) (sym (same_tags x.view))
        (subst (λ fs. Fits p (tags_in ks x.view) fs x.parts) (sym (same_markup n)) (family.shown n x is).fits);
    right = subst (λ ts. AreRight p ts (markup_at p m.world n) x.view x.parts) (sym (same_tags x.view))
        (subst (λ fs. AreRight p (tags_in ks x.view) fs x.view x.parts) (sym (same_markup n)) (h.all.right n x is).stands.right);
    before = views_stand m.world n i.instance i.there;
    children = subst (λ hs. Each (IsChildAlike p m.world (tags_of m.world) m.showing (present_views m.world)) hs) (sym (same_holds n x))
        (each_both (HoldIsKept ks m.showing) (ChildIsHeld p [] ks m.showing n) (IsChildAlike p m.world (tags_of m.world) m.showing (present_views m.world)) (child_alike n) (holds_in p ks n x)
        (family.kept n x is) (h.all.held n x is));
  }

  -- ---- the root

  module _ (nobody : at ks 0 ≡ None) where
    root_tags : (x : Shown) → shown_of m.showing 1 ≡ Some x → (rest : List (Option ℕ)) × (tags_of m.world x.view ≡ None ∷ rest)
    root_tags x is =
        let k = family.shown 1 x is in (
          map (tag_at ks) (map (λ l. l.inst) (levels_of k.kin.lent)),
          same_tags x.view ∙ (k.tags ∙ ap (λ t. t ∷ map (tag_at ks) (map (λ l. l.inst) (levels_of k.kin.lent))) (root_tag ks family.parents nobody)),
        )

    root_agrees : (x : Shown) → shown_of m.showing 1 ≡ Some x → (v : View) → present_views m.world None 1 ≡ Some v → (depth : ℕ) →
        AgreesFor p depth everything (tags_of m.world x.view) (None ∷ []) (markup_at p m.world 1) x.view v
    root_agrees x is v e depth =
        let i = presently 1 x is in
        let now = view_before None m.world.modules 1 i.instance in
        let t = root_tags x is in
        subst (λ u. AgreesFor p depth everything (tags_of m.world x.view) (None ∷ []) (markup_at p m.world 1) x.view u)
        (same_Some now v (sym (ap (option_map (view_before None m.world.modules 1)) i.there) ∙ e))
        (subst (λ ts. AgreesFor p depth everything ts (None ∷ []) (markup_at p m.world 1) x.view now) (sym t.1) (same_view p x.view now i.own i.modules, λ slot. refl))

    -- who isn't shown isn't live
    unviewed : shown_of m.showing 1 ≡ None → (o : Option Instance) → live m.world.states 1 ≡ o → present_views m.world None 1 ≡ None
    unviewed none None e = ap (option_map (view_before None m.world.modules 1)) e
    unviewed none (Some i) e = let now = shows 1 i e in absurd (none-some now.last (sym none ∙ now.shown))

    page_is : (o : Option Shown) → shown_of m.showing 1 ≡ o → drawn p m.world m.showing ≡ evaluated_page p m.world m.showing (present_views m.world)
    page_is None e = empty_drawn p m.world m.showing e ∙ sym (empty_evaluated p m.world m.showing (present_views m.world) (unviewed e (live m.world.states 1) refl))
    page_is (Some x) e =
        throughout p m.world (tags_of m.world) m.showing (present_views m.world) compiled.within compiled.contents (record { each = each_alike; root = record { shown = x; is = e; agrees = root_agrees x e } })

pub true_is_fresh : (p : Program) (m : Page) → IsCompiled p → AreAllKeysSeen p → IsTrue p m → ShowsPresent m → AreWatched p m.world.modules (shown_of m.showing) m.world.states →
    at (kins m.world.states) 0 ≡ None → IsFresh p m
true_is_fresh p m compiled keys h shows watched nobody = page_is p m compiled keys h shows watched nobody (shown_of m.showing 1) refl ∙ sym (on_present p m.world m.showing)
