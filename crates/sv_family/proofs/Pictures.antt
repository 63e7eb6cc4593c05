-- The pictures of the live instances against the instances themselves.
use Rattle.std.proofs.Common.{◌≡◌, ℕ, suc, ◌<◌, Bool, true, false, List, [], ◌∷◌, ◌++◌, length, map, Option, Some, None, option_map, is_some, refl, sym, ap, subst, ◌∙◌, ◌⊎◌, inl, inr, ⊎_elim, slice_set, if◌then◌else◌}
use Rattle.std.proofs.lemmas.Bool.{cases_lt, lt-ltb, le-ltb, true≢false}
use Rattle.std.proofs.lemmas.List.{map-append, map-set, length-map, length-set, length-replicate, get_or_push}
use Rattle.std.proofs.lemmas.Option.{none-some, same_Some}
use Rattle.sv_code.specs.declared.program.Component.{Component}
use Rattle.sv_code.specs.declared.program.Program.{Program}
use Rattle.sv_code.specs.declared.tags.Tag.{Tag}
use Rattle.sv_family.proofs.Course.{born_kin, child_place, with_born}
use Rattle.sv_family.proofs.Scripts.{plain_kin}
use Rattle.sv_family.specs.Family.{component_for as component_in, markup_in}
use Rattle.sv_family.specs.Kin.{Kin, kin_of, kins, tag_of, tag_at, tags_in, depth_at, depth_of as depth_in, takes_view, is_lent, with_lent}
use Rattle.sv_flush.proofs.Tracking.{picture_at}
use Rattle.sv_flush.specs.Creation.{next}
use Rattle.sv_flush.specs.Setting.{lent_to, lent}
use Rattle.sv_flush.specs.Showing.{own_tag, tags_of}
use Rattle.sv_frame.proofs.Altering.{pictures-viewed}
use Rattle.sv_instance.specs.Cells.{cell_at}
use Rattle.sv_instance.specs.Instance.{born}
use Rattle.sv_instance.specs.Standing.{Place}
use Rattle.sv_instance.specs.declared.instance.Instance.{Instance}
use Rattle.sv_instance.specs.declared.setup.Setup.{Setup}
use Rattle.sv_meaning.specs.Components.{component_at, component_for, component_of, markup_of}
use Rattle.sv_numbered.specs.Numbered.{at, altered}
use Rattle.sv_states.proofs.Altering.{at_within, altered-some, at-altered_same, at-altered_none}
use Rattle.sv_states.specs.Change.{added, place_below, with_view, viewed}
use Rattle.sv_states.specs.States.{States, live, with_instance, has_cell, depth_of}
use Rattle.sv_states.specs.Waiting.{enqueued}
use Rattle.sv_view.specs.Level.{View}
use Rattle.sv_view.specs.View.{insts}
use Rattle.sv_world.specs.declared.world.World.{World}

pub kin_at : (s : States) (n : ℕ) (o : Option Instance) → live s n ≡ o → at (kins s) n ≡ option_map kin_of o
kin_at s n o e = picture_at kin_of s n o e

-- whoever has a picture is live
pub record Pictured (s : States) (n : ℕ) (kin : Kin) : Type 0 where
  pub instance : Instance
  pub live_is : live s n ≡ Some instance
  pub kin_is : kin_of instance ≡ kin

pub pictured : (s : States) (n : ℕ) (kin : Kin) → at (kins s) n ≡ Some kin → Pictured s n kin
pictured s n kin there = by (live s n) refl where
  by : (o : Option Instance) → live s n ≡ o → Pictured s n kin
  by None e = absurd (none-some kin (sym (kin_at s n None e) ∙ there))
  by (Some i) e = record { instance = i; live_is = e; kin_is = same_Some (kin_of i) kin (sym (kin_at s n (Some i) e) ∙ there) }

-- ---- what is asked of an instance

pub depth-same : (s : States) (n : ℕ) → depth_at (kins s) n ≡ depth_of (live s n)
depth-same s n = by (live s n) refl where
  by : (o : Option Instance) → live s n ≡ o → depth_at (kins s) n ≡ depth_of o
  by None e = ap depth_in (kin_at s n None e)
  by (Some i) e = ap depth_in (kin_at s n (Some i) e)

tag-same : (s : States) (n : ℕ) → own_tag (live s n) ≡ tag_at (kins s) n
tag-same s n = sym (by (live s n) refl) where
  by : (o : Option Instance) → live s n ≡ o → tag_at (kins s) n ≡ own_tag o
  by None e = ap tag_of (kin_at s n None e)
  by (Some i) e = ap tag_of (kin_at s n (Some i) e)

list-same : (s : States) (list : List ℕ) → map (λ n. own_tag (live s n)) list ≡ map (tag_at (kins s)) list
list-same s [] = refl
list-same s (n ∷ list) = ap (λ o. o ∷ map (λ n. own_tag (live s n)) list) (tag-same s n) ∙ ap (λ l. tag_at (kins s) n ∷ l) (list-same s list)

pub tags-same : (w : World) (v : View) → tags_of w v ≡ tags_in (kins w.states) v
tags-same w v = list-same w.states (insts v)

pub component-same : (p : Program) (s : States) (n : ℕ) → component_for p (live s n) ≡ component_in p (at (kins s) n)
component-same p s n = sym (by (live s n) refl) where
  by : (o : Option Instance) → live s n ≡ o → component_in p (at (kins s) n) ≡ component_for p o
  by None e = ap (component_in p) (kin_at s n None e)
  by (Some i) e = ap (component_in p) (kin_at s n (Some i) e)

pub markup-same : (p : Program) (w : World) (n : ℕ) → markup_of (component_of p w n) ≡ markup_in p (kins w.states) n
markup-same p w n = ap markup_of (component-same p w.states n)

-- ---- instances that are made

pub next-same : (w : World) → next w ≡ length (kins w.states)
next-same w = sym (length-map w.states.lives (option_map kin_of))

kin-born : (place : Place) (cells constants : ℕ) → kin_of (born place cells constants) ≡ born_kin place cells
kin-born place cells constants = ap (λ n. record { place = place; cells = n; lent = None }) (length-replicate cells None)

pub kins-added : (s : States) (place : Place) (cells constants : ℕ) → kins (added s (born place cells constants)) ≡ with_born (kins s) place cells
kins-added s place cells constants = map-append (option_map kin_of) s.lives (Some (born place cells constants) ∷ []) ∙ ap (λ kin. kins s ++ Some kin ∷ []) (kin-born place cells constants)

pub place-same : (s : States) (tag : Tag) (q t : ℕ) (view : View) → place_below s tag.file (Some q) (Some (record { tag = t; owner = view.own.inst })) ≡ child_place (kins s) tag q t view
place-same s tag q t view =
    ap (λ d. record { component = tag.file; depth = suc d; parent = Some q; standing = Some (record { tag = t; owner = view.own.inst }) }) (sym (depth-same s q))

-- an instance has had no snapshot
abbrev pub IsUnseen : ℕ → States → Type 0
IsUnseen n s = (i : Instance) → live s n ≡ Some i → i.cells.seen ≡ None

pub unseen-setup : (s : States) (f : Setup → Setup) (n : ℕ) → IsUnseen n s → IsUnseen n (with_instance (λ i. record i { setup = f i.setup }) s n)
unseen-setup s f n h = by (live s n) refl where
  by : (o : Option Instance) → live s n ≡ o → IsUnseen n (with_instance (λ i. record i { setup = f i.setup }) s n)
  by None e i is = absurd (none-some i (sym (at-altered_none (λ i. record i { setup = f i.setup }) s.lives n e) ∙ is))
  by (Some j) e i is =
      let same = same_Some (record j { setup = f j.setup }) i (sym (at-altered_same (λ i. record i { setup = f i.setup }) s.lives n j e) ∙ is) in
      ap (λ (i : Instance). i.cells.seen) (sym same) ∙ h j e

pub unseen-added : (s : States) (place : Place) (cells constants : ℕ) → IsUnseen (length s.lives) (added s (born place cells constants))
unseen-added s place cells constants i is =
    let same = same_Some (born place cells constants) i (sym (get_or_push s.lives (Some (born place cells constants)) None (length s.lives) refl) ∙ is) in
    ap (λ (i : Instance). i.cells.seen) (sym same)

-- ---- views that are lent

-- a cell for the owner's view is declared
abbrev pub IsOpened : Program → ℕ → States → Type 0
IsOpened p n s = (i : Instance) (c : Component) (cell : ℕ) → live s n ≡ Some i → component_at p i.place.component ≡ Some c → c.view ≡ Some cell → cell < length i.cells.now → has_cell (Some i) cell ≡ true

abbrev pub StaysUnlent : Program → ℕ → Kin → States → States → Type 0
StaysUnlent p n kin old new = (kins new ≡ kins old) × (IsOpened p n old → is_lent p kin ≡ false)

abbrev pub IsLentNow : Program → ℕ → View → Kin → States → States → Type 0
IsLentNow p n view kin old new = (kins new ≡ altered (with_lent view) (kins old) n) × (is_lent p kin ≡ true)

-- an instance gets the view, or has no cell for it
abbrev pub Either : Program → ℕ → View → Kin → States → States → Type 0
Either p n view kin old new = StaysUnlent p n kin old new ⊎ IsLentNow p n view kin old new

module _ (p : Program) (n : ℕ) (view : View) (w : World) (i : Instance) (is : live w.states n ≡ Some i) where
  there : at (kins w.states) n ≡ Some (kin_of i)
  there = kin_at w.states n (Some i) is

  lent-kin : (cell : ℕ) → kin_of (with_view cell view i) ≡ with_lent view (kin_of i)
  lent-kin cell = ap (λ k. record { place = i.place; cells = k; lent = Some view }) (length-set i.cells.now cell _)

  kins-lent : (cell : ℕ) → kins (with_instance (with_view cell view) w.states n) ≡ altered (with_lent view) (kins w.states) n
  kins-lent cell =
      ap (λ lives. map (option_map kin_of) lives) (altered-some (with_view cell view) w.states.lives n i is)
      ∙ (map-set (option_map kin_of) w.states.lives n (Some (with_view cell view i))
      ∙ (ap (λ kin. slice_set (kins w.states) n (Some kin)) (lent-kin cell) ∙ sym (altered-some (with_lent view) (kins w.states) n (kin_of i) there)))

  cell-within : (cell : ℕ) → has_cell (Some i) cell ≡ true → cell < length i.cells.now
  cell-within cell has = by (cell_at i.cells.now cell) refl has where
    by : (o : Option _) → cell_at i.cells.now cell ≡ o → is_some o ≡ true → cell < length i.cells.now
    by None e h = absurd (true≢false (sym h))
    by (Some x) e h = at_within i.cells.now cell x e

  by_cell : (c : Component) (cell : ℕ) → component_at p i.place.component ≡ Some (record c { view = Some cell }) → (b : Bool) → has_cell (live w.states n) cell ≡ b → Either p n view (kin_of i) w.states (viewed w.states n cell view)
  by_cell c cell comp true e = inr (
    pictures-viewed plain_kin w.states n cell view e ∙ kins-lent cell,
    ap (λ o. takes_view o (length i.cells.now)) comp ∙ lt-ltb cell (length i.cells.now) (cell-within cell (sym (ap (λ o. has_cell o cell) is) ∙ e)),
  )
  by_cell c cell comp false e = inl (
    ap (λ b. kins (if b then enqueued (with_instance (with_view cell view) w.states n) n else w.states)) e,
    λ opened. ap (λ o. takes_view o (length i.cells.now)) comp ∙ ⊎_elim
        (λ below. absurd (true≢false (sym (opened i (record c { view = Some cell }) cell is comp refl below) ∙ (sym (ap (λ o. has_cell o cell) is) ∙ e))))
        (λ past. le-ltb cell (length i.cells.now) past)
        (cases_lt cell (length i.cells.now)),
  )

  by_view : (c : Component) (cell : Option ℕ) → component_at p i.place.component ≡ Some (record c { view = cell }) → Either p n view (kin_of i) w.states (lent_to (Some (record c { view = cell })) n view w).states
  by_view c None comp = inl (refl, λ opened. ap (λ o. takes_view o (length i.cells.now)) comp)
  by_view c (Some cell) comp = by_cell c cell comp (has_cell (live w.states n) cell) refl

  by_component : (o : Option Component) → component_at p i.place.component ≡ o → Either p n view (kin_of i) w.states (lent_to o n view w).states
  by_component None comp = inl (refl, λ opened. ap (λ o. takes_view o (length i.cells.now)) comp)
  by_component (Some c) comp = by_view c c.view comp

  pub lent_either : Either p n view (kin_of i) w.states (lent p n view w).states
  lent_either = subst (λ o. Either p n view (kin_of i) w.states (lent_to o n view w).states) (sym (ap (component_for p) is)) (by_component (component_at p i.place.component) refl)

-- who isn't live gets none
pub lent-none : (p : Program) (n : ℕ) (view : View) (w : World) → live w.states n ≡ None → lent p n view w ≡ w
lent-none p n view w e = ap (λ o. lent_to (component_for p o) n view w) e
