-- Levels of views that are held agree with what snapshots saw, whatever is done.
use Rattle.std.proofs.Common.{◌≡◌, ℕ, List, [], ◌∷◌, ◌++◌, map, Option, Some, None, option_map, Bool, true, false, refl, sym, ap, subst, ◌∙◌, ⊎_elim, ◌⊎◌, inl, inr, if◌then◌else◌}
use Rattle.std.specs.BTreeMap.{is_at, insert_entry}
use Rattle.std.specs.Map.{remove_entry}
use Rattle.std.specs.Ordering.{nat_cmp}
use Rattle.std.proofs.lemmas.List.{map-append, map-set}
use Rattle.std.proofs.lemmas.Option.{none-some, same_Some}
use Rattle.sv_code.specs.declared.program.Program.{Program}
use Rattle.sv_flush.proofs.Agreeing.{agree-fewer, agree-more, agree-set, agree-added}
use Rattle.sv_flush.proofs.Holding.{lent-set, lent-added, shown-left, shown-put}
use Rattle.sv_flush.proofs.Lasting.{Loading, Idle, Fresh, Busy, Snapped, IsOf, About, Lasting, while_running}
use Rattle.sv_flush.proofs.Past.{past_shown, same_now, present_past}
use Rattle.sv_flush.proofs.Standing.{stands-back, stands-parts}
use Rattle.sv_flush.proofs.Tracking.{GoesBy, goes_stays, goes-loaded, goes-opened, goes-bound, goes-handed, picture_at, seen-snapped}
use Rattle.sv_flush.specs.Creation.{cell_count}
use Rattle.sv_flush.specs.Lent.{StandsIn, IsShownOn, IsLent, StandsHeld, IsHeld, ArePast, LevelsAgree, HoldsPast}
use Rattle.sv_flush.specs.declared.page.Page.{Page}
use Rattle.sv_frame.proofs.Altering.{pictures-altered, pictures-viewed, plain_view, view_of, snapshots-viewed}
use Rattle.sv_frame.proofs.Outcomes.{at_ends, Stays}
use Rattle.sv_frame.specs.Snapshots.{snapshot_of, snapshots}
use Rattle.sv_frame.specs.Views.{lent_views}
use Rattle.sv_instance.specs.Cells.{present}
use Rattle.sv_instance.specs.declared.instance.Instance.{Instance}
use Rattle.sv_numbered.specs.Numbered.{at}
use Rattle.sv_shapes.specs.declared.shown.Shown.{Shown}
use Rattle.sv_states.proofs.Altering.{at_within, altered-none, altered-some}
use Rattle.sv_states.proofs.Keeping.{new-born}
use Rattle.sv_states.proofs.Sounding.{sound-viewed, sound-added, sound-snapped, sound-removed}
use Rattle.sv_states.specs.Change.{added, removed, with_view, viewed}
use Rattle.sv_states.specs.Prepared.{IsNew}
use Rattle.sv_states.specs.Sound.{IsSound, IsSeen}
use Rattle.sv_states.specs.States.{States, live, with_instance, has_cell}
use Rattle.sv_states.specs.Waiting.{snapped, enqueued}
use Rattle.sv_states.specs.Waiting as waiting
use Rattle.sv_value.specs.Value.{Val}
use Rattle.sv_view.specs.Cell.{Cell}
use Rattle.sv_view.specs.Level.{Level, View}
use Rattle.sv_view.specs.View.{levels, levels_of}
use Rattle.sv_world.specs.World.{present_view}

-- levels that are held, and those that patches hand down
abbrev pub Stands : List Level → List (Option (Option View)) → List (ℕ × Shown) → ℕ → List Cell → Type 0
Stands due lent shown n cells = StandsIn due n cells ⊎ StandsHeld lent shown n cells

pub record Lends (due : List Level) (shown : List (ℕ × Shown)) (s : States) : Type 0 where
  pub sound : IsSound s
  pub agree : LevelsAgree (snapshots s) (Stands due (lent_views s) shown)

-- where each view that is held now was held before, or is made of levels that are handed down, so are the levels
module _ (due : List Level) (lent lent' : List (Option (Option View))) (shown shown' : List (ℕ × Shown)) (lends : (v : View) → IsLent lent' v → IsLent lent v ⊎ IsOf due v)
    (shows : (v : View) → IsShownOn shown' v → IsShownOn shown v) where
  lent_before : (v : View) (n : ℕ) (cells : List Cell) → StandsIn (levels v) n cells → IsLent lent v ⊎ IsOf due v → Stands due lent shown n cells
  lent_before v n cells s h = ⊎_elim (λ l. inr (v, (inl l, s))) (λ d. inl (d n cells s)) h

  stands_before : (n : ℕ) (cells : List Cell) → Stands due lent' shown' n cells → Stands due lent shown n cells
  stands_before n cells h = ⊎_elim
      (λ d. inl d)
      (λ held. ⊎_elim (λ l. lent_before held.0 n cells held.1.1 (lends held.0 l)) (λ x. inr (held.0, (inr (shows held.0 x), held.1.1))) held.1.0)
      h

module _ (due : List Level) (shown : List (ℕ × Shown)) where
  lends_go : GoesBy (Lends due shown)
  lends_go = record {
    sound = λ s h. h.sound;
    on = λ s t h sound same views. record {
      sound = sound;
      agree = subst (λ lent. LevelsAgree (snapshots t) (Stands due lent shown)) (sym views) (subst (λ saw. LevelsAgree saw (Stands due (lent_views s) shown)) (sym same) h.agree);
    };
  }

  -- whatever scripts do
  pub lends_stay : (p : Program) → Stays p (at_ends (Lends due shown))
  lends_stay p = goes_stays lends_go p

  -- ---- a view is lent

  module _ (s : States) (n c : ℕ) (view : View) where
    altered_lent : (o : Option Instance) → live s n ≡ o → (v : View) → IsLent (lent_views (with_instance (with_view c view) s n)) v → IsLent (lent_views s) v ⊎ (Some (Some view) ≡ Some (Some v))
    altered_lent None e v h = inl (subst (λ lives. IsLent (map (option_map view_of) lives) v) (altered-none (with_view c view) s.lives n e) h)
    altered_lent (Some i) e v h =
        lent-set (lent_views s) n (Some (Some view)) v
        (subst (λ lent. IsLent lent v) (map-set (option_map view_of) s.lives n (Some (with_view c view i))) (subst (λ lives. IsLent (map (option_map view_of) lives) v) (altered-some (with_view c view) s.lives n i e) h))

    viewed_lent : (b : Bool) → has_cell (live s n) c ≡ b → (v : View) → IsLent (lent_views (viewed s n c view)) v → IsLent (lent_views s) v ⊎ (Some (Some view) ≡ Some (Some v))
    viewed_lent true e v h = altered_lent (live s n) refl v (subst (λ lent. IsLent lent v) (pictures-viewed plain_view s n c view e) h)
    viewed_lent false e v h = inl (subst (λ x. IsLent (lent_views (if x then enqueued (with_instance (with_view c view) s n) n else s)) v) e h)

    of_same : IsOf due view → (v : View) → Some (Some view) ≡ Some (Some v) → IsOf due v
    of_same d v e = subst (IsOf due) (same_Some view v (same_Some (Some view) (Some v) e)) d

    lends-viewed : IsOf due view → Lends due shown s → Lends due shown (viewed s n c view)
    lends-viewed d h = record {
      sound = sound-viewed s n c view h.sound;
      agree = subst (λ saw. LevelsAgree saw (Stands due (lent_views (viewed s n c view)) shown)) (sym (snapshots-viewed s n c view))
          (agree-fewer (snapshots s) (Stands due (lent_views s) shown) (Stands due (lent_views (viewed s n c view)) shown)
          (stands_before due (lent_views s) (lent_views (viewed s n c view)) shown shown
          (λ v l. ⊎_elim (λ old. inl old) (λ new. inr (of_same d v new)) (viewed_lent (has_cell (live s n) c) refl v l))
          (λ v x. x))
          h.agree);
    }

  -- ---- instances that come and go

  lends-added : (s : States) (i : Instance) → IsNew i → i.owner_view ≡ None → Lends due shown s → Lends due shown (added s i)
  lends-added s i new none h = record {
    sound = sound-added s i new h.sound;
    agree = subst (λ saw. LevelsAgree saw (Stands due (lent_views (added s i)) shown)) (sym (map-append (option_map snapshot_of) s.lives (Some i ∷ [])))
        (agree-added (snapshots s) (Some (snapshot_of i)) (Stands due (lent_views (added s i)) shown)
        (agree-fewer (snapshots s) (Stands due (lent_views s) shown) (Stands due (lent_views (added s i)) shown)
        (stands_before due (lent_views s) (lent_views (added s i)) shown shown
        (λ v l. ⊎_elim
        (λ old. inl old)
        (λ new. absurd (none-some v (sym none ∙ same_Some i.owner_view (Some v) new)))
        (lent-added (lent_views s) (Some i.owner_view) v (subst (λ lent. IsLent lent v) (map-append (option_map view_of) s.lives (Some i ∷ [])) l)))
        (λ v x. x))
        h.agree));
  }

  lends-gone : (s : States) (n : ℕ) → Lends due shown s → Lends due (remove_entry (is_at (nat_cmp n)) shown) (removed s n)
  lends-gone s n h = record {
    sound = sound-removed s n h.sound;
    agree = subst (λ saw. LevelsAgree saw (Stands due (lent_views (removed s n)) (remove_entry (is_at (nat_cmp n)) shown))) (sym (map-set (option_map snapshot_of) s.lives n None))
        (agree-set (snapshots s) n None (Stands due (lent_views (removed s n)) (remove_entry (is_at (nat_cmp n)) shown)) (λ x cells none. absurd (none-some x none))
        (agree-fewer (snapshots s) (Stands due (lent_views s) shown) (Stands due (lent_views (removed s n)) (remove_entry (is_at (nat_cmp n)) shown))
        (stands_before due (lent_views s) (lent_views (removed s n)) shown (remove_entry (is_at (nat_cmp n)) shown)
        (λ v l. ⊎_elim
        (λ old. inl old)
        (λ none. absurd (none-some (Some v) none))
        (lent-set (lent_views s) n None v (subst (λ lent. IsLent lent v) (map-set (option_map view_of) s.lives n None) l)))
        (shown-left n shown))
        h.agree));
  }

-- ---- updates

-- a snapshot of an instance was taken just now, and it isn't shown on that yet
pub record Shot (n : ℕ) (due : List Level) (shown : List (ℕ × Shown)) (s : States) : Type 0 where
  pub lends : Lends due shown s
  pub now : (i : Instance) → live s n ≡ Some i → i.cells.seen ≡ Some i.cells.now

snapped_agree : (n : ℕ) (s : States) (S : ℕ → List Cell → Type 0) (o : Option Instance) → live s n ≡ o → IsSound s → LevelsAgree (snapshots s) S → LevelsAgree (snapshots (snapped s n)) S
snapped_agree n s S None e sound h = subst (λ lives. LevelsAgree (map (option_map snapshot_of) lives) S) (sym (altered-none waiting.shown s.lives n e)) h
snapped_agree n s S (Some i) e sound h =
    subst (λ lives. LevelsAgree (map (option_map snapshot_of) lives) S) (sym (altered-some waiting.shown s.lives n i e))
    (subst (λ saw. LevelsAgree saw S) (sym (map-set (option_map snapshot_of) s.lives n (Some (waiting.shown i))))
    (agree-set (snapshots s) n (Some (snapshot_of (waiting.shown i))) S
    (λ x cells is stands. subst (λ y. ArePast y cells) (same_Some (snapshot_of (waiting.shown i)) x is)
    (past_shown i (subst IsSeen e (sound.seen n)) cells (h.past n cells (snapshot_of i) stands (picture_at snapshot_of s n (Some i) e))))
    h))

lends-snapped : (n : ℕ) (due : List Level) (shown : List (ℕ × Shown)) (s : States) → Lends due shown s → Lends due shown (snapped s n)
lends-snapped n due shown s h = record {
  sound = sound-snapped s n h.sound;
  agree = subst (λ lent. LevelsAgree (snapshots (snapped s n)) (Stands due lent shown)) (sym (pictures-altered view_of waiting.shown s.lives n (λ i. refl)))
      (snapped_agree n s (Stands due (lent_views s) shown) (live s n) refl h.sound h.agree);
}

-- the levels of the view that a live instance was lent are held
pub owners_held : (s : States) (n : ℕ) (i : Instance) → live s n ≡ Some i → (shown : List (ℕ × Shown)) (k : ℕ) (cells : List Cell) → StandsIn (levels_of i.owner_view) k cells → StandsHeld (lent_views s) shown k cells
owners_held s n i there shown k cells g = by i.owner_view refl g where
  by : (o : Option View) → i.owner_view ≡ o → StandsIn (levels_of o) k cells → StandsHeld (lent_views s) shown k cells
  by None e g = absurd g
  by (Some v) e g = (v, (inl (record { number = n; there = picture_at view_of s n (Some i) there ∙ ap Some e }), g))

-- an instance is shown on its present view, which its snapshot saw
module _ (n : ℕ) (due : List Level) (shown : List (ℕ × Shown)) (s : States) (modules : List (List (Option Val))) (i : Instance) (x : Shown) (view : x.view ≡ present_view modules n i) (there : live s n ≡ Some i) (h : Shot n due shown s) where
  abbrev Old : ℕ → List Cell → Type 0
  Old k cells = Stands due (lent_views s) shown k cells ⊎ ((n ≡ k) × (present i.cells.now ≡ cells))

  -- its levels are its own, and those of the view that it was lent
  view_old : (k : ℕ) (cells : List Cell) → StandsIn (levels (present_view modules n i)) k cells → Old k cells
  view_old k cells g = ⊎_elim (λ own. inr own) (λ owner. inl (inr (owners_held s n i there shown k cells owner))) g

  shown_old : (v : View) (k : ℕ) (cells : List Cell) → StandsIn (levels v) k cells → IsShownOn shown v ⊎ (x.view ≡ v) → Old k cells
  shown_old v k cells g is = ⊎_elim (λ old. inl (inr (v, (inr old, g)))) (λ new. view_old k cells (subst (λ u. StandsIn (levels u) k cells) (sym new ∙ view) g)) is

  held_old : (k : ℕ) (cells : List Cell) → StandsHeld (lent_views s) (insert_entry nat_cmp shown n x) k cells → Old k cells
  held_old k cells held = ⊎_elim (λ l. inl (inr (held.0, (inl l, held.1.1)))) (λ y. shown_old held.0 k cells held.1.1 (shown-put shown n x held.0 y)) held.1.0

  stands_old : (k : ℕ) (cells : List Cell) → Stands (levels (present_view modules n i) ++ due) (lent_views s) (insert_entry nat_cmp shown n x) k cells → Old k cells
  stands_old k cells g = ⊎_elim
      (λ d. ⊎_elim (view_old k cells) (λ old. inl (inl old)) (stands-parts (levels (present_view modules n i)) due k cells d))
      (held_old k cells)
      g

  saw : at (snapshots s) n ≡ Some (snapshot_of i)
  saw = picture_at snapshot_of s n (Some i) there

  lends-shown : Lends (levels (present_view modules n i) ++ due) (insert_entry nat_cmp shown n x) s
  lends-shown = record {
    sound = h.lends.sound;
    agree = agree-more (snapshots s) (Stands due (lent_views s) shown) (Stands (levels (present_view modules n i) ++ due) (lent_views s) (insert_entry nat_cmp shown n x)) n (present i.cells.now)
        (at_within (snapshots s) n (snapshot_of i) saw)
        (λ y is. subst (λ z. ArePast z (present i.cells.now)) (same_Some (snapshot_of i) y (sym saw ∙ is)) (present_past i (h.now i there)))
        (λ b stands. same_now i (subst IsSeen there (h.lends.sound.seen n)) b (h.lends.agree.past n b (snapshot_of i) stands saw))
        stands_old h.lends.agree;
  }

lends-fewer : (more due : List Level) (shown : List (ℕ × Shown)) (s : States) → Lends (more ++ due) shown s → Lends due shown s
lends-fewer more due shown s h = record {
  sound = h.sound;
  agree = agree-fewer (snapshots s) (Stands (more ++ due) (lent_views s) shown) (Stands due (lent_views s) shown) (λ n cells g. ⊎_elim (λ d. inl (stands-back more due n cells d)) (λ held. inr held) g) h.agree;
}

-- ---- whatever a flush does

abbrev pub LendsWhile : About
LendsWhile Loading due shown ms = Lends due shown
LendsWhile Idle due shown ms = Lends due shown
LendsWhile (Fresh n) due shown ms = Lends due shown
LendsWhile (Busy n) due shown ms = Lends due shown
LendsWhile (Snapped n) due shown ms = Shot n due shown

pub lends_last : (p : Program) → Lasting p LendsWhile
lends_last p = record {
  scripts = while_running _ (λ due shown. lends_stay due shown p) (λ n due shown. lends_stay due shown p) (λ n due shown. lends_stay due shown p);
  loads = λ due shown w h. goes-loaded (lends_go due shown) p w h;
  opens = λ n due shown props w h. goes-opened (lends_go due shown) p n props w h;
  binds = λ due shown w n b may h. goes-bound (lends_go due shown) p w n b h;
  hands = while_running _ (λ due shown ms s at v h. goes-handed (lends_go due shown) s at v h) (λ n due shown ms s at v h. goes-handed (lends_go due shown) s at v h) (λ n due shown ms s at v h. goes-handed (lends_go due shown) s at v h);
  lends = while_running _ (λ due shown ms s n c view is d h. lends-viewed due shown s n c view d h) (λ m due shown ms s n c view is d h. lends-viewed due shown s n c view d h) (λ m due shown ms s n c view is d h. lends-viewed due shown s n c view d h);
  spends = λ more due shown ms s h. lends-fewer more due shown s h;
  makes = λ due shown ms s place c is h. lends-added due shown s _ (new-born place (cell_count c) c.constants) refl h;
  drops = λ due shown ms s n h. lends-gone due shown s n h;
  begins = λ n due shown ms s h. h;
  snaps = λ n due shown ms s h. record { lends = lends-snapped n due shown s h; now = seen-snapped n s };
  passes = λ n due shown ms s e h. h.lends;
  shows = λ n due shown ms s i parts there h. lends-shown n due shown s ms i (record { view = present_view ms n i; parts = parts }) refl there h;
}

-- ---- as pages have it

pub lends_of : (m : Page) → IsSound m.world.states → HoldsPast m → Lends [] m.showing.shown m.world.states
lends_of m sound h = record { sound = sound; agree = agree-fewer (snapshots m.world.states) (IsHeld m) (Stands [] (lent_views m.world.states) m.showing.shown) (λ n cells g. ⊎_elim (λ none. absurd none) (λ held. held) g) h }

pub holds_of : (m : Page) → Lends [] m.showing.shown m.world.states → HoldsPast m
holds_of m h = agree-fewer (snapshots m.world.states) (Stands [] (lent_views m.world.states) m.showing.shown) (IsHeld m) (λ n cells g. inr g) h.agree

-- what is shown on the same view is another thing
pub lends-laid : (due : List Level) (shown : List (ℕ × Shown)) (s : States) (n : ℕ) (x : Shown) → IsShownOn shown x.view → Lends due shown s → Lends due (insert_entry nat_cmp shown n x) s
lends-laid due shown s n x is h = record {
  sound = h.sound;
  agree = agree-fewer (snapshots s) (Stands due (lent_views s) shown) (Stands due (lent_views s) (insert_entry nat_cmp shown n x))
      (stands_before due (lent_views s) (lent_views s) shown (insert_entry nat_cmp shown n x) (λ v l. inl l)
      (λ v y. ⊎_elim (λ old. old) (λ new. subst (IsShownOn shown) new is) (shown-put shown n x v y)))
      h.agree;
}
