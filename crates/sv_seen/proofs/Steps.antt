-- Scripts and snapshots leave the places of instances and the views that they were lent as they are.
use Rattle.std.proofs.Common.{◌≡◌, ℕ, Bool, true, false, List, [], ◌∷◌, map, Option, Some, None, option_map, refl, sym, ap, subst, ◌∙◌, ◌⊎◌, inl, inr, ⊎_elim, if◌then◌else◌}
use Rattle.std.proofs.lemmas.List.{map-set}
use Rattle.std.proofs.lemmas.Option.{same_Some}
use Rattle.sv_code.specs.declared.program.Program.{Program}
use Rattle.sv_flush.proofs.Bringing.{Afterwards, Brings}
use Rattle.sv_flush.proofs.Holding.{lent-set}
use Rattle.sv_flush.specs.Callbacks.{callbacks_of, called_back, all_called_back, nowhere}
use Rattle.sv_flush.specs.Creation.{snapshot}
use Rattle.sv_flush.specs.Lent.{IsLent}
use Rattle.sv_flush.specs.Outcome.{in_world, ended, scripted}
use Rattle.sv_flush.specs.Showing.{tag_shown, tag_kept, tags_kept}
use Rattle.sv_flush.specs.declared.page.Page.{Page}
use Rattle.sv_frame.proofs.Altering.{lent_setups, pictures-altered, pictures-viewed, pictures_setup, pictures_stay, plain_view, view_of}
use Rattle.sv_frame.proofs.Outcomes.{at_ends, Stays, Sets, Leaves, Left, both_stay, both_sets, ends_stay, then_leaves, ends_leaves}
use Rattle.sv_frame.proofs.Running.{called_leaves, in_turn_leaves}
use Rattle.sv_frame.proofs.Stepping.{sets_by, steps_stay}
use Rattle.sv_frame.specs.Views.{lent_views}
use Rattle.sv_instance.specs.Standing.{Place}
use Rattle.sv_instance.specs.declared.callbacks.When.{When}
use Rattle.sv_instance.specs.declared.instance.Instance.{Instance}
use Rattle.sv_instance.specs.declared.setup.Setup.{Setup}
use Rattle.sv_meaning.specs.Outcome.{Ending, Ends, Fails, Deed}
use Rattle.sv_parts.specs.declared.state.Kept.{Kept}
use Rattle.sv_seen.proofs.Spots.{place_of, plain_place, spots}
use Rattle.sv_shapes.specs.Showing.{Showing, child_at}
use Rattle.sv_shapes.specs.declared.shown.Shown.{Shown}
use Rattle.sv_states.proofs.Altering.{altered-none, altered-some}
use Rattle.sv_states.specs.Change.{with_view, viewed}
use Rattle.sv_states.specs.States.{States, live, with_instance, has_cell}
use Rattle.sv_states.specs.Waiting as waiting
use Rattle.sv_states.specs.Waiting.{enqueued}
use Rattle.sv_view.specs.Level.{View}
use Rattle.sv_world.specs.declared.world.World.{World}

-- the places of instances and the views that they were lent are these
abbrev pub Knows : List (Option Place) → List (Option (Option View)) → States → Type 0
Knows known lent s = (spots s ≡ known) × (lent_views s ≡ lent)

-- they are the same as in other states
abbrev pub Same : States → States → Type 0
Same s t = Knows (spots s) (lent_views s) t

pub same-self : (s : States) → Same s s
same-self s = (refl, refl)

pub same-then : (s t u : States) → Same s t → Same t u → Same s u
same-then s t u h k = (k.0 ∙ h.0, k.1 ∙ h.1)

-- what scripts do
pub knows_stay : (p : Program) (known : List (Option Place)) (lent : List (Option (Option View))) → Stays p (at_ends (Knows known lent))
knows_stay p known lent = both_stay (ends_stay (steps_stay (pictures_stay plain_place known) p)) (ends_stay (steps_stay (pictures_stay plain_view lent) p))

pub knows_sets : (known : List (Option Place)) (lent : List (Option (Option View))) (n : ℕ) → Sets n (λ ms. Knows known lent)
knows_sets known lent n = both_sets (sets_by (pictures_setup {g = place_of} (λ i u. refl) known) (pictures_stay plain_place known) n) (sets_by (lent_setups lent) (pictures_stay plain_view lent) n)

-- the callbacks of an instance
pub back_leaves : (p : Program) (n : ℕ) (when : When) (known : List (Option Place)) (lent : List (Option (Option View))) → Leaves (at_ends (Knows known lent)) (all_called_back p n when)
back_leaves p n when known lent = record {
  held = λ w h. (in_turn_leaves (knows_stay p known lent) (called_back p) (callbacks_of w n when) (λ v. then_leaves (called_leaves (knows_stay p known lent) v [] nowhere) (λ u. ends_leaves tt))).held w h;
}

-- ---- changes of one instance

pub same-setup : (s : States) (f : Setup → Setup) (n : ℕ) → Same s (with_instance (λ i. record i { setup = f i.setup }) s n)
same-setup s f n = (pictures-altered place_of (λ i. record i { setup = f i.setup }) s.lives n (λ i. refl), pictures-altered view_of (λ i. record i { setup = f i.setup }) s.lives n (λ i. refl))

pub same-snapshot : (n : ℕ) (w : World) → Same w.states (snapshot n w).states
same-snapshot n w = (pictures-altered place_of waiting.shown w.states.lives n (λ i. refl), pictures-altered view_of waiting.shown w.states.lives n (λ i. refl))

same-tag : (s : Showing) (k : Kept) (o : Option ℕ) (w : World) → Same w.states (tag_shown o k w).states
same-tag s k None w = same-self w.states
same-tag s k (Some n) w = same-setup w.states (λ u. record u { locals = k.locals }) n

-- what the tags that stay are given
pub same-tags : (s : Showing) (kept : List Kept) (w : World) → Same w.states (tags_kept s kept w).states
same-tags s [] w = same-self w.states
same-tags s (k ∷ kept) w =
    same-then w.states (tag_kept s k w).states (tags_kept s kept (tag_kept s k w)).states (same-tag s k (child_at s k.place) w) (same-tags s kept (tag_kept s k w))

-- ---- an instance gets its owner's view

module _ (s : States) (n c : ℕ) (view : View) where
  -- the states, where the cell for the view is there, and where it isn't
  abbrev after : Bool → States
  after b = if b then enqueued (with_instance (with_view c view) s n) n else s

  -- its place is the same
  spots-viewed : (b : Bool) → has_cell (live s n) c ≡ b → spots (after (has_cell (live s n) c)) ≡ spots s
  spots-viewed true e = pictures-viewed plain_place s n c view e ∙ pictures-altered place_of (with_view c view) s.lives n (λ i. refl)
  spots-viewed false e = ap (λ b. spots (after b)) e

  pub viewed-spots : spots (viewed s n c view) ≡ spots s
  viewed-spots = spots-viewed (has_cell (live s n) c) refl

  altered-lent : (o : Option Instance) → live s n ≡ o → (v : View) → IsLent (lent_views (with_instance (with_view c view) s n)) v → IsLent (lent_views s) v ⊎ (view ≡ v)
  altered-lent None e v h = inl (subst (λ lives. IsLent (map (option_map view_of) lives) v) (altered-none (with_view c view) s.lives n e) h)
  altered-lent (Some i) e v h = ⊎_elim
      (λ old. inl old)
      (λ new. inr (same_Some view v (same_Some (Some view) (Some v) new)))
      (lent-set (lent_views s) n (Some (Some view)) v
      (subst (λ lent. IsLent lent v) (map-set (option_map view_of) s.lives n (Some (with_view c view i))) (subst (λ lives. IsLent (map (option_map view_of) lives) v) (altered-some (with_view c view) s.lives n i e) h)))

  lent-viewed : (b : Bool) → has_cell (live s n) c ≡ b → (v : View) → IsLent (lent_views (after (has_cell (live s n) c))) v → IsLent (lent_views s) v ⊎ (view ≡ v)
  lent-viewed true e v h = altered-lent (live s n) refl v (subst (λ lent. IsLent lent v) (pictures-viewed plain_view s n c view e) h)
  lent-viewed false e v h = inl (subst (λ b. IsLent (lent_views (after b)) v) e h)

  -- and nobody is lent another view
  pub viewed-lent : (v : View) → IsLent (lent_views (viewed s n c view)) v → IsLent (lent_views s) v ⊎ (view ≡ v)
  viewed-lent v h = lent-viewed (has_cell (live s n) c) refl v h

-- ---- tasks that keep a fact of places, views and of what is shown

module _ (F : List (Option Place) → List (Option (Option View)) → List (ℕ × Shown) → Type 0) where
  -- so it is on a page
  abbrev pub On : Page → Type 0
  On m = F (spots m.world.states) (lent_views m.world.states) m.showing.shown

  pub on-same : (s t : States) (shown : List (ℕ × Shown)) → Same s t → F (spots s) (lent_views s) shown → F (spots t) (lent_views t) shown
  on-same s t shown same h = subst (λ lent. F (spots t) lent shown) (sym same.1) (subst (λ known. F known (lent_views s) shown) (sym same.0) h)

  -- scripts
  pub scripted_brings : {deed : Deed (Unit {0})} → ((known : List (Option Place)) (lent : List (Option (Option View))) → Leaves (at_ends (Knows known lent)) deed) → Brings On On (scripted deed)
  scripted_brings {deed = deed} k = record { held = λ m h. by m h (deed m.world) ((k (spots m.world.states) (lent_views m.world.states)).held m.world (refl, refl)) } where
    by : (m : Page) → On m → (e : Ending (Unit {0})) → Left (at_ends (Knows (spots m.world.states) (lent_views m.world.states))) e → Afterwards On (ended m e)
    by m h (Ends a w) same = on-same m.world.states w.states m.showing.shown same h
    by m h (Fails kind s w) same = tt

  -- changes of the world
  pub world_brings : (f : World → World) → ((w : World) → Same w.states (f w).states) → Brings On On (in_world f)
  world_brings f k = record { held = λ m h. on-same m.world.states (f m.world).states m.showing.shown (k m.world) h }
