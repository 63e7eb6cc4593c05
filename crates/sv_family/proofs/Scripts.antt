-- What scripts and changes of one instance leave of the pictures of the live instances.
use Rattle.std.proofs.Common.{◌≡◌, ℕ, List, [], ◌∷◌, Option, Some, None, refl, sym, ap, subst, ◌∙◌}
use Rattle.std.specs.Prelude.{slice_set}
use Rattle.std.proofs.lemmas.List.{length-set}
use Rattle.sv_code.specs.declared.program.Program.{Program}
use Rattle.sv_family.specs.Kin.{Kins, kin_of, kins}
use Rattle.sv_flush.proofs.Bringing.{Afterwards, Brings}
use Rattle.sv_flush.specs.Creation.{snapshot}
use Rattle.sv_flush.specs.Flush.{bound}
use Rattle.sv_flush.specs.Outcome.{in_world, ended, scripted}
use Rattle.sv_flush.specs.Rounds.{Binding}
use Rattle.sv_flush.specs.Setting.{stays, prop_of, handed, prop_set, set}
use Rattle.sv_flush.specs.Showing.{tag_shown, tag_kept, tags_kept}
use Rattle.sv_flush.specs.declared.page.Page.{Page}
use Rattle.sv_frame.proofs.Altering.{Plain, pictures_setup, pictures_stay, pictures-altered, pictures-bound, pictures-handed}
use Rattle.sv_frame.proofs.Outcomes.{at_ends, Stays, Sets, Leaves, Left, ends_stay, if_left, unless_left}
use Rattle.sv_frame.proofs.Running.{in_turn_leaves, settle_leaves}
use Rattle.sv_frame.proofs.Stepping.{sets_by, steps_stay}
use Rattle.sv_instance.specs.declared.instance.Instance.{Instance}
use Rattle.sv_instance.specs.declared.setup.Setup.{Setup}
use Rattle.sv_meaning.specs.Outcome.{Ending, Ends, Fails, Deed, then_do}
use Rattle.sv_meaning.specs.Refused.{unless as refused}
use Rattle.sv_meaning.specs.Runs.{settle}
use Rattle.sv_parts.specs.declared.state.Given.{Given}
use Rattle.sv_parts.specs.declared.state.Kept.{Kept}
use Rattle.sv_shapes.specs.Showing.{Showing, child_at}
use Rattle.sv_states.specs.Assignment.{bound_up}
use Rattle.sv_states.specs.Refusal.{hand_refusal, bind_refusal}
use Rattle.sv_states.specs.States.{States, with_instance}
use Rattle.sv_states.specs.Waiting as waiting
use Rattle.sv_states.specs.declared.error.AssignError.{AssignError}
use Rattle.sv_states.specs.declared.error.AssignError.TheVariants.{ReadOnly, NotAStore, NoMemory}
use Rattle.sv_view.specs.Cell.{Cell}
use Rattle.sv_world.specs.declared.world.World.{World}

-- as many cells
sized : (i : Instance) (c : ℕ) (x : Option Cell) → kin_of (record i { cells = record i.cells { now = slice_set i.cells.now c x } }) ≡ kin_of i
sized i c x = ap (λ n. record { place = i.place; cells = n; lent = i.owner_view }) (length-set i.cells.now c x)

pub plain_kin : Plain kin_of
plain_kin = record { setup = λ i u e. refl; waits = λ i. refl; subscribed = λ i x. refl; written = sized }

-- the pictures are these
abbrev pub Are : Kins → States → Type 0
Are old s = kins s ≡ old

-- whatever scripts do
pub are_stay : (p : Program) (old : Kins) → Stays p (at_ends (Are old))
are_stay p old = ends_stay (steps_stay (pictures_stay plain_kin old) p)

pub are_sets : (old : Kins) (n : ℕ) → Sets n (λ ms. Are old)
are_sets old n = sets_by (pictures_setup (λ i u. refl) old) (pictures_stay plain_kin old) n

-- a deed leaves them
abbrev pub Rests : Deed (Unit {0}) → Type 0
Rests deed = (old : Kins) → Leaves (at_ends (Are old)) deed

-- ---- props and bindings

abbrev now_bound : Binding → Deed (Unit {0})
now_bound b w = Ends tt (record w { states = bound_up w.states b.child b.bound })

module _ (p : Program) (old : Kins) where
  handed_leaves : (n : ℕ) (g : Given) → Leaves (at_ends (Are old)) (handed n g)
  handed_leaves n g = record { held = λ w h. unless_left (at_ends (Are old)) (hand_refusal w.states (prop_of n g) g.value) g.span _ w h (pictures-handed plain_kin w.states (prop_of n g) g.value ∙ h) }

  prop_leaves : (n : ℕ) (g : Given) → Leaves (at_ends (Are old)) (prop_set n g)
  prop_leaves n g = record { held = λ w h. if_left (at_ends (Are old)) (stays w n g) (Ends tt w) (handed n g w) h ((handed_leaves n g).held w h) }

  pub set_leaves : (n : ℕ) (props : List Given) → Leaves (at_ends (Are old)) (set n props)
  set_leaves n props = in_turn_leaves (are_stay p old) (prop_set n) props (prop_leaves n)

  pub bound_leaves : (b : Binding) → Leaves (at_ends (Are old)) (bound p b)
  bound_leaves b = record {
    held = λ w h. by w (bind_refusal w.states b.child b.bound) h
        ((settle_leaves (are_stay p old)).held (record w { states = bound_up w.states b.child b.bound }) (pictures-bound plain_kin w.states b.child b.bound ∙ h));
  } where
    by : (w : World) (o : Option AssignError) → Are old w.states → Left (at_ends (Are old)) (settle p (record w { states = bound_up w.states b.child b.bound }))
        → Left (at_ends (Are old)) (then_do (refused o b.span (now_bound b) w) (λ u. settle p))
    by w None h k = k
    by w (Some ReadOnly) h k = tt
    by w (Some NotAStore) h k = tt
    by w (Some NoMemory) h k = k

-- ---- changes of one instance

pub kins-setup : (s : States) (f : Setup → Setup) (n : ℕ) → kins (with_instance (λ i. record i { setup = f i.setup }) s n) ≡ kins s
kins-setup s f n = pictures-altered kin_of (λ i. record i { setup = f i.setup }) s.lives n (λ i. refl)

pub kins-snapshot : (n : ℕ) (w : World) → kins (snapshot n w).states ≡ kins w.states
kins-snapshot n w = pictures-altered kin_of waiting.shown w.states.lives n (λ i. refl)

kins-tag : (k : Kept) (o : Option ℕ) (w : World) → kins (tag_shown o k w).states ≡ kins w.states
kins-tag k None w = refl
kins-tag k (Some n) w = kins-setup w.states (λ u. record u { locals = k.locals }) n

-- what the tags that stay are given
pub kins-tags : (s : Showing) (kept : List Kept) (w : World) → kins (tags_kept s kept w).states ≡ kins w.states
kins-tags s [] w = refl
kins-tags s (k ∷ kept) w = kins-tags s kept (tag_kept s k w) ∙ kins-tag k (child_at s k.place) w

-- ---- tasks that keep a fact of the pictures, of what is shown and of the next number

abbrev pub About : Type 1
About = Kins → Showing → ℕ → Type 0

-- so it is on a page
abbrev pub At : About → Page → Type 0
At F m = F (kins m.world.states) m.showing m.counters.next

module _ (F : About) where
  pub same_at : (m : Page) (w : World) → kins w.states ≡ kins m.world.states → At F m → At F (record m { world = w })
  same_at m w same h = subst (λ ks. F ks m.showing m.counters.next) (sym same) h

  -- scripts
  pub scripted_brings : {deed : Deed (Unit {0})} → Rests deed → Brings (At F) (At F) (scripted deed)
  scripted_brings {deed = deed} k = record { held = λ m h. by m h (deed m.world) ((k (kins m.world.states)).held m.world refl) } where
    by : (m : Page) → At F m → (e : Ending (Unit {0})) → Left (at_ends (Are (kins m.world.states))) e → Afterwards (At F) (ended m e)
    by m h (Ends a w) same = same_at m w same h
    by m h (Fails kind s w) same = tt

  -- changes of the world
  pub world_brings : (f : World → World) → ((w : World) → kins (f w).states ≡ kins w.states) → Brings (At F) (At F) (in_world f)
  world_brings f k = record { held = λ m h. same_at m (f m.world) (k m.world) h }
