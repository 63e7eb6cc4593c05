-- Behind the script of a new instance the cell for its owner's view is declared.
use Rattle.std.proofs.Common.{◌≡◌, ℕ, true, List, [], ◌∷◌, length, Option, Some, None, is_some, refl, sym, ap, subst, ◌∙◌, ⊎_elim, slice_set}
use Rattle.std.proofs.lemmas.Bool.{cases_lt, true≢false}
use Rattle.std.proofs.lemmas.List.{set-get_or, set_past}
use Rattle.std.proofs.lemmas.Option.{none-some, same_Some}
use Rattle.sv_code.proofs.Each.{each_mono}
use Rattle.sv_code.specs.Names.{Each}
use Rattle.sv_code.specs.declared.program.Component.{Component}
use Rattle.sv_code.specs.declared.program.Program.{Program}
use Rattle.sv_family.proofs.Creating.{Opens}
use Rattle.sv_family.proofs.Opening.{Has, HasIn, has_setups, has_stays, declared-has, lasting_steps, unseen_lasts}
use Rattle.sv_family.proofs.Pictures.{IsUnseen, IsOpened, component-same}
use Rattle.sv_family.proofs.Scripts.{Are, are_sets, are_stay, plain_kin}
use Rattle.sv_family.specs.Family.{component_for as component_in}
use Rattle.sv_family.specs.Kin.{kins}
use Rattle.sv_frame.proofs.Altering.{pictures_stay}
use Rattle.sv_frame.proofs.Outcomes.{at_ends, Left, Stays, Sets, both_stay, both_sets, ends_stay}
use Rattle.sv_frame.proofs.Running.{top_leaves}
use Rattle.sv_frame.proofs.Stepping.{Setups, Steps, sets_by, steps_stay}
use Rattle.sv_instance.specs.Cells as cells
use Rattle.sv_instance.specs.declared.instance.Instance.{Instance}
use Rattle.sv_meaning.specs.Components.{component_for, component_of}
use Rattle.sv_meaning.specs.Outcome.{Ending, Ends, Fails, then_do}
use Rattle.sv_meaning.specs.Runs.{each_in_turn, functions_set, name_subscribed, script, cell_opened, cells_opened, view_opened, run_component, run_top}
use Rattle.sv_numbered.specs.Numbered.{at, altered}
use Rattle.sv_states.proofs.Altering.{altered-none, altered-some}
use Rattle.sv_states.specs.Change.{declared}
use Rattle.sv_states.specs.States.{States, live}
use Rattle.sv_value.specs.Value.{Val, undefined}
use Rattle.sv_view.specs.Cell.{Cell}
use Rattle.sv_world.specs.declared.world.World.{World}

-- ---- what is declared isn't declared again

some_stays : (seen : Option (List (Option Cell))) (x : Cell) (v : Val) → cells.declared_cell seen (Some x) v ≡ Some x
some_stays None x v = refl
some_stays (Some seen) x v = refl

cells-idle : (i : Instance) (cell : ℕ) (v : Val) → Has cell i → slice_set i.cells.now cell (cells.declared_cell i.cells.seen (cells.cell_at i.cells.now cell) v) ≡ i.cells.now
cells-idle i cell v has = ⊎_elim
    (λ below. by (cells.cell_at i.cells.now cell) refl (has below))
    (λ past. set_past i.cells.now cell _ past)
    (cases_lt cell (length i.cells.now))
  where
    by : (o : Option Cell) → cells.cell_at i.cells.now cell ≡ o → is_some o ≡ true → slice_set i.cells.now cell (cells.declared_cell i.cells.seen (cells.cell_at i.cells.now cell) v) ≡ i.cells.now
    by None e h = absurd (true≢false (sym h))
    by (Some x) e h =
        ap (λ o. slice_set i.cells.now cell (cells.declared_cell i.cells.seen o v)) e
        ∙ (ap (λ o. slice_set i.cells.now cell o) (some_stays i.cells.seen x v ∙ sym e) ∙ set-get_or i.cells.now cell None)

declared-idle : (n cell : ℕ) (v : Val) (s : States) → HasIn n cell s → declared s (record { inst = n; cell = cell }) v ≡ s
declared-idle n cell v s has = ap (λ lives. record s { lives = lives }) (by (live s n) refl) where
  by : (o : Option Instance) → live s n ≡ o → altered (λ i. record i { cells = cells.declared i.cells cell v }) s.lives n ≡ s.lives
  by None e = altered-none (λ i. record i { cells = cells.declared i.cells cell v }) s.lives n e
  by (Some i) e =
      altered-some (λ i. record i { cells = cells.declared i.cells cell v }) s.lives n i e
      ∙ (ap (λ now. slice_set s.lives n (Some (record i { cells = record i.cells { now = now } }))) (cells-idle i cell v (has i e))
      ∙ (ap (λ o. slice_set s.lives n o) (sym e) ∙ set-get_or s.lives n None))

module _ (n : ℕ) where
  -- ---- cells that are opened

  cells_stay : {P : States → Type 0} → Steps P → (list : List ℕ) (w : World) → P w.states → P (cells_opened n list w).states
  cells_stay steps [] w h = h
  cells_stay steps (c ∷ list) w h = cells_stay steps list (cell_opened n w c) (steps.declared w.states (record { inst = n; cell = c }) undefined h)

  view_stays : {P : States → Type 0} → Steps P → (o : Option ℕ) (w : World) → P w.states → P (view_opened n o w).states
  view_stays steps None w h = h
  view_stays steps (Some c) w h = steps.declared w.states (record { inst = n; cell = c }) undefined h

  cells_idle : (list : List ℕ) (w : World) → Each (λ c. HasIn n c w.states) list → cells_opened n list w ≡ w
  cells_idle [] w h = refl
  cells_idle (c ∷ list) w h = ap (λ s. cells_opened n list (record w { states = s })) (declared-idle n c undefined w.states h.0) ∙ cells_idle list w h.1

  unseen_stays : Steps (IsUnseen n)
  unseen_stays = lasting_steps (λ i. i.cells.seen ≡ None) unseen_lasts n

  cells_have : (list : List ℕ) (w : World) → IsUnseen n w.states → Each (λ c. HasIn n c (cells_opened n list w).states) list
  cells_have [] w h = tt
  cells_have (c ∷ list) w h = (
    cells_stay (has_stays n c) list (cell_opened n w c) (declared-has n c undefined w.states h),
    cells_have list (cell_opened n w c) (unseen_stays.declared w.states (record { inst = n; cell = c }) undefined h),
  )

  -- the cell for the view is declared, if there is one
  abbrev ViewHas : Option ℕ → States → Type 0
  ViewHas None s = Unit {0}
  ViewHas (Some cell) s = HasIn n cell s

  view_steps : (o : Option ℕ) → Steps (ViewHas o)
  view_steps None = record {
    left = λ s f m e h. h;
    assigned = λ s m c v h. h;
    store_set = λ s id v h. h;
    computed = λ s id v h. h;
    with_store = λ s v h. h;
    with_derived = λ s owner r v h. h;
    declared = λ s p v h. h;
    subscribed = λ s p source v h. h;
  }
  view_steps (Some cell) = has_stays n cell

  view_setups : (o : Option ℕ) → Setups (ViewHas o)
  view_setups None s f m h = h
  view_setups (Some cell) s f m h = has_setups n cell s f m h

  view_has : (o : Option ℕ) (w : World) → IsUnseen n w.states → ViewHas o (view_opened n o w).states
  view_has None w h = tt
  view_has (Some c) w h = declared-has n c undefined w.states h

  view_idle : (o : Option ℕ) (w : World) → ViewHas o w.states → view_opened n o w ≡ w
  view_idle None w h = refl
  view_idle (Some c) w h = ap (λ s. record w { states = s }) (declared-idle n c undefined w.states h)

-- ---- the script of a new instance

module _ (p : Program) (n : ℕ) (props : List (ℕ × Val)) (w : World) (unseen : IsUnseen n w.states) where
  module _ (c : Component) (is : component_of p w n ≡ Some c) where
    -- where all is declared that is there before the script
    abbrev ready : World
    ready = view_opened n c.view (cells_opened n c.reactive w)

    have_all : Each (λ cell. HasIn n cell ready.states) c.reactive
    have_all = each_mono (λ cell. HasIn n cell (cells_opened n c.reactive w).states) (λ cell. HasIn n cell ready.states) (λ cell h. view_stays n (has_stays n cell) c.view (cells_opened n c.reactive w) h) c.reactive
        (cells_have n c.reactive w unseen)

    has_view : ViewHas n c.view ready.states
    has_view = view_has n c.view (cells_opened n c.reactive w) (cells_stay n (unseen_stays n) c.reactive w unseen)

    same_kins : kins ready.states ≡ kins w.states
    same_kins = view_stays n (pictures_stay plain_kin (kins w.states)) c.view (cells_opened n c.reactive w) (cells_stay n (pictures_stay plain_kin (kins w.states)) c.reactive w refl)

    -- there it is opened already
    idle : view_opened n c.view (cells_opened n c.reactive ready) ≡ ready
    idle = ap (view_opened n c.view) (cells_idle n c.reactive ready have_all) ∙ view_idle n c.view ready has_view

    same_component : (s : States) → kins s ≡ kins w.states → component_for p (live s n) ≡ Some c
    same_component s same = component-same p s n ∙ (ap (λ ks. component_in p (at ks n)) same ∙ (sym (component-same p w.states n) ∙ is))

    -- what the script leaves
    abbrev Leaving : States → Type 0
    Leaving s = Are (kins w.states) s × ViewHas n c.view s

    leaving_stays : Stays p (at_ends Leaving)
    leaving_stays = both_stay (are_stay p (kins w.states)) (ends_stay (steps_stay (view_steps n c.view) p))

    leaving_sets : Sets n (λ ms. Leaving)
    leaving_sets = both_sets (are_sets (kins w.states) n) (sets_by (view_setups n c.view) (view_steps n c.view) n)

    run_ready : component_of p ready n ≡ Some c → run_top p n props ready ≡ run_component p c n props ready
    run_ready e = rw e refl

    again : Left (at_ends Leaving) (run_component p c n props ready)
    again = subst (λ e. Left (at_ends Leaving) e) (run_ready (same_component ready.states same_kins)) ((top_leaves leaving_stays n leaving_sets props).held ready (same_kins, has_view))

    leaves : Left (at_ends Leaving) (run_component p c n props w)
    leaves = subst (λ x. Left (at_ends Leaving) (then_do (each_in_turn (name_subscribed n) c.stores (functions_set n c.script x)) (λ u. script p n props c.script))) idle again

    is_opened : (s : States) → Leaving s → IsOpened p n s
    is_opened s h i c' cell there comp view below =
        let same : c ≡ c' = same_Some c c' (sym (same_component s h.0) ∙ (ap (component_for p) there ∙ comp)) in
        (subst (λ o. ViewHas n o s) (ap (λ (k : Component). k.view) same ∙ view) h.1) i there below

    opened_left : (e : Ending (Unit {0})) → Left (at_ends Leaving) e → Left (at_ends (IsOpened p n)) e
    opened_left (Ends a w') h = is_opened w'.states h
    opened_left (Fails k s w') h = tt

  opens_by : (o : Option Component) → component_of p w n ≡ o → Left (at_ends (IsOpened p n)) (run_top p n props w)
  opens_by None e = rw e (λ i c cell there comp view below. absurd (none-some c (sym e ∙ (ap (component_for p) there ∙ comp))))
  opens_by (Some c) e = rw e (opened_left c e (run_component p c n props w) (leaves c e))

pub opens : (p : Program) → Opens p
opens p n props w unseen = opens_by p n props w unseen (component_of p w n) refl
