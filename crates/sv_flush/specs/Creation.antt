-- Instances that are made, and the effects of patches on child components.
use Rattle.std.specs.Prelude.{ℕ, zero, suc, nat_le, nat_eq, Bool, true, List, [], ◌∷◌, ◌++◌, length, map, Option, Some, None, slice_get, if◌then◌else◌}
use Rattle.std.specs.List.{filter_map}
use Rattle.sv_base.specs.declared.names.Name.{Name}
use Rattle.sv_base.specs.declared.span.Span.{Span}
use Rattle.sv_code.specs.declared.fragments.FragAttr.{FragAttr}
use Rattle.sv_code.specs.declared.fragments.FragAttr.TheVariants as attr
use Rattle.sv_code.specs.declared.known.Known.{Known}
use Rattle.sv_code.specs.declared.known.Known.TheVariants as known
use Rattle.sv_code.specs.declared.program.Component.{Component}
use Rattle.sv_code.specs.declared.program.Program.{Program}
use Rattle.sv_code.specs.declared.program.Prop.{Prop}
use Rattle.sv_code.specs.declared.tags.Tag.{Tag}
use Rattle.sv_flush.specs.Callbacks.{callbacks_of, all_called_back}
use Rattle.sv_flush.specs.Destruction.{taken, child_task, destroyed}
use Rattle.sv_flush.specs.Outcome.{Done, Halted, Step, Task, and_then, in_turn, each, changed, in_world, nothing_done, scripted, work}
use Rattle.sv_flush.specs.Rounds.{Binding, Waiting, mounting, after_update}
use Rattle.sv_flush.specs.Setting.{set, lent_if}
use Rattle.sv_flush.specs.Showing.{shown}
use Rattle.sv_flush.specs.declared.page.Page.{Page}
use Rattle.sv_instance.specs.Instance.{born}
use Rattle.sv_instance.specs.Standing.{Standing}
use Rattle.sv_instance.specs.declared.callbacks.When.TheVariants.{Before, Mount, After}
use Rattle.sv_meaning.specs.Components.{component_at, variable_of}
use Rattle.sv_meaning.specs.Runs.{run_modules, run_top, run_reactive}
use Rattle.sv_ops.specs.declared.faults.FaultKind.TheVariants.{TreeDepth}
use Rattle.sv_parts.specs.declared.refusal.Refusal.TheVariants.{Fault}
use Rattle.sv_parts.specs.declared.state.Effect.{Effect}
use Rattle.sv_parts.specs.declared.state.Effect.TheVariants as effect
use Rattle.sv_parts.specs.declared.state.Given.{Given}
use Rattle.sv_shapes.specs.Showing.{child_at, with_child}
use Rattle.sv_states.specs.Change.{added, depth_above, place_below}
use Rattle.sv_states.specs.Waiting.{snapped}
use Rattle.sv_states.specs.declared.states.TheConstants.{DEPTH_LIMIT}
use Rattle.sv_value.specs.Value.{Val}
use Rattle.sv_view.specs.Level.{View}
use Rattle.sv_world.specs.Setup.{set_up}
use Rattle.sv_world.specs.declared.world.World.{World}

-- ---- what creation and update share

-- what an instance shows next is what its cells are now; no longer does it wait
abbrev pub snapshot : ℕ → World → World
snapshot n w = record w { states = snapped w.states n }

-- its reactive statements run, all or those that are due, then its beforeUpdate callbacks; then comes the snapshot
abbrev pub readied : Program → ℕ → Bool → Task
readied p n all = in_turn (scripted (run_reactive p n all) ∷ scripted (all_called_back p n Before) ∷ in_world (snapshot n) ∷ [])

abbrev pub after_entries : ℕ → ℕ → ℕ → List Waiting
after_entries n at zero = []
after_entries n at (suc left) = after_update n at ∷ after_entries n (suc at) left

abbrev pub with_entries : List Waiting → Page → Page
with_entries entries m = record m { rounds = record m.rounds { render = m.rounds.render ++ entries } }

-- its afterUpdate callbacks go to the render queue
abbrev pub after_waits : ℕ → Page → Page
after_waits n m = with_entries (after_entries n 0 (length (callbacks_of m.world n After))) m

-- ---- a new instance

abbrev pub next : World → ℕ
next w = length w.states.lives

-- as many cells as there are numbers for
abbrev pub cell_count : Component → ℕ
cell_count c = if nat_le (length c.cells) 255 then length c.cells else 255

-- where an instance is to stand: the file of its component, its parent, its tag, and the place that is told where it would be too deep
pub record Site : Type 0 where
  pub file : ℕ
  pub parent : Option ℕ
  pub standing : Option Standing
  pub span : Span

abbrev pub born_at : Site → Component → World → World
born_at site c w = record w { states = added w.states (born (place_below w.states site.file site.parent site.standing) (cell_count c) c.constants) }

abbrev pub too_deep : {A : Type 0} → Span → Step A
too_deep span m = Halted (Fault (record { kind = TreeDepth; span = span })) m

abbrev pub is_too_deep : Site → World → Bool
is_too_deep site w = nat_le DEPTH_LIMIT (depth_above w.states site.parent)

abbrev pub born_here : Site → Component → Step (Option ℕ)
born_here site c m = if is_too_deep site m.world then too_deep site.span m else Done (Some (next m.world)) (record m { world = born_at site c m.world })

abbrev pub made_of : Site → Option Component → Step (Option ℕ)
made_of site None m = Done None m
made_of site (Some c) m = and_then (work m) (λ _. born_here site c)

-- a unit of work is taken, and an instance is made, unless it would be too deep; a file without a component makes none
abbrev pub made : Program → Site → Step (Option ℕ)
made p site m = made_of site (component_at p site.file) m

abbrev pub mount_entries : ℕ → List Val → List Waiting
mount_entries n [] = []
mount_entries n (v ∷ vs) = mounting n ∷ []

-- its mount callbacks go to the render queue as one entry
abbrev pub mount_waits : ℕ → Page → Page
mount_waits n m = with_entries (mount_entries n (callbacks_of m.world n Mount)) m

abbrev pub passed : List Given → List (ℕ × Val)
passed props = map (λ g. (g.cell, g.value)) props

-- its script runs with the props that it is given, and it gets its owner's view
abbrev pub opened : Program → ℕ → List Given → Option View → Task
opened p n props view = in_turn (scripted (run_top p n (passed props)) ∷ in_world (lent_if p n view) ∷ [])

-- it is opened, readied and shown, and then its callbacks wait
abbrev pub started : Program → (List Effect → Task) → ℕ → List Given → Option View → Task
started p run n props view =
    in_turn (opened p n props view ∷ readied p n true ∷ shown p run n ∷ changed (mount_waits n) ∷ changed (after_waits n) ∷ [])

-- ---- bindings of a tag

abbrev pub prop_cell : List Prop → Name → Option ℕ
prop_cell [] name = None
prop_cell (prop ∷ props) name = if nat_eq prop.name.0 name.0 then Some prop.cell else prop_cell props name

abbrev pub binding_from : (child owner : ℕ) → Span → Option ℕ → Option Known → Option Binding
binding_from child owner span (Some cell) (Some (known.Cell target)) = Some (record { child = child; bound = record { cell = cell; owner = owner; target = target }; span = span })
binding_from child owner span _ _ = None

-- the binding of a prop to a variable of the owner
abbrev pub binding_of : (child owner : ℕ) → List Prop → FragAttr → Option Binding
binding_of child owner props (attr.Bind span name target) = binding_from child owner span (prop_cell props name) (variable_of target.code)
binding_of child owner props _ = None

abbrev pub bindings_of : (child owner : ℕ) → Option Component → Tag → List Binding
bindings_of child owner None t = []
bindings_of child owner (Some c) t = filter_map (binding_of child owner c.props) t.attrs

-- the bindings of its tag go to the binding callbacks, in the order of the text
abbrev pub binds : Program → Tag → (child owner : ℕ) → Page → Page
binds p t child owner m = record m { rounds = record m.rounds { bindings = m.rounds.bindings ++ bindings_of child owner (component_at p t.file) t } }

-- ---- effects

-- a child stands at its place, with the row locals and slot props of its tag
abbrev pub placed : ℕ → View → ℕ → Page → Page
placed place view n m = record m { world = set_up (λ s. record s { locals = view.own.locals }) m.world n; showing = with_child m.showing place n }

-- from now on it is heard
abbrev pub attached : ℕ → World → World
attached n w = set_up (λ s. record s { attached = true }) w n

abbrev pub site_of : (parent k : ℕ) → View → Tag → Site
site_of parent k view t = record { file = t.file; parent = Some parent; standing = Some (record { tag = k; owner = view.own.inst }); span = t.span }

-- a new child is placed and started; then it is heard, and its bindings wait
abbrev pub grown : Program → (ℕ → List Effect → Task) → (place : ℕ) → List Given → View → Tag → ℕ → Task
grown p run place props view t n =
    in_turn (changed (placed place view n) ∷ started p (run n) n props (Some view) ∷ in_world (attached n) ∷ changed (binds p t n view.own.inst) ∷ [])

-- a child is made at a place of what its parent shows
abbrev pub created : Program → (ℕ → List Effect → Task) → (parent place k : ℕ) → List Given → View → Tag → Task
created p run parent place k props view t m = and_then (made p (site_of parent k view t) m) (child_task (grown p run place props view t))

abbrev pub tag_task : Option Tag → (Tag → Task) → Task
tag_task None task = nothing_done
tag_task (Some t) task = task t

-- the child at a place gets what moved
abbrev pub child_set : Program → List Given → Option View → ℕ → Task
child_set p props view n = in_turn (scripted (set n props) ∷ in_world (lent_if p n view) ∷ [])

-- an effect of the patch of an instance, by how a child of it is made
abbrev pub effect_by : Program → ((parent place k : ℕ) → List Given → View → Tag → Task) → ℕ → Effect → Task
effect_by p create parent (effect.Create place k props view) m = tag_task (slice_get p.tags k) (create parent place k props view) m
effect_by p create parent (effect.Set place props view) m = child_task (child_set p props view) (child_at m.showing place) m
effect_by p create parent (effect.Destroy place) m = taken (destroyed DEPTH_LIMIT p) place m

-- a child is made, where so many components may stand in one another
unfoldable pub created_in : ℕ → Program → (parent place k : ℕ) → List Given → View → Tag → Task
created_in zero p parent place k props view t = too_deep t.span
created_in (suc room) p parent place k props view t = created p (λ n. each (effect_by p (created_in room p) n)) parent place k props view t

-- the effects of the patch of an instance
abbrev pub effects : ℕ → Program → ℕ → List Effect → Task
effects room p n = each (effect_by p (created_in room p) n)

-- ---- the root

-- the root, which the first file is, has no parent and no tag
abbrev pub root_site : Site
root_site = record { file = 0; parent = None; standing = None; span = record { file = 0; from = 0; to = 0 } }

-- module files run, and then the root is made
unfoldable pub mounted : Program → Task
mounted p m =
    and_then (scripted (run_modules p) m) (λ _ u. and_then (made p root_site u) (child_task (λ n. started p (effects DEPTH_LIMIT p n) n [] None)))
