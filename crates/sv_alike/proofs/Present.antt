-- On the views of the present states, evaluations give the fresh page.
use Rattle.std.proofs.Common.{◌≡◌, ℕ, zero, suc, [], ◌∷◌, Option, Some, None, option_map, refl, ap}
use Rattle.sv_alike.specs.Alike.{ViewBefore}
use Rattle.sv_alike.specs.Drawing.{PresentViewsStand, InstancesOnPresentViews, FreshOnPresentViews}
use Rattle.sv_alike.specs.Views.{present_views, evaluated, page_in, evaluated_page}
use Rattle.sv_code.specs.declared.program.Program.{Program}
use Rattle.sv_fresh.specs.Fresh.{Descent, slotted, viewed, walker, instance_nodes, page_nodes, fresh}
use Rattle.sv_fresh.specs.Scene.{markup_at, parts_at}
use Rattle.sv_fresh.specs.declared.source.Source.TheVariants.{Evaluated}
use Rattle.sv_instance.specs.declared.instance.Instance.{Instance}
use Rattle.sv_shapes.specs.Showing.{Showing}
use Rattle.sv_states.specs.declared.states.TheConstants.{DEPTH_LIMIT}
use Rattle.sv_states.specs.States.{live}
use Rattle.sv_view.specs.Level.{View}
use Rattle.sv_world.specs.World.{view_before}
use Rattle.sv_world.specs.declared.world.World.{World}
use mathlib.Core.Path.{fun_ext}

-- the view of a live instance before an owner's
before : (w : World) (n : ℕ) (x : Instance) (owner : Option View) → live w.states n ≡ Some x → ViewBefore (present_views w) owner n
before w n x owner is = record { view = view_before owner w.modules n x; is = ap (option_map (view_before owner w.modules n)) is; inst = refl; locals = refl; owners = refl }

pub views_stand : PresentViewsStand
unfolding before
views_stand w n x is = record { there = λ owner. before w n x owner is; own = λ owner owner'. refl; modules = λ owner owner'. refl }

module _ (p : Program) (w : World) (showing : Showing) where
  instances : (room i : ℕ) → instance_nodes (page_in Evaluated p w showing i) room ≡ evaluated (page_in Evaluated p w showing i) (present_views w) room
  unfolding instance_nodes evaluated
  instances zero i = fun_ext (λ tags. fun_ext (λ owner. fun_ext (λ n. refl)))
  instances (suc room) i = fun_ext (λ tags. fun_ext (λ owner. fun_ext (λ n.
      ap (λ (descend : Descent).
      viewed (present_views w owner n)
      (λ v. walker (page_in Evaluated p w showing n) descend tags (slotted (page_in Evaluated p w showing n) descend tags) (markup_at (page_in Evaluated p w showing i) n) v (parts_at (page_in Evaluated p w showing i) n)))
      (instances room n))))

  of_room : (room : ℕ) → instance_nodes (page_in Evaluated p w showing 1) room (None ∷ []) None 1 ≡ evaluated (page_in Evaluated p w showing 1) (present_views w) room (None ∷ []) None 1
  of_room room = ap (λ (descend : Descent). descend (None ∷ []) None 1) (instances room 1)

pub instances_present : InstancesOnPresentViews
instances_present p w showing room i tags owner n = ap (λ (descend : Descent). descend tags owner n) (instances p w showing room i)

pub on_present : FreshOnPresentViews
unfolding fresh page_nodes evaluated_page
on_present p w showing = of_room p w showing DEPTH_LIMIT
