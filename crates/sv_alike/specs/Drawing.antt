-- What is drawn of what all instances hold is what evaluations give.
use Rattle.std.specs.Prelude.{◌≡◌, ℕ, Option, Some}
use Rattle.sv_alike.specs.Alike.{TagsOf, HasViews, AgreesBefore, AreEachAlike, AreShownAlike}
use Rattle.sv_alike.specs.Views.{Views, present_views, evaluated, page_in, evaluated_page}
use Rattle.sv_code.specs.Content.{AreContentsSeen}
use Rattle.sv_code.specs.Within.{ArePartsWithin}
use Rattle.sv_code.specs.declared.program.Program.{Program}
use Rattle.sv_fresh.specs.Fresh.{instance_nodes, fresh, drawn}
use Rattle.sv_fresh.specs.Scene.{Tags}
use Rattle.sv_fresh.specs.declared.source.Source.TheVariants.{Evaluated, Recorded}
use Rattle.sv_instance.specs.declared.instance.Instance.{Instance}
use Rattle.sv_right.specs.Drawing.{AreLevelsNamed}
use Rattle.sv_shapes.specs.Showing.{Showing}
use Rattle.sv_states.specs.States.{live}
use Rattle.sv_view.specs.Level.{View}
use Rattle.sv_view.specs.View.{levels_of}
use Rattle.sv_world.specs.declared.world.World.{World}

-- where instances are shown on views that agree with some others, each is drawn of what is recorded as evaluations give it on those
abbrev pub InstancesAsEvaluated : Type 0
InstancesAsEvaluated = (p : Program) (w : World) (tags_of : TagsOf) (showing : Showing) (views : Views) → ArePartsWithin p → AreContentsSeen p →
    AreEachAlike p w tags_of showing views → (room i : ℕ) (tags : Tags) (owner kept : Option View) (n : ℕ) → AreLevelsNamed (levels_of owner) (levels_of kept) →
    AgreesBefore p w tags_of showing views owner tags n →
    evaluated (page_in Evaluated p w showing i) views room tags owner n ≡ instance_nodes (page_in Recorded p w showing i) room tags kept n

-- so the page that is recorded is the one that evaluations give
abbrev pub PageAsEvaluated : Type 0
PageAsEvaluated = (p : Program) (w : World) (tags_of : TagsOf) (showing : Showing) (views : Views) → ArePartsWithin p → AreContentsSeen p →
    AreShownAlike p w tags_of showing views → drawn p w showing ≡ evaluated_page p w showing views

-- ---- present states

-- a live instance has a view of its present cells before each owner's
abbrev pub PresentViewsStand : Type 0
PresentViewsStand = (w : World) (n : ℕ) (x : Instance) → live w.states n ≡ Some x → HasViews (present_views w) n

-- an instance of the page of the present states is drawn as evaluations give it on those views
abbrev pub InstancesOnPresentViews : Type 0
InstancesOnPresentViews = (p : Program) (w : World) (showing : Showing) (room i : ℕ) (tags : Tags) (owner : Option View) (n : ℕ) →
    instance_nodes (page_in Evaluated p w showing i) room tags owner n ≡ evaluated (page_in Evaluated p w showing i) (present_views w) room tags owner n

-- so is the page
abbrev pub FreshOnPresentViews : Type 0
FreshOnPresentViews = (p : Program) (w : World) (showing : Showing) → fresh p w showing ≡ evaluated_page p w showing (present_views w)
