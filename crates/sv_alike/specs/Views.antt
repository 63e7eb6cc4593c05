-- The page of evaluations on views of which is said for each instance which one it has before its owner's.
use Rattle.std.specs.Prelude.{ℕ, zero, suc, List, [], ◌∷◌, Option, None}
use Rattle.sv_code.specs.declared.program.Program.{Program}
use Rattle.sv_document.specs.declared.tree.Node.{Node}
use Rattle.sv_fresh.specs.Fresh.{Descent, slotted, viewed, walker}
use Rattle.sv_fresh.specs.Scene.{Page, within, markup_at, parts_at}
use Rattle.sv_fresh.specs.declared.source.Source.{Source}
use Rattle.sv_fresh.specs.declared.source.Source.TheVariants.{Evaluated}
use Rattle.sv_shapes.specs.Showing.{Showing}
use Rattle.sv_states.specs.declared.states.TheConstants.{DEPTH_LIMIT}
use Rattle.sv_view.specs.Level.{View}
use Rattle.sv_world.specs.World.{presented_before}
use Rattle.sv_world.specs.declared.world.World.{World}

-- the view of an instance with a number, before its owner's
abbrev pub Views : Type 0
Views = Option View → ℕ → Option View

-- those of the present states
abbrev pub present_views : World → Views
present_views w owner n = presented_before owner w.states w.modules n

-- the nodes of an instance on such a view, where so many components may stand in one another
unfoldable pub evaluated : Page → Views → ℕ → Descent
evaluated page views zero tags owner n = []
evaluated page views (suc room) tags owner n =
    viewed (views owner n)
    (λ v. walker (within page n) (evaluated (within page n) views room) tags (slotted (within page n) (evaluated (within page n) views room) tags) (markup_at page n) v (parts_at page n))

-- a page, where is drawn in the shape of an instance with a number
abbrev pub page_in : Source → Program → World → Showing → ℕ → Page
page_in source p w showing n = record { source = source; program = p; world = w; showing = showing; inst = n }

-- the nodes of the page: the root has the number 1 and no owner
unfoldable pub evaluated_page : Program → World → Showing → Views → List Node
evaluated_page p w showing views = evaluated (page_in Evaluated p w showing 1) views DEPTH_LIMIT (None ∷ []) None 1
