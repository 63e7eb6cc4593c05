-- What is shown of an instance: the patch of its markup, and what follows.
use Rattle.std.specs.Prelude.{ℕ, List, [], ◌∷◌, map, Option, Some, None, option_map, Result, Ok, Err}
use Rattle.sv_code.specs.declared.program.Program.{Program}
use Rattle.sv_flush.specs.Outcome.{Outcome, Done, Halted, Step, Task, and_then}
use Rattle.sv_flush.specs.declared.page.Page.{Page}
use Rattle.sv_instance.specs.declared.instance.Instance.{Instance}
use Rattle.sv_meaning.specs.Components.{component_of, markup_of}
use Rattle.sv_parts.specs.declared.refusal.Refusal.{Refusal}
use Rattle.sv_parts.specs.declared.state.Effect.{Effect}
use Rattle.sv_parts.specs.declared.state.Kept.{Kept}
use Rattle.sv_plan.specs.Patch.{After, patched}
use Rattle.sv_shapes.specs.Showing.{Showing, child_at}
use Rattle.sv_states.specs.States.{live}
use Rattle.sv_view.specs.Level.{View}
use Rattle.sv_view.specs.View.{insts}
use Rattle.sv_world.specs.Setup.{set_up}
use Rattle.sv_world.specs.World.{presented}
use Rattle.sv_world.specs.declared.world.World.{World}

abbrev pub own_tag : Option Instance → Option ℕ
own_tag None = None
own_tag (Some i) = option_map (λ s. s.tag) i.place.standing

-- for each level of a view, its own first, the number of the tag with which that instance stands in its owner's markup
abbrev pub tags_of : World → View → List (Option ℕ)
tags_of w v = map (λ n. own_tag (live w.states n)) (insts v)

-- ---- tags that stay

abbrev pub tag_shown : Option ℕ → Kept → World → World
tag_shown None k w = w
tag_shown (Some n) k w = set_up (λ s. record s { locals = k.locals }) w n

-- the child at the place of a tag has its present row locals and slot props
abbrev pub tag_kept : Showing → Kept → World → World
tag_kept s k w = tag_shown (child_at s k.place) k w

abbrev pub tags_kept : Showing → List Kept → World → World
tags_kept s [] w = w
tags_kept s (k ∷ kept) w = tags_kept s kept (tag_kept s k w)

-- ---- patches

-- the page once a patch has been recorded
abbrev pub recorded : After → Page → Page
recorded a m = record m { world = tags_kept a.showing a.kept m.world; showing = a.showing; counters = a.counters; tally = a.tally }

abbrev pub followed : Page → Result After Refusal → Outcome (List Effect)
followed m (Ok a) = Done a.effects (recorded a m)
followed m (Err r) = Halted r m

abbrev pub patched_on : Program → ℕ → Option View → Step (List Effect)
patched_on p n None m = Done [] m
patched_on p n (Some v) m = followed m (patched p (tags_of m.world v) n (markup_of (component_of p m.world n)) v m.showing m.counters m.tally)

-- the patch of an instance to the view of its present cells; it gives the effects
unfoldable pub patched_now : Program → ℕ → Step (List Effect)
patched_now p n m = patched_on p n (presented m.world.states m.world.modules n) m

-- an instance is patched, and the effects run
abbrev pub shown : Program → (List Effect → Task) → ℕ → Task
shown p run n m = and_then (patched_now p n m) run
