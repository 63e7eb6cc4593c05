-- What is held of each instance is right on its present view.
use Rattle.std.proofs.Common.{◌≡◌, ℕ, true, [], Some, None, sym, ap, subst, ◌∙◌}
use Rattle.std.proofs.lemmas.Option.{same_Some}
use Rattle.sv_agree.proofs.Levels.{agreeing}
use Rattle.sv_agree.specs.Agreeing.{AgreesAbove, slot_within}
use Rattle.sv_agree.specs.Scopes.{StaysIn, everything}
use Rattle.sv_code.proofs.Each.{each_of}
use Rattle.sv_code.specs.Compiled.{IsCompiled}
use Rattle.sv_code.specs.Content as content
use Rattle.sv_code.specs.Names.{Each}
use Rattle.sv_code.specs.Parts.{of_frags}
use Rattle.sv_code.specs.Within.{IsWithin}
use Rattle.sv_code.specs.declared.program.Program.{Program}
use Rattle.sv_course.specs.Watched.{AreWatched, view_in}
use Rattle.sv_family.proofs.Owning.{slots_are_owned}
use Rattle.sv_family.proofs.Pictures.{kin_at, tags-same, markup-same}
use Rattle.sv_family.specs.Family.{markup_in}
use Rattle.sv_family.specs.Kin.{Kins, kin_of, kins, tags_in, tags_now}
use Rattle.sv_first.proofs.Pages.{slot_lends}
use Rattle.sv_first.proofs.Slots.{found, itself}
use Rattle.sv_flush.specs.Records.{ShowsPresent}
use Rattle.sv_flush.specs.Showing.{tags_of}
use Rattle.sv_flush.specs.declared.page.Page.{Page}
use Rattle.sv_instance.specs.declared.instance.Instance.{Instance}
use Rattle.sv_meaning.specs.Components.{component_at, component_of, markup_of}
use Rattle.sv_numbered.specs.Numbered.{at}
use Rattle.sv_right.specs.Right.{AreRight}
use Rattle.sv_seen.proofs.Markup.{markup_fits}
use Rattle.sv_seen.proofs.Spots.{spots, component-is}
use Rattle.sv_shapes.specs.Showing.{shown_of}
use Rattle.sv_shapes.specs.declared.shown.Shown.{Shown}
use Rattle.sv_shown.proofs.Ending.{IsPresently, cell_of, presently, same_view}
use Rattle.sv_shown.specs.Fresh.{IsTrue, AreRightNow}
use Rattle.sv_states.specs.States.{live}
use Rattle.sv_view.specs.Level.{View}
use Rattle.sv_view.specs.View.{levels_of, owner_of, view_from}
use Rattle.sv_within.specs.Keys.{AreAllKeysSeen}
use Rattle.sv_world.specs.World.{present_view}

module _ (p : Program) (m : Page) (compiled : IsCompiled p) (keys : AreAllKeysSeen p) (h : IsTrue p m) (shows : ShowsPresent m) (watched : AreWatched p m.world.modules (shown_of m.showing) m.world.states)
    (n : ℕ) (x : Shown) (is : shown_of m.showing n ≡ Some x) (i : Instance) (there : live m.world.states n ≡ Some i) where
  abbrev ks : Kins
  ks = kins m.world.states

  abbrev now : View
  now = present_view m.world.modules n i

  abbrev its : IsPresently p m compiled keys h shows watched n x
  its = presently p m compiled keys h shows watched n x is

  same_instance : its.instance ≡ i
  same_instance = same_Some its.instance i (sym its.there ∙ there)

  -- the tags of its view are those of the present one
  same_tags : tags_in ks x.view ≡ tags_in ks now
  same_tags =
      let s = h.family.0.shown n x is in
      s.tags ∙ ap (tags_now ks n) (same_Some s.kin (kin_of i) (sym s.live ∙ kin_at m.world.states n (Some i) there))

  same_own : x.view.own ≡ now.own
  same_own = its.own ∙ ap (λ (j : Instance). (present_view m.world.modules n j).own) same_instance

  -- where a slot stands the owners are those that it was shown on
  owners_agree : slot_within p 0 (markup_in p ks n) ≡ true → AgreesAbove p 0 (tags_in ks x.view) (tags_in ks x.view) (owner_of x.view) (owner_of now)
  owners_agree slot =
      let takes = slot_lends p (slots_are_owned p compiled.contents compiled) ks h.family.0.cells n (kin_of i) 0 (kin_at m.world.states n (Some i) there) slot in
      let c = cell_of (component_at p i.place.component) (kin_of i).cells takes in
      let same : x.view.owners ≡ now.owners =
      its.owners c.cell (ap (λ (j : Instance). view_in (component_at p j.place.component)) same_instance ∙ c.is) ∙ ap (λ (j : Instance). levels_of j.owner_view) same_instance in
      subst (λ ms. AgreesAbove p 0 (tags_in ks x.view) (tags_in ks x.view) (owner_of x.view) (view_from now.owners ms)) its.modules
      (subst (λ ls. AgreesAbove p 0 (tags_in ks x.view) (tags_in ks x.view) (owner_of x.view) (view_from ls x.view.modules)) same
      (itself p 0 x.view.modules (tags_in ks x.view) x.view.owners (markup_in p ks n) (found p 0 (markup_in p ks n) slot) (h.family.0.shown n x is).owners))

  within : Each (IsWithin p) (of_frags (markup_in p ks n))
  within = subst (λ frags. Each (IsWithin p) (of_frags frags)) (markup-same p m.world n)
      (subst (λ c. Each (IsWithin p) (of_frags (markup_of c))) (component-is p m.world n) (markup_fits p compiled.within keys (at (spots m.world.states) n)).within)

  right : AreRight p (tags_in ks x.view) (markup_in p ks n) now x.parts
  right =
      agreeing p 0 everything (tags_in ks x.view) (tags_in ks x.view) (markup_in p ks n) x.view now x.parts compiled.within compiled.contents
      (record { within = within; looks = each_of (StaysIn p None) (λ look. tt) (content.of_frags (markup_in p ks n) []) })
      (same_view p x.view now same_own its.modules, owners_agree) (h.all.right n x is).stands.right

  pub right_now : AreRight p (tags_of m.world now) (markup_of (component_of p m.world n)) now x.parts
  right_now = subst (λ tags. AreRight p tags (markup_of (component_of p m.world n)) now x.parts) (sym (tags-same m.world now))
      (subst (λ frags. AreRight p (tags_in ks now) frags now x.parts) (sym (markup-same p m.world n)) (subst (λ tags. AreRight p tags (markup_in p ks n) now x.parts) same_tags right))

pub are_right : (p : Program) (m : Page) → IsCompiled p → AreAllKeysSeen p → IsTrue p m → ShowsPresent m → AreWatched p m.world.modules (shown_of m.showing) m.world.states → AreRightNow p m
are_right p m compiled keys h shows watched n x i is there = right_now p m compiled keys h shows watched n x is i there
