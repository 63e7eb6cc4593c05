-- Where shapes are right on a view that agrees with the present one, what is drawn of what they hold is what evaluations give now.
use Rattle.std.specs.Prelude.{◌≡◌, ℕ, List}
use Rattle.sv_agree.specs.Agreeing.{AgreesFor}
use Rattle.sv_agree.specs.Scopes.{everything}
use Rattle.sv_code.specs.Content.{AreContentsSeen}
use Rattle.sv_code.specs.Names.{Each}
use Rattle.sv_code.specs.Parts.{of_frags}
use Rattle.sv_code.specs.Within.{IsWithin, ArePartsWithin}
use Rattle.sv_code.specs.declared.fragments.Frag.{Frag}
use Rattle.sv_fresh.specs.Fresh.{Descent}
use Rattle.sv_fresh.specs.Scene.{Page, Tags}
use Rattle.sv_fresh.specs.declared.source.Source.TheVariants.{Evaluated, Recorded}
use Rattle.sv_right.specs.Claims.{claims}
use Rattle.sv_right.specs.Drawing.{AreNamed, DrawsAlike, from_source, nodes_of}
use Rattle.sv_right.specs.Right.{AreRight}
use Rattle.sv_shapes.specs.declared.shape.Shape.{Shape}
use Rattle.sv_view.specs.Level.{View}

-- shapes that are right on the view on which they were shown give the nodes that evaluations give on the present view, where that agrees with it and
-- children are drawn alike; the tags of the two views differ only where no slot asks for them
abbrev pub DrawnAsEvaluated : Type 0
DrawnAsEvaluated = (page : Page) (depth : ℕ) (fresh drawn : Descent) (tags tags' : Tags) (frags : List Frag) (v now kept : View) (shapes : List Shape) → ArePartsWithin page.program →
    AreContentsSeen page.program → Each (IsWithin page.program) (of_frags frags) → AgreesFor page.program depth everything tags tags' frags v now → AreNamed now kept →
    AreRight page.program tags frags v shapes → Each (DrawsAlike page fresh drawn) (claims page.program tags' frags now shapes) →
    nodes_of (from_source Evaluated page) fresh tags' frags now shapes ≡ nodes_of (from_source Recorded page) drawn tags' frags kept shapes
