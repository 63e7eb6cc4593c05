-- Where a slot stands, the cell of the owner's view is looked at.
use Rattle.std.specs.Prelude.{◌≡◌, ℕ, suc, true, List, Option, Some, slice_get}
use Rattle.sv_agree.specs.Agreeing.{slot_within}
use Rattle.sv_base.specs.declared.names.Name.{Name}
use Rattle.sv_code.specs.Content.{SeesView, HasView, AreContentsSeen, of_frags, of_content}
use Rattle.sv_code.specs.Names.{Each}
use Rattle.sv_code.specs.declared.fragments.Frag.{Frag}
use Rattle.sv_code.specs.declared.program.Program.{Program}
use Rattle.sv_code.specs.declared.tags.Tag.{Tag}
use Rattle.sv_right.specs.Right.{IsThere}

-- a component whose `<slot>`s look at the cell of the owner's view has such a cell, where a slot stands in its markup
abbrev pub SlotsSeeViews : Type 0
SlotsSeeViews = (p : Program) (view : Option ℕ) (depth : ℕ) (frags : List Frag) (bound : List Name) → AreContentsSeen p → slot_within p depth frags ≡ true →
    Each (SeesView p.tags view (suc depth)) (of_frags frags bound) → IsThere view

-- a tag in whose content a slot stands looks at that cell
abbrev pub TagsSeeViews : Type 0
TagsSeeViews = (p : Program) (view : Option ℕ) (depth k : ℕ) (t : Tag) → AreContentsSeen p → slice_get p.tags k ≡ Some t → slot_within p depth t.content ≡ true →
    Each (SeesView p.tags view (suc depth)) (of_content t.lets t.content) → HasView t.reads view
