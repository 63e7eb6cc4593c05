-- A child that was made, and what comes behind it.
use Rattle.std.proofs.Common.{◌≡◌, ℕ, suc, List, Option, Some, Result, Ok, sym, ap, subst}
use Rattle.sv_code.specs.declared.program.Program.{Program}
use Rattle.sv_code.specs.declared.tags.Tag.{Tag}
use Rattle.sv_flush.proofs.Steps.{behind}
use Rattle.sv_flush.specs.Creation.{Site, made, site_of, grown, effects, created_in}
use Rattle.sv_flush.specs.Destruction.{child_task}
use Rattle.sv_flush.specs.Meets.{Meets}
use Rattle.sv_flush.specs.Sites.{made_seen}
use Rattle.sv_flush.specs.declared.page.Page.{Page}
use Rattle.sv_parts.specs.declared.refusal.PatchError.{PatchError}
use Rattle.sv_parts.specs.declared.state.Given.{Given}
use Rattle.sv_value.specs.declared.value.Inst.{Inst}
use Rattle.sv_view.specs.Level.{View}

made-then-grown : (below : ℕ) (p : Program) (parent place k : ℕ) (props : List Given) (view : View) (t : Tag) (site : Site) (m v w : Page)
    (answer : Result (Option Inst) PatchError) (inst : Inst) (r : Result (Unit {0}) PatchError) → site ≡ site_of parent k view t → answer ≡ Ok (Some inst)
    → Meets (made_seen answer) v (made p site m) → Meets r w (grown p (effects below p) place props view t inst.number v)
    → Meets r w (created_in (suc below) p parent place k props view t m)
unfolding created_in
made-then-grown below p parent place k props view t site m v w answer inst r at is first then =
    behind (made_seen answer) (Some inst.number) v (made p (site_of parent k view t) m) (child_task (grown p (effects below p) place props view t)) r w
    (ap made_seen is) (subst (λ s. Meets (made_seen answer) v (made p s m)) at first) then

-- where so many components may stand in one another
pub created-behind : (room below : ℕ) (p : Program) (parent place k : ℕ) (props : List Given) (view : View) (t : Tag) (site : Site) (m v w : Page)
    (answer : Result (Option Inst) PatchError) (inst : Inst) (r : Result (Unit {0}) PatchError) → room ≡ suc below → site ≡ site_of parent k view t → answer ≡ Ok (Some inst)
    → Meets (made_seen answer) v (made p site m) → Meets r w (grown p (effects below p) place props view t inst.number v)
    → Meets r w (created_in room p parent place k props view t m)
created-behind room below p parent place k props view t site m v w answer inst r enough at is first then =
    subst (λ x. Meets r w (created_in x p parent place k props view t m)) (sym enough) (made-then-grown below p parent place k props view t site m v w answer inst r at is first then)
