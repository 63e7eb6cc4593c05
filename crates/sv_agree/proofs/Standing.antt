-- Component tags stand on views that agree.
use Rattle.std.proofs.Common.{ℕ, suc, List, [], ◌∷◌, Option, Some, None, ap, ◌∙◌}
use Rattle.sv_agree.proofs.Deeper.{above_less}
use Rattle.sv_agree.proofs.Levels.{claims_follow}
use Rattle.sv_agree.proofs.Pairs.{StandsAt, Follow}
use Rattle.sv_agree.specs.Agreeing.{slot_in, slot_in_tag}
use Rattle.sv_agree.specs.Standing.{Stood, stood_in, OfBoth, Pairs, StandsAlike, ClaimsStandAlike, TagsStandAlike}
use Rattle.sv_code.specs.declared.program.Program.{Program}
use Rattle.sv_right.specs.Claims.{Claim, claims}
use Rattle.sv_view.specs.View.{owner_of}

-- what is so however many tags count is so for all
both_alike : (p : Program) (a b : Option Stood) → ((depth : ℕ) → OfBoth (StandsAt p depth) a b) → OfBoth (StandsAlike p) a b
both_alike p None None h = tt
both_alike p None (Some b) h = h 0
both_alike p (Some a) None h = h 0
both_alike p (Some a) (Some b) h = record {
  tag = (h 0).tag;
  held = (h 0).held;
  content = λ t is depth.
      let at = (h (suc depth)).content t is in
      (at.0, λ e. above_less p depth a.tags b.tags (owner_of a.view) (owner_of b.view) (at.1 (ap (slot_in (slot_in_tag p depth)) is ∙ e)));
}

all_alike : (p : Program) (cs ds : List Claim) → ((depth : ℕ) → Follow p depth cs ds) → Pairs (ClaimsStandAlike p) cs ds
all_alike p [] [] h = tt
all_alike p [] (d ∷ ds) h = h 0
all_alike p (c ∷ cs) [] h = h 0
all_alike p (c ∷ cs) (d ∷ ds) h = (both_alike p (stood_in c) (stood_in d) (λ depth. (h depth).0.tags), all_alike p cs ds (λ depth. (h depth).1))

pub standing : TagsStandAlike
standing p scope tags tags' frags v v' shapes within seen fits agrees =
    all_alike p (claims p tags frags v shapes) (claims p tags' frags v' shapes) (λ depth. claims_follow p depth within seen scope tags tags' frags v v' shapes fits (agrees depth))
