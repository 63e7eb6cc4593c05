-- What was told of a page tree makes its page of the first one.
use Rattle.std.proofs.Common.{◌≡◌, List, [], ◌∷◌, ◌++◌, length, None, false, refl, ap, sym, ◌∙◌, subst, arith}
use Rattle.std.proofs.lemmas.List.{same_from_push, length-append}
use Rattle.sv_document.specs.Printed.{html as nodes_html}
use Rattle.sv_document.specs.declared.tree.Node.{Node}
use Rattle.sv_follow.specs.Course.{Course, begun, onward}
use Rattle.sv_follow.specs.Followed.{Tree, blank}
use Rattle.sv_follow.specs.Slotted.{AreSlotted}
use Rattle.sv_html.specs.Html.{html}
use Rattle.sv_tokens.proofs.Replay.{replay_all-append}
use Rattle.sv_tokens.specs.Replay.{replay_all}
use Rattle.sv_tokens.specs.Seen.{view_of}
use Rattle.sv_tokens.specs.declared.change.Change.{Change}
use Rattle.sv_watch.proofs.Mirroring.{mirror-page}
use Rattle.sv_watch.specs.Mirror.{mirror_html}

pub course-replays : {old new : Tree} {pages : List (List Node)} {changes : List Change} → Course old pages changes new → replay_all changes (view_of old.page) ≡ view_of new.page
course-replays begun = refl
course-replays {old} (onward {changes} {mid} {new} course follows) =
    replay_all-append changes new.changes (view_of old.page) ∙ (ap (replay_all new.changes) (course-replays course) ∙ follows.told)

-- the last page is printed as its nodes are
course-printed : {old new : Tree} {all : List (List Node)} {changes : List Change} → Course old all changes new → (pages : List (List Node)) (nodes : List Node) → all ≡ pages ++ nodes ∷ []
    → AreSlotted nodes → html false new.page.tokens ≡ nodes_html None nodes
course-printed begun pages nodes is slotted = absurd (omega (arith, ap length is, length-append pages (nodes ∷ [])))
course-printed {new} (onward {pages = others} {nodes = shown} course follows) pages nodes is slotted =
    subst (λ (ns : List Node). AreSlotted ns → html false new.page.tokens ≡ nodes_html None ns) (same_from_push others pages shown nodes is).1 follows.printed slotted

pub mirror-shows : {tree : Tree} (pages : List (List Node)) (nodes : List Node) (changes : List Change) → Course blank (pages ++ nodes ∷ []) changes tree → AreSlotted nodes → mirror_html changes ≡ nodes_html None nodes
mirror-shows {tree} pages nodes changes course slotted = mirror-page (mirror_html changes) changes tree.page refl (sym (course-replays course)) ∙ course-printed course pages nodes refl slotted
