-- A page follows nodes.
use Rattle.std.proofs.Common.{◌≡◌, ◌≤◌, List, [], ap, sym, ◌∙◌, subst}
use Rattle.sv_commit.specs.Root.{IsPage, page_tokens}
use Rattle.sv_document.specs.declared.tree.Node.{Node}
use Rattle.sv_live.specs.declared.live.Live.{Live}
use Rattle.sv_live.specs.declared.node.Node.{Node as Wanted}
use Rattle.sv_live.specs.Kept.{AreKept}
use Rattle.sv_live.specs.Shown.{Numbers, plainly_all, flat_all}
use Rattle.sv_live.specs.Stands.{IsFresh, State, AreFelt, Tells}
use Rattle.sv_tokens.specs.Replay.{replay_all}
use Rattle.sv_tokens.specs.Seen.{seen, view_of, IsNumbered}
use Rattle.sv_tokens.specs.Token.{Page}
use Rattle.sv_tokens.specs.declared.change.Change.{Change}
use Rattle.sv_follow.specs.Followed.{Follows, tree_of}
use Rattle.sv_follow.specs.Outline.{outline}
use Rattle.sv_follow.proofs.Outlined.{flat-outline}
use Rattle.sv_follow.proofs.Printing.{printed-page}

pub followed : (old start new : State) (lives now : List Live) (wanted : List Wanted) (nodes : List Node) → start ≡ record { page = old.page; changes = [] } → IsPage new.page now → plainly_all now ≡ flat_all wanted → AreKept start.page.next lives now
    → ((numbers : Numbers) → IsFresh numbers start.page.next → start.page.tokens ≡ page_tokens numbers lives → new.page.tokens ≡ page_tokens numbers now) → start.page.next ≤ new.page.next → Tells start new → IsNumbered (seen new.page.tokens) new.page.next → wanted ≡ outline nodes → Follows (tree_of old lives) nodes (tree_of new now)
followed old start new lives now wanted nodes forgot page shows kept numbers later tells numbered asked =
    let same : start.page ≡ old.page = ap (λ (s : State). s.page) forgot in
    let none : start.changes ≡ [] = ap (λ (s : State). s.changes) forgot in
    let v = view_of start.page in
    let all = tells v (record { replayed = ap (λ (changes : List Change). replay_all changes v) none; felt = subst (λ (changes : List Change). AreFelt changes v) (sym none) tt }) in
    let wants = shows ∙ (ap flat_all asked ∙ flat-outline nodes) in
    record {
      shown = record { page = page; lives = wants };
      printed = λ slotted. printed-page new.page now nodes page wants numbered slotted;
      kept = subst (λ (p : Page). AreKept p.next lives now) same kept;
      numbers = subst (λ (p : Page). (numbers : Numbers) → IsFresh numbers p.next → p.tokens ≡ page_tokens numbers lives → new.page.tokens ≡ page_tokens numbers now) same numbers;
      later = subst (λ (p : Page). p.next ≤ new.page.next) same later;
      numbered = numbered;
      told = subst (λ (p : Page). replay_all new.changes (view_of p) ≡ view_of new.page) same all.replayed;
      felt = subst (λ (p : Page). AreFelt new.changes (view_of p)) same all.felt;
    }
