-- What is told.
use Rattle.std.proofs.Common.{◌≡◌, ℕ, ◌++◌, Option, Some, None, Result, OnOk, option_to_list, ap, sym, ◌∙◌, subst, refl, arith, ◌≢◌, ◌+◌, IsSome, IsNone, true, false}
use Rattle.std.specs.Prelude.{◌↔◌}
use Rattle.std.proofs.lemmas.List.{append-nil}
use Rattle.sv_tokens.specs.Counting.{Has}
use Rattle.sv_tokens.specs.Token.{Page, Element, Token, Open, Text, Anchor, Close, opens}
use Rattle.sv_tokens.specs.Edit.{Rewritten, with_element}
use Rattle.sv_tokens.proofs.Standing.{times-Rewritten}
use Rattle.sv_tokens.specs.Seen.{View, view_of}
use Rattle.sv_tokens.specs.Replay.{replay_if}
use Rattle.sv_tokens.specs.declared.change.Change.{Change}
use Rattle.sv_live.specs.Stands.{State, Tells}
use Rattle.sv_live.proofs.Steps.{tells-one, tells-none}
use Rattle.sv_commit.proofs.Results.{on_both}

-- a change was told, or none
pub tells-if : (old new : State) (told : Option Change) → new.changes ≡ old.changes ++ option_to_list told → view_of new.page ≡ replay_if told (view_of old.page) → (IsSome told → view_of new.page ≢ view_of old.page) → Tells old new
tells-if old new None more kept some = tells-none old new (more ∙ append-nil old.changes) kept
tells-if old new (Some change) more told some = tells-one old new change more told (some refl)

-- a call on the page was told
pub told-by : {T E : Type 0} (r : Result T E) (inside old new : State) (page : Page) (told : Option Change) → inside ≡ old → OnOk r (new.page ≡ page) → OnOk r (new.changes ≡ inside.changes ++ option_to_list told)
    → view_of page ≡ replay_if told (view_of inside.page) → (IsSome told → view_of page ≢ view_of inside.page) → OnOk r (Tells old new)
told-by r inside old new page told same is more replayed some =
    on_both r is more (λ e f. subst (λ (s : State). Tells s new) same (tells-if inside new told f (ap view_of e ∙ replayed) (λ h k. some h (sym (ap view_of e) ∙ k))))

pub told-one : (inside old new : State) (page : Page) (told : Option Change) → inside ≡ old → new.page ≡ page → new.changes ≡ inside.changes ++ option_to_list told → view_of page ≡ replay_if told (view_of inside.page) → page.next ≡ inside.page.next + 1 → Tells old new
told-one inside old new page told same is more replayed later =
    subst (λ (s : State). Tells s new) same (tells-if inside new told more (ap view_of is ∙ replayed) (λ _ k. (let e = ap (λ (v : View). v.next) (sym (ap view_of is) ∙ k) in omega (arith, e, later))))

-- ---- moves are seen

some-none : (told : Option Change) → IsSome told → IsNone told → ⊥
some-none told some none = never (sym some ∙ none)
  where
    never : true ≡ false → ⊥
    never e = cc

pub moves-felt : (told : Option Change) (a b : View) → (IsNone told ↔ (a ≡ b)) → IsSome told → a ≢ b
moves-felt told a b same some e = some-none told some (same.1 e)

-- a call on the page edited it
pub edited-by : {T E : Type 0} (r : Result T E) (inside old new : State) (page : Page) (key : ℕ) (f g : Token → Token) → inside ≡ old → OnOk r (new.page ≡ page) → f ≡ g → Rewritten inside.page.tokens page.tokens key f
    → OnOk r (Rewritten old.page.tokens new.page.tokens key g)
edited-by r inside old new page key f g same is fg edit =
    on_both r is is (λ e _. subst (λ (s : State). Rewritten s.page.tokens new.page.tokens key g) same (subst (λ (p : Page). Rewritten inside.page.tokens p.tokens key g) (sym e) (subst (λ (h : Token → Token). Rewritten inside.page.tokens page.tokens key h) fg edit)))

opens-with : (key : ℕ) (f : Element → Element) (t : Token) → opens key (with_element f t) ≡ opens key t
opens-with key f (Open n p number e) = refl
opens-with key f (Text n p number bytes) = refl
opens-with key f (Anchor n p) = refl
opens-with key f (Close n name) = refl

-- an element stands where one was edited
pub still-opens : {T E : Type 0} (r : Result T E) (old new : State) (key : ℕ) (f : Element → Element) → OnOk r (Rewritten old.page.tokens new.page.tokens key (with_element f)) → Has (opens key) old.page.tokens → OnOk r (Has (opens key) new.page.tokens)
still-opens r old new key f edit has =
    on_both r edit edit (λ e _. (let n = times-Rewritten (opens key) old.page.tokens new.page.tokens key (with_element f) (opens-with key f) e in omega (arith, n, has)))
