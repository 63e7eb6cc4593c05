-- Deeds that are told one after another.
use Rattle.std.proofs.Common.{◌≡◌, ◌<◌, ◌≤◌, ◌+◌, ℕ, List, [], ◌∷◌, ◌++◌, length, get_or, drop, refl, ap, sym, ◌∙◌, append_assoc, append-nil}
use Rattle.std.specs.Prelude.{Ok, Err}
use Rattle.std.proofs.lemmas.List.{at_drop_more, at_drop_all}
use Rattle.sv_checks.specs.Deeds.{Deed, Deeds, deed_of, behind, first_then, deeds_from}
use Rattle.sv_checks.specs.Tells.{Fails}
use Rattle.sv_checks.specs.declared.deed.DeedError.{DeedError}
use Rattle.sv_checks.specs.declared.deed.DeedError.TheVariants.{BadSelector, NoMemory}
use Rattle.sv_steps.specs.declared.step.Step.{Step}

-- what is told of the steps from a place on
abbrev pub left : List Step → ℕ → Deeds
left steps at = deeds_from at (drop at steps)

pub before_any : (told : Deeds) → told ≡ behind [] told
before_any (Ok deeds) = refl
before_any (Err at) = refl

behind-behind : (some more : List Deed) (told : Deeds) → behind some (behind more told) ≡ behind (some ++ more) told
behind-behind some more (Ok deeds) = ap Ok (sym (append_assoc some more deeds))
behind-behind some more (Err at) = refl

turn : (steps : List Step) (at : ℕ) (s : Step) → at < length steps → s ≡ get_or steps at s → left steps at ≡ first_then (deed_of at s) (left steps (at + 1))
turn steps at s below here = at_drop_more (λ rest. deeds_from at rest) steps at s below ∙ ap (λ w. first_then (deed_of at w) (left steps (at + 1))) (sym here)

-- the next step is told
pub one_more : (steps : List Step) (at : ℕ) (s : Step) (all : Deeds) (so_far now : List Deed) (deed : Deed) → at < length steps → s ≡ get_or steps at s
    → deed_of at s ≡ Ok deed → now ≡ so_far ++ deed ∷ [] → all ≡ behind so_far (left steps at) → all ≡ behind now (left steps (at + 1))
one_more steps at s all so_far now deed below here is grown so =
    so ∙ ap (behind so_far) (turn steps at s below here ∙ ap (λ d. first_then d (left steps (at + 1))) is) ∙ behind-behind so_far (deed ∷ []) (left steps (at + 1))
    ∙ ap (λ deeds. behind deeds (left steps (at + 1))) (sym grown)

wrong : (steps : List Step) (at i : ℕ) (s : Step) (all : Deeds) (so_far : List Deed) → at < length steps → s ≡ get_or steps at s → deed_of at s ≡ Err i
    → all ≡ behind so_far (left steps at) → all ≡ Err i
wrong steps at i s all so_far below here is so = so ∙ ap (behind so_far) (turn steps at s below here ∙ ap (λ d. first_then d (left steps (at + 1))) is)

-- the next step is wrong, or memory fails
pub one_wrong : (e : DeedError) (steps : List Step) (at : ℕ) (s : Step) (all : Deeds) (so_far : List Deed) → at < length steps → s ≡ get_or steps at s → Fails e (deed_of at s)
    → all ≡ behind so_far (left steps at) → Fails e all
one_wrong (BadSelector i) steps at s all so_far below here is so = wrong steps at i s all so_far below here is so
one_wrong NoMemory steps at s all so_far below here is so = tt

-- no step is left
pub all_told : (steps : List Step) (at : ℕ) (all : Deeds) (so_far : List Deed) → length steps ≤ at → all ≡ behind so_far (left steps at) → all ≡ Ok so_far
all_told steps at all so_far past so = so ∙ ap (behind so_far) (at_drop_all (λ rest. deeds_from at rest) steps at past) ∙ ap Ok (append-nil so_far)
