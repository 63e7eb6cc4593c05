-- Derived stores are what their functions gave, whatever a flush does.
use Rattle.std.proofs.Common.{◌≡◌, [], Result, Ok, Err, OnOk, refl, subst}
use Rattle.std.proofs.lemmas.List.Elements.{All-nil}
use Rattle.std.proofs.lemmas.Option.{none-some}
use Rattle.sv_code.specs.declared.program.Program.{Program}
use Rattle.sv_derived.proofs.Ordering.{ordered-none}
use Rattle.sv_flush.proofs.Bringing.{Afterwards}
use Rattle.sv_flush.proofs.Lasting.{Lasting}
use Rattle.sv_flush.proofs.Playing.{mounted_brings, flushed_brings}
use Rattle.sv_flush.specs.Creation.{cell_count, mounted}
use Rattle.sv_flush.specs.Flush.{flushed}
use Rattle.sv_flush.specs.Meets.{Meets}
use Rattle.sv_flush.specs.Outcome.{Done}
use Rattle.sv_flush.specs.Page.{blank}
use Rattle.sv_flush.specs.declared.page.Page.{Page}
use Rattle.sv_frame.proofs.Running.{modules_leave, top_leaves}
use Rattle.sv_frame.proofs.Staying.{computed_stay, computed_sets, computed_bound, computed-handed, computed-viewed, computed-removed, computed-lives}
use Rattle.sv_frame.specs.Computed.{AreComputed}
use Rattle.sv_instance.specs.Instance.{born}
use Rattle.sv_meaning.specs.declared.limits.TheConstants.{CALL_LIMIT}
use Rattle.sv_parts.specs.declared.refusal.PatchError.{PatchError}
use Rattle.sv_states.specs.Change.{added}
use Rattle.sv_states.specs.Waiting.{snapped}

computed_last : (p : Program) → Lasting p (λ phase due shown ms. AreComputed p)
computed_last p = record {
  scripts = λ phase may due shown. computed_stay;
  loads = λ due shown w h. (modules_leave computed_stay (computed_sets 0) (λ ms ms' s k. k)).held w h;
  opens = λ n due shown props w h. (top_leaves computed_stay n (computed_sets n) props).held w h;
  binds = λ due shown w n b may h. computed_bound CALL_LIMIT w n b may h;
  hands = λ phase may due shown ms s at v h. computed-handed s at v h;
  lends = λ phase may due shown ms s n c view is d h. computed-viewed s n c view h;
  spends = λ more due shown ms s h. h;
  makes = λ due shown ms s place c is h. computed-lives s (added s (born place (cell_count c) c.constants)) refl refl h;
  drops = λ due shown ms s n h. computed-removed s n h;
  begins = λ n due shown ms s h. h;
  snaps = λ n due shown ms s h. computed-lives s (snapped s n) refl refl h;
  passes = λ n due shown ms s e h. h;
  shows = λ n due shown ms s i parts there h. h;
}

-- so it is on a page
abbrev pub Computed : Program → Page → Type 0
Computed p m = AreComputed p m.world.states

pub mounted-computed : (p : Program) (m n : Page) → Computed p m → mounted p m ≡ Done tt n → Computed p n
mounted-computed p m n h is = subst (Afterwards (Computed p)) is ((mounted_brings (computed_last p) []).held m h)

pub flushed-computed : (p : Program) (m n : Page) → Computed p m → flushed p m ≡ Done tt n → Computed p n
flushed-computed p m n h is = subst (Afterwards (Computed p)) is ((flushed_brings (computed_last p) []).held m h)

pub blank_computed : (p : Program) → Computed p blank
blank_computed p = record { ordered = ordered-none; made = All-nil _; idle = refl; computed = λ id d there live. absurd (none-some d there) }

-- ---- what code answers

module _ (p : Program) (r : Result (Unit {0}) PatchError) (m n : Page) where
  pub mounted_computed : Meets r n (mounted p m) → OnOk r (Computed p m → Computed p n)
  mounted_computed = by r where
    by : (r : Result (Unit {0}) PatchError) → Meets r n (mounted p m) → OnOk r (Computed p m → Computed p n)
    by (Ok u) h = λ k. mounted-computed p m n k h.meets
    by (Err e) h = tt

  pub flushed_computed : Meets r n (flushed p m) → OnOk r (Computed p m → Computed p n)
  flushed_computed = by r where
    by : (r : Result (Unit {0}) PatchError) → Meets r n (flushed p m) → OnOk r (Computed p m → Computed p n)
    by (Ok u) h = λ k. flushed-computed p m n k h.meets
    by (Err e) h = tt
