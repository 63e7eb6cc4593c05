-- What is printed of the checks of a test.
use Rattle.std.specs.Prelude.{ℕ, suc, Bool, true, false, nat_lt, List, [], ◌++◌, if◌then◌else◌}
use Rattle.sv_checks.specs.Lines.{verdict_line, sums_line}
use Rattle.sv_document.specs.declared.tree.Node.{Node}
use Rattle.sv_select.specs.Matching.{matches_in}
use Rattle.sv_select.specs.Verdict.{verdict_on}
use Rattle.sv_select.specs.declared.selector.Selector.{Selector}
use Rattle.sv_select.specs.declared.verdict.Verdict.{Verdict}
use Rattle.sv_select.specs.declared.verdict.Verdict.TheVariants as verdict
use Rattle.sv_steps.specs.declared.step.Want.{Want}

-- the lines so far, how many expectations held, and how many didn't
pub record Report : Type 0 where
  pub text : List ℕ
  pub passed : ℕ
  pub failed : ℕ

abbrev pub empty : Report
empty = record { text = []; passed = 0; failed = 0 }

abbrev pub one_more : ℕ → ℕ
one_more count = suc count

abbrev pub holds : Verdict → Bool
holds verdict.Holds = true
holds (verdict.Count count) = false
holds verdict.NoMatch = false
holds (verdict.Text text) = false
holds (verdict.Attribute shown) = false

-- a line more
abbrev pub with_line : List ℕ → Report → Report
with_line line r = record r { text = r.text ++ line }

-- one more that held, or one more that didn't
abbrev pub counted : Bool → Report → Report
counted holds r = if holds then record r { passed = one_more r.passed } else record r { failed = one_more r.failed }

-- a step was judged
abbrev pub judged : (at : ℕ) → Verdict → Report → Report
judged at v r = counted (holds v) (with_line (verdict_line at v) r)

-- a page that shows these nodes was checked
abbrev pub checked : (at : ℕ) → List Node → Selector → Want → Report → Report
checked at nodes selector want r = judged at (verdict_on want (matches_in selector nodes)) r

-- the last line
abbrev pub finished : Report → Report
finished r = with_line (sums_line r.passed r.failed) r

abbrev pub is_failed : Report → Bool
is_failed r = nat_lt 0 r.failed
