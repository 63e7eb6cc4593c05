-- What watchers report.
use Rattle.std.specs.Prelude.{ℕ, suc, List, [], ◌∷◌, ◌++◌}
use Rattle.sv_heads.specs.Lines.{watch_line}
use Rattle.sv_watch.specs.Ear.{Ear}

-- the report of a watcher under its line, and a line feed
abbrev pub report_at : ℕ → Ear → List ℕ
report_at number ear = watch_line number ++ (ear.report_of ear.heard ++ 10 ∷ [])

abbrev pub reports_from : ℕ → List Ear → List ℕ
reports_from number [] = []
reports_from number (ear ∷ ears) = report_at number ear ++ reports_from (suc number) ears

-- those of all, from 1 on
abbrev pub reports : List Ear → List ℕ
reports ears = reports_from 1 ears
