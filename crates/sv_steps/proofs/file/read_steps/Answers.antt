use Rattle.std.proofs.Common.{subst, sym, ap}
use Rattle.std.proofs.lemmas.Bool.{false≢true}
use Rattle.sv_steps.specs.StepsFile.{Told, Answers, in_json}
use Rattle.sv_events.proofs.Json.{json_read, json_none}
use Rattle.sv_steps.proofs.file.read_steps.Goals as goal

pub returns-in-Ok : goal.returns-in-Ok
returns-in-Ok c = subst (λ (told : Told). Answers c.in_json.result told) (sym (ap in_json (json_read _ _ c.in-Ok.ensures.ok.0 c.in-Ok.ensures.ok.1))) c.in_json.ensures

pub returns-in-Err-2 : goal.returns-in-Err-2
returns-in-Err-2 c = ap in_json (json_none _ (c.in-Err.ensures.err (λ m. absurd (false≢true (c.if-is_memory.ensures.1 m)))))
