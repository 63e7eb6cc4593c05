use Rattle.sv_document.specs.Marks.{marks}
use Rattle.sv_document.proofs.Numbering.{fair-start, fair-numbered, number-kept, number-new}
use Rattle.sv_document.proofs.laws.one_number.Goals as goal

pub returns : goal.returns
returns c = record {
  fair = (fair-start, λ ns nodes. fair-numbered ns (marks nodes));
  kept = λ ns nodes m k. number-kept ns (marks nodes) m k;
  new = λ ns nodes m. number-new ns (marks nodes) m;
}
