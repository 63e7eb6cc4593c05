use Rattle.std.proofs.Common.{ap, ◌++◌, ◌∙◌}
use Rattle.sv_audience.proofs.Listing.{three}
use Rattle.sv_audience.proofs.reports.push_report.Goals as goal

pub returns : goal.returns
returns g c =
    three c.args.text.now.items _ _ _ _ c.push.new.self.items
    (c.in_ok-extend_from_slice.ensures.items ∙ ap (λ l. c.args.text.now.items ++ l) (c.as_bytes.ensures.value ∙ c.in_ok-line.ensures))
    (c.in_ok-extend_from_slice-2.ensures.items ∙ ap (λ l. c.extend_from_slice.new.self.items ++ l) (c.deref.ensures.value ∙ c.in_ok-report.ensures))
    c.in_ok-push.ensures.items
