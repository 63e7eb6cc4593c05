use Rattle.std.proofs.Common.{rules, ◌≡◌}
use Rattle.sv_watch.specs.Mirror.{page_html}
use Rattle.sv_watch.proofs.Mirroring.{page-text}
use Rattle.sv_watch.proofs.replica.Replica.html.Goals as goal

pub returns-clause-page : goal.returns-clause-page
returns-clause-page c = λ page same.
    let text : c.print.new.out.items ≡ page_html c.args.self.now.tokens = search rules in
    page-text c.print.new.out.items c.args.self.now page text same
