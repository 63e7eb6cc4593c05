use Rattle.sv_order.proofs.Linking.{IsLinking}
use Rattle.sv_order.proofs.links.statement_links.Given as goal

abbrev pub invariant-loop-place : goal.invariant-loop-place
invariant-loop-place l = IsLinking l.list l.names.keys l.place l.setters.items l.links.items
