use Rattle.sv_scripts.proofs.page.call.Goals as goal

pub returns : goal.returns
returns c = rw (c.page_context.ensures, c.source_of-at.ensures) at c.call_value.ensures.means
