use Rattle.sv_scripts.proofs.page.settle.Goals as goal

pub returns : goal.returns
returns c = let h = c.page_context.ensures in rw h at c.settle.ensures.means
