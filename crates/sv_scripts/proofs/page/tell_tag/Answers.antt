use Rattle.sv_scripts.proofs.page.tell_tag.Goals as goal

pub returns : goal.returns
returns c = let h = c.page_context.ensures in rw h at c.tell.ensures.means
