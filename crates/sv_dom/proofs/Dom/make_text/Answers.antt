use Rattle.std.proofs.Common.{◌∙◌, sym}
use Rattle.sv_tokens.specs.Seen.{view_of}
use Rattle.sv_tokens.specs.Replay.{replay}
use Rattle.sv_tokens.specs.declared.change.What.TheVariants as what
use Rattle.sv_nodes.specs.Nodes.{text}
use Rattle.sv_dom.proofs.Dom.make_text.Goals as goal

pub returns-clause-told : goal.returns-clause-told
returns-clause-told c =
    c.in_ok-made.ensures.told (what.Text c.in_ok-share.field-0) (λ i. text (sym c.in_ok-share.ensures i))
    ∙ sym (λ i. replay (c.told.ensures i).1 (view_of c.args.self.now))
