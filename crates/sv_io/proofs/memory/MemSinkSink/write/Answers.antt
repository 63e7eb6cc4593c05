use Rattle.std.proofs.Common.{◌≡◌, ◌<◌, ◌^◌, ◌∙◌, true, sym}
use Rattle.sv_io.specs.Memory.{is_listed, next_call}
use Rattle.sv_io.proofs.Listed.{Rose-listed_up_to}
use Rattle.sv_io.proofs.memory.MemSinkSink.write.Goals as goal

pub returns-then-lists-clause-failed : goal.returns-then-lists-clause-failed
returns-then-lists-clause-failed c = λ failed.
    let call = c.saturating_add-self-inside.ensures in
    let small : next_call c.self.inside.calls < 2 ^ 32 = rw call at (c.lists.ensures.small c.if-lists.true) in
    let listed : is_listed c.self.inside.fail.items (next_call c.self.inside.calls) ≡ true =
    rw (call, c.deref.ensures.value) at (sym c.lists.ensures.listed ∙ c.if-lists.true) in
    rw (← c.self.view_is, call) (Rose-listed_up_to c.self.inside.fail.items c.self.inside.calls small listed)
