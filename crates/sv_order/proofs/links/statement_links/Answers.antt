use Rattle.std.proofs.Common.{◌≡◌, length, ap, ◌∙◌, subst, arith, replicate, []}
use Rattle.sv_order.proofs.Linking.{IsLinking, linking-none, linking-more, linking-two, linking-whole}
use Rattle.sv_order.proofs.links.statement_links.Goals as goal

pub loop-place-init : goal.loop-place-init
loop-place-init c = linking-none c.args.list.now c.args.names.now.keys c.in_ok-setters.setters.items c.new-links.result.items (c.in_ok-setters.ensures ∙ ap (λ n. replicate n []) c.len.ensures.len) c.new-links.ensures.items

pub loop-place-preserved : goal.loop-place-preserved
loop-place-preserved c =
    linking-more c.args.list.now c.args.names.now.keys c.loop-place.place c.index-list-place.result c.loop-place.setters.items c.note_setter.new.setters.items c.loop-place.links.items c.push.new.self.items c.as_slice.result.now c.in_ok-needs.needs
    c.loop-place-test.true c.index-list-place.is c.as_slice.ensures c.loop-place.invariant c.note_setter.ensures.size c.in_ok-note_setter.ensures.below c.in_ok-note_setter.ensures.setters c.in_ok-needs.ensures c.in_ok-push.ensures.items

pub returns-clause-whole : goal.returns-clause-whole
returns-clause-whole c =
    let end : c.loop-place.place ≡ length c.args.list.now = omega (arith, c.loop-place-test.false, c.loop-place.auto.place-end) in
    let l = subst (λ n. IsLinking c.args.list.now c.args.names.now.keys n c.loop-place.setters.items c.loop-place.links.items) end c.loop-place.invariant in
    linking-whole c.args.list.now c.args.names.now.keys c.requires.knows c.loop-place.setters.items c.loop-place.links.items c.append.new.self.items l c.in_ok-append.ensures.items

pub returns-clause-two : goal.returns-clause-two
returns-clause-two c =
    let end : c.loop-place.place ≡ length c.args.list.now = omega (arith, c.loop-place-test.false, c.loop-place.auto.place-end) in
    let l = subst (λ n. IsLinking c.args.list.now c.args.names.now.keys n c.loop-place.setters.items c.loop-place.links.items) end c.loop-place.invariant in
    linking-two c.args.list.now c.args.names.now.keys c.requires.knows c.loop-place.setters.items c.loop-place.links.items c.append.new.self.items l c.in_ok-append.ensures.items
