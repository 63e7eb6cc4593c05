use Rattle.std.proofs.Common.{◌<◌, ◌∙◌, ◌∷◌, [], sym, ap, map, arith}
use Rattle.std.proofs.lemmas.List.{map-append}
use Rattle.std.proofs.lemmas.Result.{on_ok_weaker}
use Rattle.sv_value.specs.View.{view_of}
use Rattle.sv_store.specs.Kept.{subscriber_of}
use Rattle.sv_states.specs.Ways.{way_seen}
use Rattle.sv_states.specs.Board.{seen_as}
use Rattle.sv_states.proofs.Going.{behind-stop, behind-go}
use Rattle.sv_states.proofs.board.Board.+go.Goals as goal

pub returns-in-None : goal.returns-in-None
returns-in-None t c =
    let b = seen_as c.args.self.now in
    let pos : 0 < c.args.room = omega arith in
    behind-stop c.args.room b (view_of c.args.value.now) c.args.at.inst.number c.args.at.cell c.in-Some.instance.now pos (sym c.in-Some.ensures)
    (way_seen c.args.way.now) (map subscriber_of c.push.new.self.items) c.args.way.now.store (sym c.find.ensures ∙ c.in_default-find.is) (sym c.if-not-changes.ensures) c.requires
    (ap (map subscriber_of) c.in_ok-push.ensures.items ∙ map-append subscriber_of c.args.way.now.cells.items (c.args.at ∷ []))
    (sym c.in-None.ensures)

pub returns-in-Some-above : goal.returns-in-Some-above
returns-in-Some-above t c =
    let b = seen_as c.args.self.now in
    let pos : 0 < c.args.room = omega arith in
    on_ok_weaker c.go.result (λ e. e ∙
    behind-go c.args.room b (view_of c.args.value.now) c.args.at.inst.number c.args.at.cell c.in-Some.instance.now pos (sym c.in-Some.ensures)
    (way_seen c.args.way.now) (map subscriber_of c.push.new.self.items) c.args.way.now.store (sym c.find.ensures ∙ c.in_default-find.is) (sym c.if-not-changes.ensures) c.requires
    (ap (map subscriber_of) c.in_ok-push.ensures.items ∙ map-append subscriber_of c.args.way.now.cells.items (c.args.at ∷ []))
    (subscriber_of c.in-Some-above.variable) (sym c.in-Some-above.ensures))
    c.go.ensures
