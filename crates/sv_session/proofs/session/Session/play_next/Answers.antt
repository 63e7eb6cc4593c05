use Rattle.std.proofs.Common.{◌≡◌, ◌∙◌, rules, refl, sym, subst}
use Rattle.sv_page.specs.Current.{IsCurrent}
use Rattle.sv_session.proofs.Going.{ready_running, next_reaches, stopped_ready, shown_ready, kept_runnable, kept_reached}
use Rattle.sv_session.proofs.Reaching.{reached_current}
use Rattle.sv_session.specs.Plays.{program_of}
use Rattle.sv_session.specs.declared.stage.Stage.TheVariants.{Running}
use Rattle.sv_session.proofs.session.Session.play_next.Goals as goal

pub returns-then-ne-clause-ready : goal.returns-then-ne-clause-ready
returns-then-ne-clause-ready c = c.requires

pub returns-in_err-target-clause-ready : goal.returns-in_err-target-clause-ready
returns-in_err-target-clause-ready c = stopped_ready _ c.requires.runnable refl

pub show-requires-clause-runnable : goal.show-requires-clause-runnable
show-requires-clause-runnable c = c.requires.runnable

pub show-requires-clause-reached : goal.show-requires-clause-reached
show-requires-clause-reached c =
    let is : c.args.self.now.stage ≡ Running = search rules in
    let same : c.as_slice.result.now ≡ c.args.self.now.nodes = search rules in
    let way = ready_running c.args.self.now c.requires is in
    next_reaches (program_of c.args.self.now) c.args.self.now.page _ c.args.event.now c.as_slice.result.now _ way.reached (same ∙ way.shown) c.in_ok-target.ensures.turn

pub returns-in_err-show-clause-ready : goal.returns-in_err-show-clause-ready
returns-in_err-show-clause-ready c = stopped_ready c.show.new.self (kept_runnable _ c.show.new.self c.show.ensures.rest c.requires.runnable) c.in_err-show.ensures.stage

pub returns-clause-ready : goal.returns-clause-ready
returns-clause-ready c =
    let is : c.args.self.now.stage ≡ Running = search rules in
    let same : c.as_slice.result.now ≡ c.args.self.now.nodes = search rules in
    let way = ready_running c.args.self.now c.requires is in
    shown_ready c.show.new.self (kept_runnable _ c.show.new.self c.show.ensures.rest c.requires.runnable) (kept_reached _ c.show.new.self c.show.ensures.rest c.show.ensures.page (next_reaches (program_of c.args.self.now) c.args.self.now.page _ c.args.event.now c.as_slice.result.now _ way.reached (same ∙ way.shown) c.in_ok-target.ensures.turn))
    c.in_ok-show.ensures.shown

pub returns-clause-current : goal.returns-clause-current
returns-clause-current c =
    let is : c.args.self.now.stage ≡ Running = search rules in
    let same : c.as_slice.result.now ≡ c.args.self.now.nodes = search rules in
    let way = ready_running c.args.self.now c.requires is in
    subst (IsCurrent (program_of c.args.self.now)) (sym c.show.ensures.page) (reached_current (program_of c.args.self.now) _ (next_reaches (program_of c.args.self.now) c.args.self.now.page _ c.args.event.now c.as_slice.result.now _ way.reached (same ∙ way.shown) c.in_ok-target.ensures.turn))
