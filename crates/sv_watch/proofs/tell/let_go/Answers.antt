use Rattle.std.proofs.Common.{rules, ◌≡◌, ◌<◌, [], ◌∷◌, ◌++◌, length}
use Rattle.sv_watch.proofs.Telling.{leaves-at}
use Rattle.sv_watch.proofs.tell.let_go.Goals as goal

pub returns-clause-leaves : goal.returns-clause-leaves
returns-clause-leaves g c =
    let list = c.args.list.now.items in
    let gone = c.args.gone.now.items in
    let watcher = c.remove-watcher.result in
    let inside : c.args.at < length list = search rules in
    let more : c.push.new.self.items ≡ gone ++ watcher ∷ [] = search rules in
    leaves-at _ list c.remove-watcher.new.self.items gone c.push.new.self.items c.args.at watcher inside c.remove-watcher.ensures.items c.remove-watcher.ensures.value more
