use Rattle.std.proofs.Common.{rules, ◌<◌, length}
use Rattle.sv_watch.proofs.Telling.{told-at}
use Rattle.sv_watch.proofs.tell.tell_at.Goals as goal

pub returns-clause-told : goal.returns-clause-told
returns-clause-told g c =
    let inside : c.args.at < length c.args.list.now.items = search rules in
    told-at _ c.args.change.now c.tell_one.result c.args.list.now.items c.args.at c.index_mut.result.now c.tell_one.new.watcher inside c.index_mut.ensures.value c.tell_one.ensures
