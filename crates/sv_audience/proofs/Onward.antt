-- What was heard of some pages, and then of one more.
use Rattle.std.proofs.Common.{◌≡◌, List, [], ◌∷◌, ◌++◌, Result, Ok, Err, OnOk, subst}
use Rattle.sv_audience.specs.Hearing.{Hears, all, some, none}
use Rattle.sv_audience.specs.Listened.{Listened}
use Rattle.sv_base.specs.declared.memory.NoMemory.{NoMemory as Wants}
use Rattle.sv_document.specs.declared.tree.Node.{Node}
use Rattle.sv_follow.specs.Course.{begun, onward}
use Rattle.sv_follow.specs.Followed.{Tree, Follows, blank}
use Rattle.sv_tokens.specs.declared.change.Change.{Change}
use Rattle.sv_watch.proofs.Parting.{each-append}
use Rattle.sv_watch.specs.Ear.{Ear}
use Rattle.sv_watch.specs.Each.{TellsEach, ended}

pub listened-none : (was was_gone : List Ear) → Listened [] blank was was was_gone was_gone
listened-none was was_gone = record { changes = []; course = begun; told = ended }

pub listened-more : {pages : List (List Node)} {nodes : List Node} {tree new : Tree} {was mid now was_gone mid_gone now_gone : List Ear}
    → Listened pages tree was mid was_gone mid_gone → Hears tree nodes (Ok new) mid now mid_gone now_gone → Listened (pages ++ nodes ∷ []) new was now was_gone now_gone
listened-more {new} heard (all follows told) = record {
  changes = heard.changes ++ new.changes;
  course = onward heard.course follows;
  told = each-append heard.told told;
}

-- ---- what code answers

-- the page found no memory
pub hears-none : {tree : Tree} {nodes : List Node} {list gone : List Ear} (result : Result Tree Wants) → OnOk result ⊥ → Hears tree nodes result list list gone gone
hears-none (Ok new) never = absurd never
hears-none (Err wants) never = none

-- there was none to tell of a change
pub hears-some : {tree new : Tree} {nodes : List Node} {changes : List Change} {was now was_gone now_gone : List Ear} (result : Result Tree Wants) → OnOk result ⊥ → (told : Result (Unit {0}) Wants) → (wants : Wants) → told ≡ Err wants
    → Follows tree nodes new → changes ≡ new.changes → TellsEach changes told was now was_gone now_gone → Hears tree nodes result was now was_gone now_gone
hears-some (Ok new) never told wants is follows same each = absurd never
hears-some {changes} {was} {now} {was_gone} {now_gone} (Err w) never told wants is follows same each =
    some follows (subst (λ cs. TellsEach cs (Err wants) was now was_gone now_gone) same (subst (λ t. TellsEach changes t was now was_gone now_gone) is each))

-- all was told
pub hears-all : {tree new : Tree} {nodes : List Node} {changes : List Change} {was now was_gone now_gone : List Ear} (told : Result (Unit {0}) Wants) → (u : Unit {0}) → told ≡ Ok u → Follows tree nodes new
    → changes ≡ new.changes → TellsEach changes told was now was_gone now_gone → Hears tree nodes (Ok new) was now was_gone now_gone
hears-all {changes} {was} {now} {was_gone} {now_gone} told u is follows same each =
    all follows (subst (λ cs. TellsEach cs (Ok tt) was now was_gone now_gone) same (subst (λ t. TellsEach changes t was now was_gone now_gone) is each))
