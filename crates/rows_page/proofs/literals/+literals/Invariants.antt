use Rattle.std.proofs.Common.{◌+◌, ◌*◌}
use Rattle.rows_page.proofs.literals.+literals.Given as goal

abbrev pub decreases-push_within : goal.decreases-push_within
decreases-push_within l = l.room * 2 + 1

abbrev pub decreases-push_items : goal.decreases-push_items
decreases-push_items l = l.room * 2

abbrev pub decreases-push_fields : goal.decreases-push_fields
decreases-push_fields l = l.room * 2
