use Rattle.std.proofs.Common.{◌≡◌, drop}
use Rattle.query_text.specs.Walk.{each, scope_of, walk_item, with_made}
use Rattle.query_text.proofs.selected.walk_items.Given as goal

abbrev pub invariant-loop-item : goal.invariant-loop-item
invariant-loop-item l =
    with_made l.made (each (walk_item (scope_of l.sources) l.groups.grouped l.groups.columns.now) (drop l.item-index l.items)) ≡ each (walk_item (scope_of l.sources) l.groups.grouped l.groups.columns.now) l.items
