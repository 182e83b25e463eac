-- A tuple of a group that is there already.
use Rattle.std.proofs.Common.{◌≡◌, ◌∙◌, List, Option, Some, Result, Ok, Err, ap, sym}
use Rattle.std.specs.BTreeMap.{BTreeMap, IsOrdered, get_by, insert_entry, is_at}
use Rattle.std.specs.Map.{lookup, set_value}
use Rattle.std.specs.Prelude.{OnOk}
use Rattle.rel_base.specs.Value.{key_cmp, key_cmp-total}
use Rattle.rel_base.specs.declared.access.Seen.{Seen}
use Rattle.rel_base.specs.declared.memory.NoMemory.{NoMemory}
use Rattle.rel_base.specs.declared.value.Value.{Value}
use Rattle.query_plan.proofs.Written.{set_is_insert}
use Rattle.query_plan.specs.Tallies.{next_tallies, put_tallies, with_tallies}
use Rattle.query_plan.specs.Walk.{plain_row}
use Rattle.query_plan.specs.declared.select.Col.{Col}
use Rattle.query_plan.specs.declared.select.Item.{Item}
use Rattle.query_plan.specs.declared.tally.Tally.{Tally}

pub of_written : (columns : List Col) (items : List Item) (groups : BTreeMap (List Value) (List Tally)) (tuple : List Seen) (key : List Value) (was next : List Tally) {U : Type 0} (result : Result U NoMemory) (new : BTreeMap (List Value) (List Tally))
    → key ≡ plain_row columns tuple → IsOrdered key_cmp groups → get_by (key_cmp key) groups ≡ Some was → new.entries ≡ set_value (is_at (key_cmp key)) groups.entries next → OnOk result (next ≡ next_tallies tuple was items)
    → OnOk result (new.entries ≡ put_tallies columns items groups.entries tuple)
of_written columns items groups tuple key was next (Err e) new is ordered there written after = tt
of_written columns items groups tuple key was next (Ok u) new is ordered there written after =
    written ∙ set_is_insert key_cmp key_cmp-total key next groups.entries was ordered there
    ∙ ap (insert_entry key_cmp groups.entries key) (after ∙ ap (λ (found : Option (List Tally)). with_tallies items tuple found) (sym there))
    ∙ ap (λ (k : List Value). insert_entry key_cmp groups.entries k (with_tallies items tuple (lookup (is_at (key_cmp k)) groups.entries))) is
