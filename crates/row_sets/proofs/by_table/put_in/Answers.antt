use Rattle.std.proofs.Common.{◌≡◌, ap, sym, subst, ◌∙◌, IfOk, Option, Some, None, cond, is_some, not, ℕ}
use Rattle.std.specs.BTreeMap.{BTreeMap, is_at}
use Rattle.std.specs.FinMap.{FinMap, empty}
use Rattle.std.specs.Map.{lookup}
use Rattle.std.specs.Option.{option_copied_mut}
use Rattle.std.specs.Ordering.{nat_cmp}
use Rattle.std.proofs.lemmas.Map.Steps.{set_value_same}
use Rattle.rel_base.specs.Value.{key_cmp}
use Rattle.row_sets.specs.Overlay.{put_own}
use Rattle.row_sets.specs.declared.table_writes.OwnWrite.{OwnWrite}
use Rattle.row_sets.proofs.Endings.{on_ok_then, on_err_then}
use Rattle.row_sets.proofs.Flat.{flat_put, get_in, new_key, none_in}
use Rattle.row_sets.proofs.by_table.put_in.Goals as goal

abbrev Rows : Type 0
Rows = FinMap key_cmp OwnWrite

-- a table that was written
pub returns-in-Some-clause-put : goal.returns-in-Some-clause-put
returns-in-Some-clause-put c =
    let tables = c.args.tables.now.entries in
    let own : Rows = c.in-Some.writes.now in
    let looked : lookup (is_at (nat_cmp c.args.table)) tables ≡ Some own = sym c.get_mut.ensures.value ∙ ap option_copied_mut c.in-Some.is in
    let holds = c.get_mut.follows.holds c.put.new.self in
    on_ok_then c.put.result (λ is. flat_put tables c.get_mut.ensures.ordered c.args.table own (λ key. ap (λ found. get_in found key) (sym looked)) c.args.key
    (c.get_mut.follows.lender c.put.new.self).entries holds.4 c.args.before c.args.after
    (subst (λ (next : Rows). (n : ℕ) → lookup (is_at (nat_cmp n)) (c.get_mut.follows.lender c.put.new.self).entries ≡ cond (is_at (nat_cmp c.args.table) n) (Some next) (lookup (is_at (nat_cmp n)) tables)) is (holds.3 (ap is_some looked)).0))
    c.put.ensures.put

pub returns-in-Some-clause-first : goal.returns-in-Some-clause-first
returns-in-Some-clause-first c =
    let tables = c.args.tables.now.entries in
    let own : Rows = c.in-Some.writes.now in
    let looked : lookup (is_at (nat_cmp c.args.table)) tables ≡ Some own = sym c.get_mut.ensures.value ∙ ap option_copied_mut c.in-Some.is in
    subst (λ new. IfOk c.put.result (λ first. first ≡ new)) (new_key tables c.get_mut.ensures.ordered c.args.table own (λ key. ap (λ found. get_in found key) (sym looked)) c.args.key) c.put.ensures.first

pub returns-in-Some-clause-unchanged : goal.returns-in-Some-clause-unchanged
returns-in-Some-clause-unchanged c =
    let tables = c.args.tables.now.entries in
    let own : Rows = c.in-Some.writes.now in
    let looked : lookup (is_at (nat_cmp c.args.table)) tables ≡ Some own = sym c.get_mut.ensures.value ∙ ap option_copied_mut c.in-Some.is in
    on_err_then c.put.result (λ is. (c.get_mut.follows.holds c.put.new.self).0 ∙ set_value_same (is_at (nat_cmp c.args.table)) tables c.put.new.self (looked ∙ ap Some (sym is))) c.put.ensures.unchanged

-- a table that was not written
pub returns-clause-put : goal.returns-clause-put
returns-clause-put c =
    let tables = c.args.tables.now.entries in
    let looked : lookup (is_at (nat_cmp c.args.table)) tables ≡ None = sym c.get_mut.ensures.value ∙ ap option_copied_mut c.in_default.is in
    let is = c.in_ok-put.ensures.put ∙ ap (λ (own : Rows). put_own own c.args.key c.args.before c.args.after) c.new-writes.ensures in
    flat_put tables c.get_mut.ensures.ordered c.args.table empty (λ key. none_in key ∙ ap (λ (found : Option Rows). get_in found key) (sym looked)) c.args.key
    c.insert.new.self.entries c.insert.ensures.ordered c.args.before c.args.after
    (subst (λ (next : Rows). (n : ℕ) → lookup (is_at (nat_cmp n)) c.insert.new.self.entries ≡ cond (is_at (nat_cmp c.args.table) n) (Some next) (lookup (is_at (nat_cmp n)) tables)) is
    (subst (λ (maps : BTreeMap ℕ Rows). (n : ℕ) → lookup (is_at (nat_cmp n)) c.insert.new.self.entries ≡ cond (is_at (nat_cmp c.args.table) n) (Some c.put-2.new.self) (lookup (is_at (nat_cmp n)) maps.entries)) c.get_mut.follows.holds-at-none c.in_ok-insert.ensures.updates.0))

pub returns-clause-first : goal.returns-clause-first
returns-clause-first c =
    let tables = c.args.tables.now.entries in
    let looked : lookup (is_at (nat_cmp c.args.table)) tables ≡ None = sym c.get_mut.ensures.value ∙ ap option_copied_mut c.in_default.is in
    ap (λ (found : Option OwnWrite). not (is_some found)) (sym (none_in c.args.key))
    ∙ new_key tables c.get_mut.ensures.ordered c.args.table empty (λ key. none_in key ∙ ap (λ (found : Option Rows). get_in found key) (sym looked)) c.args.key
