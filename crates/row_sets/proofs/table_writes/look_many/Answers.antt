use Rattle.std.specs.Prelude.{unwrap_or}
use Rattle.std.proofs.Common.{◌≡◌, ap, sym, ◌∙◌, Option}
use Rattle.std.specs.FinMap.Entries.{find}
use Rattle.std.specs.Option.{option_copied, option_map}
use Rattle.rel_base.specs.Value.{key_cmp}
use Rattle.row_sets.specs.declared.table_writes.OwnWrite.{OwnWrite}
use Rattle.row_sets.proofs.Entries.{find_is_lookup}
use Rattle.row_sets.proofs.table_writes.look_many.Goals as goal

pub returns-in-None : goal.returns-in-None
returns-in-None c =
    let found : find key_cmp c.args.key.now c.args.many.now.entries ≡ option_copied c.get.result = find_is_lookup key_cmp c.args.key.now c.args.many.now.entries ∙ sym c.get.ensures.value in
    sym (ap (λ (found : Option OwnWrite). unwrap_or (option_map (λ own. own.after) found) (option_copied c.args.base)) (found ∙ ap option_copied c.in-None.is))

pub returns-in-Some : goal.returns-in-Some
returns-in-Some c =
    let found : find key_cmp c.args.key.now c.args.many.now.entries ≡ option_copied c.get.result = find_is_lookup key_cmp c.args.key.now c.args.many.now.entries ∙ sym c.get.ensures.value in
    c.row_of.ensures ∙ sym (ap (λ (found : Option OwnWrite). unwrap_or (option_map (λ own. own.after) found) (option_copied c.args.base)) (found ∙ ap option_copied c.in-Some.is))
