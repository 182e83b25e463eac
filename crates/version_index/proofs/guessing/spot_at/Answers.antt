use Rattle.std.proofs.Common.{◌∙◌, is_some, sym}
use Rattle.version_index.proofs.Guessed.{entry_lives, entry_own, last_within, spot_lives, spot_own}
use Rattle.version_index.proofs.LastNumbers.{ends_with}
use Rattle.version_index.proofs.guessing.spot_at.Goals as goal

pub entry_at-requires : goal.entry_at-requires
entry_at-requires c =
    let end = ends_with _ c.in-Some.number (sym (c.last.ensures c.requires.3.lasts) ∙ c.in-Some.is) in
    last_within c.args.entries.now c.args.chains.now c.requires c.args.slot c.in-Some.number end.0 end.1

pub returns-in-Some-clause-slot : goal.returns-in-Some-clause-slot
returns-in-Some-clause-slot c =
    let end = ends_with _ c.in-Some.number (sym (c.last.ensures c.requires.3.lasts) ∙ c.in-Some.is) in
    let own = entry_own c.args.entries.now c.args.chains.now c.requires c.args.slot c.in-Some.number end.0 end.1 c.entry_at.result.now c.entry_at.ensures in
    spot_own c.args.chains.now c.args.key.now c.entry_at.result.now.placed.write.key c.args.slot c.spot_by.result own c.spot_by.ensures.slot c.spot_by.ensures.own

pub returns-in-Some-clause-lives : goal.returns-in-Some-clause-lives
returns-in-Some-clause-lives c =
    let end = ends_with _ c.in-Some.number (sym (c.last.ensures c.requires.3.lasts) ∙ c.in-Some.is) in
    let lives = entry_lives c.args.entries.now c.args.chains.now c.requires c.args.slot c.in-Some.number end.0 end.1 c.entry_at.result.now c.entry_at.ensures in
    spot_lives c.args.chains.now c.args.key.now c.entry_at.result.now.placed.write.key (is_some c.entry_at.result.now.placed.write.after) c.spot_by.result lives c.spot_by.ensures.lives c.spot_by.ensures.own
