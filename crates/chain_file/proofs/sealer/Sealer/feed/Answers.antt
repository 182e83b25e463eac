use Rattle.std.proofs.Common.{◌++◌}
use Rattle.chain_file.proofs.sealer.Sealer.feed.Goals as goal

pub returns-clause-follows : goal.returns-clause-follows
returns-clause-follows c = λ bytes seals.
    let fed = c.in_ok-fed.ensures.follows bytes seals.0 in
    let given = c.in_ok-fed.ensures.fed bytes seals.0 in
    (fed, c.in_ok-keep.ensures bytes seals.1 (c.form-form.ensures (bytes ++ c.args.piece.now) fed) given.0)
