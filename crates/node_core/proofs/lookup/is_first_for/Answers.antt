use Rattle.std.proofs.Common.{Some, ap, arith, length, rules, slice_get, sym, ◌∙◌, ◌≡◌}
use Rattle.node_core.proofs.Walks.{first_at, here_of, links_all}
use Rattle.node_core.proofs.lookup.is_first_for.Goals as goal

pub older-requires : goal.older-requires
older-requires c =
    let all : length c.args.index.now.older.items ≡ length c.args.rows.now = links_all c.args.rows.now c.args.index.now c.requires.indexed in
    omega (arith, all, c.requires.within)

pub returns : goal.returns
returns c passes =
    let row = c.index-rows-place.result in
    let here : slice_get c.args.rows.now c.args.place ≡ Some row = here_of c.args.rows.now c.args.place row row c.requires.within c.index-rows-place.is in
    let none : c.older.result ≡ 0 = search rules in
    first_at c.args.tx.now c.args.rows.now c.args.index.now c.args.place row c.requires.indexed here (c.older.ensures ∙ ap Some none) (sym c.is_for.ensures ∙ passes)
