use Rattle.std.proofs.Common.{ap, length, rules, ◌∙◌, ◌≡◌}
use Rattle.block_work.proofs.Grown.{results_length}
use Rattle.block_work.proofs.chain.Chain.close.Goals as goal
use Rattle.node_model.specs.Fold.{all_rows, no_digest}
use Rattle.proc_syntax.specs.Declaring.{tables_of}
use Rattle.rel_base.specs.Tables.{tables_at}

pub returns-clause-report : goal.returns-clause-report
returns-clause-report g c = λ chain holds.
    let tables = tables_of c.args.self.app.value.app in
    let listed : c.in_ok-tables.tables ≡ all_rows (tables_at (length c.args.self.blocks) (g.V.Versions.history c.args.self.versions)) 0 (tables_of c.args.self.app.value.app) = search rules in
    let count : length c.args.self.blocks ≡ length chain = ap length holds.results ∙ results_length tables no_digest chain in
    let same = listed ∙ ap (λ height. all_rows (tables_at height (g.V.Versions.history c.args.self.versions)) 0 tables) count ∙ ap (λ writes. all_rows (tables_at (length chain) writes) 0 tables) holds.writes in
    λ i. record { blocks = holds.results i; tables = same i; journal = c.args.journal }
