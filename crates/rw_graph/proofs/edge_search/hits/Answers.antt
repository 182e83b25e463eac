use Rattle.std.proofs.Common.{ap, refl, rules, subst, sym, true, ◌&&◌, ◌==◌, ◌∙◌, ◌≡◌}
use Rattle.std.specs.Cmp.Lexicographic.{lists_ties, pointwise}
use Rattle.rel_base.specs.Among.{ReadFitsIn}
use Rattle.rel_base.specs.Late.{hits_in}
use Rattle.rel_base.specs.Value.{key_eq, value_cmp, value_eq}
use Rattle.rw_graph.proofs.Points.{point_hits}
use Rattle.rw_graph.proofs.edge_search.hits.Goals as goal

pub returns-then-table-write : goal.returns-then-table-write
returns-then-table-write c =
    let tables = c.args.tables.now in
    let write = c.args.write.now in
    let same : (c.in-Point.table == write.table) ≡ true = search rules in
    let equal : c.eq.result ≡ pointwise value_eq write.key c.in-Point.key = search rules in
    equal ∙ lists_ties value_cmp (λ _ _. refl) write.key c.in-Point.key ∙ sym (ap (λ b. b && key_eq write.key c.in-Point.key) same)
    ∙ sym (point_hits tables c.in-Point.table c.in-Point.key write (subst (ReadFitsIn tables) c.in-Point.is c.requires.read) c.requires.write)
    ∙ ap (λ read. hits_in tables read write) (sym c.in-Point.is)
