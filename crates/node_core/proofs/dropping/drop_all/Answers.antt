use Rattle.std.proofs.Common.{List, [], ap, length, map, rules, subst, sym, take, ◌++◌, ◌<◌, ◌∙◌, ◌≤◌, ◌∷◌}
use Rattle.std.proofs.lemmas.List.{map-append, take_all, take_more}
use Rattle.node_core.proofs.Dropped_rows.{all_both, all_none, ids_dropped}
use Rattle.node_core.specs.ById.{Indexes, ids_of}
use Rattle.node_core.specs.Over.{drop_among}
use Rattle.proc_syntax.specs.declared.call.Tx.{Tx}
use Rattle.node_core.proofs.dropping.drop_all.Goals as goal

pub loop-tx-init : goal.loop-tx-init
loop-tx-init c = all_none c.args.rows.now.items

pub drop_id-requires : goal.drop_id-requires
drop_id-requires c =
    let front = map (λ (tx : Tx). tx.id) (take c.loop-tx.tx-index c.args.txs.now) in
    subst (Indexes c.args.index.now) (sym (ap ids_of c.loop-tx.invariant ∙ ids_dropped front c.args.rows.now.items)) c.requires

pub loop-tx-preserved : goal.loop-tx-preserved
loop-tx-preserved c =
    let within : c.loop-tx.tx-index < length c.args.txs.now = search rules in
    let front = take c.loop-tx.tx-index c.args.txs.now in
    let ids = map (λ (tx : Tx). tx.id) front in
    let id = c.tx-item.result.id in
    let more = take_more c.args.txs.now c.loop-tx.tx-index c.tx-item.result within ∙ ap (λ tx. front ++ tx ∷ []) (sym c.tx-item.is) in
    c.drop_id.ensures ∙ ap (map (drop_among (id ∷ []))) c.loop-tx.invariant ∙ all_both ids (id ∷ []) c.args.rows.now.items
    ∙ ap (λ all. map (drop_among all) c.args.rows.now.items) (sym (ap (map (λ (tx : Tx). tx.id)) more ∙ map-append (λ (tx : Tx). tx.id) front (c.tx-item.result ∷ [])))

pub returns : goal.returns
returns c =
    let end : length c.args.txs.now ≤ c.loop-tx.tx-index = search rules in
    c.loop-tx.invariant ∙ ap (λ (txs : List Tx). map (drop_among (map (λ (tx : Tx). tx.id) txs)) c.args.rows.now.items) (take_all c.loop-tx.tx-index c.args.txs.now end)
