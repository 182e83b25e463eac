use Rattle.std.proofs.Common.{List, ap, refl, subst, sym, ◌++◌, ◌∙◌, ◌≡◌}
use Rattle.proc_syntax.specs.declared.call.Block.{Block}
use Rattle.cluster_run.proofs.Ends.{fed_of, node_of_same}
use Rattle.cluster_run.specs.Standing.{delivered_by}
use Rattle.serial_laws.specs.Chained.{AreNumbered}
use Rattle.turn_lock.specs.Passes.{pass_base}
use Rattle.cluster_run.proofs.node.run_node.Goals as goal

pub close_node-requires-clause-processed : goal.close_node-requires-clause-processed
close_node-requires-clause-processed g c = let own = c.in_ok-own.ensures.processed in record { stands = own.stands; processor = own.processor; alone = own.alone; base = refl; rests = own.rests; delivers = refl }

pub close_node-requires-clause-numbered : goal.close_node-requires-clause-numbered
close_node-requires-clause-numbered g c =
    let blocks : List Block = c.args.crew.now.blocks.now in
    let delivers : delivered_by c.in_ok-own.own ≡ blocks = c.in_ok-own.ensures.processed.delivers ∙ ap (λ (first : List Block). first ++ blocks) c.in_ok-node.ensures.processed.delivers in
    subst (AreNumbered 1) (sym delivers) c.requires.numbered

pub returns-clause-node : goal.returns-clause-node
returns-clause-node g c =
    let blocks : List Block = c.args.crew.now.blocks.now in
    let base : pass_base c.in_ok-own.own ≡ c.args.app.now.value.app = c.in_ok-own.ensures.processed.base ∙ c.in_ok-node.ensures.processed.base in
    let delivers : delivered_by c.in_ok-own.own ≡ blocks = c.in_ok-own.ensures.processed.delivers ∙ ap (λ (first : List Block). first ++ blocks) c.in_ok-node.ensures.processed.delivers in
    node_of_same (pass_base c.in_ok-own.own) c.args.app.now.value.app (delivered_by c.in_ok-own.own) blocks c.close_node.result base delivers c.close_node.ensures.node

pub returns-clause-fed : goal.returns-clause-fed
returns-clause-fed g c = fed_of c.in_ok-own.own c.args.crew.now.executors c.args.crew.now.arrivals.now c.in_ok-own.ensures.brings c.close_node.result c.close_node.ensures.fed
