use Rattle.std.proofs.Common.{List, [], ap, ◌∙◌, ◌+◌, ◌<◌, ◌≤◌, ℕ, length, slice_index_or, take, drop, sym, subst, rules}
use Rattle.std.proofs.lemmas.List.{drop_more, drop_all, take_all, take_more}
use Rattle.proc_syntax.specs.declared.call.Tx.{Tx}
use Rattle.order_queue.specs.Filled.{all_of}
use Rattle.order_queue.specs.Merge.{IsMerge}
use Rattle.order_queue.proofs.Dealt.{Dealing, dealt_then, dealt_all, ended}
use Rattle.order_queue.proofs.dealing.deal.Goals as goal

at_end : (lists rests : List (List Tx)) (from : List ℕ) (items : List Tx) (i : ℕ) → length from ≤ i → Dealing lists rests (take i from) (drop i from) items → Dealing lists rests from [] items
at_end lists rests from items i end d = subst (λ cs. Dealing lists rests from cs items) (drop_all i from end) (subst (λ cs. Dealing lists rests cs (drop i from) items) (take_all i from end) d)

pub loop-client-preserved : goal.loop-client-preserved
loop-client-preserved c =
    let i : ℕ = c.loop-client.client-index in
    let from = c.args.from.now in
    let within : i < length from = search rules in
    let client : ℕ = slice_index_or from i 0 in
    let first = c.next_of-tx.ensures.taken in (
      dealt_then c.args.remaining c.loop-client.remaining c.next_of-tx.new.self (take i from) (take (i + 1) from) (drop i from) (drop (i + 1) from) (all_of c.loop-client.filling) (all_of c.add.new.self) client c.next_of-tx.result first.0
          c.loop-client.invariant.0 (drop_more from i 0 within) first.1 first.2 (take_more from i 0 within) c.in_ok-add.ensures.all,
      c.in_ok-add.ensures.filling,
    )

pub returns-clause-merge : goal.returns-clause-merge
returns-clause-merge c =
    let from = c.args.from.now in
    let items = all_of c.loop-client.filling in
    let d = at_end c.args.remaining c.loop-client.remaining from items c.loop-client.client-index (search rules) c.loop-client.invariant.0 in
    subst (IsMerge c.args.remaining from) (sym c.in_ok-blocks.ensures.all) (ended c.args.remaining c.loop-client.remaining from items c.requires.clients d)

pub returns-clause-all : goal.returns-clause-all
returns-clause-all c =
    let from = c.args.from.now in
    let items = all_of c.loop-client.filling in
    let d = at_end c.args.remaining c.loop-client.remaining from items c.loop-client.client-index (search rules) c.loop-client.invariant.0 in
    ap length c.in_ok-blocks.ensures.all ∙ dealt_all c.args.remaining c.loop-client.remaining from items d
