use Rattle.std.proofs.Common.{◌≡◌, ◌∙◌, ◌<◌, ap, sym, subst, length, true, false}
use Rattle.std.specs.Option.{IfSome}
use Rattle.std.specs.Ordering.{is_gt}
use Rattle.rel_base.specs.Late.{stamp_cmp}
use Rattle.row_sets.proofs.Histories.{unwrapped}
use Rattle.row_sets.specs.Log.{history_of, stamped_of}
use Rattle.version_store.proofs.Leasts.{get_history, lesser_none, lesser_other, lesser_same}
use Rattle.version_store.proofs.hits.lesser_of.Goals as goal

pub entry_at-second-requires : goal.entry_at-second-requires
entry_at-second-requires c = subst (λ found. IfSome found (λ n. n < length c.args.log.now)) c.in-Some.is c.requires.other

pub returns-in-None-clause-lesser : goal.returns-in-None-clause-lesser
returns-in-None-clause-lesser c x here = lesser_none (history_of c.args.log.now) x c.args.other c.args.number here c.in-None.is

pub returns-then-is_gt-clause-lesser : goal.returns-then-is_gt-clause-lesser
returns-then-is_gt-clause-lesser c x here =
    let history = history_of c.args.log.now in
    let second = c.entry_at-second.result.now in
    let first_is = unwrapped (stamped_of c.entry_at-first.result.now) x (sym (get_history c.args.log.now c.args.number c.entry_at-first.result.now c.entry_at-first.ensures) ∙ here) in
    let there = get_history c.args.log.now c.in-Some.other second c.entry_at-second.ensures in
    let greater : is_gt (stamp_cmp x (stamped_of second)) ≡ true =
    ap (λ s. is_gt (stamp_cmp s (stamped_of second))) (sym first_is) ∙ ap is_gt (sym c.compare.ensures) ∙ sym c.is_gt.ensures ∙ c.if-is_gt.true in
    lesser_other history x c.args.other (stamped_of second) c.in-Some.other c.in-Some.is there greater

pub returns-else-is_gt-clause-lesser : goal.returns-else-is_gt-clause-lesser
returns-else-is_gt-clause-lesser c x here =
    let history = history_of c.args.log.now in
    let second = c.entry_at-second.result.now in
    let first_is = unwrapped (stamped_of c.entry_at-first.result.now) x (sym (get_history c.args.log.now c.args.number c.entry_at-first.result.now c.entry_at-first.ensures) ∙ here) in
    let there = get_history c.args.log.now c.in-Some.other second c.entry_at-second.ensures in
    let lower : is_gt (stamp_cmp x (stamped_of second)) ≡ false =
    ap (λ s. is_gt (stamp_cmp s (stamped_of second))) (sym first_is) ∙ ap is_gt (sym c.compare.ensures) ∙ sym c.is_gt.ensures ∙ c.if-is_gt.false in
    lesser_same history x c.args.other (stamped_of second) c.args.number c.in-Some.other here c.in-Some.is there lower
