use Rattle.std.proofs.Common.{◌≡◌, ◌<◌, suc, ◌-◌, length, drop, arith, ap, sym, ◌∙◌}
use Rattle.std.specs.FinMap.Entries.{put}
use Rattle.rel_base.specs.Schema.{key_of_row}
use Rattle.rel_base.specs.Value.{key_cmp}
use Rattle.rel_base.specs.OwnWrites.{keyed}
use Rattle.row_sets.proofs.Filling.{put_before}
use Rattle.row_sets.proofs.merge.by_key.Goals as goal

pub loop-i-preserved : goal.loop-i-preserved
loop-i-preserved c =
    let def = c.args.def.now in
    let seens = c.args.seens.now in
    let seen = c.index-seens-i.result in
    let low = c.loop-i-test.true in
    let next : suc (c.loop-i.i - 1) ≡ c.loop-i.i = omega (arith, low) in
    let below : c.loop-i.i - 1 < length seens = omega (arith, low, c.loop-i.invariant.1) in (
      c.in_ok-put_seen.ensures
          ∙ ap (put key_cmp (key_of_row def seen.row) seen.row) (c.loop-i.invariant.0 ∙ ap (λ j. keyed def (drop j seens)) (sym next))
          ∙ put_before def seens (c.loop-i.i - 1) seen below c.requires (sym c.index-seens-i.is),
      omega (arith, c.loop-i.invariant.1),
    )
