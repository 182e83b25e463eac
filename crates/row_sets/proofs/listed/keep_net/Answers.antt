use Rattle.std.proofs.Common.{◌≡◌, ◌<◌, ◌-◌, ◌∙◌, suc, drop, length, true, false, arith, ap, sym}
use Rattle.std.specs.Prelude.{slice_index_or}
use Rattle.std.specs.List.{remove}
use Rattle.row_sets.specs.Listed.{is_nothing, listed}
use Rattle.row_sets.specs.Overlay.{net_writes}
use Rattle.row_sets.proofs.Listing.{left_there, net_from, still_there, taken_out}
use Rattle.row_sets.proofs.listed.keep_net.Goals as goal

-- a write that comes to nothing is taken out
pub loop-place-preserved-then-is_nothing : goal.loop-place-preserved-then-is_nothing
loop-place-preserved-then-is_nothing c =
    let old = c.args.writes.now.items in
    let now = c.loop-place.writes.items in
    let write = c.index.result.now in
    let low = c.loop-place-test.true in
    let n = c.loop-place.place - 1 in
    let next : suc n ≡ c.loop-place.place = omega (arith, low) in
    let below : n < length old = omega (arith, low, c.loop-place.invariant.1) in
    let whole : now ≡ net_from (suc n) old = c.loop-place.invariant.0 ∙ ap (λ m. net_from m old) (sym next) in
    let here : slice_index_or old n write ≡ write = sym (still_there old (net_writes (listed (drop (suc n) old))) n write below) ∙ ap (λ ws. slice_index_or ws n write) (sym whole) ∙ sym c.index.ensures in
    let nothing : is_nothing (slice_index_or old n write) ≡ true = ap is_nothing here ∙ sym c.is_nothing.ensures ∙ c.if-is_nothing.true in (
      c.take_out.ensures ∙ ap (λ ws. remove ws n) whole ∙ taken_out old n write below nothing,
      omega (arith, c.loop-place.invariant.1),
    )

-- another stays
pub loop-place-preserved : goal.loop-place-preserved
loop-place-preserved c =
    let old = c.args.writes.now.items in
    let now = c.loop-place.writes.items in
    let write = c.index.result.now in
    let low = c.loop-place-test.true in
    let n = c.loop-place.place - 1 in
    let next : suc n ≡ c.loop-place.place = omega (arith, low) in
    let below : n < length old = omega (arith, low, c.loop-place.invariant.1) in
    let whole : now ≡ net_from (suc n) old = c.loop-place.invariant.0 ∙ ap (λ m. net_from m old) (sym next) in
    let here : slice_index_or old n write ≡ write = sym (still_there old (net_writes (listed (drop (suc n) old))) n write below) ∙ ap (λ ws. slice_index_or ws n write) (sym whole) ∙ sym c.index.ensures in
    let something : is_nothing (slice_index_or old n write) ≡ false = ap is_nothing here ∙ sym c.is_nothing.ensures ∙ c.if-is_nothing.false in (
      whole ∙ left_there old n write below something,
      omega (arith, c.loop-place.invariant.1),
    )
