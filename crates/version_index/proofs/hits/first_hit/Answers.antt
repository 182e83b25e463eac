use Rattle.std.proofs.Common.{◌≡◌, ◌∙◌, ◌<◌, ◌≤◌, ◌⊎◌, inl, inr, ℕ, ap, arith, below_more, false, sym}
use Rattle.std.proofs.lemmas.List.{length-map}
use Rattle.std.proofs.lemmas.List.Elements.{All-contains}
use Rattle.rel_base.specs.Access.{WriteFits, read_table}
use Rattle.rel_base.proofs.Bits.{not_true}
use Rattle.row_sets.specs.Watched.{is_watched}
use Rattle.row_sets.specs.Log.{history_of, stamped_of}
use Rattle.version_index.specs.Numbers.{passes, passes_at}
use Rattle.version_index.proofs.Logged.{contains_got, get_history}
use Rattle.version_index.proofs.Points.{at_below, below_or}
use Rattle.version_index.proofs.hits.first_hit.Goals as goal

pub is_hit-requires-clause-write_fits : goal.is_hit-requires-clause-write_fits
is_hit-requires-clause-write_fits c =
    let entry = c.entry_at.result.now in
    let there = get_history c.args.entries.now c.loop-number.number entry c.entry_at.ensures in
    λ same. All-contains (λ s. s.1.write.table ≡ read_table c.args.watch.now.read.now → WriteFits c.args.watch.now.def.now s.1.write) (history_of c.args.entries.now) (stamped_of entry) c.requires.fits
    (contains_got (history_of c.args.entries.now) c.loop-number.number (stamped_of entry) there) (sym same)

pub returns-then-is_hit : goal.returns-then-is_hit
returns-then-is_hit c =
    let there = get_history c.args.entries.now c.loop-number.number c.entry_at.result.now c.entry_at.ensures in (
      c.loop-number.auto.number,
      ap (passes (is_watched c.args.watch.now)) there ∙ sym c.is_hit.ensures ∙ c.if-is_hit.true,
      c.loop-number.invariant,
    )

pub loop-number-preserved : goal.loop-number-preserved
loop-number-preserved c =
    let test = is_watched c.args.watch.now in
    let there = get_history c.args.entries.now c.loop-number.number c.entry_at.result.now c.entry_at.ensures in
    λ j low before. below_more (λ (k : ℕ). c.args.start ≤ k → passes_at test (history_of c.args.entries.now) k ≡ false) c.loop-number.number (λ k below up. c.loop-number.invariant k up below)
    (λ up. ap (passes test) there ∙ sym c.is_hit.ensures ∙ c.if-is_hit.false) j before low

-- after the log there is no write
pub returns : goal.returns
returns c = λ j low. either j low (below_or j c.loop-number.number)
  where
    either : (j : ℕ) → c.args.start ≤ j → (j < c.loop-number.number) ⊎ (c.loop-number.number ≤ j) → passes_at (is_watched c.args.watch.now) (history_of c.args.entries.now) j ≡ false
    either j low (inl below) = c.loop-number.invariant j low below
    either j low (inr past) =
        not_true (passes_at (is_watched c.args.watch.now) (history_of c.args.entries.now) j)
        (λ passing_it. let inside = at_below (is_watched c.args.watch.now) (history_of c.args.entries.now) j passing_it in
        let end = c.loop-number-test.false in
        let same = length-map c.args.entries.now stamped_of in
        omega (arith, past, inside, end, same))
