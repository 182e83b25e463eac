use Rattle.std.proofs.Common.{◌≡◌, ◌∙◌, arith, inl, inr, refl}
use Rattle.std.proofs.lemmas.Bool.{cases_lt}
use Rattle.std.proofs.lemmas.List.{length-set}
use Rattle.sha_lanes.proofs.Lanes.{put_lane, set_lane, splat_lane}
use Rattle.sha_lanes.proofs.words.add_numbers.Goals as goal

pub numbers-preserved : goal.numbers-preserved
numbers-preserved c = (
  length-set c.numbers.words c.numbers.place c.add.result ∙ c.numbers.invariant.0,
  λ lane other low below.
      elim (cases_lt other c.numbers.place) [
        | inl lt ↦ set_lane c.numbers.words c.numbers.place other lane c.add.result (omega arith) ∙ c.numbers.invariant.1 lane other low lt
        | inr ge ↦
            let same : other ≡ c.numbers.place = omega arith in
            rw same (put_lane c.numbers.words c.numbers.place lane c.add.result (omega (arith, c.numbers.invariant.0)) ∙ c.add.ensures lane low
            ∙ rw (splat_lane c.round_number.result lane low, c.round_number.ensures, c.numbers.invariant.2 lane c.numbers.place (omega arith)) refl)
      ],
  λ lane other above. set_lane c.numbers.words c.numbers.place other lane c.add.result (omega arith) ∙ c.numbers.invariant.2 lane other (omega arith),
)
