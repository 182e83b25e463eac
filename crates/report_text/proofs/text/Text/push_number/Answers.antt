use Rattle.report_text.proofs.Utf8.{utf8_number, utf8_pushed}
use Rattle.report_text.proofs.text.Text.push_number.Goals as goal

pub invariant_of-self-2 : goal.invariant_of-self-2
invariant_of-self-2 c = utf8_pushed _ _ _ c.in_ok-push_number.ensures.ok c.self.invariant (utf8_number c.args.number c.ranges.number.fits)
