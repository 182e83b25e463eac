use Rattle.report_text.proofs.Utf8.{utf8_pushed}
use Rattle.report_text.proofs.text.Text.push.Goals as goal

pub invariant_of-self-2 : goal.invariant_of-self-2
invariant_of-self-2 c = utf8_pushed _ _ _ c.in_ok-extend_from_slice.ensures.items c.self.invariant c.as_bytes.ensures.utf8
