use Rattle.report_text.proofs.Utf8.{utf8_literal, utf8_pushed}
use Rattle.report_text.proofs.text.Text.push_quoted.Goals as goal

pub invariant_of-self-2 : goal.invariant_of-self-2
invariant_of-self-2 c = utf8_pushed _ _ _ c.in_ok-push_text.ensures.ok c.self.invariant (utf8_literal c.as_str.result.now (rw c.as_str.ensures.value c.as_str.ensures.plain) c.as_str.utf8)
