use Rattle.report_text.proofs.Utf8.{utf8_pushed, utf8_value}
use Rattle.report_text.proofs.text.Text.push_value.Goals as goal

pub invariant_of-self-2 : goal.invariant_of-self-2
invariant_of-self-2 c = utf8_pushed _ _ _ c.in_ok-push_value.ensures.ok c.self.invariant (utf8_value c.args.value.now c.push_value.ensures.sound)
