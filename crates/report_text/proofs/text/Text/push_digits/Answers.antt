use Rattle.std.proofs.Common.{subst, sym}
use Rattle.std.specs.Str.{IsUtf8}
use Rattle.report_text.proofs.Utf8.{utf8_digits, utf8_pushed}
use Rattle.report_text.proofs.text.Text.push_digits.Goals as goal

pub invariant_of-self-2 : goal.invariant_of-self-2
invariant_of-self-2 c =
    let digits = subst IsUtf8 (sym c.digits_of.ensures) (utf8_digits c.args.digest.now) in
    utf8_pushed _ _ _ c.in_ok-extend_from_slice.ensures.items c.self.invariant digits
