use Rattle.std.proofs.Common.{◌∙◌}
use Rattle.load_gen.specs.Application.{app_text}
use Rattle.load_gen.proofs.application.app_text.Goals as goal

pub returns : goal.returns
unfolding app_text
returns c = c.from_vec.ensures ∙ c.in_ok-bytes.ensures.items ∙ c.as_bytes.ensures.value
