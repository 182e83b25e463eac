use Rattle.std.proofs.Common.{ℕ, List, ◌++◌, refl}
use Rattle.tx_text.specs.Parts.{line_text}
use Rattle.chain_file.specs.Resumed.{behind_end}
use Rattle.chain_file.proofs.Resumed.{ends_resume}
use Rattle.chain_file.proofs.resume.end_going.Goals as goal

pub returns-clause-resumes : goal.returns-clause-resumes
returns-clause-resumes c = λ kept digits bytes knows.
    let all : List ℕ = bytes ++ line_text c.args.line.now in
    ends_resume kept c.args.going all c.args.after.now c.in_ok-read.read c.blank_block.result _
    (c.in_ok-read.ensures (behind_end c.args.going all) (refl, refl, refl, c.end.ensures digits bytes knows)) c.in_ok-blocks.ensures
