use Rattle.chain_file.proofs.Forms.{whole_version}
use Rattle.chain_file.proofs.laws.whole_files_have_versions.Goals as goal

pub returns : goal.returns
returns c = whole_version
