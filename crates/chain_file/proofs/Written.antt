-- A chain file that is written block by block, or as it was read.
use Rattle.std.proofs.Common.{List, Some, None, [], ap, sym, ◌++◌, ◌∙◌, ◌≡◌, ℕ}
use Rattle.std.proofs.lemmas.List.{append-nil}
use Rattle.proc_syntax.specs.declared.call.Block.{Block}
use Rattle.chain_file.specs.declared.form.ChainVersion.{ChainVersion}
use Rattle.chain_file.specs.declared.form.FileForm.{FileForm}
use Rattle.chain_file.specs.Chain.{chain}
use Rattle.chain_file.specs.ChainText.{chain_text, sealed_text}
use Rattle.chain_file.specs.Headers.{chain_form, file_form, version_of}
use Rattle.chain_file.specs.Text.{blocks_text, file_text}
use Rattle.std.specs.Option.{option_map}
use Rattle.chain_file.proofs.Chained.{file_spelled}
use Rattle.chain_file.proofs.Forms.{begins_so}

-- the version of a form
pub version_is : (bytes : List ℕ) (f : FileForm) → file_form bytes ≡ Some f → version_of bytes ≡ Some f.version
version_is bytes f e = ap (option_map (λ g. g.version)) e

-- bytes without a fault are the text of their blocks in their form
pub form_spelled : (bytes : List ℕ) (f : FileForm) → file_form bytes ≡ Some f → (chain bytes).1 ≡ None → bytes ≡ file_text f (chain bytes).0
form_spelled bytes f e none =
    let found = begins_so bytes f e in
    let blocks : List Block = (chain bytes).0 in
    found.1 ∙ file_spelled f found.0 blocks (ap chain (sym found.1) ∙ ap (λ fault. (blocks, fault)) none)

-- so a chain is its own sealed text
pub same_spelled : (bytes : List ℕ) (v : ChainVersion) → file_form bytes ≡ Some (chain_form v) → (chain bytes).1 ≡ None → bytes ≡ sealed_text (version_of bytes) (chain bytes).0
same_spelled bytes v e none = form_spelled bytes (chain_form v) e none ∙ ap (λ found. sealed_text found (chain bytes).0) (sym (version_is bytes (chain_form v) e))

-- without a header nothing is sealed
pub none_spelled : (bytes : List ℕ) (blocks : List Block) → file_form bytes ≡ None → [] ≡ sealed_text (version_of bytes) blocks
none_spelled bytes blocks e = sym (ap (λ found. sealed_text (option_map (λ g. g.version) found) blocks) e)

-- blocks that were written in the version
pub anew_spelled : (bytes text : List ℕ) (v : ChainVersion) (blocks : List Block) → version_of bytes ≡ Some v → text ≡ chain_text v blocks → text ≡ sealed_text (version_of bytes) blocks
anew_spelled bytes text v blocks e is = is ∙ ap (λ found. sealed_text found blocks) (sym e)

-- after the last block nothing follows
pub spells_all : (text digits : List ℕ) (v : ChainVersion) (blocks : List Block) → ((more : List Block) → text ++ blocks_text (chain_form v) digits more ≡ chain_text v (blocks ++ more)) → text ≡ chain_text v blocks
spells_all text digits v blocks spells = sym (append-nil text) ∙ spells [] ∙ ap (chain_text v) (append-nil blocks)
