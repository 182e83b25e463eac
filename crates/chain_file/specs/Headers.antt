-- The four headers of a block file.
use Rattle.std.specs.Prelude.{ℕ, List, [], ◌∷◌, ◌++◌, cond, Option, Some, None, codes}
use Rattle.std.specs.Option.{option_map}
use Rattle.std.specs.Str.{bytes_eq}
use Rattle.chain_file.specs.declared.form.ChainVersion.{ChainVersion}
use Rattle.chain_file.specs.declared.form.ChainVersion.TheVariants as version
use Rattle.chain_file.specs.declared.form.FileKind.{FileKind}
use Rattle.chain_file.specs.declared.form.FileKind.TheVariants as file
use Rattle.chain_file.specs.declared.form.FileForm.{FileForm}
use Rattle.tx_text.specs.Parts.{parts_of}

-- drafts and chains of a version
abbrev pub draft_form : ChainVersion → FileForm
draft_form v = record { kind = file.Draft; version = v }

abbrev pub chain_form : ChainVersion → FileForm
chain_form v = record { kind = file.Chain; version = v }

abbrev pub kind_text : FileKind → List ℕ
kind_text file.Draft = codes "draft "
kind_text file.Chain = codes "chain "

abbrev pub version_text : ChainVersion → List ℕ
version_text version.One = codes "1"
version_text version.Two = codes "2"

-- the first line of a file
abbrev pub header_text : FileForm → List ℕ
header_text f = kind_text f.kind ++ version_text f.version

-- a form, where a line is its header
abbrev pub form_or : FileForm → List ℕ → Option FileForm → Option FileForm
form_or f line other = cond (bytes_eq line (header_text f)) (Some f) other

-- the form whose header a line is
abbrev pub form_said : List ℕ → Option FileForm
form_said line = form_or (draft_form version.One) line (form_or (draft_form version.Two) line (form_or (chain_form version.One) line (form_or (chain_form version.Two) line None)))

-- the first of some lines is whole, where another part follows it
abbrev pub form_first : List (List ℕ) → Option FileForm
form_first [] = None
form_first (rest ∷ []) = None
form_first (line ∷ part ∷ parts) = form_said line

-- the form of a file, where its first line is whole and a header
abbrev pub file_form : List ℕ → Option FileForm
file_form bytes = form_first (parts_of bytes)

-- the form of bytes, where no form is known before them
abbrev pub form_after : Option FileForm → List ℕ → Option FileForm
form_after None bytes = file_form bytes
form_after (Some f) bytes = Some f

-- and the version
abbrev pub version_of : List ℕ → Option ChainVersion
version_of bytes = option_map (λ f. f.version) (file_form bytes)
