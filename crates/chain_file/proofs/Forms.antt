-- The form of a file is that of its first line, whatever bytes follow.
use Rattle.std.proofs.Common.{◌≡◌, ◌<◌, ◌≤◌, ℕ, List, [], ◌∷◌, ◌++◌, Bool, true, false, cond, Option, Some, None, length, refl, sym, ◌∙◌, ap, append_assoc, length-append, arith}
use Rattle.std.specs.Prelude.{Result, Ok, Err}
use Rattle.std.specs.List.{join_with_byte}
use Rattle.std.specs.Option.{option_map}
use Rattle.std.specs.Str.{bytes_eq}
use Rattle.std.proofs.lemmas.Bool.{ltb-true}
use Rattle.std.proofs.lemmas.List.Splits.{join_with_byte-slice_split}
use Rattle.proc_syntax.specs.declared.chain_fault.ChainFault.{ChainFault}
use Rattle.proc_syntax.specs.declared.chain_fault.ChainKind.TheVariants as kind
use Rattle.chain_file.specs.declared.form.ChainVersion.{ChainVersion}
use Rattle.chain_file.specs.declared.form.ChainVersion.TheVariants as version
use Rattle.chain_file.specs.declared.form.FileForm.{FileForm}
use Rattle.chain_file.specs.declared.form.FileKind.TheVariants as file
use Rattle.tx_text.specs.Parts.{is_long, line_text, onto, parts_of}
use Rattle.tx_text.proofs.Glued.{glue, glue_some, parts_glue, parts_some}
use Rattle.chain_file.specs.Chain.{Position, fault, fault_at_end, chain, front, onward, told, walk, walked}
use Rattle.chain_file.specs.Headers.{chain_form, draft_form, file_form, form_after, form_first, form_or, form_said, header_text, version_of}
use Rattle.chain_file.specs.Steps.{begins}
use Rattle.rel_base.proofs.Bytes.{equal_bytes}

-- a first part with others after it
pub first_said : (line : List ℕ) (parts : List (List ℕ)) → 0 < length parts → form_first (line ∷ parts) ≡ form_said line
first_said line [] some = absurd (omega (arith, some))
first_said line (part ∷ parts) some = refl

-- what the code finds: the first line of these bytes, or none
pub split_form : (bytes line after : List ℕ) → parts_of bytes ≡ line ∷ parts_of after → form_said line ≡ file_form bytes
split_form bytes line after split = sym (ap form_first split ∙ first_said line (parts_of after) (parts_some after))

pub no_form : (bytes : List ℕ) → parts_of bytes ≡ bytes ∷ [] → None ≡ file_form bytes
no_form bytes split = sym (ap form_first split)

-- ---- a line that is a header

-- a header is the text of its form
said_or : (f : FileForm) (line : List ℕ) (other : Option FileForm) (g : FileForm) (test : Bool) → bytes_eq line (header_text f) ≡ test → (other ≡ Some g → line ≡ header_text g)
    → cond test (Some f) other ≡ Some g → line ≡ header_text g
said_or f line other g true e more told =
    let same : f ≡ g = cc in
    equal_bytes line (header_text f) e ∙ ap header_text same
said_or f line other g false e more told = more told

said_by : (f : FileForm) (line : List ℕ) (other : Option FileForm) (g : FileForm) → (other ≡ Some g → line ≡ header_text g) → form_or f line other ≡ Some g → line ≡ header_text g
said_by f line other g more told = said_or f line other g (bytes_eq line (header_text f)) refl more told

pub said_header : (line : List ℕ) (g : FileForm) → form_said line ≡ Some g → line ≡ header_text g
said_header line g told =
    said_by (draft_form version.One) line _ g
    (said_by (draft_form version.Two) line _ g (said_by (chain_form version.One) line _ g (said_by (chain_form version.Two) line None g (λ none. absurd (cc))))) told

-- and the text of a form is its header
pub header_said : (f : FileForm) → form_said (header_text f) ≡ Some f
header_said f = by f.kind f.version
  where
    by : (k : _) (v : ChainVersion) → form_said (header_text (record { kind = k; version = v })) ≡ Some (record { kind = k; version = v })
    by file.Draft version.One = refl
    by file.Draft version.Two = refl
    by file.Chain version.One = refl
    by file.Chain version.Two = refl

pub header_short : (f : FileForm) → length (header_text f) ≤ 7
header_short f = by f.kind f.version
  where
    by : (k : _) (v : ChainVersion) → length (header_text (record { kind = k; version = v })) ≤ 7
    by file.Draft version.One = omega arith
    by file.Draft version.Two = omega arith
    by file.Chain version.One = omega arith
    by file.Chain version.Two = omega arith

-- a line that is too long is no header
none_if : (line : List ℕ) (found : Option FileForm) → form_said line ≡ found → 7 < length line → found ≡ None
none_if line None e long = refl
none_if line (Some f) e long = absurd (omega (arith, long, ap length (said_header line f e), header_short f))

long_none : (line : List ℕ) → 7 < length line → form_said line ≡ None
long_none line long = none_if line (form_said line) refl long

-- ---- a file that begins with a header

pub first_line_is : (parts : List (List ℕ)) (f : FileForm) → form_first parts ≡ Some f → (rest : List ℕ) × (join_with_byte 10 parts ≡ line_text (header_text f) ++ rest)
first_line_is [] f e = absurd (cc)
first_line_is (rest ∷ []) f e = absurd (cc)
first_line_is (line ∷ part ∷ parts) f e =
    (join_with_byte 10 (part ∷ parts), ap (λ first. first ++ (10 ∷ join_with_byte 10 (part ∷ parts))) (said_header line f e) ∙ sym (append_assoc (header_text f) (10 ∷ []) (join_with_byte 10 (part ∷ parts))))

pub begins_so : (bytes : List ℕ) (f : FileForm) → file_form bytes ≡ Some f → (rest : List ℕ) × (bytes ≡ line_text (header_text f) ++ rest)
begins_so bytes f e =
    let found = first_line_is (parts_of bytes) f e in
    (found.0, sym (join_with_byte-slice_split 10 bytes) ∙ found.1)

-- ---- more bytes

-- a form stays
first_stays : (parts more : List (List ℕ)) (f : FileForm) → 0 < length more → form_first parts ≡ Some f → form_first (glue parts more) ≡ Some f
first_stays [] more f some e = absurd (cc)
first_stays (rest ∷ []) more f some e = absurd (cc)
first_stays (line ∷ part ∷ parts) more f some e = first_said line (glue (part ∷ parts) more) (glue_some (part ∷ parts) more some) ∙ e

pub form_stays : (bytes more : List ℕ) (f : FileForm) → file_form bytes ≡ Some f → file_form (bytes ++ more) ≡ Some f
form_stays bytes more f e = ap form_first (parts_glue bytes more) ∙ first_stays (parts_of bytes) (parts_of more) f (parts_some more) e

-- and so does a version
version_by : (bytes more : List ℕ) (v : ChainVersion) (form : Option FileForm) → file_form bytes ≡ form → option_map (λ f. f.version) form ≡ Some v → version_of (bytes ++ more) ≡ Some v
version_by bytes more v None e is = absurd (cc)
version_by bytes more v (Some f) e is = ap (option_map (λ g. g.version)) (form_stays bytes more f e) ∙ is

pub version_stays : (bytes more : List ℕ) (v : ChainVersion) → version_of bytes ≡ Some v → version_of (bytes ++ more) ≡ Some v
version_stays bytes more v is = version_by bytes more v (file_form bytes) refl is

-- where a file stopped before a form was known, it has none
onto_none : (rest : List ℕ) (more : List (List ℕ)) → is_long rest ≡ true → form_first (onto rest more) ≡ None
onto_none rest [] long = refl
onto_none rest (part ∷ []) long = refl
onto_none rest (line ∷ part ∷ parts) long = long_none (rest ++ line) (omega (arith, ltb-true 4096 (length rest) long, length-append rest line))

-- what a part without a newline gives
abbrev part_gives : List ℕ → Bool → Result (Position × List ℕ) ChainFault
part_gives rest long = cond long (Err (fault front kind.LineTooLong)) (Ok (front, rest))

long_stopped : (rest : List ℕ) (found : ChainFault) (more : List (List ℕ)) (test : Bool) → is_long rest ≡ test
    → part_gives rest test ≡ Err found → form_first (onto rest more) ≡ None
long_stopped rest found more true long stopped = onto_none rest more long
long_stopped rest found more false long stopped = absurd (cc)

first_stopped : (parts more : List (List ℕ)) (found : ChainFault) → 0 < length more → form_first parts ≡ None → (walk front parts).1 ≡ Err found → form_first (glue parts more) ≡ None
first_stopped [] more found some e stopped = absurd (cc)
first_stopped (rest ∷ []) more found some e stopped = long_stopped rest found more (is_long rest) refl stopped
first_stopped (line ∷ part ∷ parts) more found some e stopped = first_said line (glue (part ∷ parts) more) (glue_some (part ∷ parts) more some) ∙ e

none_stopped : (bytes more : List ℕ) (found : ChainFault) → (walked bytes).1 ≡ Err found → file_form bytes ≡ None → file_form (bytes ++ more) ≡ None
none_stopped bytes more found stopped e = ap form_first (parts_glue bytes more) ∙ first_stopped (parts_of bytes) (parts_of more) found (parts_some more) e stopped

stopped_by : (bytes more : List ℕ) (found : ChainFault) (form : Option FileForm) → (walked bytes).1 ≡ Err found → file_form bytes ≡ form → file_form (bytes ++ more) ≡ form
stopped_by bytes more found None stopped e = none_stopped bytes more found stopped e
stopped_by bytes more found (Some f) stopped e = form_stays bytes more f e

pub form_stopped : (bytes more : List ℕ) (found : ChainFault) → (walked bytes).1 ≡ Err found → file_form (bytes ++ more) ≡ file_form bytes
form_stopped bytes more found stopped = stopped_by bytes more found (file_form bytes) stopped refl

-- where it did not stop, all of it stands in the line that has not ended
line_stopped : (line : List ℕ) (long : Bool) (form : Option FileForm) → form ≡ None → (found : ChainFault) × (told front line (cond long (Err kind.LineTooLong) (begins form)) ≡ Err found)
line_stopped line true form none = (fault front kind.LineTooLong, refl)
line_stopped line false None none = (fault front kind.BadHeader, refl)
line_stopped line false (Some f) none = absurd (cc)

known_held : (now at : Position) (rest held : List ℕ) → ◌≡◌ {A = Result (Position × List ℕ) ChainFault} (Ok (now, rest)) (Ok (at, held)) → held ≡ rest
known_held now at rest held e = sym (ap (λ (r : Result (Position × List ℕ) ChainFault). bytes_of r) e)
  where
    bytes_of : Result (Position × List ℕ) ChainFault → List ℕ
    bytes_of (Err found) = rest
    bytes_of (Ok known) = known.1

open_line : (rest held : List ℕ) (at : Position) (test : Bool) → part_gives rest test ≡ Ok (at, held) → held ≡ rest
open_line rest held at true e = absurd (cc)
open_line rest held at false e = known_held front at rest held e

first_open : (parts : List (List ℕ)) (at : Position) (held : List ℕ) → form_first parts ≡ None → (walk front parts).1 ≡ Ok (at, held) → held ≡ join_with_byte 10 parts
first_open [] at held e left = known_held front at [] held left
first_open (rest ∷ []) at held e left = open_line rest held at (is_long rest) left
first_open (line ∷ part ∷ parts) at held e left =
    let stops = line_stopped line (is_long line) (form_said line) e in
    let met : (walk front (line ∷ part ∷ parts)).1 ≡ Err stops.0 = ap (λ taken. (onward taken (λ next. walk next (part ∷ parts))).1) stops.1 in
    absurd (cc)

pub open_held : (bytes : List ℕ) (at : Position) (held : List ℕ) → file_form bytes ≡ None → (walked bytes).1 ≡ Ok (at, held) → held ≡ bytes
open_held bytes at held e left = first_open (parts_of bytes) at held e left ∙ join_with_byte-slice_split 10 bytes

open_by : (bytes piece held : List ℕ) (at : Position) (form : Option FileForm) → file_form bytes ≡ form → (walked bytes).1 ≡ Ok (at, held) → form_after form (held ++ piece) ≡ file_form (bytes ++ piece)
open_by bytes piece held at None e left = ap (λ all. file_form (all ++ piece)) (open_held bytes at held e left)
open_by bytes piece held at (Some f) e left = sym (form_stays bytes piece f e)

pub form_open : (bytes piece held : List ℕ) (at : Position) → (walked bytes).1 ≡ Ok (at, held) → form_after (file_form bytes) (held ++ piece) ≡ file_form (bytes ++ piece)
form_open bytes piece held at left = open_by bytes piece held at (file_form bytes) refl left

-- ---- without a form there is no block, and a fault

no_blocks_first : (parts : List (List ℕ)) → form_first parts ≡ None → (walk front parts).0 ≡ []
no_blocks_first [] e = refl
no_blocks_first (rest ∷ []) e = refl
no_blocks_first (line ∷ part ∷ parts) e =
    let stops = line_stopped line (is_long line) (form_said line) e in
    ap (λ taken. (onward taken (λ next. walk next (part ∷ parts))).0) stops.1

pub no_blocks : (bytes : List ℕ) → file_form bytes ≡ None → (chain bytes).0 ≡ []
no_blocks bytes e = no_blocks_first (parts_of bytes) e

open_faulty : (rest : List ℕ) (test : Bool) → fault_at_end (part_gives rest test) ≡ None → ⊥
open_faulty rest true e = absurd (cc)
open_faulty rest false e = absurd (cc)

first_faulty : (parts : List (List ℕ)) → form_first parts ≡ None → fault_at_end (walk front parts).1 ≡ None → ⊥
first_faulty [] e none = absurd (cc)
first_faulty (rest ∷ []) e none = open_faulty rest (is_long rest) none
first_faulty (line ∷ part ∷ parts) e none =
    let stops = line_stopped line (is_long line) (form_said line) e in
    let met : fault_at_end (walk front (line ∷ part ∷ parts)).1 ≡ Some stops.0 = ap (λ taken. fault_at_end (onward taken (λ next. walk next (part ∷ parts))).1) stops.1 in
    absurd (cc)

version_if : (bytes : List ℕ) (form : Option FileForm) → file_form bytes ≡ form → (chain bytes).1 ≡ None → (v : ChainVersion) × (version_of bytes ≡ Some v)
version_if bytes None e none = absurd (first_faulty (parts_of bytes) e none)
version_if bytes (Some f) e none = (f.version, ap (option_map (λ g. g.version)) e)

pub whole_version : (bytes : List ℕ) → (chain bytes).1 ≡ None → (v : ChainVersion) × (version_of bytes ≡ Some v)
whole_version bytes none = version_if bytes (file_form bytes) refl none
