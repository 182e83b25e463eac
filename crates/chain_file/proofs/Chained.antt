-- A file without a fault is the text of its blocks.
use Rattle.std.proofs.Common.{◌≡◌, ◌≤◌, ◌<◌, ◌+◌, ◌^◌, ℕ, pos, List, [], ◌∷◌, ◌++◌, Bool, true, false, cond, Option, Some, None, length, take, refl, sym, ◌∙◌, ap, subst, append_assoc, arith}
use Rattle.std.specs.Prelude.{ℤ, drop, get_or, nat_le, nat_lt, not, ◌&&◌, ◌==◌, codes, decimal, Result, Ok, Err}
use Rattle.std.specs.Char.{is_ascii_digit}
use Rattle.std.specs.List.{flat_map, join_with_byte, list_all, position_or_len}
use Rattle.std.specs.Str.{all_ascii_digits, bytes_eq}
use Rattle.std.proofs.lemmas.Bool.{and_from, and_parts, eqb-true, eqb-false}
use Rattle.std.proofs.lemmas.Fmt.{decimal-digits_value}
use Rattle.std.proofs.lemmas.List.{append-nil, take-append-drop}
use Rattle.std.proofs.lemmas.List.Concat.{flat_map-append}
use Rattle.std.proofs.lemmas.List.Splits.{join_with_byte-slice_split}
use Rattle.literals.specs.Number.{is_canonical, number_after}
use Rattle.literals.proofs.Numerals.{own}
use Rattle.proc_syntax.specs.declared.call.Tx.{Tx}
use Rattle.proc_syntax.specs.declared.call.Block.{Block}
use Rattle.proc_syntax.specs.declared.chain_fault.ChainFault.{ChainFault}
use Rattle.proc_syntax.specs.declared.chain_fault.ChainKind.{ChainKind}
use Rattle.proc_syntax.specs.declared.chain_fault.ChainKind.TheVariants as kind
use Rattle.tx_text.specs.Fields.{is_space, after, word, past_word}
use Rattle.tx_text.specs.Lines.{tx_of, tx_text}
use Rattle.tx_text.proofs.Takes.{SpelledWhole, tx_takes}
use Rattle.chain_file.specs.declared.form.ChainVersion.{ChainVersion}
use Rattle.chain_file.specs.declared.form.ChainVersion.TheVariants as version
use Rattle.chain_file.specs.declared.form.FileForm.{FileForm}
use Rattle.chain_file.specs.declared.form.FileKind.{FileKind}
use Rattle.chain_file.specs.declared.form.FileKind.TheVariants as file
use Rattle.chain_file.specs.declared.section.Section.{Section}
use Rattle.chain_file.specs.declared.section.Section.TheVariants as place
use Rattle.chain_file.specs.declared.section.Taken.{Taken}
use Rattle.chain_file.specs.Chain.{Position, Walked, bytes_in, chain, fault, fault_at_end, front, hash_digits, is_between, onward, position_after, told, walk}
use Rattle.chain_file.specs.Blocks.{block_of}
use Rattle.chain_file.specs.Headers.{header_text}
use Rattle.tx_text.specs.Parts.{parts_of, line_text, is_long}
use Rattle.chain_file.specs.Steps.{add_tx, begun_by, end_block, ends, goes_on, has_digits, has_form, has_hash, has_time, hash_part, is_next, is_number, line_step, most_time, next_time, numbered, said_time, step, time_part, timed}
use Rattle.chain_file.specs.Text.{block_text, blocks_text, file_text, first_line, hash_field, time_field, tx_line}
use Rattle.chain_file.proofs.Back.{judged, walk_header}
use Rattle.chain_file.proofs.Blocks.{Holds, IsOf, block_is}
use Rattle.chain_file.proofs.Times.{IsNext, next_is}
use Rattle.rel_base.proofs.Bytes.{equal_bytes}

-- one more item at the end
flat_more : {A : Type 0} (text : A → List ℕ) (xs : List A) (x : A) → flat_map text (xs ++ (x ∷ [])) ≡ flat_map text xs ++ text x
flat_more text xs x = flat_map-append text xs (x ∷ []) ∙ ap (λ last. flat_map text xs ++ last) (append-nil (text x))

-- the bytes of a block that has begun are its lines so far
abbrev begun_text : FileForm → List ℕ → ℕ → ℤ → List Tx → List ℕ
begun_text f digits number time txs = line_text (first_line f digits number time) ++ flat_map tx_line txs

-- in a file of this form
abbrev Stands : FileForm → Section → List ℕ → List ℕ → Type 0
Stands f place.Start digits bytes = ⊥
Stands f (place.Between g count time) digits bytes = (g ≡ f) × (bytes ≡ [])
Stands f (place.Within g count time txs) digits bytes = (g ≡ f) × (bytes ≡ begun_text f digits (count + 1) (pos time) txs)

-- what a line leaves: it belongs to the block that has begun, or it ended this block
abbrev Leaves : FileForm → List ℕ → List ℕ → Section → Option Block → Type 0
Leaves f digits bytes next None = Stands f next digits bytes
Leaves f digits bytes next (Some block) = Stands f next (hash_digits bytes) [] × (block_text f digits block ≡ bytes)

abbrev LeavesIf : FileForm → List ℕ → List ℕ → Result Taken ChainKind → Type 0
LeavesIf f digits bytes (Err k) = Unit {0}
LeavesIf f digits bytes (Ok taken) = Leaves f digits bytes taken.place taken.ended

-- ---- a line between blocks

-- the rest of a `block` line
abbrev IsBehind : List ℕ → Option (List ℕ) → Type 0
IsBehind line None = Unit {0}
IsBehind line (Some rest) = line ≡ codes "block " ++ rest

behind_if : (line : List ℕ) (test : Bool) → bytes_eq (take 6 line) (codes "block ") ≡ test → IsBehind line (cond test (Some (drop 6 line)) None)
behind_if line true e = sym (take-append-drop 6 line) ∙ ap (λ first. first ++ drop 6 line) (equal_bytes (take 6 line) (codes "block ") e)
behind_if line false e = tt

no_bytes : (bytes : List ℕ) → (length bytes == 0) ≡ true → bytes ≡ []
no_bytes [] e = refl
no_bytes (b ∷ bs) e = absurd (omega (arith, eqb-true (length (b ∷ bs)) 0 e))

-- a number has one text
digits_same : (ds : List ℕ) → list_all is_ascii_digit ds ≡ true → all_ascii_digits ds ≡ true
digits_same [] e = refl
digits_same (d ∷ ds) e = let parts = and_parts (is_ascii_digit d) (list_all is_ascii_digit ds) e in and_from (is_ascii_digit d) (all_ascii_digits ds) parts.0 (digits_same ds parts.1)

canonical_some : (ds : List ℕ) → is_canonical ds ≡ true → 0 < length ds
canonical_some [] e = absurd (cc)
canonical_some (d ∷ ds) e = omega arith

canonical_first : (d : ℕ) (test : Bool) → (d == 48) ≡ test → not test ≡ true → d ≡ 48 → ⊥
canonical_first d true e not zero = absurd (cc)
canonical_first d false e not zero = absurd (eqb-false d 48 e zero)

canonical_zero : (ds : List ℕ) → is_canonical ds ≡ true → get_or ds 0 0 ≡ 48 → length ds ≡ 1
canonical_zero [] e zero = absurd (cc)
canonical_zero (d ∷ []) e zero = refl
canonical_zero (d ∷ x ∷ ds) e zero = absurd (canonical_first d (d == 48) refl e zero)

number_text : (ds : List ℕ) → is_number ds ≡ true → number_after 0 ds < 2 ^ 64 → decimal (number_after 0 ds) ≡ ds
number_text ds e small =
    let parts = and_parts (nat_le (length ds) 20 && list_all is_ascii_digit ds) (is_canonical ds) e in
    let more = and_parts (nat_le (length ds) 20) (list_all is_ascii_digit ds) parts.0 in
    decimal-digits_value own ds (digits_same ds more.1) (canonical_some ds parts.1) (canonical_zero ds parts.1) small

-- the fields are those of the form
hash_is : (k : FileKind) (digits rest : List ℕ) → has_digits k digits (hash_part k rest) ≡ true → hash_part k rest ≡ hash_field k digits
hash_is file.Draft digits rest e = refl
hash_is file.Chain digits rest e = equal_bytes (take 65 rest) (32 ∷ digits) e

field_is : (text : List ℕ) (time : ℕ) → has_time version.Two text ≡ true → time ≡ said_time version.Two text → time ≤ most_time → text ≡ time_field version.Two (pos time)
field_is [] time has said low = absurd (cc)
field_is (b ∷ bs) time has said low =
    let parts = and_parts (is_space b) (is_number bs) has in
    let small : number_after 0 bs < 2 ^ 64 = omega (arith, said, low) in
    ap (λ c. c ∷ bs) (eqb-true b 32 parts.0) ∙ ap (λ ds. 32 ∷ ds) (sym (number_text bs parts.1 small)) ∙ ap (λ n. 32 ∷ decimal n) (sym said)

time_is : (v : ChainVersion) (text : List ℕ) (time : ℕ) → has_time v text ≡ true → time ≡ said_time v text → time ≤ most_time → text ≡ time_field v (pos time)
time_is version.One text time has said low = no_bytes text has
time_is version.Two text time has said low = field_is text time has said low

both_parts : (k : FileKind) (rest : List ℕ) → hash_part k rest ++ time_part k rest ≡ rest
both_parts file.Draft rest = refl
both_parts file.Chain rest = take-append-drop 65 rest

-- what is known of a `block` line that is taken
record Says (f : FileForm) (count time : ℕ) (digits number hash text : List ℕ) : Type 0 where
  pub form : has_form f number hash text ≡ true
  pub next : is_next count number ≡ true
  pub same : has_digits f.kind digits hash ≡ true
  pub said : time ≡ said_time f.version text
  pub fits : time ≤ most_time

whole_line : (f : FileForm) (count time : ℕ) (digits line rest : List ℕ) → line ≡ codes "block " ++ rest
    → Says f count time digits (word rest) (hash_part f.kind (past_word rest)) (time_part f.kind (past_word rest)) → line ≡ first_line f digits (count + 1) (pos time)
whole_line f count time digits line rest behind says =
    let past : List ℕ = past_word rest in
    let number : word rest ≡ decimal (count + 1) = equal_bytes (word rest) (decimal (count + 1)) (and_parts (nat_lt count 1000000) (bytes_eq (word rest) (decimal (count + 1))) says.next).1 in
    let has : has_time f.version (time_part f.kind past) ≡ true = (and_parts (is_number (word rest) && has_hash f.kind (hash_part f.kind past)) (has_time f.version (time_part f.kind past)) says.form).1 in
    let hash : hash_part f.kind past ≡ hash_field f.kind digits = hash_is f.kind digits past says.same in
    let text : time_part f.kind past ≡ time_field f.version (pos time) = time_is f.version (time_part f.kind past) time has says.said says.fits in
    let whole : rest ≡ decimal (count + 1) ++ (hash_field f.kind digits ++ time_field f.version (pos time)) =
    sym (take-append-drop (position_or_len is_space rest) rest) ∙ ap (λ end. word rest ++ end) (sym (both_parts f.kind past)) ∙ ap (λ h. word rest ++ (h ++ time_part f.kind past)) hash
    ∙ ap (λ t. word rest ++ (hash_field f.kind digits ++ t)) text ∙ ap (λ n. n ++ (hash_field f.kind digits ++ time_field f.version (pos time))) number in
    behind ∙ ap (λ end. codes "block " ++ end) whole

begun_first : (f : FileForm) (count time : ℕ) (digits bytes line : List ℕ) → bytes ≡ [] → line ≡ first_line f digits (count + 1) (pos time) → bytes ++ line_text line ≡ begun_text f digits (count + 1) (pos time) []
begun_first f count time digits bytes line none is =
    ap (λ before. before ++ line_text line) none ∙ ap line_text is ∙ sym (append-nil (line_text (first_line f digits (count + 1) (pos time))))

timed_leaves : (f : FileForm) (count before : ℕ) (digits bytes line rest : List ℕ) (time : Option ℕ) → bytes ≡ [] → line ≡ codes "block " ++ rest
    → has_form f (word rest) (hash_part f.kind (past_word rest)) (time_part f.kind (past_word rest)) ≡ true → is_next count (word rest) ≡ true → has_digits f.kind digits (hash_part f.kind (past_word rest)) ≡ true
    → IsNext f.version before (time_part f.kind (past_word rest)) time → LeavesIf f digits (bytes ++ line_text line) (timed f count time)
timed_leaves f count before digits bytes line rest None none behind shape next same is = tt
timed_leaves f count before digits bytes line rest (Some time) none behind shape next same is =
    (refl, begun_first f count time digits bytes line none (whole_line f count time digits line rest behind (record { form = shape; next = next; same = same; said = is.2; fits = is.1 })))

fields_leave : (f : FileForm) (count before : ℕ) (digits bytes line rest : List ℕ) (time : Option ℕ) (shape next same : Bool) → bytes ≡ [] → line ≡ codes "block " ++ rest
    → has_form f (word rest) (hash_part f.kind (past_word rest)) (time_part f.kind (past_word rest)) ≡ shape → is_next count (word rest) ≡ next → has_digits f.kind digits (hash_part f.kind (past_word rest)) ≡ same
    → IsNext f.version before (time_part f.kind (past_word rest)) time
    → LeavesIf f digits (bytes ++ line_text line) (cond shape (cond next (cond same (timed f count time) (Err kind.WrongPrev)) (Err kind.WrongNumber)) (Err kind.BadLine))
fields_leave f count before digits bytes line rest time true true true none behind shape next same is = timed_leaves f count before digits bytes line rest time none behind shape next same is
fields_leave f count before digits bytes line rest time true true false none behind shape next same is = tt
fields_leave f count before digits bytes line rest time true false same none behind shape next has is = tt
fields_leave f count before digits bytes line rest time false next same none behind shape at has is = tt

begun_leaves : (f : FileForm) (count before : ℕ) (digits bytes line : List ℕ) (rest : Option (List ℕ)) → bytes ≡ [] → IsBehind line rest
    → LeavesIf f digits (bytes ++ line_text line) (begun_by rest (numbered f count before digits))
begun_leaves f count before digits bytes line None none behind = tt
begun_leaves f count before digits bytes line (Some rest) none behind =
    let hash : List ℕ = hash_part f.kind (past_word rest) in
    let text : List ℕ = time_part f.kind (past_word rest) in
    fields_leave f count before digits bytes line rest (next_time f.version before text) (has_form f (word rest) hash text) (is_next count (word rest)) (has_digits f.kind digits hash) none behind refl refl refl (next_is f.version before text)

-- ---- a line in a block

-- the text of a block that ended
ended_text : (f : FileForm) (count time : ℕ) (txs : List Tx) (digits bytes line : List ℕ) (block : Block) → bytes ≡ begun_text f digits (count + 1) (pos time) txs → line ≡ codes "end" → IsOf (count + 1) time txs block
    → block_text f digits block ≡ bytes ++ line_text line
ended_text f count time txs digits bytes line block so_far end is =
    ap (λ n. text_of n block.time block.txs) is.0 ∙ ap (λ z. text_of (count + 1) z block.txs) is.1 ∙ ap (text_of (count + 1) (pos time)) is.2
    ∙ sym (append_assoc (line_text (first_line f digits (count + 1) (pos time))) (flat_map tx_line txs) (line_text (codes "end")))
    ∙ ap (λ before. before ++ line_text (codes "end")) (sym so_far)
    ∙ ap (λ last. bytes ++ line_text last) (sym end)
  where
    text_of : ℕ → ℤ → List Tx → List ℕ
    text_of n z xs = line_text (first_line f digits n z) ++ (flat_map tx_line xs ++ line_text (codes "end"))

end_leaves : (f : FileForm) (count time : ℕ) (txs : List Tx) (digits bytes line : List ℕ) (made : Option Block) → bytes ≡ begun_text f digits (count + 1) (pos time) txs
    → line ≡ codes "end" → Holds (IsOf (count + 1) time txs) made → LeavesIf f digits (bytes ++ line_text line) (ends f (count + 1) time made)
end_leaves f count time txs digits bytes line None so_far end is = tt
end_leaves f count time txs digits bytes line (Some block) so_far end is = ((refl, refl), ended_text f count time txs digits bytes line block so_far end is)

more_leaves : (f : FileForm) (count time : ℕ) (txs : List Tx) (digits bytes line : List ℕ) (tx : Tx) (test : Bool) → bytes ≡ begun_text f digits (count + 1) (pos time) txs → line ≡ tx_text tx
    → LeavesIf f digits (bytes ++ line_text line) (cond test (Ok (goes_on (place.Within f count time (txs ++ (tx ∷ []))))) (Err kind.TooManyTx))
more_leaves f count time txs digits bytes line tx true so_far is =
    let first : List ℕ = line_text (first_line f digits (count + 1) (pos time)) in (
      refl,
      ap (λ before. before ++ line_text line) so_far
          ∙ append_assoc first (flat_map tx_line txs) (line_text line)
          ∙ ap (λ last. first ++ (flat_map tx_line txs ++ line_text last)) is
          ∙ ap (λ lines. first ++ lines) (sym (flat_more tx_line txs tx)),
    )
more_leaves f count time txs digits bytes line tx false so_far is = tt

tx_leaves : (f : FileForm) (count time : ℕ) (txs : List Tx) (digits bytes line : List ℕ) (found : Option Tx) → bytes ≡ begun_text f digits (count + 1) (pos time) txs → SpelledWhole tx_text line found
    → LeavesIf f digits (bytes ++ line_text line) (add_tx f count time txs found)
tx_leaves f count time txs digits bytes line None so_far is = tt
tx_leaves f count time txs digits bytes line (Some tx) so_far is = more_leaves f count time txs digits bytes line tx (nat_lt (length txs) 1024) so_far is

within_leaves : (f : FileForm) (count time : ℕ) (txs : List Tx) (digits bytes line : List ℕ) (test : Bool) → bytes ≡ begun_text f digits (count + 1) (pos time) txs → bytes_eq line (codes "end") ≡ test
    → LeavesIf f digits (bytes ++ line_text line) (cond test (end_block f count time txs) (add_tx f count time txs (tx_of line)))
within_leaves f count time txs digits bytes line true so_far is =
    end_leaves f count time txs digits bytes line (block_of (count + 1) time txs) so_far (equal_bytes line (codes "end") is) (block_is (count + 1) time txs)
within_leaves f count time txs digits bytes line false so_far is = tx_leaves f count time txs digits bytes line (tx_of line) so_far (tx_takes line)

-- ---- any line

line_leaves : (f : FileForm) (at : Section) (digits bytes line : List ℕ) → Stands f at digits bytes → LeavesIf f digits (bytes ++ line_text line) (line_step at digits line)
line_leaves f place.Start digits bytes line stands = absurd stands
line_leaves f (place.Between g count time) digits bytes line stands =
    subst (λ (h : FileForm). LeavesIf f digits (bytes ++ line_text line) (line_step (place.Between h count time) digits line)) (sym stands.0)
    (begun_leaves f count time digits bytes line (after (codes "block ") line) stands.1 (behind_if line (bytes_eq (take 6 line) (codes "block ")) refl))
line_leaves f (place.Within g count time txs) digits bytes line stands =
    subst (λ (h : FileForm). LeavesIf f digits (bytes ++ line_text line) (line_step (place.Within h count time txs) digits line)) (sym stands.0)
    (within_leaves f count time txs digits bytes line (bytes_eq line (codes "end")) stands.1 refl)

step_leaves : (f : FileForm) (at : Section) (digits bytes line : List ℕ) (long : Bool) → Stands f at digits bytes
    → LeavesIf f digits (bytes ++ line_text line) (cond long (Err kind.LineTooLong) (line_step at digits line))
step_leaves f at digits bytes line true stands = tt
step_leaves f at digits bytes line false stands = line_leaves f at digits bytes line stands

-- ---- the lines one after another

-- a file without a fault is the text of its blocks, after a block whose hash has these digits
abbrev Whole : FileForm → List ℕ → List ℕ → List Block × Option ChainFault → Type 0
Whole f text digits (blocks, None) = text ≡ blocks_text f digits blocks
Whole f text digits (blocks, Some found) = Unit {0}

ended_whole : (f : FileForm) (digits bytes rest : List ℕ) (block : Block) (blocks : List Block) (found : Option ChainFault) → block_text f digits block ≡ bytes
    → Whole f rest (hash_digits bytes) (blocks, found) → Whole f (bytes ++ rest) digits (block ∷ blocks, found)
ended_whole f digits bytes rest block blocks (Some found) is whole = tt
ended_whole f digits bytes rest block blocks None is whole =
    ap (λ more. bytes ++ more) whole ∙ ap (λ text. text ++ blocks_text f (hash_digits text) blocks) (sym is)

-- the lines that are left, from a position on
abbrev AllWhole : FileForm → List (List ℕ) → Type 0
AllWhole f parts = (at : Position) → Stands f at.place at.digits at.bytes → Whole f (at.bytes ++ join_with_byte 10 parts) at.digits (judged (walk at parts))

-- only in a block a position has bytes
kept : (f : FileForm) (at : Section) (digits bytes : List ℕ) → Stands f at digits bytes → bytes_in at bytes ≡ bytes
kept f place.Start digits bytes stands = absurd stands
kept f (place.Between g count time) digits bytes stands = sym stands.1
kept f (place.Within g count time txs) digits bytes stands = refl

after_whole : (f : FileForm) (line : ℕ) (digits bytes : List ℕ) (next : Section) (ended : Option Block) (parts : List (List ℕ)) → Leaves f digits bytes next ended → AllWhole f parts
    → Whole f (bytes ++ join_with_byte 10 parts) digits (judged (onward (Ok (position_after line digits bytes next ended, ended)) (λ at. walk at parts)))
after_whole f line digits bytes next None parts leaves more =
    let at : Position = position_after line digits bytes next None in
    let same : at.bytes ≡ bytes = kept f next digits bytes leaves in
    subst (λ (all : List ℕ). Whole f (all ++ join_with_byte 10 parts) digits (judged (walk at parts))) same
    (more at (subst (Stands f next digits) (sym same) leaves))
after_whole f line digits bytes next (Some block) parts leaves more =
    let at : Position = position_after line digits bytes next (Some block) in
    let w : Walked = walk at parts in
    ended_whole f digits bytes (join_with_byte 10 parts) block w.0 (fault_at_end w.1) leaves.1 (more at leaves.0)

told_whole : (f : FileForm) (at : Position) (line : List ℕ) (parts : List (List ℕ)) (taken : Result Taken ChainKind) → LeavesIf f at.digits (at.bytes ++ line_text line) taken → AllWhole f parts
    → Whole f ((at.bytes ++ line_text line) ++ join_with_byte 10 parts) at.digits (judged (onward (told at line taken) (λ next. walk next parts)))
told_whole f at line parts (Err k) leaves more = tt
told_whole f at line parts (Ok taken) leaves more =
    after_whole f (at.line + 1) at.digits (at.bytes ++ line_text line) taken.place taken.ended parts leaves more

-- the bytes after the last newline: none
last_whole : (f : FileForm) (at : Section) (digits bytes rest : List ℕ) (cut : ChainFault) (none : Bool) → Stands f at digits bytes → (length rest == 0) ≡ none
    → Whole f (bytes ++ rest) digits ([], cond (is_between at && none) None (Some cut))
last_whole f place.Start digits bytes rest cut none stands is = tt
last_whole f (place.Between g count time) digits bytes rest cut false stands is = tt
last_whole f (place.Between g count time) digits bytes [] cut true stands is = append-nil bytes ∙ stands.1
last_whole f (place.Between g count time) digits bytes (b ∷ bs) cut true stands is = absurd (omega (arith, eqb-true (length (b ∷ bs)) 0 is))
last_whole f (place.Within g count time txs) digits bytes rest cut none stands is = tt

part_whole : (f : FileForm) (at : Position) (rest : List ℕ) (long : Bool) → Stands f at.place at.digits at.bytes
    → Whole f (at.bytes ++ rest) at.digits ([], fault_at_end (cond long (Err (fault at kind.LineTooLong)) (Ok (at, rest))))
part_whole f at rest true stands = tt
part_whole f at rest false stands = last_whole f at.place at.digits at.bytes rest (fault at kind.Truncated) (length rest == 0) stands refl

all_whole : (f : FileForm) (parts : List (List ℕ)) → AllWhole f parts
all_whole f [] at stands = last_whole f at.place at.digits at.bytes [] (fault at kind.Truncated) true stands refl
all_whole f (rest ∷ []) at stands = part_whole f at rest (is_long rest) stands
all_whole f (line ∷ part ∷ parts) at stands =
    let rest : List ℕ = join_with_byte 10 (part ∷ parts) in
    let same : (at.bytes ++ line_text line) ++ rest ≡ at.bytes ++ (line ++ (10 ∷ rest)) =
    append_assoc at.bytes (line_text line) rest ∙ ap (λ text. at.bytes ++ text) (append_assoc line (10 ∷ []) rest) in
    subst (λ (text : List ℕ). Whole f text at.digits (judged (walk at (line ∷ part ∷ parts)))) same
    (told_whole f at line (part ∷ parts) (step at.place at.digits line) (step_leaves f at.place at.digits at.bytes line (is_long line) stands) (all_whole f (part ∷ parts)))

pub file_spelled : (f : FileForm) (rest : List ℕ) (blocks : List Block) → chain (line_text (header_text f) ++ rest) ≡ (blocks, None) → line_text (header_text f) ++ rest ≡ file_text f blocks
file_spelled f rest blocks e =
    let behind : Position = position_after 2 front.digits (line_text (header_text f)) (place.Between f 0 0) None in
    let read : judged (walk behind (parts_of rest)) ≡ (blocks, None) = sym (walk_header f rest) ∙ e in
    let text : join_with_byte 10 (parts_of rest) ≡ blocks_text f front.digits blocks = subst (Whole f (join_with_byte 10 (parts_of rest)) front.digits) read (all_whole f (parts_of rest) behind (refl, refl)) in
    ap (λ more. line_text (header_text f) ++ more) (sym (join_with_byte-slice_split 10 rest) ∙ text)
