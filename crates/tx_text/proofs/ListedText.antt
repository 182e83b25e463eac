-- A whole listing is the text of its items, and is read back from it.
use Rattle.std.proofs.Common.{◌≡◌, ◌≤◌, ◌<◌, ◌+◌, ℕ, suc, List, [], ◌∷◌, ◌++◌, Bool, true, false, cond, Option, Some, None, length, refl, sym, ◌∙◌, ap, subst, append_assoc, arith}
use Rattle.std.specs.Prelude.{◌==◌, ◌&&◌, nat_le, nat_lt, Result, Ok, Err}
use Rattle.std.specs.List.{flat_map, join_with_byte, AllByRecursion}
use Rattle.std.specs.Option.{option_map}
use Rattle.std.specs.Str.{bytes_eq}
use Rattle.std.proofs.lemmas.Bool.{and_parts, eqb-true, le-leb, ne_eqb}
use Rattle.std.proofs.lemmas.List.{append-nil}
use Rattle.std.proofs.lemmas.List.Splits.{join_with_byte-slice_split}
use Rattle.std.proofs.lemmas.Grind.{flat_map-append}
use Rattle.tx_text.specs.Parts.{is_long, line_text, parts_of}
use Rattle.tx_text.specs.Listing.{Form, Far, no_item, one_item, items_at, with_items, onward, walk, whole, listed, listing}
use Rattle.tx_text.proofs.Glued.{parts_some}
use Rattle.tx_text.proofs.Listed.{walk_line}
use Rattle.tx_text.proofs.Plain.{plain, parts_line}
use Rattle.rel_base.proofs.Bytes.{bytes_same, equal_bytes}

-- the lines of items
abbrev lines_of : {A : Type 0} → (A → List ℕ) → List A → List ℕ
lines_of text items = flat_map (λ item. line_text (text item)) items

-- ---- what is read was written so

module _ {A : Type 0} (form : Form A) (text : A → List ℕ) (spelled : (line : List ℕ) (item : A) → form.item line ≡ Some item → line ≡ text item) where
  -- a line is that of its items
  abbrev LineIs : List ℕ → Option (List A) → Type 0
  LineIs line None = Unit {0}
  LineIs line (Some items) = line_text line ≡ lines_of text items

  found_is : (line : List ℕ) (found : Option A) → form.item line ≡ found → LineIs line (option_map (λ item. item ∷ []) found)
  found_is line None e = tt
  found_is line (Some item) e = ap line_text (spelled line item e) ∙ sym (append-nil (line_text (text item)))

  one_is : (n : ℕ) (line : List ℕ) (few : Bool) → LineIs line (cond few (option_map (λ item. item ∷ []) (form.item line)) None)
  one_is n line true = found_is line (form.item line) refl
  one_is n line false = tt

  behind_is : (n : ℕ) (line : List ℕ) (first : Bool) → (n == 1) ≡ first → 1 < n → LineIs line (cond first (no_item form line) (one_item form n line))
  behind_is n line true e behind = absurd (omega (arith, behind, eqb-true n 1 e))
  behind_is n line false e behind = one_is n line (nat_le n 1000001)

  line_is : (n : ℕ) (line : List ℕ) (long : Bool) → 1 < n → LineIs line (cond long None (cond (n == 1) (no_item form line) (one_item form n line)))
  line_is n line true behind = tt
  line_is n line false behind = behind_is n line (n == 1) refl behind

  -- these bytes are the lines of the items, and the rest
  abbrev IsTold : List ℕ → Result (Far A) ℕ → Type 0
  IsTold bytes (Err line) = Unit {0}
  IsTold bytes (Ok far) = bytes ≡ lines_of text far.items ++ far.rest

  ending_told : (n : ℕ) (rest : List ℕ) (long : Bool) → IsTold rest (cond long (Err n) (Ok (record { line = n; items = []; rest = rest })))
  ending_told n rest true = tt
  ending_told n rest false = refl

  with_told : (line bytes : List ℕ) (items : List A) (more : Result (Far A) ℕ) → line_text line ≡ lines_of text items → IsTold bytes more → IsTold (line ++ (10 ∷ bytes)) (with_items items more)
  with_told line bytes items (Err wrong) is told = tt
  with_told line bytes items (Ok far) is told =
      sym (append_assoc line (10 ∷ []) bytes) ∙ ap (λ front. front ++ bytes) is ∙ ap (λ back. lines_of text items ++ back) told
      ∙ sym (append_assoc (lines_of text items) (lines_of text far.items) far.rest)
      ∙ ap (λ front. front ++ far.rest) (sym (flat_map-append (λ item. line_text (text item)) items far.items))

  onward_told : (n : ℕ) (line bytes : List ℕ) (found : Option (List A)) (more : Result (Far A) ℕ) → LineIs line found → IsTold bytes more → IsTold (line ++ (10 ∷ bytes)) (onward n found more)
  onward_told n line bytes None more is told = tt
  onward_told n line bytes (Some items) more is told = with_told line bytes items more is told

  walk_told : (n : ℕ) (parts : List (List ℕ)) → 1 < n → IsTold (join_with_byte 10 parts) (walk form n parts)
  walk_told n [] behind = ending_told n [] (is_long [])
  walk_told n (rest ∷ []) behind = ending_told n rest (is_long rest)
  walk_told n (line ∷ part ∷ parts) behind =
      onward_told n line (join_with_byte 10 (part ∷ parts)) (items_at form n line) (walk form (n + 1) (part ∷ parts)) (line_is n line (is_long line) behind)
      (walk_told (n + 1) (part ∷ parts) (omega (arith, behind)))

  -- and with the header
  abbrev IsFile : List ℕ → Result (List A) ℕ → Type 0
  IsFile bytes (Err line) = Unit {0}
  IsFile bytes (Ok items) = bytes ≡ listing form text items

  ended : (bytes : List ℕ) (far : Far A) (test : Bool) → (nat_lt 1 far.line && (length far.rest == 0)) ≡ test → bytes ≡ lines_of text far.items ++ far.rest
      → IsFile (form.header ++ (10 ∷ bytes)) (cond test (Ok far.items) (Err far.line))
  ended bytes far true e told =
      let none : length far.rest ≡ 0 = eqb-true (length far.rest) 0 (and_parts (nat_lt 1 far.line) (length far.rest == 0) e).1 in
      sym (append_assoc form.header (10 ∷ []) bytes)
      ∙ ap (λ back. line_text form.header ++ back) (told ∙ ap (λ rest. lines_of text far.items ++ rest) (no_bytes far.rest none) ∙ append-nil (lines_of text far.items))
    where
      no_bytes : (rest : List ℕ) → length rest ≡ 0 → rest ≡ []
      no_bytes [] e = refl
      no_bytes (b ∷ bs) e = absurd (omega (arith, e))
  ended bytes far false e told = tt

  with_none : (more : Result (Far A) ℕ) (bytes : List ℕ) → IsTold bytes more → IsFile (form.header ++ (10 ∷ bytes)) (whole (with_items [] more))
  with_none (Err line) bytes told = tt
  with_none (Ok far) bytes told = ended bytes far (nat_lt 1 far.line && (length far.rest == 0)) refl told

  header_is : (line bytes : List ℕ) (more : Result (Far A) ℕ) (test : Bool) → bytes_eq line form.header ≡ test → IsTold bytes more → IsFile (line ++ (10 ∷ bytes)) (whole (onward 1 (cond test (Some []) None) more))
  header_is line bytes more true e told =
      subst (λ (front : List ℕ). IsFile (front ++ (10 ∷ bytes)) (whole (with_items [] more))) (sym (equal_bytes line form.header e)) (with_none more bytes told)
  header_is line bytes more false e told = tt

  first_is : (line bytes : List ℕ) (more : Result (Far A) ℕ) (long : Bool) → IsTold bytes more → IsFile (line ++ (10 ∷ bytes)) (whole (onward 1 (cond long None (no_item form line)) more))
  first_is line bytes more true told = tt
  first_is line bytes more false told = header_is line bytes more (bytes_eq line form.header) refl told

  -- one line is no whole file
  alone_is : (rest : List ℕ) (long : Bool) → IsFile rest (whole (cond long (Err 1) (Ok (record { line = 1; items = []; rest = rest }))))
  alone_is rest true = tt
  alone_is rest false = tt

  parts_is : (parts : List (List ℕ)) → IsFile (join_with_byte 10 parts) (whole (walk form 1 parts))
  parts_is [] = tt
  parts_is (rest ∷ []) = alone_is rest (is_long rest)
  parts_is (line ∷ part ∷ parts) = first_is line (join_with_byte 10 (part ∷ parts)) (walk form 2 (part ∷ parts)) (is_long line) (walk_told 2 (part ∷ parts) (omega arith))

  pub listed_spelled : (bytes : List ℕ) (items : List A) → listed form bytes ≡ Ok items → bytes ≡ listing form text items
  listed_spelled bytes items e =
      subst (IsFile bytes) e (subst (λ (all : List ℕ). IsFile all (listed form bytes)) (join_with_byte-slice_split 10 bytes) (parts_is (parts_of bytes)))

-- ---- and what is written is read back

-- an item has a line, and is read back from it
pub record IsListed {A : Type 0} (form : Form A) (text : A → List ℕ) (item : A) : Type 0 where
  pub again : form.item (text item) ≡ Some item
  pub plain : plain (text item) ≡ true
  pub short : length (text item) ≤ 4096

module _ {A : Type 0} (form : Form A) (text : A → List ℕ) where
  not_long : (line : List ℕ) → length line ≤ 4096 → is_long line ≡ false
  not_long line short = ltb_none (length line) short
    where
      ltb_none : (count : ℕ) → count ≤ 4096 → nat_lt 4096 count ≡ false
      ltb_none count short = grind (arith, short)

  item_again : (n : ℕ) (item : A) → 1 < n → n ≤ 1000001 → IsListed form text item → items_at form n (text item) ≡ Some (item ∷ [])
  item_again n item behind few fine =
      ap (λ long. cond long None (cond (n == 1) (no_item form (text item)) (one_item form n (text item)))) (not_long (text item) fine.short)
      ∙ ap (λ first. cond first (no_item form (text item)) (one_item form n (text item))) (ne_eqb n 1 (λ e. omega (arith, behind, e)))
      ∙ ap (λ test. cond test (option_map (λ item. item ∷ []) (form.item (text item))) None) (le-leb n 1000001 few)
      ∙ ap (option_map (λ item. item ∷ [])) fine.again

  -- what is read from a line on
  abbrev reads : ℕ → List ℕ → Result (Far A) ℕ
  reads n bytes = walk form n (parts_of bytes)

  items_again : (n : ℕ) (items : List A) → 1 < n → n + length items ≤ 1000002 → AllByRecursion (IsListed form text) items
      → reads n (lines_of text items) ≡ Ok (record { line = n + length items; items = items; rest = [] })
  items_again n [] behind few fine = ap (λ line. Ok (record { line = line; items = []; rest = [] })) (nothing n)
    where
      nothing : (n : ℕ) → n ≡ n + 0
      nothing n = omega arith
  items_again n (item ∷ items) behind few fine =
      let more : List ℕ = lines_of text items in
      ap (walk form n) (ap parts_of (append_assoc (text item) (10 ∷ []) more) ∙ parts_line (text item) more fine.0.plain)
      ∙ walk_line form n (text item) (parts_of more) (parts_some more)
      ∙ ap (λ found. onward n found (reads (n + 1) more)) (item_again n item behind (omega (arith, few)) fine.0)
      ∙ ap (with_items (item ∷ [])) (items_again (n + 1) items (omega (arith, behind)) (omega (arith, few)) fine.1)
      ∙ ap (λ line. Ok (record { line = line; items = item ∷ items; rest = [] })) (one_more n (length items))
    where
      one_more : (n k : ℕ) → n + 1 + k ≡ n + suc k
      one_more n k = omega arith

  header_again : is_long form.header ≡ false → items_at form 1 form.header ≡ Some []
  header_again short = ap (λ long. cond long None (no_item form form.header)) short ∙ ap (λ test. cond test (Some []) None) (bytes_same form.header)

  pub listed_again : is_long form.header ≡ false → plain form.header ≡ true → (items : List A) → length items ≤ 1000000 → AllByRecursion (IsListed form text) items
      → listed form (listing form text items) ≡ Ok items
  listed_again short no_newline items few fine =
      let more : List ℕ = lines_of text items in
      ap whole (ap (walk form 1) (ap parts_of (append_assoc form.header (10 ∷ []) more) ∙ parts_line form.header more no_newline)
      ∙ walk_line form 1 form.header (parts_of more) (parts_some more)
      ∙ ap (λ found. onward 1 found (reads 2 more)) (header_again short)
      ∙ ap (with_items []) (items_again 2 items (omega arith) (omega (arith, few)) fine))
      ∙ ap (λ test. cond (test && (length {A = ℕ} [] == 0)) (Ok items) (Err (2 + length items))) (behind_first (length items))
    where
      behind_first : (k : ℕ) → nat_lt 1 (2 + k) ≡ true
      behind_first k = grind arith
