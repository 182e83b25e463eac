-- Files that are read piece by piece, and texts that are written piece by piece.
use Rattle.std.proofs.Common.{◌≡◌, ℕ, ◌≤◌, ◌+◌, ◌-◌, List, [], ◌++◌, length, take, drop, sym, ap, ◌∙◌, length-append, arith, refl, append_assoc, Option, Some, None, IfSome, min}
use Rattle.edge_traits.specs.Causes.{Rose}
use Rattle.edge_traits.specs.Shelf.{Files, IsPiece}
use Rattle.edge_traits.specs.Sink.{appended, WroteFront}
use Rattle.std.proofs.lemmas.List.{take_min, take-append-le, length-take-le, length-drop, take_rest, append-nil}
use Rattle.std.proofs.Math.Seq.{take-add, take-append-add, take-length}

-- A prefix of a file grows by the piece that stands after it.
pub front_grows : (file old piece : List ℕ) → piece ≡ take (length piece) (drop (length old) file) → old ≡ take (length old) file
    → old ++ piece ≡ take (length (old ++ piece)) file
front_grows file old piece p f =
    let both : take (length old) file ++ take (length piece) (drop (length old) file) ≡ take (length old + length piece) file = sym (take-add (length old) (length piece) file) in
    let left : old ++ piece ≡ take (length old) file ++ take (length piece) (drop (length old) file) = ap (λ x. x ++ piece) f ∙ ap (λ x. take (length old) file ++ x) p in
    left ∙ both ∙ ap (λ n. take n file) (sym (length-append old piece))

-- The same of what a shelf tells, if it tells: the only place where the two kinds of shelf are told apart.
pub told_grows : (told : Option Files) (name old buffer : List ℕ) (count : ℕ) → count ≤ length buffer
    → IfSome told (λ files. IsPiece (files name) (length old) count buffer)
    → IfSome told (λ files. old ≡ take (length old) (files name) → old ++ take count buffer ≡ take (length (old ++ take count buffer)) (files name))
told_grows None name old buffer count le piece = tt
told_grows (Some files) name old buffer count le piece = λ front.
    let size : length (take count buffer) ≡ count = length-take-le count buffer le in
    let is : take count buffer ≡ take (length (take count buffer)) (drop (length old) (files name)) = piece.bytes ∙ ap (λ k. take k (drop (length old) (files name))) (sym size) in
    front_grows (files name) old (take count buffer) is front

-- A written prefix grows by what is written next.
pub appended_more : (before : Option (List ℕ)) (bytes : List ℕ) (done count : ℕ)
    → appended (appended before (take done bytes)) (take count (drop done bytes)) ≡ appended before (take (done + count) bytes)
appended_more None bytes done count = refl
appended_more (Some written) bytes done count =
    ap Some (append_assoc written (take done bytes) (take count (drop done bytes)) ∙ ap (λ x. written ++ x) (sym (take-add done count bytes)))

-- The same as a loop over the rest of the bytes meets it.
pub goes_on : (before now next : Option (List ℕ)) (bytes : List ℕ) (done count : ℕ) → now ≡ appended before (take done bytes)
    → next ≡ appended now (take count (take (length bytes - done) (drop done bytes))) → next ≡ appended before (take (done + count) bytes)
goes_on before now next bytes done count first then =
    then ∙ ap (λ w. appended w (take count (take (length bytes - done) (drop done bytes)))) first
    ∙ ap (λ rest. appended (appended before (take done bytes)) (take count rest)) (take_rest bytes done) ∙ appended_more before bytes done count

pub stays_within : (bytes : List ℕ) (done count : ℕ) → done ≤ length bytes → count ≤ length (take (length bytes - done) (drop done bytes)) → done + count ≤ length bytes
stays_within bytes done count le more = omega (arith, le, more, ap length (take_rest bytes done), length-drop done bytes)

-- To write no bytes changes nothing that a sink tells.
pub nothing_written : (before : Option (List ℕ)) → appended before [] ≡ before
nothing_written None = refl
nothing_written (Some written) = ap Some (append-nil written)

-- One whole text after another.
pub whole_whole : (before now next : Option (List ℕ)) (first second : List ℕ) → now ≡ appended before first → next ≡ appended now second
    → next ≡ appended before (first ++ second)
whole_whole None now next first second is then = then ∙ ap (λ w. appended w second) is
whole_whole (Some written) now next first second is then = then ∙ ap (λ w. appended w second) is ∙ ap Some (append_assoc written first second)

-- Nothing written is a prefix of any text.
pub none_front : (before now : Option (List ℕ)) (bytes : List ℕ) → now ≡ before → WroteFront before now bytes
none_front before now bytes same = record { count = 0; written = same ∙ sym (nothing_written before) }

-- A whole text is a prefix of itself.
pub whole_is_front : (before now : Option (List ℕ)) (bytes : List ℕ) → now ≡ appended before bytes → WroteFront before now bytes
whole_is_front before now bytes is = record { count = length bytes; written = is ∙ ap (appended before) (sym (take-length bytes)) }

-- A prefix of the first text is one of both.
pub front_first : (before now : Option (List ℕ)) (first second : List ℕ) → WroteFront before now first → WroteFront before now (first ++ second)
front_first before now first second front = record {
  count = min front.count (length first);
  written = front.written ∙ ap (appended before) (sym (take-append-le (min front.count (length first)) first second (omega arith) ∙ take_min front.count first));
}

-- The first text whole, and then a prefix of the second.
pub whole_front : (before now next : Option (List ℕ)) (first second : List ℕ) → now ≡ appended before first → WroteFront now next second
    → WroteFront before next (first ++ second)
whole_front before now next first second is front = record {
  count = length first + front.count;
  written = whole_whole before now next first (take front.count second) is front.written ∙ ap (appended before) (sym (take-append-add first second front.count));
}

-- The first text whole, and nothing of the second.
pub whole_first : (before now : Option (List ℕ)) (first second : List ℕ) → now ≡ appended before first → WroteFront before now (first ++ second)
whole_first before now first second is = front_first before now first second (whole_is_front before now first is)

-- A count that stays at 0 did not rise.
pub none_rose : Rose 0 0 → ⊥
none_rose rose = omega (arith, rose)
