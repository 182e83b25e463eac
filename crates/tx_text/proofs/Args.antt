-- The loop over the arguments.
use Rattle.std.proofs.Common.{◌≡◌, ◌≤◌, ◌<◌, ℕ, suc, List, [], ◌∷◌, ◌++◌, Option, Some, None, length, refl, ap, sym, subst, ◌∙◌, arith, append_assoc}
use Rattle.std.specs.Option.{option_map}
use Rattle.rel_base.specs.declared.value.Value.{Value}
use Rattle.literals.proofs.Shrinks.{RestWithin}
use Rattle.tx_text.specs.Lines.{arg_at, first_and_more, args_within, args_of}
use Rattle.tx_text.proofs.Shrinks.{arg_within, args_bounds}

-- the arguments that were read, before those that are left
abbrev pub with_args : List Value → Option (List Value) → Option (List Value)
with_args front found = option_map (λ values. front ++ values) found

with_one : (front : List Value) (v : Value) (found : Option (List Value)) → with_args (front ++ (v ∷ [])) found ≡ with_args front (option_map (λ values. v ∷ values) found)
with_one front v None = refl
with_one front v (Some values) = ap (λ all. Some all) (append_assoc front (v ∷ []) values)

-- an argument that was found leaves fewer bytes
pub arg_shorter : (bytes : List ℕ) (v : Value) (rest : List ℕ) → arg_at bytes ≡ Some (v, rest) → length rest < length bytes
arg_shorter [] v rest found = absurd (cc)
arg_shorter (b ∷ bs) v rest found = omega (arith, within_found)
  where
    within_found : length rest ≤ length bs
    within_found = subst (RestWithin (length bs)) found (arg_within b bs)

args_cons : (b : ℕ) (bs : List ℕ) → args_of (b ∷ bs) ≡ first_and_more (arg_at (b ∷ bs)) (args_within (length bs))
args_cons b bs = args_bounds (length (b ∷ bs)) (suc (length bs)) (b ∷ bs) (omega arith) (omega arith)

-- and moves from what is left to what is read
pub args_step : (front : List Value) (bytes : List ℕ) (v : Value) (rest : List ℕ) → arg_at bytes ≡ Some (v, rest) → with_args (front ++ (v ∷ [])) (args_of rest) ≡ with_args front (args_of bytes)
args_step front [] v rest found = absurd (cc)
args_step front (b ∷ bs) v rest found =
    let shorter : length rest < length (b ∷ bs) = arg_shorter (b ∷ bs) v rest found in
    let whole : args_of (b ∷ bs) ≡ option_map (λ values. v ∷ values) (args_of rest) =
    args_cons b bs ∙ ap (λ one. first_and_more one (args_within (length bs))) found
    ∙ ap (λ values. option_map (λ values. v ∷ values) values) (args_bounds (length bs) (length rest) rest (omega (arith, shorter)) (omega arith)) in
    with_one front v (args_of rest) ∙ ap (with_args front) (sym whole)

-- where no argument stands before some bytes, these are none
pub args_none : (b : ℕ) (bs : List ℕ) → arg_at (b ∷ bs) ≡ None → args_of (b ∷ bs) ≡ None
args_none b bs found = args_cons b bs ∙ ap (λ one. first_and_more one (args_within (length bs))) found

-- the same under what is read
pub args_stop : (front : List Value) (bytes : List ℕ) → 0 < length bytes → arg_at bytes ≡ None → with_args front (args_of bytes) ≡ None
args_stop front [] some found = absurd (omega (arith, some))
args_stop front (b ∷ bs) some found = ap (with_args front) (args_none b bs found)
