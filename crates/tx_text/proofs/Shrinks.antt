-- What follows a value is no longer than the bytes that it stands before, so any bound on the number of arguments from there on serves.
use Rattle.std.proofs.Common.{◌≡◌, ◌≤◌, ℕ, zero, suc, List, [], ◌∷◌, Bool, true, false, cond, Option, Some, None, length, drop, take, refl, ap, sym, ◌∙◌, arith, length-drop}
use Rattle.std.specs.Prelude.{ℤ, ◌==◌, ◌||◌, codes}
use Rattle.std.specs.Option.{option_and_then, option_map, option_or}
use Rattle.std.specs.Str.{bytes_eq}
use Rattle.rel_base.specs.declared.value.Value.{Value}
use Rattle.rel_base.specs.declared.value.Value.TheVariants as value
use Rattle.rel_base.specs.Reading.{as_kind}
use Rattle.literals.specs.Text.{quote}
use Rattle.literals.specs.Bytes.{letter_x}
use Rattle.literals.specs.Number.{u64_at}
use Rattle.literals.proofs.Shrinks.{RestWithin, within_more, within_cond, text_within, bytes_within, u64_within}
use Rattle.tx_text.specs.Fields.{after, is_space}
use Rattle.tx_text.specs.Values.{plain_int, minus_int, int_of, minus, int_at, flag, bool_at, value_at}
use Rattle.tx_text.specs.Lines.{arg_at, first_and_more, args_within}

within_kind : {A : Type 0} (n : ℕ) (make : A → Value) (found : Option (A × List ℕ)) → RestWithin n found → RestWithin n (as_kind make found)
within_kind n make None h = tt
within_kind n make (Some found) h = h

within_sign : (n : ℕ) (made : Option ℤ) (rest : List ℕ) → length rest ≤ n → RestWithin n (option_map (λ z. (z, rest)) made)
within_sign n None rest h = tt
within_sign n (Some z) rest h = h

within_int : (n : ℕ) (sign : ℕ → Option ℤ) (found : Option (ℕ × List ℕ)) → RestWithin n found → RestWithin n (option_and_then (int_of sign) found)
within_int n sign None h = tt
within_int n sign (Some found) h = within_sign n (sign found.0) found.1 h

int_within : (bs : List ℕ) → RestWithin (length bs) (int_at bs)
int_within [] = tt
int_within (b ∷ bs) = within_cond (length (b ∷ bs)) (b == minus) _ _
    (within_more (length bs) _ (option_and_then (int_of minus_int) (u64_at bs)) (omega arith) (within_int _ minus_int _ (u64_within bs)))
    (within_int _ plain_int _ (u64_within (b ∷ bs)))

within_flag : (front bytes : List ℕ) (b : Bool) → RestWithin (length bytes) (option_map (flag b) (after front bytes))
within_flag front bytes b = go (bytes_eq (take (length front) bytes) front) where
  go : (test : Bool) → RestWithin (length bytes) (option_map (flag b) (cond test (Some (drop (length front) bytes)) None))
  go true = omega (arith, length-drop (length front) bytes)
  go false = tt

within_or : {A : Type 0} (n : ℕ) (x y : Option (A × List ℕ)) → RestWithin n x → RestWithin n y → RestWithin n (option_or x y)
within_or n None y hx hy = hy
within_or n (Some x) y hx hy = hx

bool_within : (bs : List ℕ) → RestWithin (length bs) (bool_at bs)
bool_within bs = within_or (length bs) _ _ (within_flag (codes "true") bs true) (within_flag (codes "false") bs false)

pub value_within : (bs : List ℕ) → RestWithin (length bs) (value_at bs)
value_within [] = tt
value_within (b ∷ bs) = within_cond (length (b ∷ bs)) (b == quote) _ _ (within_kind _ value.Text _ (text_within (b ∷ bs)))
    (within_cond (length (b ∷ bs)) (b == letter_x) _ _ (within_kind _ value.Bytes _ (bytes_within (b ∷ bs)))
    (within_cond (length (b ∷ bs)) (b == 116 || b == 102) _ _ (within_kind _ value.Bool _ (bool_within (b ∷ bs))) (within_kind _ value.Int _ (int_within (b ∷ bs)))))

-- an argument takes its space
pub arg_within : (b : ℕ) (bs : List ℕ) → RestWithin (length bs) (arg_at (b ∷ bs))
arg_within b bs = within_cond (length bs) (is_space b) (value_at bs) None (value_within bs) tt

-- what is said of the rest of a first argument is said of all
same_more : (k : ℕ) (f g : List ℕ → Option (List Value)) → ((rest : List ℕ) → length rest ≤ k → f rest ≡ g rest) → (found : Option (Value × List ℕ)) → RestWithin k found → first_and_more found f ≡ first_and_more found g
same_more k f g same None h = refl
same_more k f g same (Some found) h = ap (λ values. option_map (λ values. found.0 ∷ values) values) (same found.1 h)

args_empty : (n : ℕ) → args_within n [] ≡ Some []
args_empty zero = refl
args_empty (suc n) = refl

-- two bounds that are large enough
pub args_bounds : (m n : ℕ) (bs : List ℕ) → length bs ≤ m → length bs ≤ n → args_within m bs ≡ args_within n bs
args_bounds m n [] hm hn = args_empty m ∙ sym (args_empty n)
args_bounds zero n (b ∷ bs) hm hn = absurd (omega (arith, hm))
args_bounds (suc m) zero (b ∷ bs) hm hn = absurd (omega (arith, hn))
args_bounds (suc m) (suc n) (b ∷ bs) hm hn =
    same_more (length bs) (args_within m) (args_within n) (λ rest le. args_bounds m n rest (omega (arith, hm, le)) (omega (arith, hn, le))) (arg_at (b ∷ bs)) (arg_within b bs)
