-- Values that are gathered from the left.
use Rattle.std.proofs.Common.{◌≡◌, List, [], ◌∷◌, ◌++◌, Result, Ok, Err, refl, ap, sym, append_assoc}
use Rattle.proc_syntax.specs.declared.run.Stop.{Stop}
use Rattle.proc_syntax.specs.Values.{◌>>=◌}

-- what was gathered, followed by what is gathered of the rest
abbrev pub after : {A : Type 0} → List A → Result (List A) Stop → Result (List A) Stop
after made rest = rest >>= λ xs. Ok (made ++ xs)

pub after_none : {A : Type 0} (rest : Result (List A) Stop) → after [] rest ≡ rest
after_none (Ok xs) = refl
after_none (Err why) = refl

-- one more is gathered
pub after_more : {A : Type 0} (made : List A) (x : A) (rest : Result (List A) Stop) → after made (rest >>= λ xs. Ok (x ∷ xs)) ≡ after (made ++ x ∷ []) rest
after_more made x (Ok xs) = ap Ok (sym (append_assoc made (x ∷ []) xs))
after_more made x (Err why) = refl
