-- Pieces that are written one after another.
use Rattle.std.proofs.Common.{List, OnOk, Result, ap, ◌++◌, ◌∙◌, ◌≡◌, ℕ}
use Rattle.std.proofs.lemmas.List.{append_assoc}
use Rattle.rel_base.proofs.Bytes.{pushed_twice}

-- four pieces
pub pushed_four : {A E : Type 0} (result : Result A E) (old first with_one second with_two third with_three fourth new : List ℕ)
    → with_one ≡ old ++ first → with_two ≡ with_one ++ second → with_three ≡ with_two ++ third → OnOk result (new ≡ with_three ++ fourth)
    → OnOk result (new ≡ old ++ (first ++ second ++ third ++ fourth))
pushed_four result old first with_one second with_two third with_three fourth new one two three four =
    let two_pieces : with_two ≡ old ++ (first ++ second) = two ∙ ap (λ bytes. bytes ++ second) one ∙ append_assoc old first second in
    let three_pieces : with_three ≡ old ++ (first ++ second ++ third) = three ∙ ap (λ bytes. bytes ++ third) two_pieces ∙ append_assoc old (first ++ second) third in
    pushed_twice result old (first ++ second ++ third) with_three fourth new three_pieces four
