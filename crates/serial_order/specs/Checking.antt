-- Whether a list is a serial order, as a test.
use Rattle.std.specs.Bool.{nat_eq}
use Rattle.std.specs.List.{list_all, list_any}
use Rattle.std.specs.Prelude.{Bool, List, length, not, true, [], ◌&&◌, ◌∷◌, ℕ}

module _ (has : ℕ → ℕ → Bool) where
  -- the later is another position than the earlier, and has no edge to it
  abbrev pub may_follow : ℕ → ℕ → Bool
  may_follow earlier later = not (nat_eq earlier later) && not (has later earlier)

  abbrev pub all_follow : List ℕ → Bool
  all_follow [] = true
  all_follow (earlier ∷ rest) = list_all (may_follow earlier) rest && all_follow rest

  abbrev pub is_serial : List ℕ → List ℕ → Bool
  is_serial positions list = nat_eq (length positions) (length list) && (list_all (λ pos. list_any (nat_eq pos) positions) list && all_follow list)
