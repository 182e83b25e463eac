-- The majority of peers at a height, and where peers differ from it and from each other.
use Rattle.checkpoint.specs.declared.comparing.Compared.{Compared}
use Rattle.std.specs.List.{count_by, find, filter_map, list_any, range_with_len}
use Rattle.std.specs.Prelude.{Bool, List, None, Option, Some, [], false, length, map, max, nat_lt, not, slice_get, suc, zero, ◌*◌, ◌∷◌, ℕ}
use Rattle.std.specs.Str.{bytes_eq}

-- the digest that a peer has at a height, if it has that height
abbrev pub digest_at : List (List ℕ) → ℕ → Option (List ℕ)
digest_at peer zero = None
digest_at peer (suc before) = slice_get peer before

-- the digests that peers have at a height, peer by peer; one without that height has none
abbrev pub digests_at : List (List (List ℕ)) → ℕ → List (List ℕ)
digests_at peers height = filter_map (λ peer. digest_at peer height) peers

-- a digest is there, and is this one
abbrev pub is_same : List ℕ → Option (List ℕ) → Bool
is_same digest None = false
is_same digest (Some own) = bytes_eq digest own

-- more than half of all peers have this digest there
abbrev pub is_majority : List (List (List ℕ)) → ℕ → List ℕ → Bool
is_majority peers height digest = nat_lt (length peers) (2 * count_by (λ peer. is_same digest (digest_at peer height)) peers)

-- the digest that more than half of all peers have there
abbrev pub majority : List (List (List ℕ)) → ℕ → Option (List ℕ)
majority peers height = find (is_majority peers height) (digests_at peers height)

-- a digest is there, and is another
abbrev pub is_other : Option (List ℕ) → Option (List ℕ) → Bool
is_other None own = false
is_other (Some most) None = false
is_other (Some most) (Some own) = not (bytes_eq most own)

-- the least height at which there is a majority and the peer's digest is another
abbrev pub differs : List (List (List ℕ)) → List (List ℕ) → Option ℕ
differs peers peer = find (λ height. is_other (majority peers height) (digest_at peer height)) (range_with_len 1 (length peer))

-- two of some digests are different
abbrev pub are_apart : List (List ℕ) → Bool
are_apart digests = list_any (λ one. list_any (λ other. not (bytes_eq one other)) digests) digests

-- the greatest number of digests that a peer has
abbrev pub longest : List (List (List ℕ)) → ℕ
longest [] = 0
longest (peer ∷ peers) = max (length peer) (longest peers)

-- the least height at which two peers have different digests
abbrev pub first_apart : List (List (List ℕ)) → Option ℕ
first_apart peers = find (λ height. are_apart (digests_at peers height)) (range_with_len 1 (longest peers))

abbrev pub compared : List (List (List ℕ)) → Compared
compared peers = record { peers = map (differs peers) peers; first = first_apart peers }
