-- The digest files of peers: a file for each, by its number.
use Rattle.std.specs.Prelude.{Err, List, Ok, Result, [], cond, length, nat_le, suc, zero, ◌+◌, ◌++◌, ◌∷◌, ℕ}
use Rattle.bcdb.specs.ArrivalFiles.{node_file}
use Rattle.bcdb.specs.declared.refusal.BadDigests.{BadDigests}
use Rattle.checkpoint.specs.Files.{digests_of}
use Rattle.edge_traits.specs.Shelf.{Files}

-- the digests of a file, or the number of its first bad line; that of a file of more than 73,000,010 bytes is 0
abbrev pub digests_read : List ℕ → Result (List (List ℕ)) ℕ
digests_read bytes = cond (nat_le (length bytes) 73000010) (digests_of bytes) (Err 0)

-- the digests of a peer, and then those of others; or of the first file that is refused the peer and the line
abbrev pub digests_before : ℕ → Result (List (List ℕ)) ℕ → Result (List (List (List ℕ))) BadDigests → Result (List (List (List ℕ))) BadDigests
digests_before peer (Err line) others = Err (record { peer = peer; line = line })
digests_before peer (Ok digests) (Err bad) = Err bad
digests_before peer (Ok digests) (Ok others) = Ok (digests ∷ others)

-- those of so many peers, which are numbered one after another
abbrev pub all_digests : (prefix : List ℕ) → (peer count : ℕ) → Files → Result (List (List (List ℕ))) BadDigests
all_digests prefix peer zero files = Ok []
all_digests prefix peer (suc count) files = digests_before peer (digests_read (files (node_file prefix peer))) (all_digests prefix (peer + 1) count files)

-- the same after those of others
abbrev pub after_others : List (List (List ℕ)) → Result (List (List (List ℕ))) BadDigests → Result (List (List (List ℕ))) BadDigests
after_others others (Err bad) = Err bad
after_others others (Ok peers) = Ok (others ++ peers)
