-- What the command `compare` prints.
use Rattle.checkpoint.specs.Majority.{compared, majority}
use Rattle.checkpoint.specs.declared.comparing.Compared.{Compared}
use Rattle.hex.specs.Hex.{encode_lower}
use Rattle.std.specs.Prelude.{List, None, Option, Some, [], codes, decimal, length, ◌+◌, ◌++◌, ◌∷◌, ℕ}
use Rattle.tx_text.specs.Parts.{line_text}

-- a height, or `never`
abbrev pub height_text : Option ℕ → List ℕ
height_text None = codes "never"
height_text (Some height) = decimal height

-- the line of the peer of a number
abbrev pub peer_text : ℕ → List (List ℕ) → Option ℕ → List ℕ
peer_text number peer height = line_text (codes "peer " ++ decimal number ++ codes " length " ++ decimal (length peer) ++ codes " differs " ++ height_text height)

-- those of peers, from one of this number on
abbrev pub peers_text : ℕ → List (List (List ℕ)) → List (Option ℕ) → List ℕ
peers_text number [] heights = []
peers_text number (peer ∷ peers) [] = []
peers_text number (peer ∷ peers) (height ∷ heights) = peer_text number peer height ++ peers_text (number + 1) peers heights

-- a majority's digest, or `none`
abbrev pub majority_text : Option (List ℕ) → List ℕ
majority_text None = codes "none"
majority_text (Some digest) = encode_lower digest

-- the line of the first height at which two peers have different digests, with the majority there
abbrev pub first_text : List (List (List ℕ)) → Option ℕ → List ℕ
first_text peers None = line_text (codes "first never")
first_text peers (Some height) = line_text (codes "first " ++ decimal height ++ codes " majority " ++ majority_text (majority peers height))

abbrev pub compared_text : List (List (List ℕ)) → Compared → List ℕ
compared_text peers found = peers_text 1 peers found.peers ++ first_text peers found.first ++ line_text (codes "done")

-- the text of a comparison of peers
abbrev pub comparison : List (List (List ℕ)) → List ℕ
comparison peers = compared_text peers (compared peers)
