-- The digest files of peers, one after another.
use Rattle.std.proofs.Common.{Bool, IfOk, IfSome, List, None, Option, Some, [], ap, append-nil, append_assoc, arith, cond, inl, inr, length, refl, subst, suc, sym, zero, ◌+◌, ◌-◌, ◌++◌, ◌<◌, ◌∙◌, ◌≡◌, ◌≤◌, ◌∷◌, ℕ}
use Rattle.std.proofs.lemmas.Bool.{le-leb, lt-leb}
use Rattle.std.specs.Prelude.{Err, Ok, Result}
use Rattle.std.specs.Result.{IsOk}
use Rattle.bcdb.proofs.Planning.{keeps_plan}
use Rattle.bcdb.specs.ArrivalFiles.{node_file}
use Rattle.bcdb.specs.ComparisonAnswer.{over_comparison}
use Rattle.bcdb.specs.PeerFiles.{after_others, all_digests, digests_before, digests_read}
use Rattle.bcdb.specs.Plan.{AllowsPlan, Counted, RoseAt, RoseIn, digests_plan}
use Rattle.bcdb.specs.Reply.{Means}
use Rattle.bcdb.specs.declared.fault.FilesFault.TheVariants as fault
use Rattle.bcdb.specs.declared.fault.FilesFault.{FilesFault}
use Rattle.bcdb.specs.declared.refusal.BadDigests.{BadDigests}
use Rattle.bcdb.specs.declared.reply.Reply.{Reply}
use Rattle.checkpoint.specs.Files.{digests_of}
use Rattle.edge_traits.specs.Causes.{AllowsFront, Counts, Keeps, Leave, Rose}
use Rattle.edge_traits.specs.Shelf.{Files}

-- ---- one file

pub long_told : (told : Option Files) (name : List ℕ) → IfSome told (λ files. 73000010 < length (files name)) → IfSome told (λ files. digests_read (files name) ≡ Err 0)
long_told None name long = tt
long_told (Some files) name long = ap (λ (b : Bool). cond b (digests_of (files name)) (Err 0)) (lt-leb (length (files name)) 73000010 long)

pub short_told : (told : Option Files) (name bytes : List ℕ) (read : Result (List (List ℕ)) ℕ) → IfSome told (λ files. bytes ≡ files name) → length bytes ≤ 73000010 → digests_of bytes ≡ read
    → IfSome told (λ files. digests_read (files name) ≡ read)
short_told None name bytes read same short is = tt
short_told (Some files) name bytes read same short is =
    ap digests_read (sym same) ∙ ap (λ (b : Bool). cond b (digests_of bytes) (Err 0)) (le-leb (length bytes) 73000010 short) ∙ is

-- ---- what may be read

pub may_read_peer : (prefix : List ℕ) (peer left : ℕ) (told : Option Files) (may_read : Leave) → 1 ≤ left → AllowsPlan (digests_plan prefix peer left) told may_read
    → AllowsFront may_read (node_file prefix peer) 73000011
may_read_peer prefix peer zero told may_read some allows = absurd (omega (arith, some))
may_read_peer prefix peer (suc left) told may_read some allows = allows.0

sound_peer : (told : Option Files) (name : List ℕ) (digests : List (List ℕ)) → IfSome told (λ files. digests_read (files name) ≡ Ok digests) → IfSome told (λ files. IsOk (digests_read (files name)))
sound_peer None name digests is = tt
sound_peer (Some files) name digests is = subst (λ (found : Result (List (List ℕ)) ℕ). IsOk found) (sym is) refl

pub may_read_rest : (prefix : List ℕ) (peer left rest : ℕ) (told : Option Files) (old new : Leave) (digests : List (List ℕ)) → 1 ≤ left → rest ≡ left - 1 → AllowsPlan (digests_plan prefix peer left) told old
    → Keeps old new → IfSome told (λ files. digests_read (files (node_file prefix peer)) ≡ Ok digests) → AllowsPlan (digests_plan prefix (peer + 1) rest) told new
may_read_rest prefix peer zero rest told old new digests some one allows keeps is = absurd (omega (arith, some))
may_read_rest prefix peer (suc left) rest told old new digests some one allows keeps is =
    let same : rest ≡ left = omega (arith, one) in
    subst (λ n. AllowsPlan (digests_plan prefix (peer + 1) n) told new) (sym same)
    (keeps_plan (digests_plan prefix (peer + 1) left) told old new keeps (allows.1 (sound_peer told (node_file prefix peer) digests is)))

-- ---- what is read

after_none : (found : Result (List (List (List ℕ))) BadDigests) → after_others [] found ≡ found
after_none (Ok peers) = refl
after_none (Err bad) = refl

after_one : (others : List (List (List ℕ))) (peer : ℕ) (digests : List (List ℕ)) (found : Result (List (List (List ℕ))) BadDigests) → after_others (others ++ digests ∷ []) found ≡ after_others others (digests_before peer (Ok digests) found)
after_one others peer digests (Ok peers) = ap Ok (append_assoc others (digests ∷ []) peers)
after_one others peer digests (Err bad) = refl

pub none_told : (told : Option Files) (prefix : List ℕ) (peer left : ℕ) (others : List (List (List ℕ))) → left ≡ 0 → IfSome told (λ files. after_others others (all_digests prefix peer left files) ≡ Ok others)
none_told None prefix peer left others none = tt
none_told (Some files) prefix peer zero others none = ap Ok (append-nil others)
none_told (Some files) prefix peer (suc left) others none = absurd (omega (arith, none))

pub more_told : (told : Option Files) (prefix : List ℕ) (peer left rest : ℕ) (others peers : List (List (List ℕ))) (digests : List (List ℕ)) (read : Result (List (List (List ℕ))) BadDigests) → 1 ≤ left → rest ≡ left - 1
    → peers ≡ others ++ digests ∷ [] → IfSome told (λ files. digests_read (files (node_file prefix peer)) ≡ Ok digests)
    → IfSome told (λ files. after_others peers (all_digests prefix (peer + 1) rest files) ≡ read) → IfSome told (λ files. after_others others (all_digests prefix peer left files) ≡ read)
more_told None prefix peer left rest others peers digests read some one pushed is comes = tt
more_told (Some files) prefix peer zero rest others peers digests read some one pushed is comes = absurd (omega (arith, some))
more_told (Some files) prefix peer (suc left) rest others peers digests read some one pushed is comes =
    let same : rest ≡ left = omega (arith, one) in
    ap (λ (found : Result (List (List ℕ)) ℕ). after_others others (digests_before peer found (all_digests prefix (peer + 1) left files))) is
    ∙ sym (after_one others peer digests (all_digests prefix (peer + 1) left files)) ∙ ap (λ made. after_others made (all_digests prefix (peer + 1) left files)) (sym pushed)
    ∙ ap (λ n. after_others peers (all_digests prefix (peer + 1) n files)) (sym same) ∙ comes

pub more_all : (told after : Option Files) (prefix : List ℕ) (peer left rest : ℕ) (others peers : List (List (List ℕ))) (digests : List (List ℕ)) (result : Result (Result (List (List (List ℕ))) BadDigests) FilesFault)
    → after ≡ told → 1 ≤ left → rest ≡ left - 1 → peers ≡ others ++ digests ∷ [] → IfSome told (λ files. digests_read (files (node_file prefix peer)) ≡ Ok digests)
    → IfOk result (λ read. IfSome after (λ files. after_others peers (all_digests prefix (peer + 1) rest files) ≡ read))
    → IfOk result (λ read. IfSome told (λ files. after_others others (all_digests prefix peer left files) ≡ read))
more_all told after prefix peer left rest others peers digests (Ok read) same some one pushed is comes =
    more_told told prefix peer left rest others peers digests read some one pushed is
    (subst (λ (shown : Option Files). IfSome shown (λ files. after_others peers (all_digests prefix (peer + 1) rest files) ≡ read)) same comes)
more_all told after prefix peer left rest others peers digests (Err e) same some one pushed is comes = tt

pub bad_told : (told : Option Files) (prefix : List ℕ) (peer left line : ℕ) (others : List (List (List ℕ))) → 1 ≤ left → IfSome told (λ files. digests_read (files (node_file prefix peer)) ≡ Err line)
    → IfSome told (λ files. after_others others (all_digests prefix peer left files) ≡ Err (record { peer = peer; line = line }))
bad_told None prefix peer left line others some is = tt
bad_told (Some files) prefix peer zero line others some is = absurd (omega (arith, some))
bad_told (Some files) prefix peer (suc left) line others some is =
    ap (λ (found : Result (List (List ℕ)) ℕ). after_others others (digests_before peer found (all_digests prefix (peer + 1) left files))) is

pub all_told : (told : Option Files) (prefix : List ℕ) (count : ℕ) (others : List (List (List ℕ))) (read : Result (List (List (List ℕ))) BadDigests) → others ≡ []
    → IfSome told (λ files. after_others others (all_digests prefix 1 count files) ≡ read) → IfSome told (λ files. all_digests prefix 1 count files ≡ read)
all_told None prefix count others read none comes = tt
all_told (Some files) prefix count others read none comes =
    sym (after_none (all_digests prefix 1 count files)) ∙ ap (λ made. after_others made (all_digests prefix 1 count files)) (sym none) ∙ comes

-- ---- whose read failed

pub peer_counted : (T U : Type 0) (prefix : List ℕ) (peer left : ℕ) (why : FilesFault) (before now : Counts) → 1 ≤ left
    → Counted {T = T} (Err why) (Rose (before (node_file prefix peer)) (now (node_file prefix peer))) before now → Counted {T = U} (Err why) (RoseAt (digests_plan prefix peer left) before now) before now
peer_counted T U prefix peer zero why before now some counted = absurd (omega (arith, some))
peer_counted T U prefix peer (suc left) fault.Failed before now some counted = inl counted
peer_counted T U prefix peer (suc left) fault.NoMemory before now some counted = counted

pub rest_counted : {T : Type 0} (prefix : List ℕ) (peer left rest : ℕ) (result : Result T FilesFault) (before middle now : Counts) → 1 ≤ left → rest ≡ left - 1 → middle ≡ before
    → Counted result (RoseAt (digests_plan prefix (peer + 1) rest) middle now) middle now → Counted result (RoseAt (digests_plan prefix peer left) before now) before now
rest_counted prefix peer zero rest result before middle now some one same counted = absurd (omega (arith, some))
rest_counted prefix peer (suc left) rest (Ok value) before middle now some one same counted = counted ∙ same
rest_counted prefix peer (suc left) rest (Err fault.NoMemory) before middle now some one same counted = counted ∙ same
rest_counted prefix peer (suc left) rest (Err fault.Failed) before middle now some one same counted =
    let equal : rest ≡ left = omega (arith, one) in
    inr (subst (λ n. RoseAt (digests_plan prefix (peer + 1) n) before now) equal (subst (λ (counts : Counts). RoseAt (digests_plan prefix (peer + 1) rest) counts now) same counted))

pub peer_turn : (T : Type 0) (told : Option Files) (prefix : List ℕ) (peer left : ℕ) (why : FilesFault) (before now : Counts) → 1 ≤ left → why ≡ fault.Failed
    → Counted {T = T} (Err why) (Rose (before (node_file prefix peer)) (now (node_file prefix peer))) before now → IfSome told (λ files. RoseIn (digests_plan prefix peer left) files before now)
peer_turn T None prefix peer left why before now some failed counted = tt
peer_turn T (Some files) prefix peer zero why before now some failed counted = absurd (omega (arith, some))
peer_turn T (Some files) prefix peer (suc left) fault.Failed before now some failed counted = inl counted
peer_turn T (Some files) prefix peer (suc left) fault.NoMemory before now some failed counted = absurd (cc)

pub rest_turn : (told : Option Files) (prefix : List ℕ) (peer left rest : ℕ) (digests : List (List ℕ)) (before middle now : Counts) → 1 ≤ left → rest ≡ left - 1 → middle ≡ before
    → IfSome told (λ files. digests_read (files (node_file prefix peer)) ≡ Ok digests) → IfSome told (λ files. RoseIn (digests_plan prefix (peer + 1) rest) files middle now)
    → IfSome told (λ files. RoseIn (digests_plan prefix peer left) files before now)
rest_turn None prefix peer left rest digests before middle now some one same is turn = tt
rest_turn (Some files) prefix peer zero rest digests before middle now some one same is turn = absurd (omega (arith, some))
rest_turn (Some files) prefix peer (suc left) rest digests before middle now some one same is turn =
    let equal : rest ≡ left = omega (arith, one) in
    inr (
      sound_peer (Some files) (node_file prefix peer) digests is,
      subst (λ n. RoseIn (digests_plan prefix (peer + 1) n) files before now) equal (subst (λ (counts : Counts). RoseIn (digests_plan prefix (peer + 1) rest) files counts now) same turn),
    )

-- ---- what is answered

pub compared_told : (told : Option Files) (prefix : List ℕ) (count : ℕ) (read : Result (List (List (List ℕ))) BadDigests) (reply : Reply) → IfSome told (λ files. all_digests prefix 1 count files ≡ read)
    → Means (over_comparison read) reply → IfSome told (λ files. Means (over_comparison (all_digests prefix 1 count files)) reply)
compared_told None prefix count read reply is means = tt
compared_told (Some files) prefix count read reply is means = subst (λ (found : Result (List (List (List ℕ))) BadDigests). Means (over_comparison found) reply) (sym is) means
