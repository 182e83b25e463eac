-- Which transactions of a block get a new job.
use Rattle.std.proofs.Common.{Bool, List, None, Option, Some, [], ap, append-nil, append_assoc, cond, false, length, length-append, map, refl, sym, take, true, ◌+◌, ◌++◌, ◌||◌, ◌∙◌, ◌≡◌, ◌∷◌, ℕ}
use Rattle.std.proofs.lemmas.Bool.{and_parts, false≢true}
use Rattle.std.proofs.lemmas.List.Folds.{list_any-append}
use Rattle.std.proofs.lemmas.List.{map-append}
use Rattle.std.proofs.lemmas.Slice.Eq.{bytes_eq-Decides}
use Rattle.std.specs.List.{list_any}
use Rattle.std.specs.Option.{is_some}
use Rattle.std.specs.Str.{bytes_eq}
use Rattle.block_work.specs.declared.ids.IdIndex.{IdIndex}
use Rattle.node_core.specs.Fresh.{fresh_in, needs_none}
use Rattle.node_core.specs.declared.jobs.JobRow.{JobRow}
use Rattle.node_model.specs.Decide.{early}
use Rattle.node_model.specs.Events.{needs_no_job, with_jobs}
use Rattle.node_model.specs.World.{Job, is_for, job_of, new_job}
use Rattle.node_model.specs.declared.outcome.Outcome.{Outcome}
use Rattle.proc_syntax.specs.declared.call.Tx.{Tx}
use Rattle.proc_syntax.specs.declared.tree.App.{App}
use Rattle.schedule_laws.proofs.Choosing.{early-none}
use Rattle.rel_base.proofs.Bits.{or_right}

abbrev ids_in : List Tx → List (List ℕ)
ids_in txs = map (λ (tx : Tx). tx.id) txs

-- a transaction whose id is none of some others has the job that it had before these got jobs
job_among : (tx : Tx) (made : List Tx) → list_any (bytes_eq tx.id) (ids_in made) ≡ false → job_of tx (map new_job made) ≡ None
job_among tx [] other = refl
job_among tx (one ∷ made) other = ap (λ b. cond b (Some (new_job one)) (job_of tx (map new_job made))) differs ∙ job_among tx made rest
  where
    rest : list_any (bytes_eq tx.id) (ids_in made) ≡ false
    rest = by (bytes_eq tx.id one.id) (list_any (bytes_eq tx.id) (ids_in made)) other
      where
        by : (a b : Bool) → (a || b) ≡ false → b ≡ false
        by false b e = e
        by true b e = absurd (false≢true (sym e))

    apart : bytes_eq tx.id one.id ≡ false
    apart = by (bytes_eq tx.id one.id) (list_any (bytes_eq tx.id) (ids_in made)) other
      where
        by : (a b : Bool) → (a || b) ≡ false → a ≡ false
        by false b e = refl
        by true b e = absurd (false≢true (sym e))

    differs : is_for tx (new_job one) ≡ false
    differs = by (is_for tx (new_job one)) refl
      where
        by : (b : Bool) → is_for tx (new_job one) ≡ b → b ≡ false
        by false e = refl
        by true e = absurd (false≢true (sym apart ∙ (bytes_eq-Decides tx.id one.id).1 (sym ((bytes_eq-Decides one.id tx.id).0 (and_parts (bytes_eq one.id tx.id) _ e).0))))

job_more : (tx : Tx) (jobs more : List Job) → job_of tx more ≡ None → job_of tx (jobs ++ more) ≡ job_of tx jobs
job_more tx [] more none = none
job_more tx (job ∷ jobs) more none = ap (cond (is_for tx job) (Some job)) (job_more tx jobs more none)

module _ (app : App) (ids : List (List ℕ)) (number : ℕ) (jobs : List Job) where
  -- those of the last transactions of a block that need a job, by the definitions
  abbrev pub fresh_of : List Tx → List Tx → List Tx
  fresh_of before [] = []
  fresh_of before (tx ∷ rest) = cond (needs_no_job app (ids ++ ids_in before) number jobs tx) (fresh_of (before ++ tx ∷ []) rest) (tx ∷ fresh_of (before ++ tx ∷ []) rest)

  -- each id of some transactions is one of others
  abbrev AreIn : List Tx → List Tx → Type 0
  AreIn made before = (id : List ℕ) → list_any (bytes_eq id) (ids_in made) ≡ true → list_any (bytes_eq id) (ids_in before) ≡ true

  not_early : (before made : List Tx) (tx : Tx) → AreIn made before → early app (ids ++ ids_in before) number tx ≡ None → list_any (bytes_eq tx.id) (ids_in made) ≡ false
  not_early before made tx are none = by (list_any (bytes_eq tx.id) (ids_in made)) refl
    where
      by : (b : Bool) → list_any (bytes_eq tx.id) (ids_in made) ≡ b → b ≡ false
      by false e = refl
      by true e = absurd (false≢true (sym ((early-none app (ids ++ ids_in before) number tx none).unknown) ∙ (list_any-append (bytes_eq tx.id) ids (ids_in before) ∙ or_right (list_any (bytes_eq tx.id) ids) (list_any (bytes_eq tx.id) (ids_in before)) (are tx.id e))))

  needs_same : (before made : List Tx) (tx : Tx) → AreIn made before → needs_no_job app (ids ++ ids_in before) number (jobs ++ map new_job made) tx ≡ needs_no_job app (ids ++ ids_in before) number jobs tx
  needs_same before made tx are = by (early app (ids ++ ids_in before) number tx) refl
    where
      by : (found : Option Outcome) → early app (ids ++ ids_in before) number tx ≡ found → needs_no_job app (ids ++ ids_in before) number (jobs ++ map new_job made) tx ≡ needs_no_job app (ids ++ ids_in before) number jobs tx
      by (Some cause) e = ap (λ (o : Option Outcome). is_some o || is_some (job_of tx (jobs ++ map new_job made))) e ∙ sym (ap (λ (o : Option Outcome). is_some o || is_some (job_of tx jobs)) e)
      by None e = ap (λ (o : Option Job). is_some (early app (ids ++ ids_in before) number tx) || is_some o) (job_more tx jobs (map new_job made) (job_among tx made (not_early before made tx are e)))

  in_more : (made before : List Tx) (tx : Tx) → AreIn made before → AreIn made (before ++ tx ∷ [])
  in_more made before tx are id e =
      ap (list_any (bytes_eq id)) (map-append (λ (t : Tx). t.id) before (tx ∷ [])) ∙ list_any-append (bytes_eq id) (ids_in before) (tx.id ∷ []) ∙ ap (λ b. b || list_any (bytes_eq id) (tx.id ∷ [])) (are id e)

  in_both : (made before : List Tx) (tx : Tx) → AreIn made before → AreIn (made ++ tx ∷ []) (before ++ tx ∷ [])
  in_both made before tx are id e =
      ap (list_any (bytes_eq id)) (map-append (λ (t : Tx). t.id) before (tx ∷ [])) ∙ list_any-append (bytes_eq id) (ids_in before) (tx.id ∷ [])
      ∙ by (list_any (bytes_eq id) (ids_in made)) (list_any (bytes_eq id) (ids_in before)) (list_any (bytes_eq id) (tx.id ∷ [])) (are id)
      (sym (ap (list_any (bytes_eq id)) (map-append (λ (t : Tx). t.id) made (tx ∷ [])) ∙ list_any-append (bytes_eq id) (ids_in made) (tx.id ∷ [])) ∙ e)
    where
      by : (a b c : Bool) → (a ≡ true → b ≡ true) → (a || c) ≡ true → (b || c) ≡ true
      by true b c there e = ap (λ x. x || c) (there refl)
      by false true c there e = refl
      by false false c there e = e

  ids_more : (before : List Tx) (tx : Tx) → (ids ++ ids_in before) ++ tx.id ∷ [] ≡ ids ++ ids_in (before ++ tx ∷ [])
  ids_more before tx = append_assoc ids (ids_in before) (tx.id ∷ []) ∙ ap (λ more. ids ++ more) (sym (map-append (λ (t : Tx). t.id) before (tx ∷ [])))

  -- a delivery gives each of these a job, in order
  pub grow : (before made rest : List Tx) → AreIn made before → with_jobs app (ids ++ ids_in before) number rest (jobs ++ map new_job made) ≡ jobs ++ map new_job (made ++ fresh_of before rest)
  grow before made [] are = ap (λ (ms : List Tx). jobs ++ map new_job ms) (sym (append-nil made))
  grow before made (tx ∷ rest) are =
      ap (λ b. with_jobs app ((ids ++ ids_in before) ++ tx.id ∷ []) number rest (cond b (jobs ++ map new_job made) ((jobs ++ map new_job made) ++ new_job tx ∷ []))) (needs_same before made tx are)
      ∙ ap (λ known. with_jobs app known number rest (cond (needs_no_job app (ids ++ ids_in before) number jobs tx) (jobs ++ map new_job made) ((jobs ++ map new_job made) ++ new_job tx ∷ []))) (ids_more before tx)
      ∙ by (needs_no_job app (ids ++ ids_in before) number jobs tx) (grow (before ++ tx ∷ []) made rest (in_more made before tx are)) (grow (before ++ tx ∷ []) (made ++ tx ∷ []) rest (in_both made before tx are))
    where
      more_is : (jobs ++ map new_job made) ++ new_job tx ∷ [] ≡ jobs ++ map new_job (made ++ tx ∷ [])
      more_is = append_assoc jobs (map new_job made) (new_job tx ∷ []) ∙ ap (λ more. jobs ++ more) (sym (map-append new_job made (tx ∷ [])))

      by : (b : Bool) → with_jobs app (ids ++ ids_in (before ++ tx ∷ [])) number rest (jobs ++ map new_job made) ≡ jobs ++ map new_job (made ++ fresh_of (before ++ tx ∷ []) rest)
          → with_jobs app (ids ++ ids_in (before ++ tx ∷ [])) number rest (jobs ++ map new_job (made ++ tx ∷ [])) ≡ jobs ++ map new_job ((made ++ tx ∷ []) ++ fresh_of (before ++ tx ∷ []) rest)
          → with_jobs app (ids ++ ids_in (before ++ tx ∷ [])) number rest (cond b (jobs ++ map new_job made) ((jobs ++ map new_job made) ++ new_job tx ∷ []))
          ≡ jobs ++ map new_job (made ++ cond b (fresh_of (before ++ tx ∷ []) rest) (tx ∷ fresh_of (before ++ tx ∷ []) rest))
      by true skips adds = skips
      by false skips adds =
          ap (with_jobs app (ids ++ ids_in (before ++ tx ∷ [])) number rest) more_is ∙ adds ∙ ap (λ (ms : List Tx). jobs ++ map new_job ms) (append_assoc made (tx ∷ []) (fresh_of (before ++ tx ∷ []) rest))

  -- by what a node keeps
  pub fresh_is : (index : IdIndex) (rows : List JobRow) → ((before : List Tx) (tx : Tx) → needs_none app index rows number before tx ≡ needs_no_job app (ids ++ ids_in before) number jobs tx)
      → (all before rest : List Tx) → all ≡ before ++ rest → fresh_in app index rows number all (length before) rest ≡ fresh_of before rest
  fresh_is index rows same all before [] is = refl
  fresh_is index rows same all before (tx ∷ rest) is =
      ap (λ (front : List Tx). cond (needs_none app index rows number front tx) (fresh_in app index rows number all (length before + 1) rest) (tx ∷ fresh_in app index rows number all (length before + 1) rest)) front_is
      ∙ ap (λ b. cond b (fresh_in app index rows number all (length before + 1) rest) (tx ∷ fresh_in app index rows number all (length before + 1) rest)) (same before tx)
      ∙ ap (λ (more : List Tx). cond (needs_no_job app (ids ++ ids_in before) number jobs tx) more (tx ∷ more))
      (ap (λ n. fresh_in app index rows number all n rest) longer ∙ fresh_is index rows same all (before ++ tx ∷ []) rest (is ∙ sym (append_assoc before (tx ∷ []) rest)))
    where
      longer : length before + 1 ≡ length (before ++ tx ∷ [])
      longer = sym (length-append before (tx ∷ []))

      take_front : (xs ys : List Tx) → take (length xs) (xs ++ ys) ≡ xs
      take_front [] ys = refl
      take_front (x ∷ xs) ys = ap (λ zs. x ∷ zs) (take_front xs ys)

      front_is : take (length before) all ≡ before
      front_is = ap (take (length before)) is ∙ take_front before (tx ∷ rest)
