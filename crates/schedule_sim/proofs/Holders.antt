-- The job that an actor holds, by the list of jobs.
use Rattle.std.proofs.Common.{Bool, List, None, Option, Some, [], ap, arith, cond, false, refl, slice_get, suc, sym, true, zero, ◌+◌, ◌||◌, ◌∙◌, ◌≡◌, ◌∷◌, ℕ}
use Rattle.std.proofs.lemmas.Bool.{eq-eqb, eqb-true, false≢true}
use Rattle.std.proofs.lemmas.Option.{none-some, same_Some}
use Rattle.std.specs.List.{list_any, position_from}
use Rattle.node_model.specs.World.{Done, Dropped, Held, Holds, HoldsNone, Job, JobStatus, Waiting, World, is_held_by, job_at}
use Rattle.schedule_sim.specs.Running.{held_by}

is_holder : (actor : ℕ) (s : JobStatus) → is_held_by actor s ≡ true → s ≡ Held actor
is_holder actor Waiting e = absurd (false≢true e)
is_holder actor (Held other) e = ap Held (eqb-true other actor e)
is_holder actor Done e = absurd (false≢true e)
is_holder actor Dropped e = absurd (false≢true e)

record FoundAt (actor first : ℕ) (jobs : List Job) (number : ℕ) : Type 0 where
  pub place : ℕ
  pub job : Job
  pub is : number ≡ first + place
  pub stands : slice_get jobs place ≡ Some job
  pub held : job.status ≡ Held actor

found_at : (actor first : ℕ) (jobs : List Job) (number : ℕ) → position_from (λ job. is_held_by actor job.status) first jobs ≡ Some number → FoundAt actor first jobs number
found_at actor first [] number e = absurd (none-some number e)
found_at actor first (y ∷ ys) number e =
    (elim (is_held_by actor y.status) as (λ b. is_held_by actor y.status ≡ b → cond b (Some first) (position_from (λ job. is_held_by actor job.status) (first + 1) ys) ≡ Some number → FoundAt actor first (y ∷ ys) number) [
      | true ↦ λ is e. let same = same_Some first number e in record { place = zero; job = y; is = omega (arith, same); stands = refl; held = is_holder actor y.status is }
      | false ↦ λ is e.
          let f = found_at actor (first + 1) ys number e in
          let at = f.is in
          record { place = suc f.place; job = f.job; is = omega (arith, at); stands = f.stands; held = f.held }
    ]) refl e

-- the actor holds the job of its number
pub holds_found : (actor number : ℕ) (w : World) → held_by actor w ≡ Some number → (job : Job) × Holds w.jobs actor number job
holds_found actor number w e =
    let f = found_at actor 1 w.jobs number e in
    let is = f.is in
    let at : number ≡ suc f.place = omega (arith, is) in
    (f.job, record { stands = ap (job_at w.jobs) at ∙ f.stands; held = f.held })

-- where there is none, no job is held
none_found : (actor first : ℕ) (jobs : List Job) → position_from (λ job. is_held_by actor job.status) first jobs ≡ None → list_any (λ job. is_held_by actor job.status) jobs ≡ false
none_found actor first [] e = refl
none_found actor first (y ∷ ys) e =
    (elim (is_held_by actor y.status) as (λ b. cond b (Some first) (position_from (λ job. is_held_by actor job.status) (first + 1) ys) ≡ None → (b || list_any (λ job. is_held_by actor job.status) ys) ≡ false) [
      | true ↦ λ e. absurd (none-some first (sym e))
      | false ↦ λ e. none_found actor (first + 1) ys e
    ]) e

pub none_holds : (actor : ℕ) (w : World) → held_by actor w ≡ None → list_any (λ job. is_held_by actor job.status) w.jobs ≡ false
none_holds actor w e = none_found actor 1 w.jobs e

-- so by what the actor holds
pub idle_is : (actor : ℕ) (w : World) → HoldsNone w actor → held_by actor w ≡ None
idle_is actor w none = by (held_by actor w) refl
  where
    by : (o : Option ℕ) → held_by actor w ≡ o → o ≡ None
    by None e = refl
    by (Some number) e = let h = holds_found actor number w e in absurd (none number h.0 h.1)

pub holder_is : (actor number : ℕ) (w : World) (job : Job) → Holds w.jobs actor number job → ((other : ℕ) (found : Job) → Holds w.jobs actor other found → other ≡ number) → held_by actor w ≡ Some number
holder_is actor number w job holds only = by (held_by actor w) refl
  where
    held_not : (jobs : List Job) (place : ℕ) → slice_get jobs place ≡ Some job → list_any (λ job. is_held_by actor job.status) jobs ≡ false → ⊥
    held_not [] place here e = none-some job here
    held_not (y ∷ ys) zero here e = false≢true (sym e ∙ ap (λ b. b || list_any (λ job. is_held_by actor job.status) ys) (ap (λ (x : Job). is_held_by actor x.status) (same_Some y job here) ∙ ap (is_held_by actor) holds.held ∙ eq-eqb actor actor refl))
    held_not (y ∷ ys) (suc place) here e = held_not ys place here (rest (is_held_by actor y.status) (list_any (λ job. is_held_by actor job.status) ys) e)
      where
        rest : (a b : Bool) → (a || b) ≡ false → b ≡ false
        rest true b e = absurd (false≢true (sym e))
        rest false b e = e

    numbered_not : (n : ℕ) → job_at w.jobs n ≡ Some job → list_any (λ job. is_held_by actor job.status) w.jobs ≡ false → ⊥
    numbered_not zero here e = none-some job here
    numbered_not (suc place) here e = held_not w.jobs place here e

    by : (o : Option ℕ) → held_by actor w ≡ o → o ≡ Some number
    by None e = absurd (numbered_not number holds.stands (none_holds actor w e))
    by (Some found) e = let h = holds_found actor found w e in ap (λ n. Some n) (only found h.0 h.1)
