-- Lists of jobs, and what a change of one leaves.
use Rattle.std.proofs.Common.{Bool, IsSome, List, None, Option, Some, [], ap, arith, bytes_eq, cond, false, inl, inr, is_eq, length, map, refl, slice_get, subst, suc, sym, true, zero, ◌+◌, ◌++◌, ◌==◌, ◌∙◌, ◌≡◌, ◌⊎◌, ◌∷◌, ℕ}
use Rattle.node_model.specs.World.{Job, change_job, change_place, is_for, is_live, job_at, job_of, same_tx}
use Rattle.rel_base.proofs.KeyOrder.{same_key}
use Rattle.proc_syntax.specs.declared.call.Tx.{Tx}
use Rattle.rel_base.specs.Value.{key_cmp-total, key_eq}
use Rattle.rel_base.specs.declared.value.Value.{Value}
use Rattle.schedule_laws.specs.Facts.{AreApart, EachJob}
use Rattle.std.proofs.lemmas.Bool.{and_from, and_parts, eq-eqb, eqb-true, false≢true}
use Rattle.std.proofs.lemmas.Cmp.{tied_itself}
use Rattle.std.proofs.lemmas.Option.{none-some, same_Some}
use Rattle.std.proofs.lemmas.Slice.Eq.{bytes_eq-Decides}

-- ---- the same transaction

pub same_tx-exact : (one two : Tx) → same_tx one two ≡ true → one ≡ two
same_tx-exact one two e =
    let id = and_parts (bytes_eq one.id two.id) _ e in
    let height = and_parts (one.height == two.height) _ id.1 in
    let procedure = and_parts (bytes_eq one.procedure two.procedure) (key_eq one.args two.args) height.1 in
    let p : one.id ≡ two.id = (bytes_eq-Decides one.id two.id).0 id.0 in
    let q : one.height ≡ two.height = eqb-true one.height two.height height.0 in
    let r : one.procedure ≡ two.procedure = (bytes_eq-Decides one.procedure two.procedure).0 procedure.0 in
    let s : one.args ≡ two.args = same_key one.args two.args procedure.1 in
    λ i. record { id = p i; height = q i; procedure = r i; args = s i }

same_keys : (one two : List Value) → one ≡ two → key_eq one two ≡ true
same_keys one two e = subst (λ other. key_eq one other ≡ true) e (ap is_eq (tied_itself key_cmp-total one))

pub same_tx-self : (one two : Tx) → one ≡ two → same_tx one two ≡ true
same_tx-self one two e =
    and_from _ _ ((bytes_eq-Decides one.id two.id).1 (ap (λ (tx : Tx). tx.id) e))
    (and_from _ _ (eq-eqb one.height two.height (ap (λ (tx : Tx). tx.height) e))
    (and_from _ _ ((bytes_eq-Decides one.procedure two.procedure).1 (ap (λ (tx : Tx). tx.procedure) e)) (same_keys one.args two.args (ap (λ (tx : Tx). tx.args) e))))

-- a job is for a transaction that it has
pub for-same : (tx : Tx) (job : Job) → is_for tx job ≡ true → job.tx ≡ tx
for-same tx job is = same_tx-exact job.tx tx (and_parts (is_live job.status) (same_tx job.tx tx) is).1

-- ---- elements, by their places from 0

get-snoc : {X : Type 0} (xs : List X) (x a : X) (i : ℕ) → slice_get (xs ++ x ∷ []) i ≡ Some a → (slice_get xs i ≡ Some a) ⊎ ((i ≡ length xs) × (a ≡ x))
get-snoc [] x a zero e = inr (refl, sym (same_Some x a e))
get-snoc [] x a (suc i) e = absurd (none-some a e)
get-snoc (y ∷ ys) x a zero e = inl e
get-snoc (y ∷ ys) x a (suc i) e = elim (get-snoc ys x a i e) [ inl l ↦ inl l | inr r ↦ inr (ap suc r.0, r.1) ]

get-left : {X : Type 0} (xs ys : List X) (i : ℕ) (a : X) → slice_get xs i ≡ Some a → slice_get (xs ++ ys) i ≡ Some a
get-left [] ys i a e = absurd (none-some a e)
get-left (x ∷ xs) ys zero a e = e
get-left (x ∷ xs) ys (suc i) a e = get-left xs ys i a e

record WasAt (jobs : List Job) (n : ℕ) (change : Job → Job) (i : ℕ) (a : Job) : Type 0 where
  pub was : Job
  pub stood : slice_get jobs i ≡ Some was
  pub now : (a ≡ was) ⊎ ((i ≡ n) × (a ≡ change was))

deeper : (jobs : List Job) (y : Job) (n : ℕ) (change : Job → Job) (i : ℕ) (a : Job) → WasAt jobs n change i a → WasAt (y ∷ jobs) (suc n) change (suc i) a
deeper jobs y n change i a c = record { was = c.was; stood = c.stood; now = elim c.now [ inl l ↦ inl l | inr r ↦ inr (ap suc r.0, r.1) ] }

get-change : (jobs : List Job) (n : ℕ) (change : Job → Job) (i : ℕ) (a : Job) → slice_get (change_place change jobs n) i ≡ Some a → WasAt jobs n change i a
get-change [] n change i a e = absurd (none-some a e)
get-change (y ∷ ys) zero change zero a e = record { was = y; stood = refl; now = inr (refl, sym (same_Some (change y) a e)) }
get-change (y ∷ ys) zero change (suc i) a e = record { was = a; stood = e; now = inl refl }
get-change (y ∷ ys) (suc n) change zero a e = record { was = a; stood = e; now = inl refl }
get-change (y ∷ ys) (suc n) change (suc i) a e = deeper ys y n change i a (get-change ys n change i a e)

get-else : (jobs : List Job) (n : ℕ) (change : Job → Job) (i : ℕ) → (i ≡ n → ⊥) → slice_get (change_place change jobs n) i ≡ slice_get jobs i
get-else [] n change i other = refl
get-else (y ∷ ys) zero change zero other = absurd (other refl)
get-else (y ∷ ys) zero change (suc i) other = refl
get-else (y ∷ ys) (suc n) change zero other = refl
get-else (y ∷ ys) (suc n) change (suc i) other = get-else ys n change i (λ e. other (ap suc e))

get-map : (jobs : List Job) (change : Job → Job) (i : ℕ) (a : Job) → slice_get (map change jobs) i ≡ Some a → (b : Job) × (slice_get jobs i ≡ Some b) × (a ≡ change b)
get-map [] change i a e = absurd (none-some a e)
get-map (y ∷ ys) change zero a e = (y, refl, sym (same_Some (change y) a e))
get-map (y ∷ ys) change (suc i) a e = get-map ys change i a e

get-mapped : (jobs : List Job) (change : Job → Job) (i : ℕ) (a : Job) → slice_get jobs i ≡ Some a → slice_get (map change jobs) i ≡ Some (change a)
get-mapped [] change i a e = absurd (none-some a e)
get-mapped (y ∷ ys) change zero a e = ap (λ (x : Job). Some (change x)) (same_Some y a e)
get-mapped (y ∷ ys) change (suc i) a e = get-mapped ys change i a e

-- ---- jobs, by their numbers

pub job-snoc : (jobs : List Job) (job one : Job) (number : ℕ) → job_at (jobs ++ job ∷ []) number ≡ Some one
    → (job_at jobs number ≡ Some one) ⊎ ((number ≡ length jobs + 1) × (one ≡ job))
job-snoc jobs job one zero e = absurd (none-some one e)
job-snoc jobs job one (suc i) e = elim (get-snoc jobs job one i e) [ inl l ↦ inl l | inr r ↦ let at = r.0 in inr (omega (arith, at), r.1) ]

pub job-left : (jobs more : List Job) (number : ℕ) (one : Job) → job_at jobs number ≡ Some one → job_at (jobs ++ more) number ≡ Some one
job-left jobs more zero one e = absurd (none-some one e)
job-left jobs more (suc i) one e = get-left jobs more i one e

-- the job of a number, once that of another was changed
pub record Was (jobs : List Job) (changed : ℕ) (change : Job → Job) (number : ℕ) (one : Job) : Type 0 where
  pub was : Job
  pub stood : job_at jobs number ≡ Some was
  pub now : (one ≡ was) ⊎ ((number ≡ changed) × (one ≡ change was))

pub job-change : (jobs : List Job) (changed : ℕ) (change : Job → Job) (number : ℕ) (one : Job) → job_at (change_job change jobs changed) number ≡ Some one → Was jobs changed change number one
job-change jobs changed change zero one e = absurd (none-some one e)
job-change jobs zero change (suc i) one e = record { was = one; stood = e; now = inl refl }
job-change jobs (suc n) change (suc i) one e =
    let c = get-change jobs n change i one e in
    record { was = c.was; stood = c.stood; now = elim c.now [ inl l ↦ inl l | inr r ↦ inr (ap suc r.0, r.1) ] }

pub job-else : (jobs : List Job) (changed : ℕ) (change : Job → Job) (number : ℕ) → (number ≡ changed → ⊥) → job_at (change_job change jobs changed) number ≡ job_at jobs number
job-else jobs changed change zero other = refl
job-else jobs zero change (suc i) other = refl
job-else jobs (suc n) change (suc i) other = get-else jobs n change i (λ e. other (ap suc e))

pub job-map : (jobs : List Job) (change : Job → Job) (number : ℕ) (one : Job) → job_at (map change jobs) number ≡ Some one → (was : Job) × (job_at jobs number ≡ Some was) × (one ≡ change was)
job-map jobs change zero one e = absurd (none-some one e)
job-map jobs change (suc i) one e = get-map jobs change i one e

pub job-mapped : (jobs : List Job) (change : Job → Job) (number : ℕ) (one : Job) → job_at jobs number ≡ Some one → job_at (map change jobs) number ≡ Some (change one)
job-mapped jobs change zero one e = absurd (none-some one e)
job-mapped jobs change (suc i) one e = get-mapped jobs change i one e

-- ---- each job

pub each-snoc : (P : Job → Type 0) (jobs : List Job) (job : Job) → EachJob P jobs → P job → EachJob P (jobs ++ job ∷ [])
each-snoc P jobs job all one number a e = elim (job-snoc jobs job a number e) [ inl l ↦ all number a l | inr r ↦ subst P (sym r.1) one ]

pub each-change : (P : Job → Type 0) (jobs : List Job) (changed : ℕ) (change : Job → Job) (job : Job) → job_at jobs changed ≡ Some job → EachJob P jobs → (P job → P (change job)) → EachJob P (change_job change jobs changed)
each-change P jobs changed change job here all one number a e =
    let c = job-change jobs changed change number a e in
    elim c.now [
      | inl l ↦ subst P (sym l) (all number c.was c.stood)
      | inr r ↦ subst P (sym r.1) (subst (λ (x : Job). P x → P (change x)) (same_Some job c.was (sym here ∙ (ap (job_at jobs) (sym r.0) ∙ c.stood))) one (all number c.was c.stood))
    ]

pub each-map : (P Q : Job → Type 0) (jobs : List Job) (change : Job → Job) → EachJob P jobs → ((job : Job) → P job → Q (change job)) → EachJob Q (map change jobs)
each-map P Q jobs change all one number a e = let m = job-map jobs change number a e in subst Q (sym m.2) (one m.0 (all number m.0 m.1))

-- the job of a transaction is one of them
pub each-job_of : (P : Job → Type 0) (tx : Tx) (jobs : List Job) (job : Job) → EachJob P jobs → job_of tx jobs ≡ Some job → P job
each-job_of P tx [] job all e = absurd (none-some job e)
each-job_of P tx (y ∷ ys) job all e =
    (elim (is_for tx y) as (λ b. cond b (Some y) (job_of tx ys) ≡ Some job → P job) [
      | true ↦ λ e. subst P (same_Some y job e) (all 1 y refl)
      | false ↦ λ e. each-job_of P tx ys job (later all) e
    ]) e
  where
    later : EachJob P (y ∷ ys) → EachJob P ys
    later all zero a e = absurd (none-some a e)
    later all (suc i) a e = all (suc (suc i)) a e

-- ---- no two

-- what keeps jobs apart: the transaction stays, and none that was dropped comes back
pub record IsTame (change : Job → Job) (job : Job) : Type 0 where
  pub tx : (change job).tx ≡ job.tx
  pub live : is_live (change job).status ≡ true → is_live job.status ≡ true

pub apart-change : (jobs : List Job) (changed : ℕ) (change : Job → Job) (job : Job) → job_at jobs changed ≡ Some job → IsTame change job → AreApart jobs → AreApart (change_job change jobs changed)
apart-change jobs changed change job here tame apart i j a b at_i at_j live_a live_b same =
    let c = job-change jobs changed change i a at_i in
    let d = job-change jobs changed change j b at_j in
    let x = told i a c in
    let y = told j b d in
    apart i j c.was d.was c.stood d.stood (x.1 live_a) (y.1 live_b) (sym x.0 ∙ (same ∙ y.0))
  where
    told : (i : ℕ) (a : Job) (c : Was jobs changed change i a) → (a.tx ≡ c.was.tx) × (is_live a.status ≡ true → is_live c.was.status ≡ true)
    told i a c =
        elim c.now [
          | inl l ↦ (ap (λ (x : Job). x.tx) l, λ h. subst (λ (x : Job). is_live x.status ≡ true) l h)
          | inr r ↦
              let t = subst (IsTame change) (same_Some job c.was (sym here ∙ (ap (job_at jobs) (sym r.0) ∙ c.stood))) tame in
              (ap (λ (x : Job). x.tx) r.1 ∙ t.tx, λ h. t.live (subst (λ (x : Job). is_live x.status ≡ true) r.1 h))
        ]

pub apart-map : (jobs : List Job) (change : Job → Job) → ((job : Job) → IsTame change job) → AreApart jobs → AreApart (map change jobs)
apart-map jobs change tame apart i j a b at_i at_j live_a live_b same =
    let c = job-map jobs change i a at_i in
    let d = job-map jobs change j b at_j in
    let s = tame c.0 in
    let t = tame d.0 in
    apart i j c.0 d.0 c.1 d.1 (s.live (subst (λ (x : Job). is_live x.status ≡ true) c.2 live_a)) (t.live (subst (λ (x : Job). is_live x.status ≡ true) d.2 live_b))
    (sym (ap (λ (x : Job). x.tx) c.2 ∙ s.tx) ∙ (same ∙ (ap (λ (x : Job). x.tx) d.2 ∙ t.tx)))

-- where no job is for a transaction, none that lives has it
none-for : (tx : Tx) (jobs : List Job) (i : ℕ) (job : Job) → job_of tx jobs ≡ None → slice_get jobs i ≡ Some job → is_live job.status ≡ true → job.tx ≡ tx → ⊥
none-for tx [] i job gone at_i live same = none-some job at_i
none-for tx (y ∷ ys) zero job gone at_i live same =
    let e = same_Some y job at_i in
    none-some y (sym gone ∙ ap (λ b. cond b (Some y) (job_of tx ys)) (subst (λ (x : Job). is_for tx x ≡ true) (sym e) (and_from _ _ live (same_tx-self job.tx tx same))))
none-for tx (y ∷ ys) (suc i) job gone at_i live same =
    (elim (is_for tx y) as (λ b. cond b (Some y) (job_of tx ys) ≡ None → ⊥) [
      | true ↦ λ e. none-some y (sym e)
      | false ↦ λ e. none-for tx ys i job e at_i live same
    ]) gone

none-for-at : (tx : Tx) (jobs : List Job) (number : ℕ) (job : Job) → job_of tx jobs ≡ None → job_at jobs number ≡ Some job → is_live job.status ≡ true → job.tx ≡ tx → ⊥
none-for-at tx jobs zero job gone here live same = none-some job here
none-for-at tx jobs (suc i) job gone here live same = none-for tx jobs i job gone here live same

pub apart-snoc : (jobs : List Job) (job : Job) → job_of job.tx jobs ≡ None → AreApart jobs → AreApart (jobs ++ job ∷ [])
apart-snoc jobs job gone apart i j a b at_i at_j live_a live_b same =
    elim (job-snoc jobs job a i at_i) [
      | inl l ↦ elim (job-snoc jobs job b j at_j) [
        | inl m ↦ apart i j a b l m live_a live_b same
        | inr s ↦ absurd (none-for-at job.tx jobs i a gone l live_a (same ∙ ap (λ (x : Job). x.tx) s.1))
      ]
      | inr r ↦ elim (job-snoc jobs job b j at_j) [
        | inl m ↦ absurd (none-for-at job.tx jobs j b gone m live_b (sym same ∙ ap (λ (x : Job). x.tx) r.1))
        | inr s ↦ r.0 ∙ sym s.0
      ]
    ]

-- ---- the job of a transaction

pub job_of-is : (tx : Tx) (jobs : List Job) (job : Job) → job_of tx jobs ≡ Some job → is_for tx job ≡ true
job_of-is tx [] job e = absurd (none-some job e)
job_of-is tx (y ∷ ys) job e =
    (elim (is_for tx y) as (λ b. is_for tx y ≡ b → cond b (Some y) (job_of tx ys) ≡ Some job → is_for tx job ≡ true) [
      | true ↦ λ is e. subst (λ (x : Job). is_for tx x ≡ true) (same_Some y job e) is
      | false ↦ λ is e. job_of-is tx ys job e
    ]) refl e

pub some-snoc : (tx : Tx) (jobs : List Job) (job : Job) → IsSome (job_of tx jobs) → IsSome (job_of tx (jobs ++ job ∷ []))
some-snoc tx [] job s = absurd (false≢true s)
some-snoc tx (y ∷ ys) job s =
    (elim (is_for tx y) as (λ b. IsSome (cond b (Some y) (job_of tx ys)) → IsSome (cond b (Some y) (job_of tx (ys ++ job ∷ [])))) [
      | true ↦ λ s. refl
      | false ↦ λ s. some-snoc tx ys job s
    ]) s

some-or : (b : Bool) (x : Job) (o : Option Job) → IsSome o → IsSome (cond b (Some x) o)
some-or true x o s = refl
some-or false x o s = s

-- a job for the transaction at the end is found, or one before it
pub some-last : (tx : Tx) (jobs : List Job) (job : Job) → is_for tx job ≡ true → IsSome (job_of tx (jobs ++ job ∷ []))
some-last tx [] job is = subst (λ b. IsSome (cond b (Some job) None)) (sym is) refl
some-last tx (y ∷ ys) job is = some-or (is_for tx y) y (job_of tx (ys ++ job ∷ [])) (some-last tx ys job is)

some-head : (tx : Tx) (x y : Job) (ys : List Job) → (is_for tx y ≡ true → is_for tx x ≡ true) → IsSome (job_of tx (y ∷ ys)) → IsSome (job_of tx (x ∷ ys))
some-head tx x y ys too s =
    (elim (is_for tx y) as (λ b. is_for tx y ≡ b → IsSome (cond b (Some y) (job_of tx ys)) → IsSome (job_of tx (x ∷ ys))) [
      | true ↦ λ is s. subst (λ b. IsSome (cond b (Some x) (job_of tx ys))) (sym (too is)) refl
      | false ↦ λ is s. some-or (is_for tx x) x (job_of tx ys) s
    ]) refl s

some-place : (tx : Tx) (jobs : List Job) (n : ℕ) (change : Job → Job) (job : Job) → slice_get jobs n ≡ Some job → (is_for tx job ≡ true → is_for tx (change job) ≡ true)
    → IsSome (job_of tx jobs) → IsSome (job_of tx (change_place change jobs n))
some-place tx [] n change job here too s = absurd (false≢true s)
some-place tx (y ∷ ys) zero change job here too s =
    some-head tx (change y) y ys (subst (λ (x : Job). is_for tx x ≡ true → is_for tx (change x) ≡ true) (sym (same_Some y job here)) too) s
some-place tx (y ∷ ys) (suc n) change job here too s =
    (elim (is_for tx y) as (λ b. IsSome (cond b (Some y) (job_of tx ys)) → IsSome (cond b (Some y) (job_of tx (change_place change ys n)))) [
      | true ↦ λ s. refl
      | false ↦ λ s. some-place tx ys n change job here too s
    ]) s

-- a transaction keeps its job where the job that changes stays for it
pub some-change : (tx : Tx) (jobs : List Job) (changed : ℕ) (change : Job → Job) (job : Job) → job_at jobs changed ≡ Some job → (is_for tx job ≡ true → is_for tx (change job) ≡ true)
    → IsSome (job_of tx jobs) → IsSome (job_of tx (change_job change jobs changed))
some-change tx jobs zero change job here too s = s
some-change tx jobs (suc n) change job here too s = some-place tx jobs n change job here too s
