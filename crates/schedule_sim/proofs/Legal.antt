-- The journal of a schedule is legal, and delivers the blocks in their order.
use Rattle.std.proofs.Common.{Bool, IsSome, List, None, Option, Some, [], ap, append-nil, arith, cond, false, inl, inr, length, length-append, refl, slice_get, subst, sym, true, ◌+◌, ◌++◌, ◌==◌, ◌||◌, ◌∙◌, ◌≡◌, ◌≤◌, ◌∷◌, ℕ}
use Rattle.std.proofs.lemmas.Bool.{false≢true, or_parts}
use Rattle.std.proofs.lemmas.Option.{none-some, same_Some}
use Rattle.std.specs.Option.{is_none, is_some, option_and_then, option_map}
use Rattle.node_model.specs.Events.{after, next_read}
use Rattle.node_model.specs.Fold.{fold}
use Rattle.node_model.specs.Journals.{IsLegal, delivered, delivery, world}
use Rattle.node_model.specs.Steps as steps
use Rattle.node_model.specs.Steps.{Answer, Ask, May, Reply, ToArrive, ToClaim, ToCommit, ToDeliver, ToFinish, ToRead, ToRelease, ToSeal, chosen, claims, commits, commits_due, delivers, finishes, is_known, is_ready, reads, reads_unless, reply, seals, seals_due}
use Rattle.node_model.specs.World.{BlockInWork, Holds, Job, World, decided, due, empty, job_at}
use Rattle.node_model.specs.declared.journal.Entry.{Entry}
use Rattle.node_model.specs.declared.journal.Event.TheVariants.{Arrive, Claim, Commit, Deliver, Finish, Read, Release, Seal}
use Rattle.node_model.specs.declared.journal.Event.{Event}
use Rattle.node_model.specs.Events.{settled_in}
use Rattle.proc_syntax.specs.Call.{call_fault}
use Rattle.proc_syntax.specs.declared.call.Block.{Block}
use Rattle.proc_syntax.specs.declared.call.Tx.{Tx}
use Rattle.proc_syntax.specs.declared.tree.App.{App}
use Rattle.rel_base.specs.declared.access.Read as access
use Rattle.rel_base.proofs.Bits.{either}
use Rattle.schedule_laws.proofs.Folding.{FollowsTheFold, delivered-append, reached}
use Rattle.schedule_laws.specs.Scheduled.{block_in}
use Rattle.schedule_laws.proofs.Lasting.{world-more}
use Rattle.serial_laws.specs.Chained.{AreNumbered}
use Rattle.schedule_sim.proofs.Holders.{holds_found, none_holds}
use Rattle.schedule_sim.proofs.Moves.{legal_noted}
use Rattle.schedule_sim.specs.Laws.{SchedulesAreLegal, SchedulesDeliver, SchedulesSealTheFold}
use Rattle.schedule_sim.specs.Running.{Given, after_ask, after_line, after_lines, arrival, asked_by, held_by, is_at_end, made_by, scheduled, shared}
use Rattle.schedule_sim.specs.declared.step.Step.TheVariants as line
use Rattle.schedule_sim.specs.declared.step.Step.{Step}
use mathlib.Core.List.{IsPrefix}

-- ---- what a line asks its actor may ask

none_not : (o : Option access.Read) → is_none o ≡ false → IsSome o
none_not None e = absurd (false≢true (sym e))
none_not (Some read) e = refl

is_none_is : (o : Option access.Read) → is_none o ≡ true → o ≡ None
is_none_is None e = refl
is_none_is (Some read) e = absurd (false≢true e)

module _ (given : Given) (w : World) where
  may_ask : (taken : Step) (ask : Ask) → asked_by given w taken ≡ Some ask → May given.app w (made_by taken) ask
  may_ask (line.Arrive number) ask is = by (arrival given.arrivals number) is where
    by : (o : Option Tx) → option_map (λ tx. ToArrive (shared tx)) o ≡ Some ask → May given.app w 17 ask
    by None e = absurd (none-some ask e)
    by (Some tx) e = subst (May given.app w 17) (same_Some (ToArrive (shared tx)) ask e) tt
  may_ask (line.Claim actor pick) ask is = by (held_by actor w) refl is where
    by : (o : Option ℕ) → held_by actor w ≡ o → cond {A = Option Ask} (is_some o) None (Some (ToClaim pick)) ≡ Some ask → May given.app w actor ask
    by None none e = subst (May given.app w actor) (same_Some (ToClaim pick) ask e) (none_holds actor w none)
    by (Some number) held e = absurd (none-some ask e)
  may_ask (line.Read actor) ask is = by (held_by actor w) refl is where
    by_end : (number : ℕ) (job : Job) → Holds w.jobs actor number job → (b : Bool) → (job.recorded.cut || is_none (next_read given.app w.sealed job)) ≡ b
        → cond {A = Option Ask} b None (Some (ToRead number)) ≡ Some ask → May given.app w actor ask
    by_end number job holds true over e = absurd (none-some ask e)
    by_end number job holds false over e =
        let parts = or_parts job.recorded.cut _ over in
        subst (May given.app w actor) (same_Some (ToRead number) ask e) (job, holds, parts.0, none_not (next_read given.app w.sealed job) parts.1)

    by : (o : Option ℕ) → held_by actor w ≡ o → option_and_then (λ number. cond {A = Option Ask} (is_at_end given.app w (job_at w.jobs number)) None (Some (ToRead number))) o ≡ Some ask → May given.app w actor ask
    by None none e = absurd (none-some ask e)
    by (Some number) held e =
        let h = holds_found actor number w held in
        by_end number h.0 h.1 (is_at_end given.app w (job_at w.jobs number)) (sym (ap (is_at_end given.app w) h.1.stands)) e
  may_ask (line.Finish actor) ask is = by (held_by actor w) refl is where
    by_end : (number : ℕ) (job : Job) → Holds w.jobs actor number job → (b : Bool) → (job.recorded.cut || is_none (next_read given.app w.sealed job)) ≡ b
        → cond {A = Option Ask} b (Some (ToFinish number)) None ≡ Some ask → May given.app w actor ask
    by_end number job holds false over e = absurd (none-some ask e)
    by_end number job holds true over e = subst (May given.app w actor) (same_Some (ToFinish number) ask e) (
      job,
      holds,
      elim (either job.recorded.cut _ over) [
        | inl cut ↦ inl cut
        | inr none ↦ inr (is_none_is (next_read given.app w.sealed job) none)
      ],
    )

    by : (o : Option ℕ) → held_by actor w ≡ o → option_and_then (λ number. cond {A = Option Ask} (is_at_end given.app w (job_at w.jobs number)) (Some (ToFinish number)) None) o ≡ Some ask → May given.app w actor ask
    by None none e = absurd (none-some ask e)
    by (Some number) held e =
        let h = holds_found actor number w held in
        by_end number h.0 h.1 (is_at_end given.app w (job_at w.jobs number)) (sym (ap (is_at_end given.app w) h.1.stands)) e
  may_ask (line.Release actor) ask is = by (held_by actor w) refl is where
    by : (o : Option ℕ) → held_by actor w ≡ o → option_map ToRelease o ≡ Some ask → May given.app w actor ask
    by None none e = absurd (none-some ask e)
    by (Some number) held e = subst (May given.app w actor) (same_Some (ToRelease number) ask e) (holds_found actor number w held)
  may_ask line.Deliver ask is = by (slice_get given.blocks (length w.sealed)) is where
    by : (o : Option Block) → option_map (λ block. ToDeliver (shared block)) o ≡ Some ask → May given.app w 0 ask
    by None e = absurd (none-some ask e)
    by (Some block) e = subst (May given.app w 0) (same_Some (ToDeliver (shared block)) ask e) refl
  may_ask line.Commit ask is = subst (May given.app w 0) (same_Some ToCommit ask is) refl
  may_ask line.Seal ask is = subst (May given.app w 0) (same_Some ToSeal ask is) refl

-- ---- what a step delivers

-- what is asked to be delivered
abbrev asked_block : Ask → List Block
asked_block (ToDeliver block) = block.value ∷ []
asked_block _ = []

past : (b : Bool) (x : Answer) (r : Reply) (e : Event) → (cond b (x, None) r).1 ≡ Some e → r.1 ≡ Some e
past true x r e h = absurd (none-some e h)
past false x r e h = h

took : (b : Bool) (x : Answer) (r : Reply) (e : Event) → (cond b r (x, None)).1 ≡ Some e → r.1 ≡ Some e
took true x r e h = h
took false x r e h = absurd (none-some e h)

delivers_event : (one event : Event) → Some one ≡ Some event → delivery event ≡ delivery one
delivers_event one event e = ap delivery (sym (same_Some one event e))

module _ (app : App) (w : World) where
  delivers_asked : (ask : Ask) (event : Event) → (reply app w ask).1 ≡ Some event → delivery event ≡ asked_block ask
  delivers_asked (ToArrive tx) event e =
      delivers_event (Arrive (length w.jobs + 1) tx) event (past (is_known w tx.value) steps.Known _ event (past (is_some (call_fault app tx.value)) steps.Invalid _ event e))
  delivers_asked (ToClaim pick) event e = by (chosen app w pick) e where
    by : (o : Option ℕ) → (claims o).1 ≡ Some event → delivery event ≡ []
    by None e = absurd (none-some event e)
    by (Some number) e = delivers_event (Claim number) event e
  delivers_asked (ToRead number) event e = by (job_at w.jobs number) e where
    by_settled : (job : Job) (o : Option ℕ) → (reads_unless app w number job o).1 ≡ Some event → delivery event ≡ []
    by_settled job None e = delivers_event (Read number) event e
    by_settled job (Some block) e = absurd (none-some event e)

    by : (o : Option Job) → (reads app w number o).1 ≡ Some event → delivery event ≡ []
    by None e = absurd (none-some event e)
    by (Some job) e = by_settled job (settled_in job.tx.id w.sealed) e
  delivers_asked (ToFinish number) event e = by (job_at w.jobs number) e where
    by : (o : Option Job) → (finishes w number o).1 ≡ Some event → delivery event ≡ []
    by None e = absurd (none-some event e)
    by (Some job) e = delivers_event (Finish number) event e
  delivers_asked (ToRelease number) event e = delivers_event (Release number) event e
  delivers_asked (ToDeliver block) event e = by w.work e where
    by : (o : Option BlockInWork) → (delivers w block o).1 ≡ Some event → delivery event ≡ block.value ∷ []
    by None e = delivers_event (Deliver block) event (took (block.value.number == (length w.sealed + 1)) _ _ event e)
    by (Some work) e = absurd (none-some event e)
  delivers_asked ToCommit event e = by w.work e where
    by_due : (work : BlockInWork) (t : Option Tx) → (commits_due app w work t).1 ≡ Some event → delivery event ≡ []
    by_due work None e = absurd (none-some event e)
    by_due work (Some tx) e = delivers_event (Commit (decided work + 1)) event (took (is_ready app w work tx) _ _ event e)

    by : (o : Option BlockInWork) → (commits app w o).1 ≡ Some event → delivery event ≡ []
    by None e = absurd (none-some event e)
    by (Some work) e = by_due work (due work) e
  delivers_asked ToSeal event e = by w.work e where
    by_due : (work : BlockInWork) (t : Option Tx) → (seals_due app w work t).1 ≡ Some event → delivery event ≡ []
    by_due work None e = delivers_event (Seal work.block.number) event e
    by_due work (Some tx) e = absurd (none-some event e)

    by : (o : Option BlockInWork) → (seals app w o).1 ≡ Some event → delivery event ≡ []
    by None e = absurd (none-some event e)
    by (Some work) e = by_due work (due work) e

  -- none is taken while one is in work
  takes_idle : (block : Block) (event : Event) → (reply app w (ToDeliver (shared block))).1 ≡ Some event → w.work ≡ None
  takes_idle block event e = by w.work refl e where
    by : (o : Option BlockInWork) → w.work ≡ o → (delivers w (shared block) o).1 ≡ Some event → o ≡ None
    by None is e = refl
    by (Some work) is e = absurd (none-some event e)

-- ---- the prefixes of a list

next_front : (front rest : List Block) (block : Block) → slice_get (front ++ rest) (length front) ≡ Some block → IsPrefix (front ++ block ∷ []) (front ++ rest)
next_front [] [] block here = absurd (none-some block here)
next_front [] (first ∷ rest) block here = (rest, ap (λ b. b ∷ rest) (sym (same_Some first block here)))
next_front (first ∷ front) rest block here = let more = next_front front rest block here in (more.0, ap (λ blocks. first ∷ blocks) more.1)

whole_front : (front rest : List Block) → length (front ++ rest) ≤ length front → front ≡ front ++ rest
whole_front [] [] few = refl
whole_front [] (first ∷ rest) few = absurd (omega (arith, few))
whole_front (first ∷ front) rest few = ap (λ blocks. first ∷ blocks) (whole_front front rest (omega (arith, few)))

-- ---- the lines of a schedule

record IsSound (given : Given) (w : World) : Type 0 where
  pub legal : IsLegal given.app w.journal
  pub state : world given.app w.journal ≡ w
  pub front : IsPrefix (delivered w.journal) given.blocks

module _ (given : Given) (w : World) (sound : IsSound given w) where
  goes : FollowsTheFold given.app w
  goes = subst (FollowsTheFold given.app) sound.state (reached given.app w.journal sound.legal).goes

  sound_delivery : (taken : Step) (ask : Ask) (event : Event) → asked_by given w taken ≡ Some ask → (reply given.app w ask).1 ≡ Some event → IsPrefix (delivered w.journal ++ asked_block ask) given.blocks
  sound_delivery taken ask event is told = by taken is
    where
      none : (one : Ask) → asked_block one ≡ [] → one ≡ ask → IsPrefix (delivered w.journal ++ asked_block ask) given.blocks
      none one empty same = subst (λ front. IsPrefix front given.blocks) (sym (append-nil (delivered w.journal)) ∙ ap (λ blocks. delivered w.journal ++ blocks) (sym empty ∙ ap asked_block same)) sound.front

      taken_one : (block : Block) → slice_get given.blocks (length w.sealed) ≡ Some block → ToDeliver (shared block) ≡ ask → IsPrefix (delivered w.journal ++ asked_block ask) given.blocks
      taken_one block here same =
          let idle = takes_idle given.app w block event (ap (λ one. (reply given.app w one).1) same ∙ told) in
          let count : length w.sealed ≡ length (delivered w.journal) = goes.count ∙ ap length (sym (goes.delivered_are ∙ ap (λ o. goes.blocks ++ block_in o) idle ∙ append-nil goes.blocks)) in
          let at : slice_get (delivered w.journal ++ sound.front.0) (length (delivered w.journal)) ≡ Some block = ap (λ blocks. slice_get blocks (length (delivered w.journal))) sound.front.1 ∙ ap (slice_get given.blocks) (sym count) ∙ here in
          subst (λ front. IsPrefix front given.blocks) (ap (λ one. delivered w.journal ++ asked_block one) same)
          (subst (IsPrefix (delivered w.journal ++ block ∷ [])) sound.front.1 (next_front (delivered w.journal) sound.front.0 block at))

      by_arrival : (o : Option Tx) → option_map (λ tx. ToArrive (shared tx)) o ≡ Some ask → IsPrefix (delivered w.journal ++ asked_block ask) given.blocks
      by_arrival None e = absurd (none-some ask e)
      by_arrival (Some tx) e = none (ToArrive (shared tx)) refl (same_Some (ToArrive (shared tx)) ask e)

      by_block : (o : Option Block) → slice_get given.blocks (length w.sealed) ≡ o → option_map (λ block. ToDeliver (shared block)) o ≡ Some ask → IsPrefix (delivered w.journal ++ asked_block ask) given.blocks
      by_block None here e = absurd (none-some ask e)
      by_block (Some block) here e = taken_one block here (same_Some (ToDeliver (shared block)) ask e)

      by_test : (b : Bool) (one two : Option Ask) → (one ≡ Some ask → IsPrefix (delivered w.journal ++ asked_block ask) given.blocks) → (two ≡ Some ask → IsPrefix (delivered w.journal ++ asked_block ask) given.blocks)
          → cond b one two ≡ Some ask → IsPrefix (delivered w.journal ++ asked_block ask) given.blocks
      by_test true one two p q = p
      by_test false one two p q = q

      nothing : None ≡ Some ask → IsPrefix (delivered w.journal ++ asked_block ask) given.blocks
      nothing e = absurd (none-some ask e)

      quiet : (one : Ask) → asked_block one ≡ [] → Some one ≡ Some ask → IsPrefix (delivered w.journal ++ asked_block ask) given.blocks
      quiet one empty e = none one empty (same_Some one ask e)

      by_held : (o : Option ℕ) (f : ℕ → Option Ask) → ((number : ℕ) → f number ≡ Some ask → IsPrefix (delivered w.journal ++ asked_block ask) given.blocks) → option_and_then f o ≡ Some ask
          → IsPrefix (delivered w.journal ++ asked_block ask) given.blocks
      by_held None f each e = nothing e
      by_held (Some number) f each e = each number e

      by_release : (o : Option ℕ) → option_map ToRelease o ≡ Some ask → IsPrefix (delivered w.journal ++ asked_block ask) given.blocks
      by_release None e = nothing e
      by_release (Some number) e = quiet (ToRelease number) refl e

      by : (taken : Step) → asked_by given w taken ≡ Some ask → IsPrefix (delivered w.journal ++ asked_block ask) given.blocks
      by (line.Arrive number) e = by_arrival (arrival given.arrivals number) e
      by (line.Claim actor pick) e = by_test (is_some (held_by actor w)) None (Some (ToClaim pick)) nothing (quiet (ToClaim pick) refl) e
      by (line.Read actor) e =
          by_held (held_by actor w) _ (λ number e. by_test (is_at_end given.app w (job_at w.jobs number)) None (Some (ToRead number)) nothing (quiet (ToRead number) refl) e) e
      by (line.Finish actor) e =
          by_held (held_by actor w) _ (λ number e. by_test (is_at_end given.app w (job_at w.jobs number)) (Some (ToFinish number)) None (quiet (ToFinish number) refl) nothing e) e
      by (line.Release actor) e = by_release (held_by actor w) e
      by line.Deliver e = by_block (slice_get given.blocks (length w.sealed)) refl e
      by line.Commit e = quiet ToCommit refl e
      by line.Seal e = quiet ToSeal refl e

  after_sound : (taken : Step) → IsSound given (after_line given w taken)
  after_sound taken = by (asked_by given w taken) refl
    where
      actor : ℕ
      actor = made_by taken

      by_event : (ask : Ask) → asked_by given w taken ≡ Some ask → (o : Option Event) → (reply given.app w ask).1 ≡ o → IsSound given (steps.noted given.app w actor o)
      by_event ask is None told = sound
      by_event ask is (Some event) told =
          let entry : Entry = record { actor = actor; event = event } in
          let told_there : (reply given.app (world given.app w.journal) ask).1 ≡ Some event = ap (λ (v : World). (reply given.app v ask).1) sound.state ∙ told in
          record {
            legal = legal_noted given.app w.journal actor ask (Some event) sound.legal (subst (λ (v : World). May given.app v actor ask) (sym sound.state) (may_ask given w taken ask is)) told_there;
            state = world-more given.app empty w.journal entry ∙ ap (λ (v : World). after given.app v entry) sound.state;
            front = subst (λ front. IsPrefix front given.blocks)
                (sym (delivered-append w.journal (entry ∷ []) ∙ ap (λ blocks. delivered w.journal ++ blocks) (append-nil (delivery event) ∙ delivers_asked given.app w ask event told)))
                (sound_delivery taken ask event is told);
          }

      by : (o : Option Ask) → asked_by given w taken ≡ o → IsSound given (after_ask given.app w actor o)
      by None is = sound
      by (Some ask) is = by_event ask is (reply given.app w ask).1 refl

  -- where all blocks are sealed
  module _ (all : length w.sealed ≡ length given.blocks) where
    front_is : delivered w.journal ≡ given.blocks
    front_is =
        let longer = length-append goes.blocks (block_in w.work) in
        let count = goes.count in
        let same = ap length goes.delivered_are in
        let whole = ap length sound.front.1 in
        whole_front (delivered w.journal) sound.front.0 (omega (arith, longer, count, same, whole, all)) ∙ sound.front.1

    blocks_are : goes.blocks ≡ given.blocks
    blocks_are =
        let count = goes.count in
        let same = ap length (sym goes.delivered_are ∙ front_is) in
        whole_front goes.blocks (block_in w.work) (omega (arith, count, same, all)) ∙ sym goes.delivered_are ∙ front_is

    sealed_are : w.sealed ≡ fold given.app given.blocks
    sealed_are = goes.sealed ∙ ap (fold given.app) blocks_are

    numbered_are : AreNumbered 1 given.blocks
    numbered_are = subst (AreNumbered 1) blocks_are goes.numbered

lines_sound : (given : Given) (w : World) (lines : List Step) → IsSound given w → IsSound given (after_lines given w lines)
lines_sound given w [] sound = sound
lines_sound given w (taken ∷ lines) sound = lines_sound given (after_line given w taken) lines (after_sound given w sound taken)

schedule_sound : (given : Given) (lines : List Step) → IsSound given (scheduled given lines)
schedule_sound given lines = lines_sound given empty lines (record { legal = tt; state = refl; front = (given.blocks, refl) })

pub schedules_are_legal : SchedulesAreLegal
schedules_are_legal given lines = let sound = schedule_sound given lines in (sound.legal, sound.state)

pub schedules_deliver : SchedulesDeliver
schedules_deliver given lines = (schedule_sound given lines).front

pub schedules_seal_the_fold : SchedulesSealTheFold
schedules_seal_the_fold given lines all =
    let sound = schedule_sound given lines in
    (front_is given (scheduled given lines) sound all, sealed_are given (scheduled given lines) sound all)

pub blocks_numbered : (given : Given) (lines : List Step) → length (scheduled given lines).sealed ≡ length given.blocks → AreNumbered 1 given.blocks
blocks_numbered given lines all = numbered_are given (scheduled given lines) (schedule_sound given lines) all
