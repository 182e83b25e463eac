-- The steps of a schedule as lines of text.
use Rattle.std.specs.Prelude.{◌<◌, ◌≤◌, ◌^◌, ℕ, List, ◌++◌, cond, ◌&&◌, nat_le, Option, Some, None, codes, decimal}
use Rattle.std.specs.Option.{option_and_then, option_map}
use Rattle.std.specs.Str.{bytes_eq}
use Rattle.literals.specs.Number.{u64_at}
use Rattle.node_model.specs.declared.journal.Pick.{Pick}
use Rattle.node_model.specs.declared.journal.Pick.TheVariants as pick
use Rattle.tx_text.specs.Fields.{after, past_word, word}
use Rattle.tx_text.specs.Values.{alone}
use Rattle.schedule_sim.specs.declared.step.Step.{Step}
use Rattle.schedule_sim.specs.declared.step.Step.TheVariants as step

-- the number that bytes spell in canonical decimal, all of them, below 2 ^ 64
abbrev pub number_of : List ℕ → Option ℕ
number_of bytes = option_and_then alone (u64_at bytes)

-- an actor is one of 1 to 16
abbrev pub as_actor : ℕ → Option ℕ
as_actor number = cond (nat_le 1 number && nat_le number 16) (Some number) None

abbrev pub actor_of : List ℕ → Option ℕ
actor_of bytes = option_and_then as_actor (number_of bytes)

-- `due`, or a place among the jobs that can be claimed
abbrev pub pick_of : List ℕ → Option Pick
pick_of bytes = cond (bytes_eq bytes (codes "due")) (Some pick.Due) (option_map (λ place. pick.Nth place) (number_of bytes))

-- an actor, and after a space what it claims
abbrev pub claim_of : List ℕ → Option Step
claim_of bytes =
    option_and_then (λ actor. option_map (λ picked. step.Claim actor picked) (option_and_then pick_of (after (codes " ") (past_word bytes)))) (actor_of (word bytes))

-- a step with arguments, by its word and what stands after the space
abbrev pub step_with : List ℕ → List ℕ → Option Step
step_with name rest =
    cond (bytes_eq name (codes "arrive")) (option_map (λ number. step.Arrive number) (number_of rest))
    (cond (bytes_eq name (codes "claim")) (claim_of rest)
    (cond (bytes_eq name (codes "read")) (option_map (λ actor. step.Read actor) (actor_of rest))
    (cond (bytes_eq name (codes "finish")) (option_map (λ actor. step.Finish actor) (actor_of rest))
    (cond (bytes_eq name (codes "release")) (option_map (λ actor. step.Release actor) (actor_of rest)) None))))

-- the step that a line spells
abbrev pub step_of : List ℕ → Option Step
step_of line =
    cond (bytes_eq line (codes "deliver")) (Some step.Deliver)
    (cond (bytes_eq line (codes "commit")) (Some step.Commit)
    (cond (bytes_eq line (codes "seal")) (Some step.Seal)
    (option_and_then (step_with (word line)) (after (codes " ") (past_word line)))))

-- a pick as it is written
abbrev pub pick_text : Pick → List ℕ
pick_text (pick.Nth place) = decimal place
pick_text pick.Due = codes "due"

-- a step as it is written
abbrev pub step_text : Step → List ℕ
step_text (step.Arrive number) = codes "arrive " ++ decimal number
step_text (step.Claim actor picked) = codes "claim " ++ decimal actor ++ codes " " ++ pick_text picked
step_text (step.Read actor) = codes "read " ++ decimal actor
step_text (step.Finish actor) = codes "finish " ++ decimal actor
step_text (step.Release actor) = codes "release " ++ decimal actor
step_text step.Deliver = codes "deliver"
step_text step.Commit = codes "commit"
step_text step.Seal = codes "seal"

-- an actor is one of 1 to 16
abbrev pub IsActor : ℕ → Type 0
IsActor number = (1 ≤ number) × (number ≤ 16)

-- a place has 64 bits
abbrev pub IsPick : Pick → Type 0
IsPick (pick.Nth place) = place < 2 ^ 64
IsPick pick.Due = Unit {0}

-- what a line can say: its numbers have 64 bits, and its actor is one
abbrev pub IsStep : Step → Type 0
IsStep (step.Arrive number) = number < 2 ^ 64
IsStep (step.Claim actor picked) = IsActor actor × IsPick picked
IsStep (step.Read actor) = IsActor actor
IsStep (step.Finish actor) = IsActor actor
IsStep (step.Release actor) = IsActor actor
IsStep step.Deliver = Unit {0}
IsStep step.Commit = Unit {0}
IsStep step.Seal = Unit {0}
