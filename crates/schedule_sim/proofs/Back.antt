-- Steps are read back from their text.
use Rattle.std.proofs.Common.{◌≡◌, ◌≤◌, ◌<◌, ◌^◌, ℕ, List, [], ◌∷◌, ◌++◌, true, false, cond, Option, Some, None, length, refl, sym, ◌∙◌, ap, append_assoc, length-append, arith}
use Rattle.std.specs.Prelude.{◌&&◌, nat_le, Ok, codes, decimal}
use Rattle.std.specs.List.{AllByRecursion}
use Rattle.std.specs.Char.{is_ascii_digit}
use Rattle.std.specs.Option.{option_and_then, option_map}
use Rattle.std.specs.Str.{bytes_eq}
use Rattle.std.proofs.lemmas.Bool.{and_from, and_parts, le-leb, leb-true, ne_eqb}
use Rattle.std.proofs.lemmas.Fmt.{decimal_nonempty, digits_decimal, length-decimal-le}
use Rattle.std.proofs.lemmas.List.{append-nil}
use Rattle.literals.specs.Number.{u64_at}
use Rattle.literals.proofs.Again.{number_again}
use Rattle.literals.proofs.Numerals.{own}
use Rattle.node_model.specs.declared.journal.Pick.{Pick}
use Rattle.node_model.specs.declared.journal.Pick.TheVariants as pick
use Rattle.tx_text.specs.Fields.{after, past_word}
use Rattle.tx_text.specs.Values.{alone}
use Rattle.tx_text.proofs.Again.{decimal_no_space, front_digit, past_again, word_again}
use Rattle.tx_text.proofs.ListedText.{IsListed, listed_again}
use Rattle.tx_text.proofs.Plain.{decimal_plain, plain, plain-append}
use Rattle.schedule_sim.specs.declared.step.Step.{Step}
use Rattle.schedule_sim.specs.declared.step.Step.TheVariants as step
use Rattle.schedule_sim.specs.Steps.{IsActor, IsPick, IsStep, actor_of, as_actor, claim_of, number_of, pick_of, pick_text, step_of, step_text}
use Rattle.schedule_sim.specs.Schedules.{schedule_form, schedule_of, schedule_text}

number_back : (n : ℕ) → n < 2 ^ 64 → number_of (decimal n) ≡ Some n
number_back n low = ap (λ bytes. option_and_then alone (u64_at bytes)) (sym (append-nil (decimal n))) ∙ ap (option_and_then alone) (number_again n [] low refl)

small : (n : ℕ) → IsActor n → n < 2 ^ 64
small n fine = omega (arith, fine.1)

actor_back : (n : ℕ) → IsActor n → actor_of (decimal n) ≡ Some n
actor_back n fine =
    ap (option_and_then as_actor) (number_back n (small n fine))
    ∙ ap (λ test. cond test (Some n) None) (and_from (nat_le 1 n) (nat_le n 16) (le-leb 1 n fine.0) (le-leb n 16 fine.1))

-- a number is not `due`
not_due : (ds : List ℕ) (d : ℕ) (rest : List ℕ) → ds ≡ d ∷ rest → is_ascii_digit d ≡ true → bytes_eq ds (codes "due") ≡ false
not_due ds d rest same digit =
    let high : d ≤ 57 = leb-true d 57 (and_parts (nat_le 48 d) (nat_le d 57) digit).1 in
    ap (λ bytes. bytes_eq bytes (codes "due")) same ∙ ap (λ test. test && bytes_eq rest (codes "ue")) (ne_eqb d 100 (λ e. omega (arith, high, e)))

pick_back : (picked : Pick) → IsPick picked → pick_of (pick_text picked) ≡ Some picked
pick_back (pick.Nth place) low =
    let front = front_digit (decimal place) (decimal_nonempty place low) (digits_decimal own place low) in
    ap (λ test. cond test (Some pick.Due) (option_map (λ place. pick.Nth place) (number_of (decimal place)))) (not_due (decimal place) front.0 front.1 front.2 front.3)
    ∙ ap (option_map (λ place. pick.Nth place)) (number_back place low)
pick_back pick.Due low = refl

-- what is read after the actor
abbrev picks : List ℕ → ℕ → Option Step
picks bytes actor = option_map (λ picked. step.Claim actor picked) (option_and_then pick_of (after (codes " ") (past_word bytes)))

claim_back : (actor : ℕ) (picked : Pick) → IsActor actor → IsPick picked → claim_of (decimal actor ++ (32 ∷ pick_text picked)) ≡ Some (step.Claim actor picked)
claim_back actor picked fine low =
    let bytes : List ℕ = decimal actor ++ (32 ∷ pick_text picked) in
    ap (λ name. option_and_then (picks bytes) (actor_of name)) (word_again (decimal actor) (32 ∷ pick_text picked) (decimal_no_space actor (small actor fine)) refl)
    ∙ ap (option_and_then (picks bytes)) (actor_back actor fine)
    ∙ ap (λ rest. option_map (λ picked. step.Claim actor picked) (option_and_then pick_of (after (codes " ") rest))) (past_again (decimal actor) (32 ∷ pick_text picked) (decimal_no_space actor (small actor fine)) refl)
    ∙ ap (option_map (λ picked. step.Claim actor picked)) (pick_back picked low)

step_back : (made : Step) → IsStep made → step_of (step_text made) ≡ Some made
step_back (step.Arrive number) fine = ap (option_map (λ number. step.Arrive number)) (number_back number fine)
step_back (step.Claim actor picked) fine = ap claim_of (append_assoc (decimal actor) (32 ∷ []) (pick_text picked)) ∙ claim_back actor picked fine.0 fine.1
step_back (step.Read actor) fine = ap (option_map (λ actor. step.Read actor)) (actor_back actor fine)
step_back (step.Finish actor) fine = ap (option_map (λ actor. step.Finish actor)) (actor_back actor fine)
step_back (step.Release actor) fine = ap (option_map (λ actor. step.Release actor)) (actor_back actor fine)
step_back step.Deliver fine = refl
step_back step.Commit fine = refl
step_back step.Seal fine = refl

-- a line is short and has no newline
pick_plain : (picked : Pick) → IsPick picked → plain (pick_text picked) ≡ true
pick_plain (pick.Nth place) low = decimal_plain place low
pick_plain pick.Due low = refl

step_plain : (made : Step) → IsStep made → plain (step_text made) ≡ true
step_plain (step.Arrive number) fine = decimal_plain number fine
step_plain (step.Claim actor picked) fine =
    plain-append (decimal actor ++ codes " ") (pick_text picked) (plain-append (decimal actor) (codes " ") (decimal_plain actor (small actor fine.0)) refl) (pick_plain picked fine.1)
step_plain (step.Read actor) fine = decimal_plain actor (small actor fine)
step_plain (step.Finish actor) fine = decimal_plain actor (small actor fine)
step_plain (step.Release actor) fine = decimal_plain actor (small actor fine)
step_plain step.Deliver fine = refl
step_plain step.Commit fine = refl
step_plain step.Seal fine = refl

decimal_short : (n : ℕ) → n < 2 ^ 64 → length (decimal n) ≤ 20
decimal_short n low = length-decimal-le 20 n (omega arith) (omega (arith, low)) low

pick_short : (picked : Pick) → IsPick picked → length (pick_text picked) ≤ 20
pick_short (pick.Nth place) low = decimal_short place low
pick_short pick.Due low = omega arith

step_short : (made : Step) → IsStep made → length (step_text made) ≤ 4096
step_short (step.Arrive number) fine = omega (arith, decimal_short number fine)
step_short (step.Claim actor picked) fine =
    omega (arith, decimal_short actor (small actor fine.0), pick_short picked fine.1, length-append (decimal actor ++ codes " ") (pick_text picked), length-append (decimal actor) (codes " "))
step_short (step.Read actor) fine = omega (arith, decimal_short actor (small actor fine))
step_short (step.Finish actor) fine = omega (arith, decimal_short actor (small actor fine))
step_short (step.Release actor) fine = omega (arith, decimal_short actor (small actor fine))
step_short step.Deliver fine = omega arith
step_short step.Commit fine = omega arith
step_short step.Seal fine = omega arith

steps_listed : (steps : List Step) → AllByRecursion IsStep steps → AllByRecursion (IsListed schedule_form step_text) steps
steps_listed [] fine = tt
steps_listed (made ∷ steps) fine = (record { again = step_back made fine.0; plain = step_plain made fine.0; short = step_short made fine.0 }, steps_listed steps fine.1)

pub schedule_back : (steps : List Step) → length steps ≤ 1000000 → AllByRecursion IsStep steps → schedule_of (schedule_text steps) ≡ Ok steps
schedule_back steps few fine = listed_again schedule_form step_text refl refl steps few (steps_listed steps fine)
