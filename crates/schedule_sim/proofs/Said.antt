-- A line that is a step is the text of that step, and says what a step can say.
use Rattle.std.proofs.Common.{◌≡◌, ◌<◌, ◌^◌, ℕ, List, [], ◌∷◌, ◌++◌, Bool, true, false, cond, Option, Some, None, refl, sym, ◌∙◌, ap, subst, append_assoc}
use Rattle.std.specs.Prelude.{◌&&◌, nat_le, Ok, codes, decimal}
use Rattle.std.specs.List.{AllByRecursion, position_or_len}
use Rattle.std.specs.Option.{option_and_then, option_map}
use Rattle.std.specs.Str.{bytes_eq}
use Rattle.std.proofs.lemmas.Bool.{and_parts, leb-true}
use Rattle.std.proofs.lemmas.List.{append-nil, take-append-drop}
use Rattle.literals.specs.Number.{u64_at}
use Rattle.literals.proofs.Takes.{IsLiteral, IsU64, u64_takes}
use Rattle.node_model.specs.declared.journal.Pick.{Pick}
use Rattle.node_model.specs.declared.journal.Pick.TheVariants as pick
use Rattle.tx_text.specs.Fields.{after, is_space, past_word, word}
use Rattle.tx_text.specs.Values.{alone}
use Rattle.tx_text.proofs.ListedItems.{listed_fine}
use Rattle.tx_text.proofs.ListedText.{listed_spelled}
use Rattle.tx_text.proofs.Takes.{IsInFront, after_takes}
use Rattle.schedule_sim.specs.declared.step.Step.{Step}
use Rattle.schedule_sim.specs.declared.step.Step.TheVariants as step
use Rattle.schedule_sim.specs.Steps.{IsActor, IsPick, IsStep, actor_of, as_actor, claim_of, number_of, pick_of, pick_text, step_of, step_text, step_with}
use Rattle.schedule_sim.specs.Schedules.{schedule_form, schedule_of, schedule_text}
use Rattle.rel_base.proofs.Bytes.{equal_bytes}

-- what was found is fine, and the bytes are its text
abbrev Says : {A : Type 0} → (A → List ℕ) → (A → Type 0) → List ℕ → Option A → Type 0
Says text Fine bytes None = Unit {0}
Says text Fine bytes (Some found) = (bytes ≡ text found) × Fine found

abbrev Is64 : ℕ → Type 0
Is64 n = n < 2 ^ 64

-- numbers and actors
alone_said : (bytes : List ℕ) (n : ℕ) (rest : List ℕ) → bytes ≡ decimal n ++ rest → n < 2 ^ 64 → Says decimal Is64 bytes (alone (n, rest))
alone_said bytes n [] same low = (same ∙ append-nil (decimal n), low)
alone_said bytes n (b ∷ bs) same low = tt

found_said : (bytes : List ℕ) (found : Option (ℕ × List ℕ)) → IsLiteral decimal IsU64 bytes found → Says decimal Is64 bytes (option_and_then alone found)
found_said bytes None h = tt
found_said bytes (Some found) h = alone_said bytes found.0 found.1 h.0 h.1

number_said : (bytes : List ℕ) → Says decimal Is64 bytes (number_of bytes)
number_said bytes = found_said bytes (u64_at bytes) (u64_takes bytes)

actor_if : (bytes : List ℕ) (n : ℕ) (test : Bool) → (nat_le 1 n && nat_le n 16) ≡ test → bytes ≡ decimal n → Says decimal IsActor bytes (cond test (Some n) None)
actor_if bytes n true e same = let parts = and_parts (nat_le 1 n) (nat_le n 16) e in (same, (leb-true 1 n parts.0, leb-true n 16 parts.1))
actor_if bytes n false e same = tt

actor_among : (bytes : List ℕ) (found : Option ℕ) → Says decimal Is64 bytes found → Says decimal IsActor bytes (option_and_then as_actor found)
actor_among bytes None h = tt
actor_among bytes (Some n) h = actor_if bytes n (nat_le 1 n && nat_le n 16) refl h.0

actor_said : (bytes : List ℕ) → Says decimal IsActor bytes (actor_of bytes)
actor_said bytes = actor_among bytes (number_of bytes) (number_said bytes)

-- picks
nth_said : (bytes : List ℕ) (found : Option ℕ) → Says decimal Is64 bytes found → Says pick_text IsPick bytes (option_map (λ place. pick.Nth place) found)
nth_said bytes None h = tt
nth_said bytes (Some place) h = h

pick_if : (bytes : List ℕ) (test : Bool) → bytes_eq bytes (codes "due") ≡ test → Says pick_text IsPick bytes (cond test (Some pick.Due) (option_map (λ place. pick.Nth place) (number_of bytes)))
pick_if bytes true e = (equal_bytes bytes (codes "due") e, tt)
pick_if bytes false e = nth_said bytes (number_of bytes) (number_said bytes)

pick_said : (bytes : List ℕ) → Says pick_text IsPick bytes (pick_of bytes)
pick_said bytes = pick_if bytes (bytes_eq bytes (codes "due")) refl

-- a word, and what stands after the space
split : (bytes rest : List ℕ) → past_word bytes ≡ 32 ∷ rest → bytes ≡ word bytes ++ (32 ∷ rest)
split bytes rest e = sym (take-append-drop (position_or_len is_space bytes) bytes) ∙ ap (λ back. word bytes ++ back) e

abbrev SaysStep : List ℕ → Option Step → Type 0
SaysStep = Says step_text IsStep

-- a claim, whose actor and pick were found
claim_both : (bytes rest : List ℕ) (actor : ℕ) (picked : Option Pick) → bytes ≡ word bytes ++ (32 ∷ rest) → word bytes ≡ decimal actor → IsActor actor → Says pick_text IsPick rest picked
    → SaysStep (codes "claim " ++ bytes) (option_map (λ picked. step.Claim actor picked) picked)
claim_both bytes rest actor None whole same fine h = tt
claim_both bytes rest actor (Some picked) whole same fine h = (
  ap (λ text. codes "claim " ++ text)
      (whole ∙ ap (λ front. front ++ (32 ∷ rest)) same ∙ ap (λ back. decimal actor ++ (32 ∷ back)) h.0 ∙ sym (append_assoc (decimal actor) (32 ∷ []) (pick_text picked))),
  (fine, h.1),
)

claim_behind : (bytes : List ℕ) (actor : ℕ) (rest : Option (List ℕ)) → word bytes ≡ decimal actor → IsActor actor → IsInFront (codes " ") (past_word bytes) rest
    → SaysStep (codes "claim " ++ bytes) (option_map (λ picked. step.Claim actor picked) (option_and_then pick_of rest))
claim_behind bytes actor None same fine h = tt
claim_behind bytes actor (Some rest) same fine h = claim_both bytes rest actor (pick_of rest) (split bytes rest h) same fine (pick_said rest)

claim_actor : (bytes : List ℕ) (actor : Option ℕ) → Says decimal IsActor (word bytes) actor
    → SaysStep (codes "claim " ++ bytes) (option_and_then (λ actor. option_map (λ picked. step.Claim actor picked) (option_and_then pick_of (after (codes " ") (past_word bytes)))) actor)
claim_actor bytes None h = tt
claim_actor bytes (Some actor) h = claim_behind bytes actor (after (codes " ") (past_word bytes)) h.0 h.1 (after_takes (codes " ") (past_word bytes))

claim_said : (bytes : List ℕ) → SaysStep (codes "claim " ++ bytes) (claim_of bytes)
claim_said bytes = claim_actor bytes (actor_of (word bytes)) (actor_said (word bytes))

-- steps with a number or an actor
with_one : (front bytes : List ℕ) (make : ℕ → Step) (Fine : ℕ → Type 0) (found : Option ℕ) → ((n : ℕ) → step_text (make n) ≡ front ++ decimal n) → ((n : ℕ) → Fine n → IsStep (make n))
    → Says decimal Fine bytes found → SaysStep (front ++ bytes) (option_map make found)
with_one front bytes make Fine None text fine h = tt
with_one front bytes make Fine (Some n) text fine h = (ap (λ back. front ++ back) h.0 ∙ sym (text n), fine n h.1)

-- a test that a word passes
step_if : (line name known front rest : List ℕ) (test : Bool) (x y : Option Step) → bytes_eq name known ≡ test → line ≡ name ++ (32 ∷ rest) → known ++ (32 ∷ rest) ≡ front ++ rest
    → SaysStep (front ++ rest) x → SaysStep line y → SaysStep line (cond test x y)
step_if line name known front rest true x y e whole same hx hy =
    subst (λ (bytes : List ℕ). SaysStep bytes x) (sym (whole ∙ ap (λ word. word ++ (32 ∷ rest)) (equal_bytes name known e) ∙ same)) hx
step_if line name known front rest false x y e whole same hx hy = hy

with_said : (line name rest : List ℕ) → line ≡ name ++ (32 ∷ rest) → SaysStep line (step_with name rest)
with_said line name rest whole =
    step_if line name (codes "arrive") (codes "arrive ") rest (bytes_eq name (codes "arrive")) _ _ refl whole refl
    (with_one (codes "arrive ") rest (λ number. step.Arrive number) Is64 (number_of rest) (λ n. refl) (λ n low. low) (number_said rest))
    (step_if line name (codes "claim") (codes "claim ") rest (bytes_eq name (codes "claim")) _ _ refl whole refl (claim_said rest)
    (step_if line name (codes "read") (codes "read ") rest (bytes_eq name (codes "read")) _ _ refl whole refl
    (with_one (codes "read ") rest (λ actor. step.Read actor) IsActor (actor_of rest) (λ n. refl) (λ n fine. fine) (actor_said rest))
    (step_if line name (codes "finish") (codes "finish ") rest (bytes_eq name (codes "finish")) _ _ refl whole refl
    (with_one (codes "finish ") rest (λ actor. step.Finish actor) IsActor (actor_of rest) (λ n. refl) (λ n fine. fine) (actor_said rest))
    (step_if line name (codes "release") (codes "release ") rest (bytes_eq name (codes "release")) _ _ refl whole refl
    (with_one (codes "release ") rest (λ actor. step.Release actor) IsActor (actor_of rest) (λ n. refl) (λ n fine. fine) (actor_said rest)) tt))))

-- a step of one word
word_if : (line known : List ℕ) (made : Step) (test : Bool) (y : Option Step) → bytes_eq line known ≡ test → step_text made ≡ known → IsStep made → SaysStep line y → SaysStep line (cond test (Some made) y)
word_if line known made true y e text fine hy = (equal_bytes line known e ∙ sym text, fine)
word_if line known made false y e text fine hy = hy

behind_said : (line : List ℕ) (rest : Option (List ℕ)) → IsInFront (codes " ") (past_word line) rest → SaysStep line (option_and_then (step_with (word line)) rest)
behind_said line None h = tt
behind_said line (Some rest) h = with_said line (word line) rest (split line rest h)

step_said : (line : List ℕ) → SaysStep line (step_of line)
step_said line =
    word_if line (codes "deliver") step.Deliver (bytes_eq line (codes "deliver")) _ refl refl tt
    (word_if line (codes "commit") step.Commit (bytes_eq line (codes "commit")) _ refl refl tt
    (word_if line (codes "seal") step.Seal (bytes_eq line (codes "seal")) _ refl refl tt
    (behind_said line (after (codes " ") (past_word line)) (after_takes (codes " ") (past_word line)))))

step_is : (line : List ℕ) (made : Step) → step_of line ≡ Some made → (line ≡ step_text made) × IsStep made
step_is line made e = subst (SaysStep line) e (step_said line)

pub schedule_spelled : (bytes : List ℕ) (steps : List Step) → schedule_of bytes ≡ Ok steps → bytes ≡ schedule_text steps
schedule_spelled = listed_spelled schedule_form step_text (λ line made e. (step_is line made e).0)

pub schedule_fine : (bytes : List ℕ) (steps : List Step) → schedule_of bytes ≡ Ok steps → AllByRecursion IsStep steps
schedule_fine = listed_fine schedule_form IsStep (λ line made e. (step_is line made e).1)
