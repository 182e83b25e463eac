-- What the caller has noted, once it has taken all that was put.
use Rattle.std.proofs.Common.{◌≡◌, ℕ, zero, suc, ◌==◌, ◌+◌, ◌<◌, ◌≤◌, Bool, true, false, cond, List, [], ◌∷◌, ◌++◌, All, Option, Some, None, sym, refl, ap, ◌∙◌, subst, ⊎_elim, inl, inr, arith, slice_index, eq-eqb}
use Rattle.std.specs.List.{flat_map, count_by}
use Rattle.std.proofs.lemmas.Bool.{cases_lt}
use Rattle.std.proofs.lemmas.List.Concat.{flat_map-append}
use Rattle.std.proofs.lemmas.List.Elements.{All-append}
use Rattle.std.proofs.lemmas.List.Sums.{sum_by-append}
use mathlib.Core.Logic.{dite}
use native.Mathlib.Decide.{ℕ_discrete}
use Rattle.order_queue.specs.declared.ticket.Ticket.{Ticket}
use Rattle.order_queue.specs.Rule.{client_of, ticket_at, end_of, puts, sent, tickets_of, NoOther, AllKnown}
use Rattle.order_queue.specs.Standing.{named_by, named, AllFrom}
use Rattle.order_queue.specs.Works.{known_of}

-- what is known of the first n clients is known of each
known_at : (story : List Ticket) (counts : List ℕ) (n k : ℕ) → k < n → AllKnown story (known_of counts n) → tickets_of (k + 1) story ≡ sent (k + 1) (slice_index counts k) true
known_at story counts zero k h a = absurd (omega arith)
known_at story counts (suc n) k h a = dite (ℕ_discrete k n) (λ e. subst (λ (i : ℕ). tickets_of (i + 1) story ≡ sent (i + 1) (slice_index counts i) true) (sym e) a.0) (λ ne. known_at story counts n k (omega arith) a.1)

abbrev times : ℕ → List ℕ → ℕ
times k from = count_by (λ client. client == k) from

times_append : (k : ℕ) (xs ys : List ℕ) → times k (xs ++ ys) ≡ times k xs + times k ys
times_append k xs ys = sum_by-append (λ client. cond (client == k) 1 0) xs ys

times_none : (k c : ℕ) (o : Option ℕ) → (c == k) ≡ false → times k (named_by o c) ≡ 0
times_none k c None other = refl
times_none k c (Some i) other = rw other refl

-- a client is noted as often in all as among its own tickets
times_if : (k : ℕ) (t : Ticket) (ts : List Ticket) (own : Bool) → (client_of t == k) ≡ own → times k (flat_map named ts) ≡ times k (flat_map named (tickets_of k ts))
    → times k (named t ++ flat_map named ts) ≡ times k (flat_map named (cond own (t ∷ tickets_of k ts) (tickets_of k ts)))
times_if k t ts true is h = times_append k (named t) (flat_map named ts) ∙ (ap (λ n. times k (named t) + n) h ∙ sym (times_append k (named t) (flat_map named (tickets_of k ts))))
times_if k t ts false is h = let none = times_none k (client_of t) t.index is in let both = times_append k (named t) (flat_map named ts) in omega arith

times_own : (k : ℕ) (story : List Ticket) → times k (flat_map named story) ≡ times k (flat_map named (tickets_of k story))
times_own k [] = refl
times_own k (t ∷ ts) = times_if k t ts (client_of t == k) refl (times_own k ts)

times_puts : (k n : ℕ) → times k (flat_map named (puts k n)) ≡ n
times_puts k zero = refl
times_puts k (suc n) =
    let before = times_puts k n in
    let one : times k (flat_map named (ticket_at k n ∷ [])) ≡ 1 = rw (eq-eqb k k refl) refl in
    let all : times k (flat_map named (puts k n ++ ticket_at k n ∷ [])) ≡ times k (flat_map named (puts k n)) + times k (flat_map named (ticket_at k n ∷ [])) =
    ap (times k) (flat_map-append named (puts k n) (ticket_at k n ∷ [])) ∙ times_append k (flat_map named (puts k n)) (flat_map named (ticket_at k n ∷ [])) in
    omega arith

times_sent : (k n : ℕ) → times k (flat_map named (sent k n true)) ≡ n
times_sent k n =
    let before = times_puts k n in
    let all : times k (flat_map named (puts k n ++ end_of k ∷ [])) ≡ times k (flat_map named (puts k n)) + times k (flat_map named (end_of k ∷ [])) =
    ap (times k) (flat_map-append named (puts k n) (end_of k ∷ [])) ∙ times_append k (flat_map named (puts k n)) (flat_map named (end_of k ∷ [])) in
    omega arith

-- each client was noted once for each of its transactions
pub counts_are : (counts from : List ℕ) (made n k : ℕ) → AllFrom from made (known_of counts n) → k < n → count_by (λ client. client == k + 1) from ≡ slice_index counts k
counts_are counts from made n k a below =
    ap (times (k + 1)) a.noted ∙ (times_own (k + 1) a.story ∙ (ap (λ ts. times (k + 1) (flat_map named ts)) (known_at a.story counts n k below a.all.all) ∙ times_sent (k + 1) (slice_index counts k)))

abbrev Within : ℕ → ℕ → Type 0
Within n client = (1 ≤ client) × (client ≤ n)

within_named : (n c : ℕ) (o : Option ℕ) → Within n c → All (Within n) (named_by o c)
within_named n c None w k d below = absurd (omega arith)
within_named n c (Some i) w zero d below = w
within_named n c (Some i) w (suc k) d below = absurd (omega arith)

of_tail : (k : ℕ) (t : Ticket) (ts : List Ticket) (own : Bool) → cond own (t ∷ tickets_of k ts) (tickets_of k ts) ≡ [] → tickets_of k ts ≡ []
of_tail k t ts true e = absurd (cc (e))
of_tail k t ts false e = e

of_here : (t : Ticket) (ts : List Ticket) → tickets_of (client_of t) (t ∷ ts) ≡ [] → ⊥
of_here t ts e = let here : tickets_of (client_of t) (t ∷ ts) ≡ t ∷ tickets_of (client_of t) ts = rw (eq-eqb (client_of t) (client_of t) refl) refl in cc (here, e)

head_within : (n : ℕ) (t : Ticket) (ts : List Ticket) → NoOther n (t ∷ ts) → Within n (client_of t)
head_within n t ts alone = (
  ⊎_elim (λ (l : client_of t < 1). absurd (of_here t ts (alone (client_of t) (inl (omega arith))))) (λ (l : 1 ≤ client_of t). l) (cases_lt (client_of t) 1),
  ⊎_elim (λ (l : n < client_of t). absurd (of_here t ts (alone (client_of t) (inr l)))) (λ (l : client_of t ≤ n). l) (cases_lt n (client_of t)),
)

within_all : (n : ℕ) (story : List Ticket) → NoOther n story → All (Within n) (flat_map named story)
within_all n [] alone = λ k d below. absurd (omega arith)
within_all n (t ∷ ts) alone =
    All-append (Within n) (named t) (flat_map named ts) (within_named n (client_of t) t.index (head_within n t ts alone)) (within_all n ts (λ k out. of_tail k t ts (client_of t == k) (alone k out)))

-- nobody else was noted
pub clients_are : (from : List ℕ) (made : ℕ) (counts : List ℕ) → AllFrom from made (known_of counts made) → All (λ client. (1 ≤ client) × (client ≤ made)) from
clients_are from made counts a = subst (All (Within made)) (sym a.noted) (within_all made a.story a.all.no_other)
