-- The hands of all actors, after a step of one.
use Rattle.std.proofs.Common.{Bool, List, None, Option, [], ap, arith, false, length, refl, slice_set, subst, suc, sym, true, zero, ◌++◌, ◌<◌, ◌==◌, ◌∙◌, ◌≡◌, ◌∷◌, ℕ}
use Rattle.std.proofs.lemmas.Bool.{eq-eqb, eqb-true, false≢true}
use Rattle.std.proofs.lemmas.List.{length-set}
use Rattle.std.proofs.lemmas.Option.{none-some}
use Rattle.node_core.specs.Core.{Core}
use Rattle.node_core.specs.InHand.{InHand}
use Rattle.node_model.specs.Journals.{IsLegal}
use Rattle.node_model.specs.World.{Holds, Job}
use Rattle.proc_syntax.specs.declared.tree.App.{App}
use Rattle.schedule_sim.specs.InHands.{AreEmpty, AreInHands, AreInHandsBut, IsHand, IsPut, hand_of}
use Rattle.schedule_sim.specs.Steps.{IsActor}

-- ---- one hand

-- a place of a list is set
pub put_at : (hands : List (Option InHand)) (actor : ℕ) (hand : Option InHand) → actor < length hands → IsPut hands actor hand (slice_set hands actor hand)
put_at hands actor hand within = record { count = length-set hands actor hand; now = at hands actor within; rest = else hands actor }
  where
    at : (hands : List (Option InHand)) (actor : ℕ) → actor < length hands → hand_of (slice_set hands actor hand) actor ≡ hand
    at [] actor within = absurd (omega (arith, within))
    at (first ∷ hands) zero within = refl
    at (first ∷ hands) (suc actor) within = at hands actor (omega (arith, within))

    else : (hands : List (Option InHand)) (actor other : ℕ) → (other ≡ actor → ⊥) → hand_of (slice_set hands actor hand) other ≡ hand_of hands other
    else [] actor other apart = refl
    else (first ∷ hands) zero zero apart = absurd (apart refl)
    else (first ∷ hands) zero (suc other) apart = refl
    else (first ∷ hands) (suc actor) zero apart = refl
    else (first ∷ hands) (suc actor) (suc other) apart = else hands actor other (λ e. apart (ap suc e))

-- one more empty hand
pub none_more : (hands : List (Option InHand)) → ((actor : ℕ) → hand_of hands actor ≡ None) → (actor : ℕ) → hand_of (hands ++ None ∷ []) actor ≡ None
none_more [] none zero = refl
none_more [] none (suc actor) = refl
none_more (first ∷ hands) none zero = none zero
none_more (first ∷ hands) none (suc actor) = none_more hands (λ actor. none (suc actor)) actor

-- a hand that is empty stays so
still : (hands : List (Option InHand)) (actor : ℕ) → hand_of hands actor ≡ None → IsPut hands actor None hands
still hands actor none = record { count = refl; now = none; rest = λ other apart. refl }

-- ---- all hands

-- the one whose hand is empty is left out
pub but : (node : Core) (hands hands' : List (Option InHand)) (actor : ℕ) → AreInHands node hands → IsPut hands actor None hands' → AreInHandsBut node actor hands'
but node hands hands' actor are put = record {
  legal = are.legal;
  count = put.count ∙ are.count;
  none = put.now;
  each = λ other is apart. subst (IsHand node other) (sym (put.rest other apart)) (are.each other is);
}

pub but_idle : (node : Core) (hands : List (Option InHand)) (actor : ℕ) → AreInHands node hands → hand_of hands actor ≡ None → AreInHandsBut node actor hands
but_idle node hands actor are none = but node hands hands actor are (still hands actor none)

-- what a step leaves to others
abbrev pub KeepsOthers : Core → ℕ → Core → Type 0
KeepsOthers old actor new = (other : ℕ) → (other ≡ actor → ⊥) → (hand : Option InHand) → IsHand old other hand → IsHand new other hand

pub keeps_same : (node : Core) (actor : ℕ) → KeepsOthers node actor node
keeps_same node actor other apart hand is = is

-- an actor's own hand comes back
pub own : (old new : Core) (actor : ℕ) (hand : Option InHand) (hands hands' : List (Option InHand)) → AreInHandsBut old actor hands → IsLegal new.app new.journal → KeepsOthers old actor new → IsPut hands actor hand hands'
    → IsHand new actor hand → AreInHands new hands'
own old new actor hand hands hands' are legal keeps put is = record { legal = legal; count = put.count ∙ are.count; each = λ other one. by other one (other == actor) refl }
  where
    by : (other : ℕ) → IsActor other → (b : Bool) → (other == actor) ≡ b → IsHand new other (hand_of hands' other)
    by other one true e = subst (λ n. IsHand new n (hand_of hands' n)) (sym (eqb-true other actor e)) (subst (IsHand new actor) (sym put.now) is)
    by other one false e =
        let apart : other ≡ actor → ⊥ = λ same. false≢true (sym e ∙ eq-eqb other actor same) in
        subst (IsHand new other) (sym (put.rest other apart)) (keeps other apart (hand_of hands other) (are.each other one apart))

-- an actor's hand stays empty
pub own_idle : (old new : Core) (actor : ℕ) (hands : List (Option InHand)) → AreInHandsBut old actor hands → IsLegal new.app new.journal → KeepsOthers old actor new → IsHand new actor None → AreInHands new hands
own_idle old new actor hands are legal keeps is = own old new actor None hands hands are legal keeps (still hands actor are.none) is

-- one who holds nothing takes a step
pub outside : (old new : Core) (actor : ℕ) (hands : List (Option InHand)) → (IsActor actor → ⊥) → AreInHands old hands → IsLegal new.app new.journal → KeepsOthers old actor new → AreInHands new hands
outside old new actor hands none are legal keeps = record {
  legal = legal;
  count = are.count;
  each = λ other one. keeps other (λ same. none (subst IsActor same one)) (hand_of hands other) (are.each other one);
}

-- a node to which nothing has happened, and hands that hold nothing
pub first_hands : (node : Core) (app : App) (hands : List (Option InHand)) → node ≡ record { app = app; journal = [] } → AreEmpty hands → AreInHands node hands
first_hands node app hands is empty = subst (λ (core : Core). AreInHands core hands) (sym is) (record {
  legal = tt;
  count = empty.count;
  each = λ actor one. subst (IsHand (record { app = app; journal = [] }) actor) (sym (empty.each actor)) (none actor);
})
  where
    none : (actor number : ℕ) (job : Job) → Holds [] actor number job → ⊥
    none actor zero job holds = none-some job holds.stands
    none actor (suc place) job holds = none-some job holds.stands
