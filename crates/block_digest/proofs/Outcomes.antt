-- The codes of outcomes are exact.
use Rattle.std.proofs.Common.{◌≡◌, ◌<◌, ◌^◌, ℕ, List, [], ◌∷◌, ◌++◌, Bool, true, false, Some, refl, sym, ◌∙◌, ap}
use Rattle.std.specs.Int.{w64}
use Rattle.std.proofs.lemmas.Option.{none-some}
use Rattle.canon_code.specs.Codes.{be_code, counted, short_code}
use Rattle.canon_code.specs.Laws.{ComesBack, WasWritten}
use Rattle.canon_code.specs.Parts.{◌>>=◌, number_at}
use Rattle.canon_code.specs.Rows.{row_code, HasRowCode, row_at}
use Rattle.canon_code.specs.Values.{is_text, text_at}
use Rattle.canon_code.proofs.Exact.{IsExact, bytes_tail, u64_exact}
use Rattle.canon_code.proofs.Things.{row_exact}
use Rattle.node_model.specs.Kinds.{kind_byte, late_kind}
use Rattle.node_model.specs.BlockCode.{small_code, fault_code, clash_code, danger_code, outcome_code}
use Rattle.node_model.specs.declared.danger.Danger.TheVariants as danger
use Rattle.node_model.specs.declared.outcome.Late.{Late}
use Rattle.node_model.specs.declared.outcome.Outcome.TheVariants as outcome
use Rattle.proc_syntax.specs.declared.fault.Fault.TheVariants as fault
use Rattle.rel_base.specs.declared.value.Value.{Value}
use Rattle.block_digest.specs.Grammar.{IsSmall, HasLateCode, HasFaultCode, HasClashCode, HasPathCode, HasDangerCode, HasOutcomeCode}
use Rattle.block_digest.specs.Joined.{Reading, then_at}
use Rattle.block_digest.specs.Readings.{small_at, named_at, late_of, late_at, fault_at, clash_of, clash_at, one_of, two_of, path_at, danger_at, outcome_at}
use Rattle.block_digest.proofs.PositionCodes.{path_exact, small_exact}
use Rattle.block_digest.proofs.Joins.{form_exact, pair_code, HasPairCode, then_exact, made_exact, SaysAll, none_says, plain_says, made_says, or_says}

-- ---- parts

-- two things of which neither says how the other is read
abbrev pub HasBoth : {A B : Type 0} → (A → Type 0) → (B → Type 0) → A × B → Type 0
HasBoth HasFirst HasSecond = HasPairCode HasFirst (λ a. HasSecond)

pub both_exact : {A B : Type 0} (first : A → List ℕ) (HasFirst : A → Type 0) (first_at : Reading A) (second : B → List ℕ) (HasSecond : B → Type 0) (second_at : Reading B)
    → IsExact first HasFirst first_at → IsExact second HasSecond second_at → IsExact (pair_code first second) (HasBoth HasFirst HasSecond) (then_at first_at second_at)
both_exact first HasFirst first_at second HasSecond second_at one two = then_exact first HasFirst first_at second (λ a. HasSecond) (λ a. second_at) one (λ a has. two)

abbrev named_code : ℕ × List Value → List ℕ
named_code = pair_code small_code row_code

abbrev HasNamedCode : ℕ × List Value → Type 0
HasNamedCode = HasBoth IsSmall HasRowCode

named_exact : IsExact named_code HasNamedCode named_at
named_exact = both_exact small_code IsSmall small_at row_code HasRowCode row_at small_exact row_exact

abbrev smalls_code : ℕ × ℕ → List ℕ
smalls_code = pair_code small_code small_code

abbrev AreSmall : ℕ × ℕ → Type 0
AreSmall = HasBoth IsSmall IsSmall

smalls_exact : IsExact smalls_code AreSmall (then_at small_at small_at)
smalls_exact = both_exact small_code IsSmall small_at small_code IsSmall small_at small_exact small_exact

-- ---- late reads

abbrev IsWide : ℕ → Type 0
IsWide n = n < 2 ^ 64

abbrev numbered_code : ℕ × ℕ → List ℕ
numbered_code = pair_code small_code (be_code w64)

abbrev IsNumbered : ℕ × ℕ → Type 0
IsNumbered = HasBoth IsSmall IsWide

abbrev seen_code : (ℕ × ℕ) × ℕ → List ℕ
seen_code = pair_code numbered_code small_code

abbrev IsSeen : (ℕ × ℕ) × ℕ → Type 0
IsSeen = HasBoth IsNumbered IsSmall

abbrev fields_code : ((ℕ × ℕ) × ℕ) × (ℕ × List Value) → List ℕ
fields_code = pair_code seen_code named_code

abbrev HaveFields : ((ℕ × ℕ) × ℕ) × (ℕ × List Value) → Type 0
HaveFields = HasBoth IsSeen HasNamedCode

numbered_exact : IsExact numbered_code IsNumbered (then_at small_at (number_at w64))
numbered_exact = both_exact small_code IsSmall small_at (be_code w64) IsWide (number_at w64) small_exact u64_exact

seen_exact : IsExact seen_code IsSeen (then_at (then_at small_at (number_at w64)) small_at)
seen_exact = both_exact numbered_code IsNumbered (then_at small_at (number_at w64)) small_code IsSmall small_at numbered_exact small_exact

fields_exact : IsExact fields_code HaveFields (then_at (then_at (then_at small_at (number_at w64)) small_at) named_at)
fields_exact = both_exact seen_code IsSeen (then_at (then_at small_at (number_at w64)) small_at) named_code HasNamedCode named_at seen_exact named_exact

abbrev late_parts : Late → ((ℕ × ℕ) × ℕ) × (ℕ × List Value)
late_parts late = (((late.read, late.place.block), late.place.pos), (late.table, late.key))

-- a late read of one of the two kinds
abbrev IsOfKind : Bool → Late → Type 0
IsOfKind stale late = HasLateCode late × (late.stale ≡ stale)

late_exact : (stale : Bool) → IsExact (λ late. fields_code (late_parts late)) (IsOfKind stale) (late_at stale)
late_exact stale =
    made_exact (late_of stale) late_parts fields_code HaveFields (then_at (then_at (then_at small_at (number_at w64)) small_at) named_at) (λ late. fields_code (late_parts late)) (IsOfKind stale)
    fields_exact (record {
      has_parts = λ late has. (((has.0.read, has.0.block), has.0.position), (has.0.table, has.0.key));
      again = λ late has. ap (λ kind. late_of kind (late_parts late)) (sym has.1);
      has_code = λ found has. (record { read = has.0.0.0; block = has.0.0.1; position = has.0.1; table = has.1.0; key = has.1.1 }, refl);
      coded = λ found has. refl;
    })

-- ---- faults

abbrev IsText : List ℕ → Type 0
IsText text = is_text text ≡ true

text_exact : IsExact short_code IsText text_at
text_exact = form_exact is_text

fault_says : SaysAll fault_code HasFaultCode (λ kind bytes. fault_at (kind ∷ bytes))
fault_says =
    or_says (plain_says fault_code HasFaultCode 1 fault.Overflow tt refl)
    (or_says (plain_says fault_code HasFaultCode 2 fault.ZeroDivide tt refl)
    (or_says (plain_says fault_code HasFaultCode 3 fault.DuplicateKey tt refl)
    (or_says (plain_says fault_code HasFaultCode 4 fault.NoRow tt refl)
    (or_says (plain_says fault_code HasFaultCode 5 fault.TextTooLong tt refl)
    (or_says (plain_says fault_code HasFaultCode 6 fault.Steps tt refl)
    (or_says (made_says fault.Failed short_code IsText text_at fault_code HasFaultCode 7 text_exact (λ text has. has) (λ text has. refl)) (none_says fault_code HasFaultCode)))))))

fault_back : ComesBack fault_code HasFaultCode fault_at
fault_back fault.Overflow rest has = refl
fault_back fault.ZeroDivide rest has = refl
fault_back fault.DuplicateKey rest has = refl
fault_back fault.NoRow rest has = refl
fault_back fault.TextTooLong rest has = refl
fault_back fault.Steps rest has = refl
fault_back (fault.Failed text) rest has = ap (λ found. found >>= λ a. Some (fault.Failed a.0, a.1)) (text_exact.back text rest has)

fault_written : WasWritten fault_code HasFaultCode fault_at
fault_written [] fault rest fits e = absurd (none-some (fault, rest) e)
fault_written (kind ∷ bytes) fault rest fits e = (fault_says.each kind).says bytes fault rest (bytes_tail kind bytes fits) e

fault_exact : IsExact fault_code HasFaultCode fault_at
fault_exact = record { back = fault_back; written = fault_written }

-- ---- write conflicts

clash_exact : IsExact clash_code HasClashCode clash_at
clash_exact =
    made_exact clash_of (λ clash. (clash.with, (clash.table, clash.key))) (pair_code small_code named_code) (HasBoth IsSmall HasNamedCode) (then_at small_at named_at) clash_code HasClashCode
    (both_exact small_code IsSmall small_at named_code HasNamedCode named_at small_exact named_exact) (record {
      has_parts = λ clash has. (has.position, (has.table, has.key));
      again = λ clash has. refl;
      has_code = λ found has. record { position = has.0; table = has.1.0; key = has.1.1 };
      coded = λ found has. refl;
    })

-- ---- dangers

danger_says : SaysAll danger_code HasDangerCode (λ form bytes. danger_at (form ∷ bytes))
danger_says =
    or_says (made_says one_of smalls_code AreSmall (then_at small_at small_at) danger_code HasDangerCode 1 smalls_exact (λ found has. (has.0, has.1)) (λ found has. refl))
    (or_says (made_says two_of smalls_code AreSmall (then_at small_at small_at) danger_code HasDangerCode 2 smalls_exact (λ found has. (has.0, has.1)) (λ found has. refl))
    (or_says (made_says danger.Cycle (counted small_code small_code) HasPathCode path_at danger_code HasDangerCode 3 path_exact (λ path has. has) (λ path has. refl))
    (none_says danger_code HasDangerCode)))

danger_back : ComesBack danger_code HasDangerCode danger_at
danger_back (danger.One z x) rest has = ap (λ found. found >>= λ a. Some (one_of a.0, a.1)) (smalls_exact.back (z, x) rest (has.0, has.1))
danger_back (danger.Two y z) rest has = ap (λ found. found >>= λ a. Some (two_of a.0, a.1)) (smalls_exact.back (y, z) rest (has.0, has.1))
danger_back (danger.Cycle path) rest has = ap (λ found. found >>= λ a. Some (danger.Cycle a.0, a.1)) (path_exact.back path rest has)

danger_written : WasWritten danger_code HasDangerCode danger_at
danger_written [] danger rest fits e = absurd (none-some (danger, rest) e)
danger_written (form ∷ bytes) danger rest fits e = (danger_says.each form).says bytes danger rest (bytes_tail form bytes fits) e

danger_exact : IsExact danger_code HasDangerCode danger_at
danger_exact = record { back = danger_back; written = danger_written }

-- ---- outcomes

outcome_says : SaysAll outcome_code HasOutcomeCode (λ kind bytes. outcome_at (kind ∷ bytes))
outcome_says =
    or_says (plain_says outcome_code HasOutcomeCode 0 outcome.Committed tt refl)
    (or_says (plain_says outcome_code HasOutcomeCode 1 outcome.DuplicateId tt refl)
    (or_says (plain_says outcome_code HasOutcomeCode 2 outcome.FutureHeight tt refl)
    (or_says (plain_says outcome_code HasOutcomeCode 3 outcome.UnknownProcedure tt refl)
    (or_says (plain_says outcome_code HasOutcomeCode 4 outcome.BadArguments tt refl)
    (or_says (made_says outcome.Late (λ late. fields_code (late_parts late)) (IsOfKind true) (late_at true) outcome_code HasOutcomeCode 5 (late_exact true) (λ late has. has.0) (λ late has. ap (λ stale. kind_byte (late_kind stale) ∷ fields_code (late_parts late)) has.1))
    (or_says (made_says outcome.Late (λ late. fields_code (late_parts late)) (IsOfKind false) (late_at false) outcome_code HasOutcomeCode 6 (late_exact false) (λ late has. has.0) (λ late has. ap (λ stale. kind_byte (late_kind stale) ∷ fields_code (late_parts late)) has.1))
    (or_says (made_says outcome.Fault fault_code HasFaultCode fault_at outcome_code HasOutcomeCode 7 fault_exact (λ fault has. has) (λ fault has. refl))
    (or_says (made_says outcome.WriteConflict clash_code HasClashCode clash_at outcome_code HasOutcomeCode 8 clash_exact (λ clash has. has) (λ clash has. refl))
    (or_says (made_says outcome.Danger danger_code HasDangerCode danger_at outcome_code HasOutcomeCode 9 danger_exact (λ danger has. has) (λ danger has. refl))
    (none_says outcome_code HasOutcomeCode))))))))))

late_back : (late : Late) (rest : List ℕ) → HasLateCode late → (stale : Bool) → late.stale ≡ stale → outcome_at (outcome_code (outcome.Late late) ++ rest) ≡ Some (outcome.Late late, rest)
late_back late rest has true same =
    ap (λ stale. outcome_at ((kind_byte (late_kind stale) ∷ fields_code (late_parts late)) ++ rest)) same
    ∙ ap (λ found. found >>= λ a. Some (outcome.Late a.0, a.1)) ((late_exact true).back late rest (has, same))
late_back late rest has false same =
    ap (λ stale. outcome_at ((kind_byte (late_kind stale) ∷ fields_code (late_parts late)) ++ rest)) same
    ∙ ap (λ found. found >>= λ a. Some (outcome.Late a.0, a.1)) ((late_exact false).back late rest (has, same))

outcome_back : ComesBack outcome_code HasOutcomeCode outcome_at
outcome_back outcome.Committed rest has = refl
outcome_back outcome.DuplicateId rest has = refl
outcome_back outcome.FutureHeight rest has = refl
outcome_back outcome.UnknownProcedure rest has = refl
outcome_back outcome.BadArguments rest has = refl
outcome_back (outcome.Late late) rest has = late_back late rest has late.stale refl
outcome_back (outcome.Fault fault) rest has = ap (λ found. found >>= λ a. Some (outcome.Fault a.0, a.1)) (fault_exact.back fault rest has)
outcome_back (outcome.WriteConflict clash) rest has = ap (λ found. found >>= λ a. Some (outcome.WriteConflict a.0, a.1)) (clash_exact.back clash rest has)
outcome_back (outcome.Danger danger) rest has = ap (λ found. found >>= λ a. Some (outcome.Danger a.0, a.1)) (danger_exact.back danger rest has)

outcome_written : WasWritten outcome_code HasOutcomeCode outcome_at
outcome_written [] outcome rest fits e = absurd (none-some (outcome, rest) e)
outcome_written (kind ∷ bytes) outcome rest fits e = (outcome_says.each kind).says bytes outcome rest (bytes_tail kind bytes fits) e

pub outcome_exact : IsExact outcome_code HasOutcomeCode outcome_at
outcome_exact = record { back = outcome_back; written = outcome_written }
