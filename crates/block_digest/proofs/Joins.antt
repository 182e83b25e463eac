-- Readings that are made of others are exact where those are.
use Rattle.std.proofs.Common.{◌≡◌, ℕ, List, [], ◌∷◌, ◌++◌, Bool, true, false, cond, Option, Some, None, refl, sym, ◌∙◌, ap, subst, append_assoc}
use Rattle.std.specs.Prelude.{◌==◌}
use Rattle.std.proofs.lemmas.Bool.{eqb-true}
use Rattle.std.proofs.lemmas.Option.{none-some, some_pair_parts}
use Rattle.canon_code.specs.Codes.{AreBytes, short_code, HasShortCode}
use Rattle.canon_code.specs.Laws.{ComesBack, WasWritten}
use Rattle.canon_code.specs.Parts.{◌>>=◌, short_at}
use Rattle.canon_code.proofs.Exact.{IsExact, bind_some, cond_found, bytes_after, short_back, short_exact}
use Rattle.block_digest.specs.Joined.{Reading, made_at, tested_at, then_by}

-- another way to say which things have a code
pub held_exact : {A : Type 0} (code : A → List ℕ) (P Q : A → Type 0) (reading : Reading A) → IsExact code P reading
    → ((x : A) → P x → Q x) → ((x : A) → Q x → P x) → IsExact code Q reading
held_exact code P Q reading exact to from = record {
  back = λ x rest has. exact.back x rest (from x has);
  written = λ bytes x rest fits e. let found = exact.written bytes x rest fits e in (to x found.0, found.1);
}

-- ---- a test

tested_back : {A : Type 0} (code : A → List ℕ) (HasCode : A → Type 0) (reading : Reading A) (test : A → Bool) → IsExact code HasCode reading
    → ComesBack code (λ x. HasCode x × (test x ≡ true)) (tested_at test reading)
tested_back code HasCode reading test exact x rest has =
    ap (λ found. found >>= λ a. cond (test a.0) (Some a) None) (exact.back x rest has.0) ∙ ap (λ passed. cond passed (Some (x, rest)) None) has.1

tested_written : {A : Type 0} (code : A → List ℕ) (HasCode : A → Type 0) (reading : Reading A) (test : A → Bool) → IsExact code HasCode reading
    → WasWritten code (λ x. HasCode x × (test x ≡ true)) (tested_at test reading)
tested_written {A} code HasCode reading test exact bytes x rest fits e =
    let a = bind_some (reading bytes) (λ a. cond (test a.0) (Some a) None) (x, rest) e in
    let passed = cond_found (test a.0.0) (Some a.0) (x, rest) a.2 in
    let parts = some_pair_parts a.0.0 x a.0.1 rest passed.1 in
    let found = exact.written bytes a.0.0 a.0.1 fits a.1 in
    ((subst HasCode parts.0 found.0, subst (λ (y : A). test y ≡ true) parts.0 passed.0), found.1 ∙ ap (λ y. code y ++ a.0.1) parts.0 ∙ ap (λ xs. code x ++ xs) parts.1)

pub tested_exact : {A : Type 0} (code : A → List ℕ) (HasCode : A → Type 0) (reading : Reading A) (test : A → Bool) → IsExact code HasCode reading
    → IsExact code (λ x. HasCode x × (test x ≡ true)) (tested_at test reading)
tested_exact code HasCode reading test exact =
    record { back = tested_back code HasCode reading test exact; written = tested_written code HasCode reading test exact }

-- bytes of a form, after their length
pub form_exact : (form : List ℕ → Bool) → IsExact short_code (λ bytes. form bytes ≡ true) (tested_at form short_at)
form_exact form = record {
  back = λ found rest fine. ap (λ short. short >>= λ a. cond (form a.0) (Some a) None) (short_back found rest) ∙ ap (λ passed. cond passed (Some (found, rest)) None) fine;
  written = λ bytes found rest fits e. let all = tested_written short_code HasShortCode short_at form short_exact bytes found rest fits e in (all.0.1, all.1);
}

-- ---- one after another

-- the code of a pair
abbrev pub pair_code : {A B : Type 0} → (A → List ℕ) → (B → List ℕ) → A × B → List ℕ
pair_code first second pair = first pair.0 ++ second pair.1

abbrev pub HasPairCode : {A B : Type 0} → (A → Type 0) → (A → B → Type 0) → A × B → Type 0
HasPairCode HasFirst HasSecond pair = HasFirst pair.0 × HasSecond pair.0 pair.1

then_back : {A B : Type 0} (first : A → List ℕ) (HasFirst : A → Type 0) (first_at : Reading A) (second : B → List ℕ) (HasSecond : A → B → Type 0) (second_at : A → Reading B)
    → IsExact first HasFirst first_at → ((a : A) → HasFirst a → IsExact second (HasSecond a) (second_at a))
    → ComesBack (pair_code first second) (HasPairCode HasFirst HasSecond) (then_by first_at second_at)
then_back first HasFirst first_at second HasSecond second_at exact_first exact_second pair rest has =
    ap (then_by first_at second_at) (append_assoc (first pair.0) (second pair.1) rest)
    ∙ ap (λ found. found >>= λ a. (second_at a.0 a.1 >>= λ b. Some ((a.0, b.0), b.1))) (exact_first.back pair.0 (second pair.1 ++ rest) has.0)
    ∙ ap (λ found. found >>= λ b. Some ((pair.0, b.0), b.1)) ((exact_second pair.0 has.0).back pair.1 rest has.1)

then_written : {A B : Type 0} (first : A → List ℕ) (HasFirst : A → Type 0) (first_at : Reading A) (second : B → List ℕ) (HasSecond : A → B → Type 0) (second_at : A → Reading B)
    → IsExact first HasFirst first_at → ((a : A) → HasFirst a → IsExact second (HasSecond a) (second_at a))
    → WasWritten (pair_code first second) (HasPairCode HasFirst HasSecond) (then_by first_at second_at)
then_written {A} {B} first HasFirst first_at second HasSecond second_at exact_first exact_second bytes pair rest fits e =
    let a = bind_some (first_at bytes) (λ a. second_at a.0 a.1 >>= λ b. Some ((a.0, b.0), b.1)) (pair, rest) e in
    let b = bind_some (second_at a.0.0 a.0.1) (λ b. Some ((a.0.0, b.0), b.1)) (pair, rest) a.2 in
    let one = exact_first.written bytes a.0.0 a.0.1 fits a.1 in
    let two = (exact_second a.0.0 one.0).written a.0.1 b.0.0 b.0.1 (bytes_after (first a.0.0) a.0.1 bytes one.1 fits) b.1 in
    let parts = some_pair_parts (a.0.0, b.0.0) pair b.0.1 rest b.2 in
    let whole : bytes ≡ (first a.0.0 ++ second b.0.0) ++ rest =
    one.1 ∙ ap (λ xs. first a.0.0 ++ xs) (two.1 ∙ ap (λ xs. second b.0.0 ++ xs) parts.1) ∙ sym (append_assoc (first a.0.0) (second b.0.0) rest) in
    subst (λ (q : A × B). HasPairCode HasFirst HasSecond q × (bytes ≡ pair_code first second q ++ rest)) parts.0 ((one.0, two.0), whole)

pub then_exact : {A B : Type 0} (first : A → List ℕ) (HasFirst : A → Type 0) (first_at : Reading A) (second : B → List ℕ) (HasSecond : A → B → Type 0) (second_at : A → Reading B)
    → IsExact first HasFirst first_at → ((a : A) → HasFirst a → IsExact second (HasSecond a) (second_at a))
    → IsExact (pair_code first second) (HasPairCode HasFirst HasSecond) (then_by first_at second_at)
then_exact first HasFirst first_at second HasSecond second_at exact_first exact_second = record {
  back = then_back first HasFirst first_at second HasSecond second_at exact_first exact_second;
  written = then_written first HasFirst first_at second HasSecond second_at exact_first exact_second;
}

-- ---- a thing made of others

-- a thing is made of parts, whose code is its code, and it can be taken apart
pub record IsMade {A B : Type 0} (make : A → B) (parts : B → A) (code : A → List ℕ) (HasCode : A → Type 0) (made_code : B → List ℕ) (HasMade : B → Type 0) : Type 0 where
  pub has_parts : (b : B) → HasMade b → HasCode (parts b)
  pub again : (b : B) → HasMade b → make (parts b) ≡ b
  pub has_code : (a : A) → HasCode a → HasMade (make a)
  pub coded : (a : A) → HasCode a → made_code (make a) ≡ code a

made_back : {A B : Type 0} (make : A → B) (parts : B → A) (code : A → List ℕ) (HasCode : A → Type 0) (reading : Reading A) (made_code : B → List ℕ) (HasMade : B → Type 0)
    → IsExact code HasCode reading → IsMade make parts code HasCode made_code HasMade → ComesBack made_code HasMade (made_at make reading)
made_back make parts code HasCode reading made_code HasMade exact made b rest has =
    let own = made.has_parts b has in
    let same : made_code b ≡ code (parts b) = ap made_code (sym (made.again b has)) ∙ made.coded (parts b) own in
    ap (λ bytes. made_at make reading (bytes ++ rest)) same
    ∙ ap (λ found. found >>= λ a. Some (make a.0, a.1)) (exact.back (parts b) rest own)
    ∙ ap (λ x. Some (x, rest)) (made.again b has)

made_written : {A B : Type 0} (make : A → B) (parts : B → A) (code : A → List ℕ) (HasCode : A → Type 0) (reading : Reading A) (made_code : B → List ℕ) (HasMade : B → Type 0)
    → IsExact code HasCode reading → IsMade make parts code HasCode made_code HasMade → WasWritten made_code HasMade (made_at make reading)
made_written {A} {B} make parts code HasCode reading made_code HasMade exact made bytes b rest fits e =
    let a = bind_some (reading bytes) (λ a. Some (make a.0, a.1)) (b, rest) e in
    let found = exact.written bytes a.0.0 a.0.1 fits a.1 in
    let both = some_pair_parts (make a.0.0) b a.0.1 rest a.2 in
    subst (λ (x : B). HasMade x × (bytes ≡ made_code x ++ rest)) both.0
    (made.has_code a.0.0 found.0, found.1 ∙ ap (λ c. c ++ a.0.1) (sym (made.coded a.0.0 found.0)) ∙ ap (λ xs. made_code (make a.0.0) ++ xs) both.1)

pub made_exact : {A B : Type 0} (make : A → B) (parts : B → A) (code : A → List ℕ) (HasCode : A → Type 0) (reading : Reading A) (made_code : B → List ℕ) (HasMade : B → Type 0)
    → IsExact code HasCode reading → IsMade make parts code HasCode made_code HasMade → IsExact made_code HasMade (made_at make reading)
made_exact make parts code HasCode reading made_code HasMade exact made = record {
  back = made_back make parts code HasCode reading made_code HasMade exact made;
  written = made_written make parts code HasCode reading made_code HasMade exact made;
}

-- ---- one of several kinds, by a byte

-- what is read after the byte of a kind was written so
pub record Says {A : Type 0} (code : A → List ℕ) (HasCode : A → Type 0) (kind : ℕ) (reading : Reading A) : Type 0 where
  pub says : (bytes : List ℕ) (x : A) (rest : List ℕ) → AreBytes bytes → reading bytes ≡ Some (x, rest) → HasCode x × (kind ∷ bytes ≡ code x ++ rest)

-- of each kind
pub record SaysAll {A : Type 0} (code : A → List ℕ) (HasCode : A → Type 0) (reading : ℕ → Reading A) : Type 0 where
  pub each : (kind : ℕ) → Says code HasCode kind (reading kind)

pub none_says : {A : Type 0} (code : A → List ℕ) (HasCode : A → Type 0) → SaysAll code HasCode (λ kind bytes. None)
none_says code HasCode = record { each = λ kind. record { says = λ bytes x rest fits e. absurd (none-some (x, rest) e) } }

pub plain_says : {A : Type 0} (code : A → List ℕ) (HasCode : A → Type 0) (kind : ℕ) (thing : A) → HasCode thing → code thing ≡ kind ∷ []
    → Says code HasCode kind (λ bytes. Some (thing, bytes))
plain_says {A} code HasCode kind thing has coded = record {
  says = λ bytes x rest fits e.
      let parts = some_pair_parts thing x bytes rest e in
      (subst HasCode parts.0 has, ap (λ c. c ++ bytes) (sym coded) ∙ ap (λ y. code y ++ bytes) parts.0 ∙ ap (λ xs. code x ++ xs) parts.1);
}

pub made_says : {A B : Type 0} (make : A → B) (code : A → List ℕ) (HasCode : A → Type 0) (reading : Reading A) (made_code : B → List ℕ) (HasMade : B → Type 0) (kind : ℕ)
    → IsExact code HasCode reading → ((a : A) → HasCode a → HasMade (make a)) → ((a : A) → HasCode a → made_code (make a) ≡ kind ∷ code a)
    → Says made_code HasMade kind (made_at make reading)
made_says {A} {B} make code HasCode reading made_code HasMade kind exact has_code coded = record {
  says = λ bytes b rest fits e.
      let a = bind_some (reading bytes) (λ a. Some (make a.0, a.1)) (b, rest) e in
      let found = exact.written bytes a.0.0 a.0.1 fits a.1 in
      let both = some_pair_parts (make a.0.0) b a.0.1 rest a.2 in
      subst (λ (x : B). HasMade x × (kind ∷ bytes ≡ made_code x ++ rest)) both.0 (
        has_code a.0.0 found.0,
        ap (λ xs. kind ∷ xs) found.1 ∙ ap (λ c. c ++ a.0.1) (sym (coded a.0.0 found.0)) ∙ ap (λ xs. made_code (make a.0.0) ++ xs) both.1,
      );
}

case_says : {A : Type 0} (code : A → List ℕ) (HasCode : A → Type 0) (kind : ℕ) (first : Reading A) (others : ℕ → Reading A) → Says code HasCode kind first → SaysAll code HasCode others
    → (byte : ℕ) (same : Bool) → (byte == kind) ≡ same → (bytes : List ℕ) (x : A) (rest : List ℕ) → AreBytes bytes
    → cond {A = Option (A × List ℕ)} same (first bytes) (others byte bytes) ≡ Some (x, rest) → HasCode x × (byte ∷ bytes ≡ code x ++ rest)
case_says code HasCode kind first others one all byte true same bytes x rest fits e =
    let said = one.says bytes x rest fits e in (said.0, ap (λ b. b ∷ bytes) (eqb-true byte kind same) ∙ said.1)
case_says code HasCode kind first others one all byte false same bytes x rest fits e = (all.each byte).says bytes x rest fits e

-- one kind before the others
pub or_says : {A : Type 0} {code : A → List ℕ} {HasCode : A → Type 0} {kind : ℕ} {first : Reading A} {others : ℕ → Reading A} → Says code HasCode kind first → SaysAll code HasCode others
    → SaysAll code HasCode (λ byte bytes. cond (byte == kind) (first bytes) (others byte bytes))
or_says {A} {code} {HasCode} {kind} {first} {others} one all = record {
  each = λ byte. record { says = λ bytes x rest fits e. case_says code HasCode kind first others one all byte (byte == kind) refl bytes x rest fits e };
}
