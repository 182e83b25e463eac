-- A schedule in pieces goes on where it stopped.
use Rattle.std.proofs.Common.{◌≡◌, ◌+◌, ℕ, List, [], ◌∷◌, ◌++◌, Option, Some, None, refl, sym, ◌∙◌, ap}
use Rattle.std.specs.Prelude.{Result, Ok, Err}
use Rattle.std.proofs.lemmas.List.{append-nil}
use Rattle.schedule_sim.specs.Reading.{Gives, GivesReader, WasFed, after_line, after_part, far_of}
use Rattle.schedule_sim.specs.Schedules.{schedule_form, schedule_of, schedule_so_far}
use Rattle.schedule_sim.specs.declared.parse.ScheduleFault.{ScheduleFault}
use Rattle.schedule_sim.specs.declared.parse.ScheduleFault.TheVariants as fault
use Rattle.schedule_sim.specs.declared.schedule_reader.ScheduleReader.{ScheduleReader}
use Rattle.schedule_sim.specs.declared.step.Step.{Step}
use Rattle.tx_text.specs.Listing.{Far, items_at, onward, walk, whole, with_items}
use Rattle.tx_text.specs.Parts.{onto, parts_of}
use Rattle.tx_text.proofs.Glued.{onto_parts, parts_some}
use Rattle.tx_text.proofs.Listed.{far_on, walk_line, with_both}

-- how far bytes go after those that a reader was fed
abbrev pub going_on : ScheduleReader → List ℕ → Result (Far Step) ℕ
going_on reader more = with_items reader.steps (walk schedule_form reader.line (onto reader.held (parts_of more)))

-- so they go with those
pub fed_on : (reader : ScheduleReader) (bytes more : List ℕ) → WasFed reader bytes → schedule_so_far (bytes ++ more) ≡ going_on reader more
fed_on reader bytes more fed = far_on schedule_form bytes more (far_of reader) fed

-- ---- a line that ends

-- where the next line begins
abbrev begun : ℕ → Result (Far Step) ℕ
begun line = Ok (record { line = line; items = []; rest = [] })

split_off : (reader : ScheduleReader) (rest end after : List ℕ) → parts_of rest ≡ end ∷ parts_of after
    → going_on reader rest ≡ with_items reader.steps (onward reader.line (items_at schedule_form reader.line (reader.held ++ end)) (walk schedule_form (reader.line + 1) (parts_of after)))
split_off reader rest end after split =
    ap (λ parts. with_items reader.steps (walk schedule_form reader.line (onto reader.held parts))) split
    ∙ ap (with_items reader.steps) (walk_line schedule_form reader.line (reader.held ++ end) (parts_of after) (parts_some after))

-- bytes go on after it as they go on after the reader's next line
went_on : (steps : List Step) (n : ℕ) (found : Option (List Step)) (far : Far Step) (after : List ℕ) → with_items steps (onward n found (begun (n + 1))) ≡ Ok far
    → with_items far.items (walk schedule_form far.line (onto far.rest (parts_of after))) ≡ with_items steps (onward n found (walk schedule_form (n + 1) (parts_of after)))
went_on steps n None far after is = absurd (cc)
went_on steps n (Some more) far after is =
    ap on (sym is)
    ∙ ap (λ parts. with_items (steps ++ (more ++ [])) (walk schedule_form (n + 1) parts)) (onto_parts [] after refl)
    ∙ ap (λ items. with_items (steps ++ items) (walk schedule_form (n + 1) (parts_of after))) (append-nil more)
    ∙ sym (with_both schedule_form steps more (walk schedule_form (n + 1) (parts_of after)))
  where
    on : Result (Far Step) ℕ → Result (Far Step) ℕ
    on (Err line) = Err line
    on (Ok far) = with_items far.items (walk schedule_form far.line (onto far.rest (parts_of after)))

pub next_line : (reader next : ScheduleReader) (rest end after : List ℕ) → parts_of rest ≡ end ∷ parts_of after → after_line reader end ≡ Ok (far_of next) → going_on next after ≡ going_on reader rest
next_line reader next rest end after split is =
    went_on reader.steps reader.line (items_at schedule_form reader.line (reader.held ++ end)) (far_of next) after is ∙ sym (split_off reader rest end after split)

-- a bad line ends the reading
stopped : (steps : List Step) (n line : ℕ) (found : Option (List Step)) (more : Result (Far Step) ℕ) → with_items steps (onward n found (begun (n + 1))) ≡ Err line
    → with_items steps (onward n found more) ≡ Err line
stopped steps n line None more is = is
stopped steps n line (Some items) more is = absurd (cc)

pub stops : (found : ScheduleFault) (reader : ScheduleReader) (rest end after : List ℕ) (meant : Result (Far Step) ℕ) → going_on reader rest ≡ meant → parts_of rest ≡ end ∷ parts_of after
    → GivesReader (Err found) (after_line reader end) → GivesReader (Err found) meant
stops fault.NoMemory reader rest end after meant so_far split told = tt
stops (fault.BadLine line) reader rest end after meant so_far split told =
    sym so_far ∙ split_off reader rest end after split
    ∙ stopped reader.steps reader.line line (items_at schedule_form reader.line (reader.held ++ end)) (walk schedule_form (reader.line + 1) (parts_of after)) told

-- ---- the end

-- a line that does not end
pub last_part : (reader : ScheduleReader) (rest : List ℕ) → parts_of rest ≡ rest ∷ [] → after_part reader rest ≡ going_on reader rest
last_part reader rest none = sym (ap (λ parts. with_items reader.steps (walk schedule_form reader.line (onto reader.held parts))) none)

-- a bad line of the only piece is that of the text
pub bad_text : (found : ScheduleFault) (text : List ℕ) → GivesReader (Err found) (schedule_so_far text) → Gives (Err found) (schedule_of text)
bad_text fault.NoMemory text told = tt
bad_text (fault.BadLine line) text told = ap whole told
