-- The texts of queries: `history TABLE KEY`, `between TABLE FROM TO` and `written ID`, with one space between two fields.
use Rattle.literals.specs.Number.{u64_at}
use Rattle.provenance.specs.declared.query.Query.TheVariants.{Between, History, Written}
use Rattle.provenance.specs.declared.query.Query.{Query}
use Rattle.rel_base.specs.declared.value.Value.{Value}
use Rattle.std.specs.Option.{option_and_then, option_or}
use Rattle.std.specs.Prelude.{List, None, Option, Some, [], codes, ◌∷◌, ℕ}
use Rattle.tx_text.specs.Fields.{after, id_at, name_at}
use Rattle.tx_text.specs.Lines.{args_of}
use Rattle.tx_text.specs.Values.{alone}

-- a key has at least one value
abbrev pub keyed : List ℕ → List Value → Option Query
keyed table [] = None
keyed table (value ∷ values) = Some (History table (value ∷ values))

-- `TABLE KEY`, where the values of the key are spelled as the arguments of a transaction
abbrev pub history_form : List ℕ → Option Query
history_form bytes = option_and_then (λ table. option_and_then (keyed table.0) (args_of table.1)) (name_at bytes)

-- a space and a number, and what follows them
abbrev pub number_at : List ℕ → Option (ℕ × List ℕ)
number_at bytes = option_and_then u64_at (after (codes " ") bytes)

-- ` FROM TO`, of a table
abbrev pub range_of : List ℕ → List ℕ → Option Query
range_of table bytes = option_and_then (λ from. option_and_then (λ to. alone (Between table from.0 to.0, to.1)) (number_at from.1)) (number_at bytes)

-- `TABLE FROM TO`
abbrev pub between_form : List ℕ → Option Query
between_form bytes = option_and_then (λ table. range_of table.0 table.1) (name_at bytes)

-- `ID`
abbrev pub written_form : List ℕ → Option Query
written_form bytes = option_and_then (λ id. alone (Written id.0, id.1)) (id_at bytes)

-- the query that a text is, all of it
abbrev pub query_of : List ℕ → Option Query
query_of text = option_or (option_and_then history_form (after (codes "history ") text))
    (option_or (option_and_then between_form (after (codes "between ") text)) (option_and_then written_form (after (codes "written ") text)))
