-- The versions that are chosen, reported one after the other.
use Rattle.std.proofs.Common.{◌≡◌, ◌∙◌, List, [], ◌∷◌, ◌++◌, ℕ, All, ap, subst, sym, append_assoc, map, cond, true, false, refl, Ok, Err, slice_get}
use Rattle.std.proofs.lemmas.List.Elements.{All-tail}
use Rattle.node_model.specs.declared.result.BlockResult.{BlockResult}
use Rattle.node_model.specs.declared.version.Version.{Version}
use Rattle.provenance.specs.Chosen.{IsTold, chosen, is_chosen}
use Rattle.provenance.specs.Versions.{history_of, of_key, version_of}
use Rattle.provenance.specs.Answer.{of_history, takes_key}
use Rattle.provenance.specs.declared.chosen.Choice.TheVariants.{Each}
use Rattle.provenance.specs.declared.chosen.Choice.{Choice}
use Rattle.provenance.specs.declared.query.QueryFault.TheVariants as fault
use Rattle.rel_base.specs.Tables.{Stamped}
use Rattle.rel_base.specs.declared.schema.TableDef.{TableDef}
use Rattle.rel_base.specs.declared.value.Value.{Value}
use Rattle.row_sets.specs.Lifespans.{is_of_key, lifespans}
use Rattle.row_sets.specs.declared.versions.Lifespan.{Lifespan}

module _ (blocks : List BlockResult) (choice : Choice) where
  -- what is chosen of a version and of others
  chosen-cons : (version : Version) (others : List Version) → chosen blocks choice (version ∷ others) ≡ chosen blocks choice (version ∷ []) ++ chosen blocks choice others
  chosen-cons version others =
      elim (is_chosen blocks choice version.made version.ended) as (λ b. cond b (version ∷ chosen blocks choice others) (chosen blocks choice others) ≡ cond b (version ∷ []) [] ++ chosen blocks choice others) [ true ↦ refl | false ↦ refl ]

  -- one version more: the others are reported, and what is made with what is chosen of these is the whole
  pub choose_more : (table : ℕ) (left : List Lifespan) (span : Lifespan) (rest : List Lifespan) (made new whole : List Version) → left ≡ span ∷ rest → All (IsTold blocks) left
      → new ≡ made ++ chosen blocks choice (version_of blocks table span ∷ []) → made ++ chosen blocks choice (map (version_of blocks table) left) ≡ whole
      → All (IsTold blocks) rest × (new ++ chosen blocks choice (map (version_of blocks table) rest) ≡ whole)
  choose_more table left span rest made new whole is told pushed all =
      let version = version_of blocks table span in
      let others = map (version_of blocks table) rest in (
        All-tail (IsTold blocks) span rest (subst (All (IsTold blocks)) is told),
        ap (λ xs. xs ++ chosen blocks choice others) pushed ∙ append_assoc made (chosen blocks choice (version ∷ [])) (chosen blocks choice others)
            ∙ ap (λ xs. made ++ xs) (sym (chosen-cons version others)) ∙ ap (λ xs. made ++ chosen blocks choice (map (version_of blocks table) xs)) (sym is) ∙ all,
      )

-- of a key each version is chosen
chosen_each : (blocks : List BlockResult) (versions : List Version) → chosen blocks Each versions ≡ versions
chosen_each blocks [] = refl
chosen_each blocks (version ∷ others) = ap (λ vs. version ∷ vs) (chosen_each blocks others)

-- the history of a key that its table takes
pub history_found : (tables : List TableDef) (blocks : List BlockResult) (key : List Value) (table : ℕ) (history : List Stamped) (spans : List Lifespan) (told : List Version)
    → takes_key (slice_get tables table) key ≡ true → history ≡ history_of blocks → spans ≡ lifespans (is_of_key table key) history
    → told ≡ chosen blocks Each (map (version_of blocks table) spans) → of_history tables blocks key table ≡ Ok told
history_found tables blocks key table history spans told takes same is made =
    ap (λ b. cond b (Ok (of_key blocks (table, key))) (Err fault.BadKey)) takes
    ∙ ap Ok (sym (made ∙ chosen_each blocks (map (version_of blocks table) spans) ∙ ap (map (version_of blocks table)) (is ∙ ap (lifespans (is_of_key table key)) same)))
