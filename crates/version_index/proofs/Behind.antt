-- What an index tells of a history, it tells of one with more writes after.
use Rattle.std.proofs.Common.{◌≡◌, ◌∙◌, ℕ, suc, zero, ◌<◌, ◌≤◌, List, [], ◌∷◌, ◌++◌, is_some, refl, ap, sym, arith, length, slice_get, take}
use Rattle.std.proofs.lemmas.List.{take-append-le}
use Rattle.std.proofs.lemmas.List.Elements.{All-weaker}
use Rattle.rel_base.specs.Tables.{Stamped}
use Rattle.rel_base.specs.declared.value.Value.{Value}
use Rattle.version_index.specs.Chain.{is_on}
use Rattle.version_index.specs.Chains.{AreChains}
use Rattle.version_index.specs.Columns.{IsColumn, cell, has, touches, touches_at}
use Rattle.version_index.specs.Index.{AreNoted, IsIndex}
use Rattle.version_index.specs.Left.{left_at}
use Rattle.version_index.specs.Numbers.{passes, passes_at}
use Rattle.version_index.specs.declared.chains.Chains.{Chains}
use Rattle.version_index.specs.declared.column.ColumnIndex.{ColumnIndex}
use Rattle.version_index.specs.declared.index.TableIndex.{TableIndex}
use Rattle.version_index.proofs.Passing.{passing_alike}

-- an item of the first part
get_front : {X : Type 0} (xs ys : List X) (number : ℕ) → number < length xs → slice_get (xs ++ ys) number ≡ slice_get xs number
get_front [] ys number below = absurd (omega (arith, below))
get_front (x ∷ xs) ys zero below = refl
get_front (x ∷ xs) ys (suc number) below = get_front xs ys number (omega (arith, below))

module _ (history more : List Stamped) (noted : ℕ) (within : noted ≤ length history) where
  -- the noted writes are the same
  front : take noted (history ++ more) ≡ take noted history
  front = take-append-le noted history more within

  pub chains_behind : (table : ℕ) (chains : Chains) → AreChains table history noted chains → AreChains table (history ++ more) noted chains
  chains_behind table chains is =
      record {
        numbers = λ key. is.numbers key ∙ passing_alike (passes_at (is_on (table, key)) history) (passes_at (is_on (table, key)) (history ++ more)) noted
            (λ j below. ap (passes (is_on (table, key))) (sym (get_front history more j (omega (arith, below, within)))));
        lives = λ key. is.lives key ∙ ap (λ xs. is_some (left_at (table, key) xs)) (sym front);
        apart = is.apart;
        within = is.within;
        own = is.own;
        keyed = is.keyed;
        all_in = is.all_in;
        lasts = is.lasts;
      }

  -- a noted write touches the same values
  touches_front : (table column : ℕ) (value : Value) (j : ℕ) → j < noted → touches_at table column value history j ≡ touches_at table column value (history ++ more) j
  touches_front table column value j below =
      let low : j ≤ length history = omega (arith, below, within) in
      let past = sym (take-append-le j history more low) in
      let there = sym (get_front history more j (omega (arith, below, within))) in
      (λ i. touches table column value (past i) (there i))

  pub column_behind : (table : ℕ) (chains : Chains) (column : ColumnIndex) → IsColumn table history noted chains column → IsColumn table (history ++ more) noted chains column
  column_behind table chains column is =
      record {
        living = λ key slot value own here. is.living key slot value own (ap (λ xs. has value (cell column.column (left_at (table, key) xs))) (sym front) ∙ here);
        touched = λ value. is.touched value ∙ passing_alike (touches_at table column.column value history) (touches_at table column.column value (history ++ more)) noted (touches_front table column.column value);
        listed = is.listed;
      }

  pub index_behind : (table : ℕ) (index : TableIndex) → IsIndex table history noted index → IsIndex table (history ++ more) noted index
  index_behind table index is =
      record {
        chains = chains_behind table index.chains is.chains;
        columns = All-weaker (IsColumn table history noted index.chains) (IsColumn table (history ++ more) noted index.chains) (column_behind table index.chains) index.columns.items is.columns;
      }

  pub noted_behind : (indexes : List TableIndex) → AreNoted indexes history noted → AreNoted indexes (history ++ more) noted
  noted_behind indexes are table index there = index_behind table index (are table index there)
