-- A point hits the writes of its key.
use Rattle.std.proofs.Common.{IsSomeAnd, ap, slice_get, false, refl, subst, sym, true, Bool, List, None, Option, Some, ◌&&◌, ◌∙◌, ◌≡◌, ◌||◌, ◌==◌, ◌⊎◌, ℕ, ⊎_elim}
use Rattle.std.specs.Prelude.{IsSome}
use Rattle.std.proofs.lemmas.Bool.{eqb-true, false≢true}
use Rattle.rel_base.proofs.Bits.{or_false}
use Rattle.rel_base.specs.Access.{PartFits, ReadFits, WriteFits, covers_some, hits_write}
use Rattle.rel_base.specs.Among.{ReadFitsIn, WriteFitsIn}
use Rattle.rel_base.specs.Late.{hits_in, where_declared}
use Rattle.rel_base.specs.Value.{key_eq}
use Rattle.rel_base.specs.declared.access.Read.TheVariants.{Point}
use Rattle.rel_base.specs.declared.access.Write.{Write}
use Rattle.rel_base.specs.declared.schema.TableDef.{TableDef}
use Rattle.rel_base.specs.declared.value.Value.{Value}

twice : (a : Bool) → (a || a) ≡ a
twice true = refl
twice false = refl

-- a point covers one of the rows of a write exactly where its key is that of the rows
covers_key : (def : TableDef) (table : ℕ) (key own : List Value) (before after : Option (List Value)) → IsSome before ⊎ IsSome after
    → PartFits def own before → PartFits def own after → (covers_some def (Point table key) before || covers_some def (Point table key) after) ≡ key_eq own key
covers_key def table key own None None some fits more = ⊎_elim (λ none. absurd (false≢true none)) (λ none. absurd (false≢true none)) some
covers_key def table key own None (Some row) some fits more = ap (λ k. key_eq k key) more.1
covers_key def table key own (Some row) None some fits more = or_false (covers_some def (Point table key) (Some row)) ∙ ap (λ k. key_eq k key) fits.1
covers_key def table key own (Some row) (Some new) some fits more =
    ap (λ k. key_eq k key || covers_some def (Point table key) (Some new)) fits.1 ∙ ap (λ k. key_eq own key || key_eq k key) more.1 ∙ twice (key_eq own key)

-- a point hits exactly the writes of its table and its key
pub point_hits : (tables : List TableDef) (table : ℕ) (key : List Value) (write : Write) → ReadFitsIn tables (Point table key) → WriteFitsIn tables write
    → hits_in tables (Point table key) write ≡ ((table == write.table) && key_eq write.key key)
point_hits tables table key write fits write_fits = by (slice_get tables table) refl fits
  where
    covered : (def : TableDef) → WriteFits def write → (covers_some def (Point table key) write.before || covers_some def (Point table key) write.after) ≡ key_eq write.key key
    covered def fits = covers_key def table key write.key write.before write.after fits.some fits.before fits.after

    on : (def : TableDef) → slice_get tables table ≡ Some def → (same : Bool) → (table == write.table) ≡ same
        → (same && (covers_some def (Point table key) write.before || covers_some def (Point table key) write.after)) ≡ (same && key_eq write.key key)
    on def found false apart = refl
    on def found true same =
        let is : slice_get tables write.table ≡ Some def = ap (slice_get tables) (sym (eqb-true table write.table same)) ∙ found in
        covered def (subst (λ d. IsSomeAnd d (λ def. WriteFits def write)) is write_fits)

    by : (found : Option TableDef) → slice_get tables table ≡ found → IsSomeAnd found (λ def. ReadFits def (Point table key))
        → where_declared found (λ def. hits_write def (Point table key) write) ≡ ((table == write.table) && key_eq write.key key)
    by None none fits = absurd fits
    by (Some def) found fits = on def found (table == write.table) refl
