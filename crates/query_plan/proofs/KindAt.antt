-- The kind of a column of a table, by what is found there.
use Rattle.std.proofs.Common.{◌≡◌, ℕ, zero, suc, List, [], ◌∷◌, map, Some, None, refl, ap, slice_get, slice_index_or}
use Rattle.std.proofs.lemmas.Option.{same_Some}
use Rattle.rel_base.specs.declared.schema.Column.{Column}
use Rattle.rel_base.specs.declared.value.Kind.TheVariants as kind

pub kind_none : (columns : List Column) (n : ℕ) → slice_get columns n ≡ None → slice_index_or (map (λ c. c.kind) columns) n kind.Int ≡ kind.Int
kind_none [] n e = refl
kind_none (c ∷ columns) zero e = cc
kind_none (c ∷ columns) (suc n) e = kind_none columns n e

pub kind_some : (columns : List Column) (n : ℕ) (c : Column) → slice_get columns n ≡ Some c → slice_index_or (map (λ c. c.kind) columns) n kind.Int ≡ c.kind
kind_some [] n c e = cc
kind_some (d ∷ columns) zero c e = ap (λ (x : Column). x.kind) (same_Some d c e)
kind_some (d ∷ columns) (suc n) c e = kind_some columns n c e
