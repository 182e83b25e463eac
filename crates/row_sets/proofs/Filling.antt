-- Rows that stand in the order of their keys are put from the back.
use Rattle.std.proofs.Common.{◌≡◌, ℕ, zero, suc, ◌<◌, List, [], ◌∷◌, length, drop, T, arith, ap, sym, ◌∙◌, map, refl}
use Rattle.std.specs.Prelude.{slice_index_or}
use Rattle.std.specs.FinMap.Entries.{put, is_sorted, below_all}
use Rattle.rel_base.specs.Schema.{key_of_row}
use Rattle.rel_base.specs.Value.{key_cmp}
use Rattle.rel_base.specs.declared.access.Seen.{Seen}
use Rattle.rel_base.specs.declared.schema.TableDef.{TableDef}
use Rattle.rel_base.specs.OwnWrites.{keyed}
use Rattle.rel_base.proofs.Bits.{first, second}
use Rattle.rel_base.proofs.Frames.{put_front}

pub put_before : (def : TableDef) (seens : List Seen) (i : ℕ) (seen : Seen) → i < length seens → T (is_sorted key_cmp (keyed def seens)) → slice_index_or seens i seen ≡ seen
    → put key_cmp (key_of_row def seen.row) seen.row (keyed def (drop (suc i) seens)) ≡ keyed def (drop i seens)
put_before def [] i seen low up here = absurd (omega (arith, low))
put_before def (s ∷ ss) zero seen low up here =
    ap (λ x. put key_cmp (key_of_row def x.row) x.row (keyed def ss)) (sym here) ∙ put_front key_cmp (key_of_row def s.row) s.row (keyed def ss) (first _ _ up)
put_before def (s ∷ ss) (suc i) seen low up here = put_before def ss i seen (omega (arith, low)) (second (below_all key_cmp (key_of_row def s.row) (keyed def ss)) _ up) here

-- the rows that were read, without their keys
pub keyed_rows : (def : TableDef) (seens : List Seen) → map (λ e. e.1) (keyed def seens) ≡ map (λ seen. seen.row) seens
keyed_rows def [] = refl
keyed_rows def (seen ∷ seens) = ap (λ rows. seen.row ∷ rows) (keyed_rows def seens)
