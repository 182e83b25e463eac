-- The two halves of some writes.
use Rattle.std.proofs.Common.{◌≡◌, ℕ, List, sym, ◌∙◌, ap, subst}
use Rattle.std.specs.Prelude.{All, Err, Ok, OnOk, Result, drop, take}
use Rattle.std.proofs.lemmas.List.{drop-map, take-map}
use Rattle.std.proofs.lemmas.List.Elements.{All-drop, All-take}
use Rattle.block_digest.specs.Codable.{IsFewWrite}
use Rattle.canon_code.specs.Writes.{write_code}
use Rattle.rel_base.specs.declared.access.Placed.{Placed}
use Rattle.merkle_proof.specs.Proofs.{leaves_of}

pub front_leaves : (writes front : List Placed) (half : ℕ) → front ≡ take half writes → leaves_of front ≡ take half (leaves_of writes)
front_leaves writes front half same = ap leaves_of same ∙ sym (take-map write_code half writes)

pub back_leaves : (writes back : List Placed) (half : ℕ) → back ≡ drop half writes → leaves_of back ≡ drop half (leaves_of writes)
back_leaves writes back half same = ap leaves_of same ∙ sym (drop-map write_code half writes)

pub front_rows : (writes front : List Placed) (half : ℕ) → front ≡ take half writes → All IsFewWrite writes → All IsFewWrite front
front_rows writes front half same rows = subst (All IsFewWrite) (sym same) (All-take IsFewWrite half writes rows)

pub back_rows : (writes back : List Placed) (half : ℕ) → back ≡ drop half writes → All IsFewWrite writes → All IsFewWrite back
back_rows writes back half same rows = subst (All IsFewWrite) (sym same) (All-drop IsFewWrite half writes rows)

-- what holds once a call went well, from what held then
pub on_ok : {A E P Q : Type 0} (result : Result A E) → (P → Q) → OnOk result P → OnOk result Q
on_ok (Ok a) f held = f held
on_ok (Err e) f held = held
