-- What a call that may end in two ways says, carried on.
use Rattle.std.proofs.Common.{Result, Ok, Err, OnOk, OnErr}

pub on_ok_then : {A E P Q : Type 0} (result : Result A E) → (P → Q) → OnOk result P → OnOk result Q
on_ok_then (Ok x) f p = f p
on_ok_then (Err e) f p = tt

pub on_err_then : {A E P Q : Type 0} (result : Result A E) → (P → Q) → OnErr result P → OnErr result Q
on_err_then (Ok x) f p = tt
on_err_then (Err e) f p = f p

-- what holds both ways
pub either_way : {A E P Q R : Type 0} (result : Result A E) → (P → R) → (Q → R) → OnOk result P → OnErr result Q → R
either_way (Ok x) f g p q = f p
either_way (Err e) f g p q = g q
