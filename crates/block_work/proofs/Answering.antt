-- What holds of the answer of a call that may fail.
use Rattle.std.specs.Prelude.{Err, IfOk, Ok, OnOk, Result}

-- what holds anyway holds where a call succeeds
pub on_ok : {T E : Type 0} (answer : Result T E) (P : Type 0) → P → OnOk answer P
on_ok (Ok value) P holds = holds
on_ok (Err fault) P holds = tt

-- what follows from what holds where a call succeeds
pub on_ok_then : {T E : Type 0} (answer : Result T E) (Before After : Type 0) → OnOk answer Before → (Before → After) → OnOk answer After
on_ok_then (Ok value) Before After holds follows = follows holds
on_ok_then (Err fault) Before After holds follows = tt

-- what follows of what a call gives
pub if_ok_then : {T E : Type 0} (answer : Result T E) (Before After : T → Type 0) → IfOk answer Before → ((value : T) → Before value → After value) → IfOk answer After
if_ok_then (Ok value) Before After holds follows = follows value holds
if_ok_then (Err fault) Before After holds follows = tt
