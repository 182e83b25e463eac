-- One item more of a list that is gone over.
use Rattle.std.proofs.Common.{◌≡◌, ℕ, ◌+◌, ◌<◌, sym, ap, ◌∙◌, List, [], ◌∷◌, ◌++◌, length, map, drop, append_assoc, Option, Some, Result, Ok, Err}
use Rattle.std.specs.Prelude.{OnOk, slice_index_or}
use Rattle.std.proofs.lemmas.List.{drop_more}
use Rattle.proc_syntax.specs.declared.tree.Expr.{Expr}
use Rattle.proc_syntax.specs.declared.tree.Named.{Named}
use Rattle.proc_syntax.specs.declared.tree.Stmt.{Stmt, fold-roll-Stmt, roll-Stmt}
use Rattle.proc_syntax.specs.declared.tree.Stmt.TheOpen as opened
use Rattle.proc_syntax.specs.declared.tree.Stmt.TheVariants as stmt
use Rattle.proc_syntax.specs.declared.run.Stop.{Stop}
use Rattle.proc_syntax.specs.Values.{◌>>=◌}
use Rattle.proc_eval.proofs.Lists.{after, after_more}
use Rattle.proc_code.specs.Numbers.{Names, bound_names, bound_step, joined, with_name, with_names}
use Rattle.proc_code.proofs.Numbered.{with_both}

pub on_ok : {A E P Q : Type 0} (r : Result A E) → OnOk r P → (P → Q) → OnOk r Q
on_ok (Ok x) holds then_holds = then_holds holds
on_ok (Err e) holds then_holds = tt

-- what is left is the item and what is left then
left : {X : Type 0} (xs : List X) (i : ℕ) (x : X) → i < length xs → slice_index_or xs i x ≡ x → drop i xs ≡ x ∷ drop (i + 1) xs
left xs i x within here = drop_more xs i x within ∙ ap (λ x. x ∷ drop (i + 1) xs) here

-- items that are made one by one
pub mapped : {X Y : Type 0} (f : X → Y) (xs : List X) (i : ℕ) (x : X) (made pushed : List Y) (y : Y) → i < length xs → slice_index_or xs i x ≡ x
    → made ++ map f (drop i xs) ≡ map f xs → pushed ≡ made ++ y ∷ [] → y ≡ f x → pushed ++ map f (drop (i + 1) xs) ≡ map f xs
mapped f xs i x made pushed y within here before pushed_is is =
    ap (λ l. l ++ map f (drop (i + 1) xs)) pushed_is
    ∙ append_assoc made (y ∷ []) (map f (drop (i + 1) xs))
    ∙ ap (λ y. made ++ y ∷ map f (drop (i + 1) xs)) is
    ∙ ap (λ l. made ++ map f l) (sym (left xs i x within here))
    ∙ before

-- values that are gathered one by one
pub gathered : {X Y : Type 0} (f : X → Result Y Stop) (all : List X → Result (List Y) Stop) → ((x : X) (rest : List X) → all (x ∷ rest) ≡ f x >>= λ y. all rest >>= λ ys. Ok (y ∷ ys))
    → (xs : List X) (i : ℕ) (x : X) (made pushed : List Y) (y : Y) (whole : Result (List Y) Stop) → i < length xs → slice_index_or xs i x ≡ x
    → after made (all (drop i xs)) ≡ whole → pushed ≡ made ++ y ∷ [] → f x ≡ Ok y → after pushed (all (drop (i + 1) xs)) ≡ whole
gathered f all split xs i x made pushed y whole within here before pushed_is is =
    ap (λ l. after l (all (drop (i + 1) xs))) pushed_is
    ∙ sym (after_more made y (all (drop (i + 1) xs)))
    ∙ ap (λ r. after made (r >>= λ y. all (drop (i + 1) xs) >>= λ ys. Ok (y ∷ ys))) (sym is)
    ∙ ap (after made) (sym (split x (drop (i + 1) xs)))
    ∙ ap (λ l. after made (all l)) (sym (left xs i x within here))
    ∙ before

-- names that are met item by item
pub walked : {X : Type 0} (all : List X → Names) (f : X → Names) → ((x : X) (rest : List X) → all (x ∷ rest) ≡ f x ++ all rest) → (xs : List X) (i : ℕ) (x : X) (names after whole : Names)
    → i < length xs → slice_index_or xs i x ≡ x → with_names names (all (drop i xs)) ≡ whole → after ≡ with_names names (f x) → with_names after (all (drop (i + 1) xs)) ≡ whole
walked all f split xs i x names after whole within here before is =
    ap (λ n. with_names n (all (drop (i + 1) xs))) is
    ∙ sym (with_both names (f x) (all (drop (i + 1) xs)))
    ∙ ap (with_names names) (sym (split x (drop (i + 1) xs)))
    ∙ ap (λ l. with_names names (all l)) (sym (left xs i x within here))
    ∙ before

-- the names that a statement with two blocks binds
names_of_if : (test : Expr) (body other : List Stmt) → bound_names (stmt.If test body (Some other)) ≡ joined (map bound_names body) ++ joined (map bound_names other)
unfolding roll-Stmt denote.Hole.Carrier.roll
names_of_if test body other = fold-roll-Stmt Names bound_step (opened.If test body (Some other))

names_of_get : (name table : Named) (key : List Expr) (found absent : List Stmt) → bound_names (stmt.Get name table key found absent) ≡ name.name ∷ joined (map bound_names found) ++ joined (map bound_names absent)
unfolding roll-Stmt denote.Hole.Carrier.roll
names_of_get name table key found absent = fold-roll-Stmt Names bound_step (opened.Get name table key found absent)

-- the names of two blocks
pub both_blocks : (old mid new : Names) (s : Stmt) (test : Expr) (body other body_slice other_slice : List Stmt) (held : Option (List Stmt)) → s ≡ stmt.If test body held → held ≡ Some other
    → body_slice ≡ body → other_slice ≡ other → mid ≡ with_names old (joined (map bound_names body_slice)) → new ≡ with_names mid (joined (map bound_names other_slice)) → new ≡ with_names old (bound_names s)
both_blocks old mid new s test body other body_slice other_slice held s_is held_is body_is other_is mid_is new_is =
    new_is
    ∙ ap (λ m. with_names m (joined (map bound_names other_slice))) mid_is
    ∙ sym (with_both old (joined (map bound_names body_slice)) (joined (map bound_names other_slice)))
    ∙ ap (λ l. with_names old (joined (map bound_names l) ++ joined (map bound_names other_slice))) body_is
    ∙ ap (λ l. with_names old (joined (map bound_names body) ++ joined (map bound_names l))) other_is
    ∙ ap (with_names old) (sym (names_of_if test body other))
    ∙ ap (λ h. with_names old (bound_names (stmt.If test body h))) (sym held_is)
    ∙ ap (λ s. with_names old (bound_names s)) (sym s_is)

-- the names of a row and of two blocks
pub row_and_blocks : (old named mid new : Names) (s : Stmt) (name table : Named) (key : List Expr) (found absent found_slice absent_slice : List Stmt) → s ≡ stmt.Get name table key found absent
    → found_slice ≡ found → absent_slice ≡ absent → named ≡ with_name old name.name → mid ≡ with_names named (joined (map bound_names found_slice)) → new ≡ with_names mid (joined (map bound_names absent_slice))
    → new ≡ with_names old (bound_names s)
row_and_blocks old named mid new s name table key found absent found_slice absent_slice s_is found_is absent_is named_is mid_is new_is =
    new_is
    ∙ ap (λ m. with_names m (joined (map bound_names absent_slice))) mid_is
    ∙ sym (with_both named (joined (map bound_names found_slice)) (joined (map bound_names absent_slice)))
    ∙ ap (λ n. with_names n (joined (map bound_names found_slice) ++ joined (map bound_names absent_slice))) named_is
    ∙ ap (λ l. with_names (with_name old name.name) (joined (map bound_names l) ++ joined (map bound_names absent_slice))) found_is
    ∙ ap (λ l. with_names (with_name old name.name) (joined (map bound_names found) ++ joined (map bound_names l))) absent_is
    ∙ ap (with_names old) (sym (names_of_get name table key found absent))
    ∙ ap (λ s. with_names old (bound_names s)) (sym s_is)
