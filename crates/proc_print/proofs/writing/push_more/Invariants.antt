use Rattle.std.proofs.Common.{◌≡◌, ◌++◌, flat_map, drop, codes}
use Rattle.proc_print.proofs.writing.push_more.Given as goal

-- what is written and what is left make the whole
abbrev pub invariant-loop-item : goal.invariant-loop-item
invariant-loop-item g l =
    let text = g.T.Printed.text in
    l.out.items ++ flat_map (λ y. codes ", " ++ text y) (drop l.item-index l.items) ≡ l.initial.out.items ++ flat_map (λ y. codes ", " ++ text y) l.items
