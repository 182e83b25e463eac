use Rattle.std.proofs.Common.{◌≡◌, IfOk, subst, sym, true, List}
use Rattle.std.specs.List.Sorted.{IsStrictlySortedBy}
use Rattle.std.specs.Option.{option_copied}
use Rattle.rel_base.specs.Lent.{lent_rows, rows_of}
use Rattle.rel_base.specs.Value.{key_cmp}
use Rattle.rel_base.specs.declared.value.Value.{Value}
use Rattle.version_index.specs.Candidates.{has_key}
use Rattle.version_index.specs.Span.{IsWantedBy, keys_in}
use Rattle.version_index.proofs.Answered.{span_rows}
use Rattle.version_index.proofs.Sought.{value_given}
use Rattle.version_index.proofs.span.span_lent.Goals as goal

-- the value that is given is the one of the span
pub found_lent-requires-clause-value : goal.found_lent-requires-clause-value
found_lent-requires-clause-value c = value_given c.args.look.now.read.now (option_copied c.one_value.result) c.requires.span c.one_value.ensures

-- among the keys are all that the span wants
pub returns : goal.returns
returns c =
    let view = c.args.view.now in
    let look = c.args.look.now in
    let same = sym c.as_slice.ensures.value in
    let rise = subst (λ found. IsStrictlySortedBy key_cmp (keys_in found)) same c.in_ok-found.ensures.rise in
    let all = subst (λ found. (key : List Value) → IsWantedBy view c.args.column c.args.low.now c.args.high.now look.height key → has_key found key ≡ true) same c.in_ok-found.ensures.all in
    subst (λ rows. IfOk c.found_lent.result (λ lent. lent_rows lent.items ≡ rows_of rows))
    (span_rows look.def.now view c.args.column c.args.low.now c.args.high.now look.height look.read.now c.as_slice.result.now c.requires.span c.requires.look rise all) c.found_lent.ensures
