use Rattle.std.proofs.Common.{◌≡◌, ◌∙◌, ◌==◌, IfOk, List, ap, false, map, subst, sym}
use Rattle.std.specs.List.{list_any}
use Rattle.rel_base.specs.Access.{read_table}
use Rattle.rel_base.specs.OwnWrites.{keyed, lay_all, merged}
use Rattle.rel_base.specs.declared.access.Read.TheVariants.{Span}
use Rattle.rel_base.specs.declared.value.Value.{Value}
use Rattle.row_sets.specs.Listed.{listed}
use Rattle.row_sets.specs.Overlay.{left, own_of}
use Rattle.row_sets.proofs.Filling.{keyed_rows}
use Rattle.row_sets.proofs.Listing.{none_laid, own_listed}
use Rattle.row_sets.proofs.listed.ListedWrites.merge_span.Goals as goal

pub merge_listed-requires-clause-of : goal.merge_listed-requires-clause-of
merge_listed-requires-clause-of c = ap read_table c.requires.span.3

-- a table that was written
pub returns-then-has_table : goal.returns-then-has_table
returns-then-has_table c =
    let def = c.args.def.now in
    let base = c.args.base.now in
    let writes = c.self.inside.writes.items in
    let read = c.args.read.now in
    let column = c.requires.span.0 in
    let low = c.requires.span.1 in
    let high = c.requires.span.2 in
    let span = Span c.args.table column low high in
    let seen : merged def read (own_of c.args.self.now) base ≡ map (λ e. e.1) (lay_all def span (keyed def base) (map left (listed writes))) =
    (λ i. merged def (c.requires.span.3 i) (own_of (sym c.self.view_is i)) base) ∙ ap (λ es. map (λ e. e.1) (lay_all def span (keyed def base) es)) (own_listed writes c.self.invariant) in
    subst (λ (wanted : List (List Value)). IfOk c.merge_listed.result (λ rows. rows ≡ wanted))
    ((λ i. map (λ e. e.1) (lay_all def (c.requires.span.3 i) (keyed def (c.as_slice-seens.ensures i)) (map left (listed (c.as_slice-writes.ensures.value i))))) ∙ sym seen) c.merge_listed.ensures

-- one that was not
pub returns-else-has_table : goal.returns-else-has_table
returns-else-has_table c =
    let def = c.args.def.now in
    let base = c.args.base.now in
    let writes = c.self.inside.writes.items in
    let column = c.requires.span.0 in
    let low = c.requires.span.1 in
    let high = c.requires.span.2 in
    let span = Span c.args.table column low high in
    let none : list_any (λ write. c.args.table == write.table) writes ≡ false = ap (list_any (λ write. c.args.table == write.table)) (sym c.as_slice-writes.ensures.value) ∙ sym c.has_table.ensures ∙ c.if-has_table.false in
    let seen : merged def c.args.read.now (own_of c.args.self.now) base ≡ map (λ e. e.1) (keyed def base) =
    (λ i. merged def (c.requires.span.3 i) (own_of (sym c.self.view_is i)) base) ∙ ap (λ es. map (λ e. e.1) (lay_all def span (keyed def base) es)) (own_listed writes c.self.invariant)
    ∙ ap (map (λ e. e.1)) (none_laid def c.args.table column low high (keyed def base) writes none) in
    subst (λ (wanted : List (List Value)). IfOk c.rows_seen.result (λ rows. rows ≡ wanted)) (ap (map (λ seen. seen.row)) c.as_slice-seens.ensures ∙ sym (seen ∙ keyed_rows def base)) c.rows_seen.ensures
