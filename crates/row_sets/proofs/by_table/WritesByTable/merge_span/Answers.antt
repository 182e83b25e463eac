use Rattle.std.proofs.Common.{◌≡◌, ap, sym, subst, ◌∙◌, IfOk, List, map}
use Rattle.std.specs.FinMap.{entries}
use Rattle.std.specs.Option.{option_copied}
use Rattle.rel_base.specs.OwnWrites.{keyed, merged}
use Rattle.rel_base.specs.declared.access.Read.TheVariants.{Span}
use Rattle.rel_base.specs.declared.value.Value.{Value}
use Rattle.row_sets.specs.Overlay.{lay_keys, own_of}
use Rattle.row_sets.proofs.Filling.{keyed_rows}
use Rattle.row_sets.proofs.Laid.{lay_in, merged_span}
use Rattle.row_sets.proofs.by_table.WritesByTable.merge_span.Goals as goal

-- a table that was not written
pub returns-in-None : goal.returns-in-None
returns-in-None c =
    let def = c.args.def.now in
    let base = c.args.base.now in
    let column = c.requires.span.0 in
    let low = c.requires.span.1 in
    let high = c.requires.span.2 in
    let span = Span c.args.table column low high in
    let found = sym c.get.ensures.value ∙ ap option_copied c.in-None.is in
    let seen : merged def c.args.read.now (own_of c.args.self.now) base ≡ map (λ e. e.1) (keyed def base) =
    (λ i. merged def (c.requires.span.3 i) (own_of (sym c.self.view_is i)) base) ∙ merged_span def c.self.inside.tables.entries c.self.invariant.ordered c.args.table column low high base
    ∙ ap (λ own. map (λ e. e.1) (lay_in def span (keyed def base) own)) found in
    subst (λ (wanted : List (List Value)). IfOk c.rows_seen.result (λ rows. rows ≡ wanted)) (ap (map (λ seen. seen.row)) c.as_slice.ensures ∙ sym (seen ∙ keyed_rows def base)) c.rows_seen.ensures

-- a table that was written
pub returns-in-Some : goal.returns-in-Some
returns-in-Some c =
    let def = c.args.def.now in
    let base = c.args.base.now in
    let column = c.requires.span.0 in
    let low = c.requires.span.1 in
    let high = c.requires.span.2 in
    let span = Span c.args.table column low high in
    let found = sym c.get.ensures.value ∙ ap option_copied c.in-Some.is in
    let own = entries c.in-Some.writes.now in
    let seen : merged def c.args.read.now (own_of c.args.self.now) base ≡ map (λ e. e.1) (lay_keys def span (keyed def base) own) =
    (λ i. merged def (c.requires.span.3 i) (own_of (sym c.self.view_is i)) base) ∙ merged_span def c.self.inside.tables.entries c.self.invariant.ordered c.args.table column low high base
    ∙ ap (λ own. map (λ e. e.1) (lay_in def span (keyed def base) own)) found in
    subst (λ (wanted : List (List Value)). IfOk c.merge_table.result (λ rows. rows ≡ wanted))
    ((λ i. map (λ e. e.1) (lay_keys def (c.requires.span.3 i) (keyed def (c.as_slice-in-Some.ensures i)) own)) ∙ sym seen) c.merge_table.ensures
