use Rattle.std.proofs.Common.{◌≡◌, None, subst, sym, ◌∙◌}
use Rattle.std.specs.List.{position_from}
use Rattle.std.specs.Str.{bytes_eq}
use Rattle.proc_code.proofs.Numbered.{place_absent}
use Rattle.proc_code.proofs.places.table_number.Goals as goal

pub returns-in-None : goal.returns-in-None
returns-in-None c =
    c.len.ensures
    ∙ place_absent (λ def. bytes_eq def.name c.args.name.now) c.args.tables.now
    (subst (λ text. position_from (λ def. bytes_eq def.name text) 0 c.args.tables.now ≡ None) c.as_str.ensures.value (sym c.table_of.ensures.first ∙ c.in-None.is))
