use Rattle.std.proofs.Common.{◌∙◌, sym, ap, subst, None, IsTrue}
use Rattle.version_index.specs.Heads.{head_of, holds_key}
use Rattle.version_index.proofs.Held.{SetAt, hold_same, set_kept}
use Rattle.version_index.proofs.heads.Heads.hold.Goals as goal

-- a new key has no write yet
pub returns-clause-same : goal.returns-clause-same
returns-clause-same c q =
    hold_same c.self.inside.last.entries c.insert.new.self.entries c.args.key.now (sym c.contains_key.ensures ∙ c.if-contains_key.false)
    (subst (λ key. SetAt c.self.inside.last.entries c.insert.new.self.entries key None) c.in_ok-key.ensures c.in_ok-insert.ensures.updates.0) q
    ∙ ap (λ heads. head_of heads q) c.self.view_is

-- the others are held still
pub returns-clause-kept : goal.returns-clause-kept
returns-clause-kept c q held =
    set_kept c.self.inside.last.entries c.insert.new.self.entries c.args.key.now None
    (subst (λ key. SetAt c.self.inside.last.entries c.insert.new.self.entries key None) c.in_ok-key.ensures c.in_ok-insert.ensures.updates.0) q
    (subst (λ heads. IsTrue (holds_key heads q)) (sym c.self.view_is) held)
