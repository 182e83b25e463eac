use Rattle.std.proofs.Common.{◌∙◌, sym, ap, subst, Some, cond, IsTrue}
use Rattle.std.specs.Ordering.{eq_by_cmp}
use Rattle.std.specs.Option.{option_copied_mut}
use Rattle.rel_base.specs.Value.{key_cmp}
use Rattle.version_index.specs.Heads.{head_of, holds_key}
use Rattle.version_index.proofs.Held.{set_head, set_kept, held_found}
use Rattle.version_index.proofs.heads.Heads.set.Goals as goal
use Rattle.version_index.proofs.heads.Heads.set.Goals.{in-Some, in_default}

-- the key is held, so it is found
pub returns-clause-set : goal.returns-clause-set
returns-clause-set c q =
    let heads = c.self.inside.last.entries in
    let key = c.args.key.now in
    let held = subst (λ heads. IsTrue (holds_key heads key)) (sym c.self.view_is) c.requires in
    elim c.match-get_mut.branch [
      | in-Some w ↦
          let sets = ((c.get_mut.follows.holds (Some c.args.number)).3 held).0 in
          ap (λ inside. head_of inside.last.entries q) w.self-inside-is ∙ set_head heads (c.get_mut.follows.lender (Some c.args.number)).entries key c.args.number sets q
          ∙ ap (λ heads. cond (eq_by_cmp key_cmp q key) (Some c.args.number) (head_of heads q)) c.self.view_is
      | in_default w ↦ absurd (held_found heads key held (sym c.get_mut.ensures.value ∙ ap option_copied_mut w.in_default.is))
    ]

-- the others are held still
pub returns-clause-kept : goal.returns-clause-kept
returns-clause-kept c q held_before =
    let heads = c.self.inside.last.entries in
    let key = c.args.key.now in
    let held = subst (λ heads. IsTrue (holds_key heads key)) (sym c.self.view_is) c.requires in
    elim c.match-get_mut.branch [
      | in-Some w ↦
          let sets = ((c.get_mut.follows.holds (Some c.args.number)).3 held).0 in
          subst (λ inside. IsTrue (holds_key inside.last.entries q)) (sym w.self-inside-is)
          (set_kept heads (c.get_mut.follows.lender (Some c.args.number)).entries key (Some c.args.number) sets q (subst (λ heads. IsTrue (holds_key heads q)) (sym c.self.view_is) held_before))
      | in_default w ↦ absurd (held_found heads key held (sym c.get_mut.ensures.value ∙ ap option_copied_mut w.in_default.is))
    ]
