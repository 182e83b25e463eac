use Rattle.std.proofs.Common.{IsTrue, Some, ap, cond, subst, sym, ◌∙◌}
use Rattle.std.specs.BTreeMap.{IsOrdered, is_at}
use Rattle.std.specs.Cmp.Lexicographic.{slice_cmp}
use Rattle.std.specs.Option.{option_copied_mut}
use Rattle.std.specs.Ordering.{nat_cmp}
use Rattle.std.specs.Prelude.{is_some}
use Rattle.block_work.proofs.Marking.{more_marked, none_held}
use Rattle.block_work.specs.Marks.{AreMarked, value_of}
use Rattle.block_work.proofs.marked_ids.MarkedIds.replace.Goals as goal
use Rattle.block_work.proofs.marked_ids.MarkedIds.replace.Goals.{in-None, in-Some}

-- the id has its mark, since it has a value
pub invariant_of-self : goal.invariant_of-self
invariant_of-self g c =
    let values = c.self.inside.values in
    let words = c.self.inside.marks.words.items in
    let held = subst (λ ids. IsTrue (is_some (value_of ids c.args.id.now))) (sym c.self.view_is) c.requires in
    elim c.match-get_mut.branch [
      | in-Some w ↦
          let through = c.get_mut.follows.holds c.args.value in
          let now = c.get_mut.follows.lender c.args.value in
          subst (λ inside. IsOrdered (slice_cmp nat_cmp) inside.values × AreMarked inside.values.entries inside.marks.words.items) (sym w.self-inside-is)
          (through.4, more_marked values.entries now.entries words words c.args.id.now c.args.value (through.3 held).0 (λ q marked. marked) (c.self.invariant.1 c.args.id.now held) c.self.invariant.1)
      | in-None w ↦ absurd (none_held values.entries c.args.id.now held (sym c.get_mut.ensures.value ∙ ap option_copied_mut w.in-None.is))
    ]

pub returns-clause-set : goal.returns-clause-set
returns-clause-set g c other =
    let values = c.self.inside.values in
    let held = subst (λ ids. IsTrue (is_some (value_of ids c.args.id.now))) (sym c.self.view_is) c.requires in
    elim c.match-get_mut.branch [
      | in-Some w ↦
          ap (λ inside. value_of inside.values.entries other) w.self-inside-is ∙ ((c.get_mut.follows.holds c.args.value).3 held).0 other
          ∙ ap (λ ids. cond (is_at (slice_cmp nat_cmp c.args.id.now) other) (Some c.args.value) (value_of ids other)) c.self.view_is
      | in-None w ↦ absurd (none_held values.entries c.args.id.now held (sym c.get_mut.ensures.value ∙ ap option_copied_mut w.in-None.is))
    ]
