use Rattle.std.proofs.Common.{◌≡◌, ◌<◌, ◌+◌, ◌∙◌, rules, arith, ap, subst, sym, add-one, List, ℕ, drop, suc, length, true, Some, Ok, pos}
use Rattle.std.specs.Prelude.{slice_get, slice_index_or, slice_set, nat_lt}
use Rattle.std.proofs.lemmas.Bool.{lt-ltb}
use Rattle.std.proofs.lemmas.List.{length-map}
use Rattle.std.proofs.lemmas.Option.{slice_get-get_or}
use Rattle.rel_base.specs.declared.value.Value.TheVariants.{Int}
use Rattle.proc_syntax.specs.Limits.{most_steps}
use Rattle.proc_syntax.specs.declared.run.Binding.TheVariants.{Held, Plain}
use Rattle.proc_syntax.specs.Values.{found}
use Rattle.proc_code.specs.Coded.{do_all, in_slot, put}
use Rattle.proc_code.specs.Weighed.{applied}
use Rattle.direct_run.specs.Runs.{state_of}
use Rattle.direct_run.specs.Scope.{binding_of, bindings_of}
use Rattle.direct_run.specs.declared.scope.Slot.{Slot}
use Rattle.direct_run.specs.declared.sums.Operand.TheVariants as operand
use Rattle.direct_run.specs.declared.sums.Sum.{Sum}
use Rattle.proc_syntax.specs.declared.tree.Op.TheVariants as op
use Rattle.direct_run.specs.Sums.{BeginsWith, value_of}
use Rattle.direct_run.proofs.Adding.{begins_after, does_one, one_more, other_slot, to_other}
use Rattle.direct_run.proofs.sums.add_up.Goals as goal

-- there is such a variable
there : (slots : List Slot) (slot : ℕ) → slot < length slots → slot < length (bindings_of slots)
there slots slot low = subst (λ n. slot < n) (sym (length-map slots binding_of)) low

-- what was done so far is what is said
pub returns-in_default-clause-does : goal.returns-in_default-clause-does
returns-in_default-clause-does c block begins held =
    let so = c.loop-sum.invariant.2 block begins (held (there c.args.run.now.scope.slots.items c.args.turn.slot (search rules))) in (so.0, so.3)

pub returns-then-run-ge-MOST_RUN_STEPS-clause-does : goal.returns-then-run-ge-MOST_RUN_STEPS-clause-does
returns-then-run-ge-MOST_RUN_STEPS-clause-does c block begins held =
    let so = c.loop-sum.invariant.2 block begins (held (there c.args.run.now.scope.slots.items c.args.turn.slot (search rules))) in (so.0, so.3)

pub returns-clause-does : goal.returns-clause-does
returns-clause-does c block begins held =
    let so = c.loop-sum.invariant.2 block begins (held (there c.args.run.now.scope.slots.items c.args.turn.slot (search rules))) in (so.0, so.3)

-- what stands for an assignment where there is none
abbrev no_sum : Sum
no_sum = record { slot = 0; op = op.Or; left = operand.Number (pos 0); right = operand.Number (pos 0) }

-- one more
pub loop-sum-preserved : goal.loop-sum-preserved
loop-sum-preserved c =
    let columns = c.args.turn.columns.now in
    let slot = c.args.turn.slot in
    let table = c.args.turn.table in
    let sums = c.args.sums.now in
    let row = c.args.row.now in
    let done = c.loop-sum.done in
    let run = c.loop-sum.run in
    let st = state_of run in
    let next = add-one done in (
      ap (λ n. n + 1) c.loop-sum.invariant.0,
      c.loop-sum.invariant.1,
      λ block begins held.
          let so = c.loop-sum.invariant.2 block begins held in
          let sum = slice_index_or sums c.loop-sum.sum-index no_sum in
          let here : slice_get sums done ≡ Some sum = ap (slice_get sums) c.loop-sum.invariant.0 ∙ slice_get-get_or sums c.loop-sum.sum-index no_sum (search rules) in
          let low : nat_lt run.steps most_steps ≡ true = lt-ltb run.steps most_steps (search rules) in
          let gives : applied sum.op (found (value_of st.environment.slots row sum.left)) (found (value_of st.environment.slots row sum.right)) ≡ Ok (Int c.in-Some.number) = search rules in
          let written : bindings_of c.put_number.new.slots.items ≡ slice_set (bindings_of run.scope.slots.items) sum.slot (Some (Plain (Int c.in-Some.number))) = search rules in (
            omega (arith, one_more columns slot table block sums done sum here so.2),
            ap (λ slots. in_slot slots slot) written ∙ other_slot (bindings_of run.scope.slots.items) sum.slot slot (Some (Plain (Int c.in-Some.number))) (to_other columns slot table block sums done sum here so.2) ∙ so.1,
            subst (λ n. BeginsWith columns slot table (drop n block) (drop n sums)) (sym next) (begins_after columns slot table block sums done sum here so.2),
            λ declared tables.
                ap (λ n. do_all declared columns tables (drop n block) (record { environment = record { slots = bindings_of c.put_number.new.slots.items; time = run.scope.time }; own = st.own; made = st.made; steps = run.steps + 1 })) next
                ∙ ap (λ slots. do_all declared columns tables (drop (suc done) block) (record { environment = record { slots = slots; time = run.scope.time }; own = st.own; made = st.made; steps = run.steps + 1 })) written
                ∙ does_one columns slot table block sums done sum here so.2 declared tables st row (Int c.in-Some.number) so.1 low gives
                ∙ so.3 declared tables,
          ),
    )
