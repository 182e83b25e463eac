use Rattle.std.proofs.Common.{arith}
use Rattle.std.proofs.lemmas.Grind.{common_steps}
use Rattle.std.proofs.Common.{◌≡◌, ◌<◌, length, map, refl, rules}
use Rattle.std.specs.Prelude.{slice_index_or}
use Rattle.proc_code.specs.Numbers.{bound_names, joined, with_names}
use Rattle.proc_code.proofs.Walked.{both_blocks, on_ok, row_and_blocks, walked}
use Rattle.proc_code.proofs.gather.+gather.Goals as goal

pub gather_block-loop-stmt-preserved : goal.gather_block-loop-stmt-preserved
gather_block-loop-stmt-preserved t c =
    let within : c.loop-stmt.stmt-index < length c.args.stmts.now = search rules in
    let here : slice_index_or c.args.stmts.now c.loop-stmt.stmt-index c.stmt-item.result ≡ c.stmt-item.result = search rules in
    walked (λ stmts. joined (map bound_names stmts)) bound_names (λ stmt rest. refl)
    c.args.stmts.now c.loop-stmt.stmt-index c.stmt-item.result c.loop-stmt.names c.gather_stmt.new.names (with_names c.args.names.now (joined (map bound_names c.args.stmts.now)))
    within here c.loop-stmt.invariant c.in_ok-gather_stmt.ensures

pub gather_stmt-returns-in-Some : goal.gather_stmt-returns-in-Some
gather_stmt-returns-in-Some t c = on_ok c.gather_block-in-Some.result c.gather_block-in-Some.ensures (λ done.
    both_blocks c.args.names.now c.gather_block.new.names c.gather_block-in-Some.new.names c.args.stmt.now
    c.in-If.test c.in-If.then c.in-Some.other c.as_slice.result.now c.as_slice-in-Some.result.now c.in-If.other
    c.in-If.is c.in-Some.is c.as_slice.ensures c.as_slice-in-Some.ensures c.in_ok-gather_block-in-If.ensures done)

pub gather_stmt-returns-in_ok-gather_block-in-Get :
    goal.gather_stmt-returns-in_ok-gather_block-in-Get
gather_stmt-returns-in_ok-gather_block-in-Get t c = on_ok c.gather_block-in-Get-2.result c.gather_block-in-Get-2.ensures (λ done.
    row_and_blocks c.args.names.now c.add-in-Get.new.self c.gather_block-in-Get.new.names c.gather_block-in-Get-2.new.names c.args.stmt.now
    c.in-Get.name c.in-Get.table c.in-Get.key c.in-Get.found c.in-Get.absent c.as_slice-in-Get.result.now c.as_slice-in-Get-2.result.now
    c.in-Get.is c.as_slice-in-Get.ensures c.as_slice-in-Get-2.ensures c.in_ok-add-in-Get.ensures c.in_ok-gather_block-in-Get.ensures done)

pub gather_block-returns : goal.gather_block-returns
gather_block-returns t c = grind (arith, common_steps)
