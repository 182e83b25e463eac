use Rattle.std.proofs.Common.{None, Some, [], ap, drop, rules, slice_get, subst, sym, ◌+◌, ◌≡◌, ◌∙◌}
use Rattle.std.specs.List.{filter}
use Rattle.std.specs.Option.{option_map}
use Rattle.provenance.proofs.Gathered.{keys_more, keys_past}
use Rattle.provenance.proofs.keys.keys_by.Goals as goal
use Rattle.provenance.proofs.keys.keys_by.Goals.{in-Some+in_ok-put_key, in_default}
use Rattle.provenance.specs.Chosen.{is_writer, put_keys}
use Rattle.row_sets.specs.Versions.{write_of}

pub loop-number-preserved : goal.loop-number-preserved
loop-number-preserved g c =
    let history = g.V.Versions.history c.args.versions.now in
    let test = is_writer c.args.blocks.now c.args.id.now in
    let whole = put_keys [] (filter test history) in
    let at = c.loop-number.number in
    let old = c.loop-number.keys.keys in
    let all : put_keys old (filter test (drop at history)) ≡ whole = c.loop-number.invariant.0 in
    let made : put_keys c.match-write_at.keys.keys (filter test (drop (at + 1) history)) ≡ whole =
    elim c.match-write_at.branch [
      | in-Some+in_ok-put_key w ↦
          let there : slice_get history at ≡ Some (write_of w.in-Some.write) = sym c.write_at.ensures ∙ ap (option_map write_of) w.in-Some.is in
          subst (λ keys. put_keys keys.keys (filter test (drop (at + 1) history)) ≡ whole) (sym w.keys-is)
          (keys_more test history old w.put_key.new.keys.keys whole at (write_of w.in-Some.write) there w.in_ok-put_key.ensures all)
      | in_default w ↦
          let none : slice_get history at ≡ None = search rules in
          subst (λ keys. put_keys keys.keys (filter test (drop (at + 1) history)) ≡ whole) (sym w.keys-is) (keys_past test history old whole at none all)
    ] in
    (made, c.loop-number.invariant.1)
