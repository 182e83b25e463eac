use Rattle.std.proofs.Common.{◌≡◌, ◌∙◌, ◌++◌, ◌<◌, sym, subst, ap, arith, List, ℕ, Some}
use Rattle.std.proofs.lemmas.List.{length-map}
use Rattle.rel_base.specs.declared.value.Value.{Value}
use Rattle.row_sets.specs.Lifespans.{lifespan, place_of}
use Rattle.row_sets.specs.Log.{stamped_of}
use Rattle.version_index.specs.Chain.{is_on}
use Rattle.version_index.specs.View.{history_in}
use Rattle.version_index.proofs.Ended.{VersionWalk, versions_start, versions_back, versions_end, versions_below}
use Rattle.version_index.proofs.Lasts.{count, fewer_left}
use Rattle.version_index.proofs.Logged.{get_history}
use Rattle.version_index.proofs.Walked.{number_of_back}
use Rattle.version_index.proofs.lifespans.chain_back.Goals as goal

pub loop-place-init : goal.loop-place-init
loop-place-init c =
    let ref : ℕ × List Value = (c.args.view.now.table, c.args.key.now) in
    let place = number_of_back c.last_on-place.result in (
      subst (VersionWalk ref (history_in c.args.view.now) place _) (sym c.new-versions.ensures.items) (versions_start ref (history_in c.args.view.now) place c.last_on-place.ensures.last),
      c.last_on-place.ensures.left,
    )

pub entry_at-entry-requires : goal.entry_at-entry-requires
entry_at-entry-requires c =
    let ref : ℕ × List Value = (c.args.view.now.table, c.args.key.now) in
    let walk = subst (λ place. VersionWalk ref (history_in c.args.view.now) (number_of_back place) c.loop-place.ended c.loop-place.versions.items) c.in-Some.is c.loop-place.invariant.0 in
    let below = versions_below ref (history_in c.args.view.now) c.in-Some.back.number c.loop-place.ended c.loop-place.versions.items walk in
    let same = length-map c.args.view.now.entries.now stamped_of in
    omega (arith, below, same)

pub last_before-place-requires-clause-within : goal.last_before-place-requires-clause-within
last_before-place-requires-clause-within c =
    let ref : ℕ × List Value = (c.args.view.now.table, c.args.key.now) in
    let walk = subst (λ place. VersionWalk ref (history_in c.args.view.now) (number_of_back place) c.loop-place.ended c.loop-place.versions.items) c.in-Some.is c.loop-place.invariant.0 in
    let below = versions_below ref (history_in c.args.view.now) c.in-Some.back.number c.loop-place.ended c.loop-place.versions.items walk in
    let same = length-map c.args.view.now.entries.now stamped_of in
    omega (arith, below, same)

pub loop-place-smaller : goal.loop-place-smaller
loop-place-smaller c =
    let test = is_on (c.args.view.now.table, c.args.key.now) in
    subst (λ place. count (number_of_back c.last_before-place.result) < count (number_of_back place)) (sym c.in-Some.is)
    (fewer_left test c.in-Some.back.number (history_in c.args.view.now) (number_of_back c.last_before-place.result) c.last_before-place.ensures.last)

-- the version of the write comes before those that were made
pub loop-place-preserved : goal.loop-place-preserved
loop-place-preserved c =
    let ref : ℕ × List Value = (c.args.view.now.table, c.args.key.now) in
    let history = history_in c.args.view.now in
    let entry = c.entry_at-entry.result.now in
    let number = c.in-Some.back.number in
    let earlier = number_of_back c.last_before-place.result in
    let there = get_history c.args.view.now.entries.now number entry c.entry_at-entry.ensures in
    let walk = subst (λ place. VersionWalk ref history (number_of_back place) c.loop-place.ended c.loop-place.versions.items) c.in-Some.is c.loop-place.invariant.0 in
    let made : c.add_version.new.versions.items ≡ c.loop-place.versions.items ++ lifespan entry.placed.write.after (place_of (stamped_of entry)) c.loop-place.ended =
    c.in_ok-add_version.ensures ∙ ap (λ place. c.loop-place.versions.items ++ lifespan entry.placed.write.after place c.loop-place.ended) c.place_at-made.ensures in (
      subst (λ place. VersionWalk ref history earlier (Some place) c.add_version.new.versions.items) (sym c.place_at-made.ensures)
          (subst (VersionWalk ref history earlier (Some (place_of (stamped_of entry)))) (sym made)
          (versions_back ref history number (stamped_of entry) earlier c.loop-place.ended c.loop-place.versions.items there c.last_before-place.ensures.last walk)),
      c.last_before-place.ensures.left,
    )

pub returns : goal.returns
returns c =
    let ref : ℕ × List Value = (c.args.view.now.table, c.args.key.now) in
    versions_end ref (history_in c.args.view.now) c.loop-place.ended c.loop-place.versions.items
    (subst (λ place. VersionWalk ref (history_in c.args.view.now) (number_of_back place) c.loop-place.ended c.loop-place.versions.items) c.in_default.is c.loop-place.invariant.0)
