use Rattle.std.proofs.Common.{◌≡◌, ◌++◌, map, All}
use Rattle.provenance.specs.Chosen.{IsTold, chosen}
use Rattle.provenance.specs.Versions.{version_of}
use Rattle.provenance.proofs.chosen.push_chosen.Given as goal

-- what is made, and what is chosen of the versions that are left, is what is chosen of all
abbrev pub invariant-loop-span : goal.invariant-loop-span
invariant-loop-span l =
    All (IsTold l.blocks) l.span-iterator.rest.items
    × (l.versions ++ chosen l.blocks l.choice (map (version_of l.blocks l.table) l.span-iterator.rest.items) ≡ l.initial.versions ++ chosen l.blocks l.choice (map (version_of l.blocks l.table) l.fn.spans))
