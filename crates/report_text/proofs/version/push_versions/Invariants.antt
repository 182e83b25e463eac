use Rattle.std.proofs.Common.{◌≡◌, ◌++◌, drop, flat_map}
use Rattle.report_text.specs.Versions.{version_line}
use Rattle.report_text.proofs.version.push_versions.Given as goal

-- with the lines of the versions that are left, what is written are the lines of all
abbrev pub invariant-loop-version : goal.invariant-loop-version
invariant-loop-version l =
    l.out ++ flat_map (version_line l.tables) (drop l.version-index l.versions) ≡ l.initial.out ++ flat_map (version_line l.tables) l.versions
