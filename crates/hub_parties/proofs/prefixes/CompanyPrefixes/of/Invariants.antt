use Rattle.std.proofs.Common.{◌≡◌, drop}
use Rattle.hub_parties.specs.Prefixes.{by_bytes, put_all}
use Rattle.hub_parties.proofs.prefixes.CompanyPrefixes.of.Given as goal

-- the prefixes so far are sorted; the others are still to be inserted
abbrev pub invariant-loop-prefix : goal.invariant-loop-prefix
invariant-loop-prefix l = by_bytes l.prefixes ≡ put_all (drop l.prefix-index l.prefixes) l.sorted.items
