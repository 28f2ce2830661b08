use Rattle.std.proofs.Common.{◌≡◌, drop}
use Rattle.std.specs.List.{list_all}
use Rattle.gs1_ids.specs.Prefix.{is_prefix}
use Rattle.hub_parties.specs.Prefixes.{rising}
use Rattle.hub_parties.proofs.prefixes.are_rising.Given as goal

-- each prefix so far is lower than all after it
abbrev pub invariant-loop-place : goal.invariant-loop-place
invariant-loop-place l = record {
  valid : list_all is_prefix l.prefixes ≡ list_all is_prefix (drop l.place l.prefixes);
  rise : rising l.prefixes ≡ rising (drop l.place l.prefixes);
}
