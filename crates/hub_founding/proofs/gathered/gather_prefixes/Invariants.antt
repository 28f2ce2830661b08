use Rattle.std.proofs.Common.{◌≡◌, length, map, drop}
use Rattle.hub_parties.specs.KeyOrder.{Rises}
use Rattle.hub_tables.specs.Rows.{key_cmp}
use Rattle.hub_founding.specs.Gathered.{gathered, all_had}
use Rattle.hub_founding.proofs.Gathering.{and_rest}
use Rattle.hub_founding.proofs.gathered.gather_prefixes.Given as goal

-- each prefix so far has a supplier and is in its list; the others are still to come
abbrev pub invariant-loop-row : goal.invariant-loop-row
invariant-loop-row l = record {
  length : length l.lists.items ≡ length l.keys;
  had : Rises key_cmp l.keys → all_had l.keys l.prefixes ≡ all_had l.keys (drop l.row-index l.prefixes);
  read : Rises key_cmp l.keys → gathered l.prefixes l.keys
      ≡ and_rest (drop l.row-index l.prefixes) l.keys (map (λ list. list.items) l.lists.items);
}
