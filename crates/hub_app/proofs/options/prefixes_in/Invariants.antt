use Rattle.std.proofs.Common.{◌≡◌, ◌++◌, map, drop}
use Rattle.std.specs.List.{list_all}
use Rattle.gs1_ids.specs.Prefix.{is_prefix}
use Rattle.hub_app.proofs.options.prefixes_in.Given as goal

-- the texts are the prefixes that were read, and those of the rest
abbrev pub invariant-loop-text : goal.invariant-loop-text
invariant-loop-text l = record {
  read : map (λ text. text.now) l.texts ≡ l.prefixes.items ++ map (λ text. text.now) (drop l.text-index l.texts);
  right : list_all is_prefix (map (λ text. text.now) l.texts)
      ≡ list_all is_prefix (map (λ text. text.now) (drop l.text-index l.texts));
}
