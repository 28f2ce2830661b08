use Rattle.std.proofs.Common.{◌≡◌, ◌++◌, drop}
use Rattle.std.specs.List.{list_all}
use Rattle.gs1_ids.specs.Prefix.{is_prefix}
use Rattle.hub_register.specs.Entries.{texts_of}
use Rattle.hub_register.proofs.columns.prefixes_of.Given as goal

-- the prefixes of all texts are those read so far, which are valid, and those still to come
abbrev pub invariant-loop-text : goal.invariant-loop-text
invariant-loop-text l = record {
  read : texts_of l.texts ≡ l.prefixes.items ++ texts_of (drop l.text-index l.texts);
  right : list_all is_prefix (texts_of l.texts) ≡ list_all is_prefix (texts_of (drop l.text-index l.texts));
}
