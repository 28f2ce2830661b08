use Rattle.std.proofs.Common.{◌≡◌, ◌++◌}
use Rattle.std.specs.List.{flat_map}
use Rattle.hub_texts.specs.Totals.{article_line}
use Rattle.hub_texts.proofs.pallets.put_articles.Given as goal

abbrev pub invariant-loop-gtin : goal.invariant-loop-gtin
invariant-loop-gtin l =
    l.out.items ++ flat_map (article_line l.pallet) l.gtin-iterator
    ≡ l.fn.out.items ++ flat_map (article_line l.pallet) l.articles.entries
