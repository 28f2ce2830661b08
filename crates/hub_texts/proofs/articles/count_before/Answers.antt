use Rattle.std.proofs.Common.{rules, of_calls}
use Rattle.std.proofs.lemmas.Fn.{always_returns_same}
use Rattle.hub_order_lines.proofs.InOrder.{from_point, parted}
use Rattle.hub_texts.specs.Articles.{precedes_named}
use Rattle.hub_texts.proofs.NamedLines.{places_total, place_of, named_place, in_order}
use Rattle.hub_texts.proofs.articles.count_before.Goals as goal

pub returns : goal.returns
returns c =
    let lines = c.args.lines.now in
    let content = c.args.content.now in
    let point = c.partition_point.ensures.partitioned (precedes_named content) (search (rules, of_calls, always_returns_same))
    (parted places_total place_of (named_place content) lines (in_order lines c.requires)) in
    from_point (precedes_named content) lines c.partition_point.result c.partition_point.ensures.bound point
