use Rattle.std.proofs.Common.{◌∙◌, rules, of_calls}
use Rattle.std.proofs.lemmas.Fn.{always_returns_same}
use Rattle.hub_order_lines.specs.Key.{key_of, is_below}
use Rattle.hub_order_lines.specs.declared.facts.LineFacts.{LineFacts}
use Rattle.hub_order_lines.proofs.InOrder.{from_point, parted, prefix_len-map}
use Rattle.hub_order_lines.proofs.ByNumber.{key_total, number_key, rise_in_order}
use Rattle.hub_order_lines.proofs.by_number.place_from.Goals as goal

pub returns : goal.returns
returns c =
    let lines = c.args.lines.now in
    let order = c.args.order.now in
    let number = c.args.line_number in
    let point =
    c.partition_point.ensures.partitioned (λ (line : LineFacts). is_below order number (key_of line))
    (search (rules, of_calls, always_returns_same))
    (parted key_total key_of (number_key order number) lines (rise_in_order lines c.requires)) in
    from_point (λ line. is_below order number (key_of line)) lines c.partition_point.result c.partition_point.ensures.bound
    point
    ∙ prefix_len-map (is_below order number) key_of lines
