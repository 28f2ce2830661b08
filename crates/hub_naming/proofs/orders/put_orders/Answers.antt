use Rattle.std.proofs.Common.{◌+◌, ◌||◌, ◌∷◌, drop, map, sym, ap, ◌∙◌}
use Rattle.std.specs.List.{list_any}
use Rattle.std.proofs.lemmas.List.{drop_more}
use Rattle.edi_base.specs.Seen.{is_among}
use Rattle.edi_base.proofs.Twice.{is_among-insert, text_of, bytes_eq-sym}
use Rattle.hub_tables.specs.Rows.{same}
use Rattle.hub_naming.proofs.Moved.{or_moved}
use Rattle.hub_naming.proofs.orders.put_orders.Goals as goal

pub loop-line-preserved : goal.loop-line-preserved
loop-line-preserved c = record {
  ordered = λ was. c.insert.ensures.ordered;
  orders = λ order.
      let line = c.line-item.result in
      let rest = drop (c.loop-line.line-index + 1) c.args.lines.now in
      let next = drop_more c.args.lines.now c.loop-line.line-index line c.loop-line-test.true
      ∙ ap (λ one. one ∷ rest) (sym c.line-item.is) in
      ap (λ keys. is_among order (map text_of keys) || list_any (λ line. same line.order order) rest) c.in_ok-insert.ensures.keys
      ∙ ap (λ v. v || list_any (λ line. same line.order order) rest) (is_among-insert order c.loop-line.orders.keys c.as_slice.result)
      ∙ or_moved (same order c.as_slice.result.now) (is_among order (map text_of c.loop-line.orders.keys))
      (list_any (λ line. same line.order order) rest)
      ∙ ap
      (λ v. is_among order (map text_of c.loop-line.orders.keys) || (v || list_any (λ line. same line.order order) rest))
      (ap (same order) c.as_slice.ensures ∙ bytes_eq-sym order line.order)
      ∙ ap (λ ahead. is_among order (map text_of c.loop-line.orders.keys) || list_any (λ line. same line.order order) ahead) (sym next)
      ∙ c.loop-line.invariant.orders order;
}
