use Rattle.std.proofs.Common.{◌++◌, codes}
use Rattle.hub_audit.specs.Report.{goods_lines, number_line}
use Rattle.hub_audit.proofs.Lines.{joined}
use Rattle.hub_audit.proofs.report.put_goods.Goals as goal

pub returns : goal.returns
unfolding goods_lines
returns c =
    let counts = c.args.counts.now in
    let end = c.put_count-6.new.out.items in
    let l1 = number_line (codes "suppliers ") counts.suppliers in
    let l2 = number_line (codes "orders ") counts.orders in
    let l3 = number_line (codes "order lines ") counts.lines in
    let l4 = number_line (codes "open lines ") counts.open_lines in
    let l5 = number_line (codes "pallets ") counts.pallets in
    let l6 = number_line (codes "received pallets ") counts.received_pallets in
    joined c.args.out.now.items c.put_count.new.out.items end l1 (l2 ++ (l3 ++ (l4 ++ (l5 ++ l6))))
    c.in_ok-put_count.ensures (joined c.put_count.new.out.items c.put_count-2.new.out.items end l2 (l3 ++ (l4 ++ (l5 ++ l6)))
    c.in_ok-put_count-2.ensures (joined c.put_count-2.new.out.items c.put_count-3.new.out.items end l3 (l4 ++ (l5 ++ l6))
    c.in_ok-put_count-3.ensures (joined c.put_count-3.new.out.items c.put_count-4.new.out.items end l4 (l5 ++ l6)
    c.in_ok-put_count-4.ensures (joined c.put_count-4.new.out.items c.put_count-5.new.out.items end l5 l6
    c.in_ok-put_count-5.ensures (c.in_ok-put_count-6.ensures)))))
