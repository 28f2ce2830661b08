use Rattle.std.proofs.Common.{◌++◌, codes}
use Rattle.hub_audit.specs.Report.{message_lines, number_line}
use Rattle.hub_audit.proofs.Lines.{joined}
use Rattle.hub_audit.proofs.report.put_messages.Goals as goal

pub returns : goal.returns
unfolding message_lines
returns c =
    let counts = c.args.counts.now in
    let end = c.put_count-3.new.out.items in
    let l1 = number_line (codes "mailbox entries ") counts.entries in
    let l2 = number_line (codes "entries not taken ") counts.untaken_entries in
    let l3 = number_line (codes "remembered messages ") counts.remembered in
    joined c.args.out.now.items c.put_count.new.out.items end l1 (l2 ++ l3)
    c.in_ok-put_count.ensures (joined c.put_count.new.out.items c.put_count-2.new.out.items end l2 l3
    c.in_ok-put_count-2.ensures (c.in_ok-put_count-3.ensures))
