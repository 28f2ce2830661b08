use Rattle.sqlite.specs.Held.{state}
use Rattle.hub_reads.proofs.OfLines.{numbered_look}
use Rattle.hub_reads.proofs.line.lines_numbered.Goals as goal

pub returns-clause-looks : goal.returns-clause-looks
returns-clause-looks g c =
    numbered_look (state g.S.Store c.args.conn.now)
    (state g.S.Store c.rows_of.new.conn) c.args.supplier.now c.args.number.now c.args.line c.ranges.line.fits
    c.rows_of.result c.rows_of.ensures.clean
    (rw (c.digits.ensures.value, c.value_of-value.ensures) at c.rows_of.ensures.asks)
