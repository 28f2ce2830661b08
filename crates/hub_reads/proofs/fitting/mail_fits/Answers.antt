use Rattle.sqlite.specs.Held.{state}
use Rattle.hub_reads.proofs.OfOldRows.{mail_tells}
use Rattle.hub_reads.proofs.fitting.mail_fits.Goals as goal

pub returns-clause-looks : goal.returns-clause-looks
returns-clause-looks g c =
    mail_tells c.args.register.now (state g.S.Store c.args.conn.now) (state g.S.Store c.are_registered.new.conn)
    c.are_registered.result c.are_registered.ensures.asks
