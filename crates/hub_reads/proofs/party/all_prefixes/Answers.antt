use Rattle.sqlite.specs.Held.{state}
use Rattle.hub_reads.proofs.OfParties.{prefixes_look}
use Rattle.hub_reads.proofs.party.all_prefixes.Goals as goal

pub returns-clause-looks : goal.returns-clause-looks
returns-clause-looks g c =
    prefixes_look (state g.S.Store c.args.conn.now) (state g.S.Store c.rows_of.new.conn) c.rows_of.result c.rows_of.ensures.asks
