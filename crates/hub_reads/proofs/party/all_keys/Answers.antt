use Rattle.sqlite.specs.Held.{state}
use Rattle.hub_reads.proofs.OfParties.{keys_look}
use Rattle.hub_reads.proofs.party.all_keys.Goals as goal

pub returns-clause-looks : goal.returns-clause-looks
returns-clause-looks g c =
    keys_look (state g.S.Store c.args.conn.now) (state g.S.Store c.rows_of.new.conn) c.rows_of.result c.rows_of.ensures.asks
