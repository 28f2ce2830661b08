use Rattle.std.proofs.Common.{◌≡◌, false, map, slice_get}
use Rattle.std.specs.List.{list_all}
use Rattle.sqlite.specs.Held.{state}
use Rattle.sqlite.specs.Values.{bound}
use Rattle.hub_rows.proofs.Asking.{asked_more}
use Rattle.hub_rows.proofs.ask.first_of.Goals as goal

pub returns-clause-asks : goal.returns-clause-asks
returns-clause-asks g c =
    asked_more (λ rows first. first ≡ slice_get (map g.T.ShownRow.shown rows) 0)
    (λ rows. list_all g.T.ShownRow.clean (map g.T.ShownRow.shown rows) ≡ false) c.args.text.now (bound c.args.params.now)
    (state g.S.Store c.args.conn.now) (state g.S.Store c.query.new.conn) c.in_ok-rows.rows c.first_shown.result
    c.in_ok-rows.ensures.asks (rw c.as_slice.ensures.value at c.first_shown.ensures.ok)
    (rw c.as_slice.ensures.value at c.first_shown.ensures.unclean) c.first_shown.ensures.fails
