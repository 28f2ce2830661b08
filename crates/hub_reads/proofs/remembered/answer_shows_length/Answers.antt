use Rattle.std.proofs.Common.{Ok}
use Rattle.sqlite.specs.Held.{state}
use Rattle.hub_rows.proofs.Asking.{asked_more}
use Rattle.hub_reads.proofs.remembered.answer_shows_length.Goals as goal

pub returns : goal.returns
returns g c = record {
  asks =
      asked_more _ (λ rows. ⊥) c.args.text.now _ (state g.S.Store c.args.conn.now) (state g.S.Store c.query.new.conn)
      c.in_ok-rows.rows (Ok c.first_shows_length.result) c.in_ok-rows.ensures.asks
      (rw c.as_slice.ensures.value at c.first_shows_length.ensures) (λ is. absurd cc) tt;
}
