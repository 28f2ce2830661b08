use Rattle.std.proofs.Common.{Ok, ap, ◌∙◌}
use Rattle.sqlite.specs.Held.{state}
use Rattle.hub_rows.proofs.Asking.{asked_more}
use Rattle.std.specs.List.{list_all}
use Rattle.hub_reads.specs.Fitting.{registered_in}
use Rattle.hub_reads.proofs.fitting.are_registered.Goals as goal

pub returns-clause-asks : goal.returns-clause-asks
returns-clause-asks g c =
    asked_more _ (λ rows. ⊥) c.args.text.now _ (state g.S.Store c.args.conn.now) (state g.S.Store c.query.new.conn)
    c.in_ok-rows.rows (Ok c.all_registered.result) c.in_ok-rows.ensures.asks
    (c.all_registered.ensures ∙ ap (list_all (registered_in c.args.register.now)) c.as_slice.ensures.value) (λ is. absurd cc) tt
