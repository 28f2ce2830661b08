use Rattle.sqlite.specs.Held.{state}
use Rattle.sql_rows.proofs.Transactions.{clean_before}
use Rattle.hub_schema.proofs.Makes.{all_made, all_stop}
use Rattle.hub_schema.proofs.making.+make_all.Goals as goal

pub returns-clause-makes : goal.returns-clause-makes
returns-clause-makes g t c clean rows =
    let old = state g.S.Store c.args.tx.now.conn.now in
    let mid = state g.S.Store c.create.new.tx.conn.now in
    let new = state g.S.Store c.make_all.new.tx.conn.now in
    let early = clean_before mid new _ c.make_all.ensures.survives clean in
    all_made rows _ old mid new c.make_all.result c.args.definitions.now c.in-len1-up.len_at_least
    (c.in_ok-create.ensures.makes early rows) (c.make_all.ensures.makes clean rows)

pub returns-clause-fault : goal.returns-clause-fault
returns-clause-fault g t c rows begun tables rest make bare are clean has =
    let old = state g.S.Store c.args.tx.now.conn.now in
    let mid = state g.S.Store c.create.new.tx.conn.now in
    let new = state g.S.Store c.make_all.new.tx.conn.now in
    let early = clean_before mid new _ c.make_all.ensures.survives clean in
    all_stop rows _ old mid new c.make_all.result c.args.definitions.now c.in-len1-up.len_at_least
    (c.create.ensures.kept early) (c.in_ok-create.ensures.makes early rows)
    (λ begun tables rest make bare are has. c.make_all.ensures.fault rows begun tables rest make bare are clean has)
    begun tables rest make bare are has
