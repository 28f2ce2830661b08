use Rattle.std.proofs.Common.{rules, ◌≡◌, Err, sym, subst}
use Rattle.sqlite.specs.Held.{state}
use Rattle.hub_store.specs.Clean.{clean_line}
use Rattle.hub_store.specs.Lines.{lines_at}
use Rattle.hub_store.specs.declared.fault.StoreFault.TheVariants.{Memory}
use Rattle.hub_tables.specs.Tables.{view}
use Rattle.hub_schema.specs.State.{LooksUp}
use Rattle.hub_reads.proofs.OfNumbers.{next_look, failed_look, unput_look, clean_too}
use Rattle.hub_reads.proofs.line.lines_at.Goals as goal

pub loop-line-preserved : goal.loop-line-preserved
loop-line-preserved g c = record {
  looks = next_look c.args.supplier.now c.args.number.now c.loop-line.line-iterator c.next-in-loop-line.new.self c.args.lines.now.keys
      c.in-Some-line.line.now (state g.S.Store c.args.conn.now) (state g.S.Store c.loop-line.conn)
      (state g.S.Store c.lines_numbered-in-loop-line.new.conn) c.loop-line.found c.in_ok-rows.rows _ c.in-Some-line.ensures.steps
      c.in_ok-put_lines.ensures c.loop-line.invariant.looks c.in_ok-rows.ensures.looks;
  clean = clean_too clean_line c.loop-line.found c.in_ok-rows.rows _ c.in_ok-put_lines.ensures c.loop-line.invariant.clean
      c.in_ok-rows.ensures.clean;
}

pub returns-in_err-rows-clause-looks : goal.returns-in_err-rows-clause-looks
returns-in_err-rows-clause-looks g c =
    let fault = c.in_err-rows.field-0.0 in
    let given : c.from_residual-in_err-rows.result ≡ Err fault = search rules in
    let old = state g.S.Store c.args.conn.now in
    let new = state g.S.Store c.lines_numbered-in-loop-line.new.conn in
    subst (LooksUp (λ t. lines_at (view c.args.supplier.now t) c.args.number.now c.args.lines.now.keys) old new) (sym given)
    (failed_look c.args.supplier.now c.args.number.now c.loop-line.line-iterator c.args.lines.now.keys c.in-Some-line.line.now
    old (state g.S.Store c.loop-line.conn) new c.loop-line.found fault c.loop-line.invariant.looks c.in_err-rows.ensures.looks)

pub returns-in_err-put_lines-clause-looks : goal.returns-in_err-put_lines-clause-looks
returns-in_err-put_lines-clause-looks g c =
    let given : c.from_residual-in_err-put_lines.result ≡ Err Memory = search rules in
    let old = state g.S.Store c.args.conn.now in
    let new = state g.S.Store c.lines_numbered-in-loop-line.new.conn in
    subst (LooksUp (λ t. lines_at (view c.args.supplier.now t) c.args.number.now c.args.lines.now.keys) old new) (sym given)
    (unput_look c.args.supplier.now c.args.number.now c.loop-line.line-iterator c.args.lines.now.keys c.in-Some-line.line.now
    old (state g.S.Store c.loop-line.conn) new c.loop-line.found c.in_ok-rows.rows Memory (λ is. absurd cc)
    c.loop-line.invariant.looks c.in_ok-rows.ensures.looks)
