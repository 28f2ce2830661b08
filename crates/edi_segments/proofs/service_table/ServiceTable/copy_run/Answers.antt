use Rattle.std.proofs.Common.{get_or, set, sym, ap, ◌∙◌, arith}
use Rattle.edi_segments.specs.ServiceTable.{stands_for_itself}
use Rattle.edi_segments.proofs.Table.{copied_more, all_more}
use Rattle.edi_segments.proofs.service_table.ServiceTable.copy_run.Goals as goal

pub loop-count-preserved : goal.loop-count-preserved
loop-count-preserved c =
    let l = c.loop-count in
    let bytes = c.args.bytes.now in
    let byte = get_or bytes l.count 0 in
    record {
      within = omega (arith, c.loop-count-test.true);
      run =
          all_more (stands_for_itself c.args.self.now) bytes l.count c.loop-count-test.true l.invariant.run
          (sym c.stands_for_itself.ensures ∙ c.if-stands_for_itself.true);
      one =
          ap (λ items. set items l.count byte) l.invariant.one
          ∙ copied_more bytes c.args.one.now l.count c.loop-count-test.true (omega (arith, c.requires.one, c.loop-count-test.true));
      other =
          ap (λ items. set items l.count byte) l.invariant.other
          ∙ copied_more bytes c.args.other.now l.count c.loop-count-test.true (omega (arith, c.requires.other, c.loop-count-test.true));
    }
