use Rattle.std.proofs.Common.{◌∙◌, arith}
use Rattle.std.proofs.lemmas.List.{length-set}
use Rattle.edi_segments.specs.ServiceTable.{stands_for_itself}
use Rattle.edi_segments.proofs.Table.{set_more}
use Rattle.edi_segments.proofs.service_table.ServiceTable.of.Goals as goal

pub loop-byte-preserved : goal.loop-byte-preserved
loop-byte-preserved c =
    let l = c.loop-byte in
    record {
      long = length-set l.stands_for_itself l.byte c.stands_for_itself.result ∙ l.invariant.long;
      so_far =
          set_more l.stands_for_itself (stands_for_itself c.args.service) l.byte c.stands_for_itself.result
          (omega (arith, l.invariant.long, c.loop-byte-test.true))
          c.stands_for_itself.ensures l.invariant.so_far;
    }
