use Rattle.std.proofs.Common.{[]}
use Rattle.edi_segments.proofs.Runs.{run_taken}
use Rattle.edi_segments.proofs.machine.Machine.push_plain.Goals as goal

pub returns-clause-taken : goal.returns-clause-taken
returns-clause-taken c =
    let m = c.args.self.now in
    let taken = c.take_plain.ensures in
    rw c.in-InData.is
    (run_taken m.service [] m.open c.take_plain.new.self c.args.bytes.now c.take_plain.result taken.fits taken.plain taken.taken)
