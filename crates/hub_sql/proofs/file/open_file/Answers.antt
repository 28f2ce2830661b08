use Rattle.sqlite_wal.specs.Files.{image_at}
use Rattle.hub_sql.proofs.FilesOrder.{opened_ready, opened_rises}
use Rattle.hub_sql.proofs.file.open_file.Goals as goal

pub returns-in-Err-default-Some-clause-leaves : goal.returns-in-Err-default-Some-clause-leaves
returns-in-Err-default-Some-clause-leaves g c =
    let it = rw c.in-Err-default-Some.field-0-1-is at c.in-Err-default-Some.ensures.cause in
    (c.in-Err-default-Some.error, c.fault_by-in-Err-default-Some.ensures.exact, (it.0, (it.1, it.2), it.3))

pub returns-in-Ok-clause-ready : goal.returns-in-Ok-clause-ready
returns-in-Ok-clause-ready g c clean = opened_ready (image_at g.S.Start) c.in-Ok.conn
    (record { opened = c.in-Ok.ensures.opened; found = c.in-Ok.ensures.found }) clean

pub returns-in-Ok-clause-rising : goal.returns-in-Ok-clause-rising
returns-in-Ok-clause-rising g c clean = opened_rises (image_at g.S.Start) c.in-Ok.conn
    (record { opened = c.in-Ok.ensures.opened; found = c.in-Ok.ensures.found }) clean
