use Rattle.sqlite_wal.specs.Files.{image_at}
use Rattle.hub_audit.proofs.Auditing.{file_checked}
use Rattle.hub_audit.proofs.file.check_file.Goals as goal

pub returns-in-Ok : goal.returns-in-Ok
returns-in-Ok g c =
    file_checked (image_at g.S.Start) c.in-Ok.conn c.in-Ok.ensures.over c.check_database.result c.check_database.ensures
