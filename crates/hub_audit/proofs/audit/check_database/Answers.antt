use Rattle.sqlite.specs.Held.{state}
use Rattle.hub_audit.proofs.Auditing.{third_audited, earlier_audited}
use Rattle.hub_audit.proofs.audit.check_database.Goals as goal

pub returns-in-Ok-default-Third : goal.returns-in-Ok-default-Third
returns-in-Ok-default-Third g c =
    third_audited g.S.Store (state g.S.Store c.args.conn) (state g.S.Store c.in-Ok-default-Third.conn)
    c.in-Ok-default-Third.field-0-1 c.in-Ok-default-Third.field-0-1-is c.in-Ok-default-Third.ensures.holds
    c.in-Ok-default-Third.ensures.clean c.audit_hub.result c.audit_hub.ensures

pub returns-in-Err-default-Version : goal.returns-in-Err-default-Version
returns-in-Err-default-Version g c =
    earlier_audited g.S.Store (state g.S.Store c.args.conn) (state g.S.Store c.in-Err-default-Version.conn)
    (λ clean. (c.in-Err-default-Version.ensures.refuses c.in-Err-default-Version.field-0-1-is clean).1)
    c.in-Err-default-Version.ensures.spared.clean c.audit_earlier.result c.audit_earlier.ensures
