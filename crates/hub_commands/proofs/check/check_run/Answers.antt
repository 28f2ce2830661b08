use Rattle.hub_register.specs.Register.{register_of}
use Rattle.hub_commands.proofs.CheckReports.{checked, written, unwritten}
use Rattle.hub_commands.proofs.check.check_run.Goals as goal

pub returns-clause-checked : goal.returns-clause-checked
returns-clause-checked g c =
    checked (register_of c.args.text.now) _ _ _ _ _ _ _ _ _ _ c.in-Ok.ensures.status c.in-Ok.ensures.line c.print_report.ensures.told

pub returns-clause-written : goal.returns-clause-written
returns-clause-written g c =
    written (register_of c.args.text.now) _ _ _ _ _ _ _ _ _ _ c.in-Ok.ensures.status c.in-Ok.ensures.line c.print_report.ensures.told

pub returns-clause-failed : goal.returns-clause-failed
returns-clause-failed g c =
    unwritten (register_of c.args.text.now) _ _ _ _ _ _ _ _ _ _ c.in-Ok.ensures.status c.in-Ok.ensures.line c.print_report.ensures.told
