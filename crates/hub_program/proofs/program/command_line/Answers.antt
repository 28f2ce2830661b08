use Rattle.hub_program.proofs.program.command_line.Goals as goal

pub returns : goal.returns
returns c =
    let one = c.commanding-program.ensures _ _ c.bare_program.ensures c.check_command.ensures in
    let two = c.commanding-program-2.ensures _ _ one c.relay_command.ensures in
    let three = c.commanding-program-3.ensures _ _ two c.show_command.ensures in
    let four = c.commanding-program-4.ensures _ _ three c.init_command.ensures in
    let five = c.commanding-program-5.ensures _ _ four c.join_command.ensures in
    let six = c.commanding-program-6.ensures _ _ five c.rekey_command.ensures in
    let seven = c.commanding-program-7.ensures _ _ six c.verify_command.ensures in
    let eight = c.commanding-program-8.ensures _ _ seven c.import_command.ensures in
    let nine = c.commanding-program-9.ensures _ _ eight c.status_command.ensures in
    let ten = c.commanding-program-10.ensures _ _ nine c.mail_command.ensures in
    let eleven = c.commanding-program-11.ensures _ _ ten c.cancel_command.ensures in
    c.commanding.ensures _ _ eleven c.serve_command.ensures
