-- What `rekey` prints.
use Rattle.std.specs.Prelude.{ℕ, List, codes}
use Rattle.hub_commands.specs.declared.key_change.KeyOutcome.{KeyOutcome}
use Rattle.hub_commands.specs.declared.key_change.KeyOutcome.TheVariants.{Done, Unknown, NoKey}

abbrev pub change_line : KeyOutcome → List ℕ
change_line Done = codes "ok\n"
change_line Unknown = codes "unknown\n"
change_line NoKey = codes "fault key\n"

-- the exit status
abbrev pub change_status : KeyOutcome → ℕ
change_status Done = 0
change_status Unknown = 1
change_status NoKey = 1
