use Rattle.hub_tables.proofs.Lists.{same_if}
use Rattle.hub_law.proofs.Runs.{one_step}
use Rattle.hub_law.proofs.laws.step_is_own.Goals as goal

pub returns : goal.returns
returns c gln t input mark here other =
    let one = one_step gln input mark t here other in
    record { seen = one.seen; told = λ e. one.told (same_if input.caller gln e) }
