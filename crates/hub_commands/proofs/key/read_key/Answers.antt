use Rattle.std.proofs.Common.{◌≡◌, rules}
use Rattle.hub_commands.specs.Key as spec
use Rattle.hub_commands.proofs.FirstLine.{key_of_read}
use Rattle.hub_commands.proofs.key.read_key.Goals as goal

pub returns-clause-key : goal.returns-clause-key
returns-clause-key g c =
    let found : c.in_ok-from_slice.field-0.items ≡ spec.key_in c.in_ok-bytes.bytes.items = search rules in
    key_of_read (g.R.Source.remaining c.args.input.now) c.in_ok-bytes.bytes.items c.in_ok-from_slice.field-0.items
    c.in_ok-bytes.ensures.whole found
