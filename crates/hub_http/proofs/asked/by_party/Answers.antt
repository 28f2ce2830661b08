use Rattle.std.proofs.Common.{rules, ◌≡◌, None}
use Rattle.gs1_ids.specs.Gln.{gln_of}
use Rattle.hub_http.proofs.Callers.{denied, no_gln}
use Rattle.hub_http.proofs.asked.by_party.Goals as goal

pub returns-in_default : goal.returns-in_default
returns-in_default g c =
    let party = c.args.found.party.now in
    let read : gln_of party ≡ None = search rules in
    denied c.args.hub.now.0 c.args.head.now c.args.route party c.args.found.part.now c.args.number c.args.key.now
    c.has_a_right_register.ensures (no_gln party read)
