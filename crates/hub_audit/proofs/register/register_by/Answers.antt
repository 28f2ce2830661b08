use Rattle.std.proofs.Common.{◌≡◌, Option, sym, ◌∙◌}
use Rattle.sqlite.specs.Held.{state}
use Rattle.hub_parties.specs.Rows.{RegisterRows}
use Rattle.hub_reads.proofs.Held.{no_prefixes}
use Rattle.hub_sound.specs.Finding.{prefix_key}
use Rattle.hub_store.specs.Clean.{clean_prefix}
use Rattle.hub_tables.specs.Sets.{Rising}
use Rattle.hub_tables.specs.Tables.{Tables}
use Rattle.hub_founding.specs.Founding.{IsHeldBy}
use Rattle.hub_audit.proofs.Held.{none_read, all_read}
use Rattle.hub_audit.proofs.register.register_by.Goals as goal

pub returns-in_ok-register_of-in-Rows-clause-looks : goal.returns-in_ok-register_of-in-Rows-clause-looks
returns-in_ok-register_of-in-Rows-clause-looks g c =
    let says : Tables → Option RegisterRows → Type 0 =
    λ t register. t.hubs ≡ c.args.hubs.now → t.keys ≡ c.args.keys.now → Rising t → IsHeldBy t register in
    all_read prefix_key clean_prefix (λ t. t.prefixes) says (state g.S.Store c.args.conn.now) (state g.S.Store c.every_prefix.new.conn)
    c.in_ok-prefixes.field-0 c.in_ok-prefixes.ensures.looks c.in-Rows.prefixes c.in-Rows.is c.in_ok-register_of-in-Rows.field-0
    (λ t is hubs keys rising. c.in_ok-register_of-in-Rows.ensures t hubs keys (sym is ∙ sym c.as_slice.ensures) rising.keys
    rising.prefixes)

pub returns-in-Unclean-clause-looks : goal.returns-in-Unclean-clause-looks
returns-in-Unclean-clause-looks g c =
    let says : Tables → Option RegisterRows → Type 0 =
    λ t register. t.hubs ≡ c.args.hubs.now → t.keys ≡ c.args.keys.now → Rising t → IsHeldBy t register in
    none_read prefix_key clean_prefix (λ t. t.prefixes) says (state g.S.Store c.args.conn.now) (state g.S.Store c.every_prefix.new.conn)
    c.in_ok-prefixes.field-0 c.in_ok-prefixes.ensures.looks (λ t bad hubs keys rising. no_prefixes t bad) c.in-Unclean._key c.in-Unclean.is
