use Rattle.std.proofs.Common.{◌≡◌, Option, sym, ◌∙◌}
use Rattle.sqlite.specs.Held.{state}
use Rattle.hub_parties.specs.Rows.{RegisterRows}
use Rattle.hub_reads.proofs.Held.{no_hubs}
use Rattle.hub_sound.specs.Finding.{hub_key}
use Rattle.hub_store.specs.Clean.{clean_hub}
use Rattle.hub_tables.specs.Sets.{Rising}
use Rattle.hub_tables.specs.Tables.{Tables}
use Rattle.hub_founding.specs.Founding.{IsHeldBy}
use Rattle.hub_audit.proofs.Held.{none_read, then_read, as_they_rise}
use Rattle.hub_audit.proofs.register.register.Goals as goal

pub returns-in-Rows-clause-looks : goal.returns-in-Rows-clause-looks
returns-in-Rows-clause-looks g c =
    let says : Tables → Option RegisterRows → Type 0 = λ t register. Rising t → IsHeldBy t register in
    as_they_rise IsHeldBy (state g.S.Store c.args.conn.now) (state g.S.Store c.register_of_hubs.new.conn) c.register_of_hubs.result
    (then_read hub_key clean_hub (λ t. t.hubs) says (state g.S.Store c.args.conn.now) (state g.S.Store c.every_hub.new.conn)
    c.in_ok-hubs.field-0 c.in_ok-hubs.ensures.looks c.in-Rows.hubs c.in-Rows.is
    (λ t register. t.hubs ≡ c.as_slice.result.now → Rising t → IsHeldBy t register)
    (λ t is register it. it (sym is ∙ sym c.as_slice.ensures))
    (state g.S.Store c.register_of_hubs.new.conn) c.register_of_hubs.result c.register_of_hubs.ensures.looks)

pub returns-in-Unclean-clause-looks : goal.returns-in-Unclean-clause-looks
returns-in-Unclean-clause-looks g c =
    none_read hub_key clean_hub (λ t. t.hubs) IsHeldBy (state g.S.Store c.args.conn.now) (state g.S.Store c.every_hub.new.conn)
    c.in_ok-hubs.field-0 c.in_ok-hubs.ensures.looks (λ t bad. no_hubs t bad) c.in-Unclean._key c.in-Unclean.is
