use Rattle.std.proofs.Common.{◌≡◌, Option, sym, ◌∙◌}
use Rattle.sqlite.specs.Held.{state}
use Rattle.hub_parties.specs.Rows.{RegisterRows}
use Rattle.hub_reads.proofs.Held.{no_keys}
use Rattle.hub_sound.specs.Finding.{supplier_key}
use Rattle.hub_store.specs.Clean.{clean_key}
use Rattle.hub_tables.specs.Sets.{Rising}
use Rattle.hub_tables.specs.Tables.{Tables}
use Rattle.hub_founding.specs.Founding.{IsHeldBy}
use Rattle.hub_audit.proofs.Held.{none_read, then_read}
use Rattle.hub_audit.proofs.register.register_of_hubs.Goals as goal

pub returns-in-Rows-clause-looks : goal.returns-in-Rows-clause-looks
returns-in-Rows-clause-looks g c =
    let says : Tables → Option RegisterRows → Type 0 = λ t register. t.hubs ≡ c.args.hubs.now → Rising t → IsHeldBy t register in
    then_read supplier_key clean_key (λ t. t.keys) says (state g.S.Store c.args.conn.now) (state g.S.Store c.every_supplier.new.conn)
    c.in_ok-keys.field-0 c.in_ok-keys.ensures.looks c.in-Rows.keys c.in-Rows.is
    (λ t register. t.hubs ≡ c.args.hubs.now → t.keys ≡ c.as_slice.result.now → Rising t → IsHeldBy t register)
    (λ t is register it hubs. it hubs (sym is ∙ sym c.as_slice.ensures))
    (state g.S.Store c.register_by.new.conn) c.register_by.result c.register_by.ensures.looks

pub returns-in-Unclean-clause-looks : goal.returns-in-Unclean-clause-looks
returns-in-Unclean-clause-looks g c =
    let says : Tables → Option RegisterRows → Type 0 = λ t register. t.hubs ≡ c.args.hubs.now → Rising t → IsHeldBy t register in
    none_read supplier_key clean_key (λ t. t.keys) says (state g.S.Store c.args.conn.now) (state g.S.Store c.every_supplier.new.conn)
    c.in_ok-keys.field-0 c.in_ok-keys.ensures.looks (λ t bad hubs rising. no_keys t bad) c.in-Unclean._key c.in-Unclean.is
