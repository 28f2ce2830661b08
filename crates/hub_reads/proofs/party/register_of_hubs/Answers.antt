use Rattle.std.proofs.Common.{◌≡◌, Option, Err, false, rules, sym, subst, ◌∙◌}
use Rattle.std.specs.List.{list_all}
use Rattle.sqlite.specs.Held.{state}
use Rattle.hub_founding.specs.Founding.{IsHeldBy, HoldsNone}
use Rattle.hub_tables.specs.Sets.{Rising}
use Rattle.hub_tables.specs.Tables.{Tables}
use Rattle.hub_parties.specs.Rows.{RegisterRows}
use Rattle.hub_schema.specs.State.{LooksIn}
use Rattle.hub_store.specs.Clean.{clean_key}
use Rattle.hub_reads.proofs.Held.{no_keys}
use Rattle.hub_rows.proofs.Joining.{failed_for, held_then}
use Rattle.hub_reads.proofs.party.register_of_hubs.Goals as goal

pub returns : goal.returns
returns g c =
    held_then (λ t rows. rows ≡ t.keys)
    (λ t register. t.hubs ≡ c.args.hubs.now → t.keys ≡ c.as_slice.result.now → Rising t → IsHeldBy t register)
    (λ t register. t.hubs ≡ c.args.hubs.now → Rising t → IsHeldBy t register) _ HoldsNone HoldsNone
    (state g.S.Store c.args.conn.now) (state g.S.Store c.all_keys.new.conn) (state g.S.Store c.register_by.new.conn) c.in_ok-keys.keys
    (λ t is register held hubs. held hubs (sym is ∙ sym c.as_slice.ensures)) (λ t is none. none)
    c.in_ok-keys.ensures.looks c.register_by.result c.register_by.ensures

pub returns-in_err-keys : goal.returns-in_err-keys
returns-in_err-keys g c =
    let fault = c.in_err-keys.field-0.0 in
    let given : c.from_residual.result ≡ Err fault = search rules in
    let says : Tables → Option RegisterRows → Type 0 = λ t register. t.hubs ≡ c.args.hubs.now → Rising t → IsHeldBy t register in
    let old = state g.S.Store c.args.conn.now in
    let new = state g.S.Store c.all_keys.new.conn in
    let looks = subst (LooksIn (λ t rows. rows ≡ t.keys)
    (λ t. list_all clean_key t.keys ≡ false) old new) c.in_err-keys.was c.all_keys.ensures.looks in
    subst (LooksIn says HoldsNone old new) (sym given)
    (failed_for (λ t rows. rows ≡ t.keys) says (λ t. list_all clean_key t.keys ≡ false) HoldsNone old new no_keys fault looks)
