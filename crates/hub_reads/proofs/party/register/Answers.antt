use Rattle.std.proofs.Common.{◌≡◌, Err, false, rules, sym, subst, ◌∙◌}
use Rattle.std.specs.List.{list_all}
use Rattle.sqlite.specs.Held.{state}
use Rattle.hub_founding.specs.Founding.{IsHeldBy, HoldsNone}
use Rattle.hub_tables.specs.Sets.{Rising}
use Rattle.hub_schema.specs.State.{LooksIn}
use Rattle.hub_store.specs.Clean.{clean_hub}
use Rattle.hub_reads.proofs.Held.{no_hubs}
use Rattle.hub_rows.proofs.Joining.{as_it_rises, failed_for, held_then}
use Rattle.hub_reads.proofs.party.register.Goals as goal

pub returns : goal.returns
returns g c =
    as_it_rises IsHeldBy HoldsNone (state g.S.Store c.args.conn.now) (state g.S.Store c.register_of_hubs.new.conn) c.register_of_hubs.result
    (held_then (λ t rows. rows ≡ t.hubs) (λ t register. t.hubs ≡ c.as_slice.result.now → Rising t → IsHeldBy t register)
    (λ t register. Rising t → IsHeldBy t register) _ HoldsNone HoldsNone
    (state g.S.Store c.args.conn.now) (state g.S.Store c.all_hubs.new.conn) (state g.S.Store c.register_of_hubs.new.conn) c.in_ok-hubs.hubs
    (λ t is register held. held (sym is ∙ sym c.as_slice.ensures)) (λ t is none. none)
    c.in_ok-hubs.ensures.looks c.register_of_hubs.result c.register_of_hubs.ensures)

pub returns-in_err-hubs : goal.returns-in_err-hubs
returns-in_err-hubs g c =
    let fault = c.in_err-hubs.field-0.0 in
    let given : c.from_residual.result ≡ Err fault = search rules in
    let old = state g.S.Store c.args.conn.now in
    let new = state g.S.Store c.all_hubs.new.conn in
    let looks = subst (LooksIn (λ t rows. rows ≡ t.hubs)
    (λ t. list_all clean_hub t.hubs ≡ false) old new) c.in_err-hubs.was c.all_hubs.ensures.looks in
    subst (LooksIn IsHeldBy HoldsNone old new) (sym given)
    (failed_for (λ t rows. rows ≡ t.hubs) IsHeldBy (λ t. list_all clean_hub t.hubs ≡ false) HoldsNone old new no_hubs fault looks)
