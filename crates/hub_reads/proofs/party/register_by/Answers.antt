use Rattle.std.proofs.Common.{◌≡◌, Option, Err, false, rules, sym, subst, ◌∙◌}
use Rattle.std.specs.List.{list_all}
use Rattle.sqlite.specs.Held.{state}
use Rattle.hub_founding.specs.Founding.{IsHeldBy, HoldsNone}
use Rattle.hub_store.specs.Clean.{clean_prefix}
use Rattle.hub_tables.specs.Sets.{Rising}
use Rattle.hub_tables.specs.Tables.{Tables}
use Rattle.hub_parties.specs.Rows.{RegisterRows}
use Rattle.hub_schema.specs.State.{LooksIn}
use Rattle.hub_reads.proofs.Held.{no_prefixes}
use Rattle.hub_rows.proofs.Joining.{failed_for, found_on}
use Rattle.hub_reads.proofs.party.register_by.Goals as goal

pub returns : goal.returns
returns g c =
    found_on (λ t rows. rows ≡ t.prefixes) (λ t register. t.hubs ≡ c.args.hubs.now →
    t.keys ≡ c.args.keys.now → Rising t → IsHeldBy t register)
    _ HoldsNone (state g.S.Store c.args.conn.now)
    (state g.S.Store c.all_prefixes.new.conn) c.in_ok-prefixes.prefixes c.in_ok-register_of.field-0
    (λ t is hubs keys rising. c.in_ok-register_of.ensures t hubs keys (sym is ∙ sym c.as_slice.ensures) rising.keys rising.prefixes)
    c.in_ok-prefixes.ensures.looks

pub returns-in_err-prefixes : goal.returns-in_err-prefixes
returns-in_err-prefixes g c =
    let fault = c.in_err-prefixes.field-0.0 in
    let given : c.from_residual.result ≡ Err fault = search rules in
    let says : Tables → Option RegisterRows → Type 0 = λ t register. t.hubs ≡ c.args.hubs.now →
    t.keys ≡ c.args.keys.now → Rising t → IsHeldBy t register in
    let old = state g.S.Store c.args.conn.now in
    let new = state g.S.Store c.all_prefixes.new.conn in
    let looks = subst (LooksIn (λ t rows. rows ≡ t.prefixes)
    (λ t. list_all clean_prefix t.prefixes ≡ false) old new) c.in_err-prefixes.was c.all_prefixes.ensures.looks in
    subst (LooksIn says HoldsNone old new) (sym given)
    (failed_for (λ t rows. rows ≡ t.prefixes) says
    (λ t. list_all clean_prefix t.prefixes ≡ false) HoldsNone old new no_prefixes fault looks)
