use Rattle.std.proofs.Common.{◌≡◌, ◌+◌, drop, get_or, map, sym, ap, ◌∙◌, length, arith}
use Rattle.std.proofs.lemmas.List.{length-map}
use Rattle.std.specs.BTreeMap.{values}
use Rattle.hub_parties.specs.Key.{is_party_key}
use Rattle.hub_parties.specs.Prefixes.{by_bytes}
use Rattle.hub_parties.specs.declared.row.SupplierRow.{SupplierRow}
use Rattle.hub_register.specs.Document.{row_with}
use Rattle.hub_register.specs.Entries.{row_in}
use Rattle.hub_register.specs.InOrder.{put, put_all, with_sorted_prefixes}
use Rattle.hub_register.specs.declared.document.SupplierStrings.{SupplierStrings}
use Rattle.hub_register.proofs.Rest.{same_row, at_place, rows_next, keys_next}
use Rattle.hub_register.proofs.columns.suppliers.Goals as goal

pub bounds-prefixes-place : goal.bounds-prefixes-place
bounds-prefixes-place c =
    let entries = c.args.entries.now in
    omega (
      arith,
      ap length c.requires.prefixes,
      length-map (map row_in entries) (λ (row : SupplierRow). by_bytes row.prefixes),
      length-map entries row_in,
      c.loop-place-test.true,
    )

pub loop-place-preserved : goal.loop-place-preserved
loop-place-preserved c =
    let entries = c.args.entries.now in
    let i = c.loop-place.place in
    let within = c.loop-place-test.true in
    let before = values c.loop-place.suppliers in
    let entry : SupplierStrings = c.index-entries-place.result in
    let there : SupplierStrings = get_or entries i entry in
    let key : entry.key.now ≡ there.key.now = ap (λ (e : SupplierStrings). e.key.now) c.index-entries-place.is in
    let row : SupplierRow = row_with c.index-glns-place.result c.index-prefixes-place.result entry.key.now in
    let is : with_sorted_prefixes (row_in there) ≡ row =
    same_row _ _ _ there (at_place entries i entry within (λ r. r.gln) _ _ c.requires.glns c.index-glns-place.is)
    (at_place entries i entry within (λ r. by_bytes r.prefixes) _ _ c.requires.prefixes c.index-prefixes-place.is) key in
    record {
      rows = c.loop-place.invariant.rows ∙ rows_next entries i entry within before
          ∙ ap (λ r. put_all (map with_sorted_prefixes (map row_in (drop (i + 1) entries))) (put r before)) is
          ∙ ap (put_all (map with_sorted_prefixes (map row_in (drop (i + 1) entries)))) (sym c.in_ok-put_supplier.ensures.rows);
      at_gln = c.in_ok-put_supplier.ensures.at_gln;
      right = c.loop-place.invariant.right
          ∙ keys_next entries i entry within (ap is_party_key (sym key) ∙ c.in_ok-put_supplier.ensures.key);
    }
