-- Shows that what a supplier sees is its own.
use Rattle.std.proofs.Common.{◌≡◌, ℕ, true, List, filter, refl, ◌∙◌}
use Rattle.std.specs.List.{AllByRecursion}
use Rattle.hub_tables.specs.Rows.{key_cmp, prefix_cmp}
use Rattle.hub_tables.specs.Rows.{same, order_cmp, line_cmp, advice_cmp, pallet_cmp, content_cmp, receipt_cmp, remembered_cmp, mail_cmp}
use Rattle.hub_tables.specs.Tables.{Tables, Ordered, has_pallet, holds, view}
use Rattle.hub_tables.proofs.KeyOrder.{in_order_filter}
use Rattle.hub_tables.proofs.Lists.{same_is, all_weaker, all_passes}
use Rattle.hub_rules.specs.Sound.{IsOwn}
use Rattle.hub_rules.proofs.Prefixes.{holds_seen}

-- the view is in key order
pub ordered_view : (gln : List ℕ) (t : Tables) → Ordered t → Ordered (view gln t)
ordered_view gln t o = record {
  hubs = tt;
  keys = in_order_filter key_cmp (λ row. same row.supplier gln) t.keys o.keys;
  prefixes = in_order_filter prefix_cmp (λ row. same row.supplier gln) t.prefixes o.prefixes;
  orders = in_order_filter order_cmp (λ row. same row.supplier gln) t.orders o.orders;
  lines = in_order_filter line_cmp (λ row. same row.supplier gln) t.lines o.lines;
  advices = in_order_filter advice_cmp (λ row. same row.supplier gln) t.advices o.advices;
  pallets = in_order_filter pallet_cmp (λ row. same row.supplier gln) t.pallets o.pallets;
  contents = in_order_filter content_cmp (λ row. holds gln t.pallets row.sscc) t.contents o.contents;
  receipts = in_order_filter receipt_cmp (λ row. holds gln t.pallets row.sscc) t.receipts o.receipts;
  remembered = in_order_filter remembered_cmp (λ row. same row.supplier gln) t.remembered o.remembered;
  mail = in_order_filter mail_cmp (λ row. same row.supplier gln) t.mail o.mail;
}

-- rows that are picked by a GLN have it
picked : {X : Type 0} (gln : List ℕ) (supplier : X → List ℕ) (rows : List X)
    → AllByRecursion (λ row. supplier row ≡ gln) (filter (λ row. same (supplier row) gln) rows)
picked gln supplier rows =
    all_weaker (λ row. same (supplier row) gln ≡ true) (λ row. supplier row ≡ gln) (λ row e. same_is (supplier row) gln e)
    (filter (λ row. same (supplier row) gln) rows) (all_passes (λ row. same (supplier row) gln) rows)

-- rows of pallets that a supplier has are rows of pallets that it sees
on_seen : {X : Type 0} (gln : List ℕ) (t : Tables) (sscc : X → List ℕ) (rows : List X)
    → AllByRecursion (λ row. has_pallet (view gln t) (sscc row) ≡ true) (filter (λ row. holds gln t.pallets (sscc row)) rows)
on_seen gln t sscc rows =
    all_weaker (λ row. holds gln t.pallets (sscc row) ≡ true) (λ row. has_pallet (view gln t) (sscc row) ≡ true)
    (λ row e. holds_seen gln t.pallets (sscc row) ∙ e)
    (filter (λ row. holds gln t.pallets (sscc row)) rows) (all_passes (λ row. holds gln t.pallets (sscc row)) rows)

pub view_own : (gln : List ℕ) (t : Tables) → Ordered t → IsOwn gln (view gln t)
view_own gln t ordered = record {
  ordered = ordered_view gln t ordered;
  hubs = refl;
  keys = picked gln (λ row. row.supplier) t.keys;
  prefixes = picked gln (λ row. row.supplier) t.prefixes;
  orders = picked gln (λ row. row.supplier) t.orders;
  lines = picked gln (λ row. row.supplier) t.lines;
  advices = picked gln (λ row. row.supplier) t.advices;
  pallets = picked gln (λ row. row.supplier) t.pallets;
  contents = on_seen gln t (λ row. row.sscc) t.contents;
  receipts = on_seen gln t (λ row. row.sscc) t.receipts;
  remembered = picked gln (λ row. row.supplier) t.remembered;
  mail = picked gln (λ row. row.supplier) t.mail;
}
