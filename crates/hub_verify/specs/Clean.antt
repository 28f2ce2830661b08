-- Rows without the form of their kind.
use Rattle.std.specs.Prelude.{◌≡◌, true, Option, None, Some}
use Rattle.std.specs.List.{list_all}
use Rattle.hub_sound.specs.declared.finding.Finding.{Finding}
use Rattle.hub_sound.specs.declared.finding.RowKind.{RowKind}
use Rattle.hub_store.specs.Clean.{clean_hub, clean_key, clean_prefix, clean_order, clean_line, clean_advice, clean_pallet}
use Rattle.hub_store.specs.Clean.{clean_content, clean_receipt, clean_remembered, clean_mail}
use Rattle.hub_tables.specs.Tables.{Tables}
use Rattle.hub_pieces.specs.declared.all_rows.Read.{Read as Found}
use Rattle.hub_pieces.specs.declared.all_rows.Read.TheVariants.{Rows, Unclean}

-- the row without the form of its kind, if one was read
abbrev pub unclean_of : {X : Type 0} → RowKind → Found X → Option Finding
unclean_of kind (Rows rows) = None
unclean_of kind (Unclean key) = Some (record { kind = kind; key = key })

pub record PartiesAreClean (t : Tables) : Type 0 where
  pub hubs : list_all clean_hub t.hubs ≡ true
  pub keys : list_all clean_key t.keys ≡ true
  pub prefixes : list_all clean_prefix t.prefixes ≡ true

pub record OrdersAreClean (t : Tables) : Type 0 where
  pub orders : list_all clean_order t.orders ≡ true
  pub lines : list_all clean_line t.lines ≡ true
  pub advices : list_all clean_advice t.advices ≡ true

pub record GoodsAreClean (t : Tables) : Type 0 where
  pub pallets : list_all clean_pallet t.pallets ≡ true
  pub contents : list_all clean_content t.contents ≡ true
  pub receipts : list_all clean_receipt t.receipts ≡ true

pub record MailIsClean (t : Tables) : Type 0 where
  pub remembered : list_all clean_remembered t.remembered ≡ true
  pub mail : list_all clean_mail t.mail ≡ true
