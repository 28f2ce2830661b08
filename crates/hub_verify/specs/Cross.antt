-- Rows that lack what they name.
use Rattle.std.specs.Prelude.{◌≡◌, true, Option}
use Rattle.std.specs.List.{list_all}
use Rattle.hub_founding.specs.Fits.{fits_pallet}
use Rattle.hub_parties.specs.Rows.{RegisterRows}
use Rattle.hub_sound.specs.Finding.{pallet_key}
use Rattle.hub_sound.specs.Showing.{FailsTest, has_order, is_on_pallet, is_of_received, goes_on}
use Rattle.hub_sound.specs.declared.finding.Finding.{Finding}
use Rattle.hub_sound.specs.declared.finding.RowKind.TheVariants.{Pallet}
use Rattle.hub_tables.specs.Register.{HoldsRegister, register_of}
use Rattle.hub_tables.specs.Tables.{Tables}
use Rattle.hub_pieces.specs.Walk.{Told}

-- it is a pallet that is under no prefix that this register has for its supplier
abbrev pub ShowsUnrooted : RegisterRows → Tables → Finding → Type 0
ShowsUnrooted register t found = (found.kind ≡ Pallet) × FailsTest pallet_key (fits_pallet register) t.pallets found.key

-- each pallet is under a prefix that this register has for its supplier; or it is a pallet that is not
abbrev pub TellsRooted : RegisterRows → Tables → Option Finding → Type 0
TellsRooted register t = Told (list_all (fits_pallet register) t.pallets ≡ true) (ShowsUnrooted register t)

-- the tables hold a register, and each pallet is under a prefix of its supplier
pub record PartiesFit (t : Tables) : Type 0 where
  pub register : HoldsRegister t
  pub pallets : list_all (fits_pallet (register_of t)) t.pallets ≡ true

-- each row has what it names; of contents, the pallet
pub record RowsFit (t : Tables) : Type 0 where
  pub parties : PartiesFit t
  pub orders : list_all (has_order t) t.lines ≡ true
  pub contents : list_all (is_on_pallet t) t.contents ≡ true
  pub receipts : list_all (is_of_received t) t.receipts ≡ true
  pub mail : list_all (goes_on t) t.mail ≡ true
