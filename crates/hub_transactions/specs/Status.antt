-- Defines when a status report cannot be written.
use Rattle.std.specs.Prelude.{◌≡◌, ◌⊎◌, ◌^◌, ◌≤◌, true, false, List, [], sum_by, None}
use Rattle.hub_tables.specs.Sets.{Has}
use Rattle.hub_tables.specs.State.{contents_of, receipts_of, is_announced}
use Rattle.hub_tables.specs.Tables.{Tables}
use Rattle.hub_tables.specs.declared.rows.LineRow.{LineRow}
use Rattle.hub_tables.specs.declared.rows.PalletRow.{PalletRow}
use Rattle.hub_order_lines.specs.KnownLines.{steps_up}
use Rattle.hub_acts.specs.HubTexts.Totals.{IsUnclean, pieces_of}

-- nothing was received of the pallet if it is announced
abbrev pub NoneReceived : Tables → PalletRow → Type 0
NoneReceived state pallet = is_announced pallet ≡ true → receipts_of state pallet.sscc ≡ []

-- A supplier sees everything on a pallet, and nothing was received of it if it is announced.
pub record SeesPallet (state t : Tables) (pallet : PalletRow) : Type 0 where
  pub contents : contents_of t pallet.sscc ≡ contents_of state pallet.sscc
  pub receipts : receipts_of t pallet.sscc ≡ receipts_of state pallet.sscc
  pub none : NoneReceived state pallet

-- a content of one of the pallets names no line, or the sum of its pieces exceeds 64 bits
pub record PalletUnclean (state : Tables) (lines : List LineRow) (pallets : List PalletRow) : Type 0 where
  pub pallet : PalletRow
  pub there : Has pallets pallet
  pub unclean : IsUnclean lines (contents_of state pallet.sscc) (receipts_of state pallet.sscc)

-- the lines do not rise, or a pallet's pieces cannot be counted
abbrev pub StatusUnclean : Tables → Type 0
StatusUnclean state = (steps_up None state.lines ≡ false) ⊎ PalletUnclean state state.lines state.pallets

-- the pieces received of one of the pallets together exceed 64 bits
pub record TooMuchReceived (state : Tables) : Type 0 where
  pub pallet : PalletRow
  pub there : Has state.pallets pallet
  pub past : 2 ^ 64 ≤ sum_by pieces_of (receipts_of state pallet.sscc)
