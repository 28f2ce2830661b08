-- Which rows show that tables are not clean or not sound, and what is left to know where none does.
use Rattle.std.specs.Prelude.{◌≡◌, ◌⊎◌, ℕ, ◌-◌, ◌+◌, ◌==◌, Bool, true, false, ◌||◌, List, [], is_some}
use Rattle.std.specs.List.{AllByRecursion, list_all, list_any}
use Rattle.hub_founding.specs.Fits.{fits_pallet}
use Rattle.hub_founding.specs.Founding.{HoldsNone}
use Rattle.hub_rules.specs.Sound.{knows_line, was_received}
use Rattle.hub_store.specs.Clean.{clean_hub, clean_key, clean_prefix, clean_order, clean_line, clean_advice}
use Rattle.hub_store.specs.Clean.{clean_pallet, clean_content, clean_receipt, clean_remembered, clean_mail}
use Rattle.hub_tables.specs.Register.{HoldsRegister, register_of}
use Rattle.hub_tables.specs.Rows.{same}
use Rattle.hub_tables.specs.Sets.{Has}
use Rattle.hub_tables.specs.State.{knows_order, despatched, entry_at}
use Rattle.hub_tables.specs.Tables.{Tables, has_pallet, view}
use Rattle.hub_tables.specs.declared.rows.LineRow.{LineRow}
use Rattle.hub_tables.specs.declared.rows.ContentRow.{ContentRow}
use Rattle.hub_tables.specs.declared.rows.ReceiptRow.{ReceiptRow}
use Rattle.hub_tables.specs.declared.rows.MailRow.{MailRow}
use Rattle.hub_sound.specs.Finding.{RowKey, hub_key, supplier_key, prefix_key, order_key, line_key, advice_key, pallet_key}
use Rattle.hub_sound.specs.Finding.{content_key, receipt_key, remembered_key, mail_key}
use Rattle.hub_sound.specs.declared.finding.RowKind.{RowKind}
use Rattle.hub_sound.specs.declared.finding.RowKind.TheVariants.{Hub, Supplier, Prefix, Order, Line, Advice, Pallet}
use Rattle.hub_sound.specs.declared.finding.RowKind.TheVariants.{Content, Receipt, Remembered, Mail}

-- one of the rows fails the test, and has the key
abbrev pub FailsTest : {X : Type 0} → (X → RowKey) → (X → Bool) → List X → RowKey → Type 0
FailsTest {X} key_of test rows key = (row : X) × Has rows row × (test row ≡ false) × (key_of row ≡ key)

-- the row of this kind and key does not have the form of its kind
abbrev pub ShowsUnclean : Tables → RowKind → RowKey → Type 0
ShowsUnclean t Hub key = FailsTest hub_key clean_hub t.hubs key
ShowsUnclean t Supplier key = FailsTest supplier_key clean_key t.keys key
ShowsUnclean t Prefix key = FailsTest prefix_key clean_prefix t.prefixes key
ShowsUnclean t Order key = FailsTest order_key clean_order t.orders key
ShowsUnclean t Line key = FailsTest line_key clean_line t.lines key
ShowsUnclean t Advice key = FailsTest advice_key clean_advice t.advices key
ShowsUnclean t Pallet key = FailsTest pallet_key clean_pallet t.pallets key
ShowsUnclean t Content key = FailsTest content_key clean_content t.contents key
ShowsUnclean t Receipt key = FailsTest receipt_key clean_receipt t.receipts key
ShowsUnclean t Remembered key = FailsTest remembered_key clean_remembered t.remembered key
ShowsUnclean t Mail key = FailsTest mail_key clean_mail t.mail key

-- the supplier has the order of the line
abbrev pub has_order : Tables → LineRow → Bool
has_order t line = knows_order (view line.supplier t) line.number

-- ordered is open, refused, cancelled and despatched together
abbrev pub is_balanced : Tables → LineRow → Bool
is_balanced state line = line.ordered == line.open_qty + line.refused + line.cancelled + despatched state line

-- the line of the content is there
abbrev pub has_line : Tables → ContentRow → Bool
has_line state content = knows_line state content.number content.line

abbrev pub is_on_pallet : Tables → ContentRow → Bool
is_on_pallet t content = has_pallet t content.sscc

-- the pallet of the receipt was received
abbrev pub is_of_received : Tables → ReceiptRow → Bool
is_of_received t receipt = was_received t receipt.sscc

-- the entry is the first of its mailbox, or the one before it is there
abbrev pub goes_on : Tables → MailRow → Bool
goes_on t entry = (entry.number == 1) || is_some (entry_at (view entry.supplier t) (entry.number - 1))

-- In clean tables, the row of this kind and key shows that they are not sound: a pallet that is under no prefix of its
-- supplier; a line without its order; a content without its pallet; a receipt of a pallet that was not received; an
-- entry after a gap; and among what some supplier sees a line that is out of balance, or a content without its line. If
-- the tables hold no register, no single row shows it, and the key is empty.
abbrev pub ShowsUnsound : Tables → RowKind → RowKey → Type 0
ShowsUnsound t Hub key = HoldsNone t × (key ≡ [])
ShowsUnsound t Pallet key = FailsTest pallet_key (fits_pallet (register_of t)) t.pallets key
ShowsUnsound t Line key =
    FailsTest line_key (has_order t) t.lines key
    ⊎ ((gln : List ℕ) × FailsTest line_key (is_balanced (view gln t)) (view gln t).lines key)
ShowsUnsound t Content key =
    FailsTest content_key (is_on_pallet t) t.contents key
    ⊎ ((gln : List ℕ) × FailsTest content_key (has_line (view gln t)) (view gln t).contents key)
ShowsUnsound t Receipt key = FailsTest receipt_key (is_of_received t) t.receipts key
ShowsUnsound t Mail key = FailsTest mail_key (goes_on t) t.mail key
ShowsUnsound t _ key = ⊥

-- each content of the rows has its line, and each line is balanced
pub record IsSettled (state : Tables) : Type 0 where
  pub contents : list_all (has_line state) state.contents ≡ true
  pub lines : list_all (is_balanced state) state.lines ≡ true

-- what was checked of the rows of all, and of the goods of each of some suppliers, among them each that has a line or a
-- pallet
pub record PassesChecks (t : Tables) (glns : List (List ℕ)) : Type 0 where
  pub register : HoldsRegister t
  pub pallets : list_all (fits_pallet (register_of t)) t.pallets ≡ true
  pub orders : list_all (has_order t) t.lines ≡ true
  pub contents : list_all (is_on_pallet t) t.contents ≡ true
  pub receipts : list_all (is_of_received t) t.receipts ≡ true
  pub mail : list_all (goes_on t) t.mail ≡ true
  pub settled : AllByRecursion (λ gln. IsSettled (view gln t)) glns
  pub of_lines : list_all (λ line. list_any (same line.supplier) glns) t.lines ≡ true
  pub of_pallets : list_all (λ pallet. list_any (same pallet.supplier) glns) t.pallets ≡ true
