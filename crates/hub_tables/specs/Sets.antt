-- Defines when tables are sets of rows, and which changes keep them so.
use Rattle.std.specs.Prelude.{◌≡◌, ◌⊎◌, ⊤, Bool, true, false, List, [], ◌∷◌}
use Rattle.hub_parties.specs.KeyOrder.{Rises}
use Rattle.hub_tables.specs.Change.{apply}
use Rattle.hub_tables.specs.declared.change.Change.{Change}
use Rattle.hub_tables.specs.declared.change.Change.TheVariants.{ClearReceipts}
use Rattle.hub_tables.specs.Rows.{hub_cmp, key_cmp, prefix_cmp}
use Rattle.hub_tables.specs.Rows.{order_cmp, line_cmp, advice_cmp, pallet_cmp, content_cmp, receipt_cmp, remembered_cmp}
use Rattle.hub_tables.specs.Rows.{mail_cmp}
use Rattle.hub_tables.specs.Tables.{Tables}

-- the row is in the list
abbrev pub Has : {X : Type 0} → List X → X → Type 0
Has [] x = ⊥
Has (y ∷ ys) x = (x ≡ y) ⊎ Has ys x

pub record SameSet {X : Type 0} (xs ys : List X) : Type 0 where
  pub there : (x : X) → Has xs x → Has ys x
  pub back : (x : X) → Has ys x → Has xs x

-- the keys of each kind rise strictly
pub record Rising (t : Tables) : Type 0 where
  pub hubs : Rises hub_cmp t.hubs
  pub keys : Rises key_cmp t.keys
  pub prefixes : Rises prefix_cmp t.prefixes
  pub orders : Rises order_cmp t.orders
  pub lines : Rises line_cmp t.lines
  pub advices : Rises advice_cmp t.advices
  pub pallets : Rises pallet_cmp t.pallets
  pub contents : Rises content_cmp t.contents
  pub receipts : Rises receipt_cmp t.receipts
  pub remembered : Rises remembered_cmp t.remembered
  pub mail : Rises mail_cmp t.mail

-- whether the change deletes rows
abbrev pub clears : Change → Bool
clears (ClearReceipts sscc) = true
clears change = false

-- before a change that deletes rows, the keys of each kind rise strictly
abbrev pub RisesAt : Change → Tables → Type 0
RisesAt (ClearReceipts sscc) t = Rising t
RisesAt change t = ⊤

-- Changes fit if the keys of each kind rise strictly after all of them, and before each change that deletes rows. So
-- each key that they add is new: a row that is added twice does not fit, even if a later change deletes it.
abbrev pub Fit : List Change → Tables → Type 0
Fit [] t = Rising t
Fit (change ∷ changes) t = RisesAt change t × Fit changes (apply change t)

-- both have the same rows of each kind
pub record SameRows (t u : Tables) : Type 0 where
  pub hubs : SameSet t.hubs u.hubs
  pub keys : SameSet t.keys u.keys
  pub prefixes : SameSet t.prefixes u.prefixes
  pub orders : SameSet t.orders u.orders
  pub lines : SameSet t.lines u.lines
  pub advices : SameSet t.advices u.advices
  pub pallets : SameSet t.pallets u.pallets
  pub contents : SameSet t.contents u.contents
  pub receipts : SameSet t.receipts u.receipts
  pub remembered : SameSet t.remembered u.remembered
  pub mail : SameSet t.mail u.mail
