-- Defines what a join does to the hub's register, and the reply to it.
use Rattle.std.specs.Prelude.{◌≡◌, ◌≢◌, ◌⊎◌, true, ℕ, List, if◌then◌else◌, Some}
use Rattle.hub_parties.specs.Rows.{RegisterRows, parties_of, row_of}
use Rattle.hub_parties.specs.declared.row.SupplierRow.{SupplierRow}
use Rattle.hub_register.specs.Joined.{joined_by}
use Rattle.hub_texts.specs.HubRules.JoinRules.{joins}
use Rattle.hub_clean.specs.HubLaw.Replies.{act_reply}
use Rattle.hub_clean.specs.HubLaw.Told.{Accepted}
use Rattle.hub_texts.specs.HubRequests.declared.reply.Reply.{Reply}

-- the register with the supplier, if it accepts it
abbrev pub after_join : SupplierRow → RegisterRows → RegisterRows
after_join row register = if joins register row then joined_by row register else register

-- Either the reply says that the join is accepted, and the register accepts the supplier and has its row; or it says
-- something else, and the register is as before.
abbrev pub MovesBy : SupplierRow → RegisterRows → RegisterRows → Reply → Type 0
MovesBy row old new reply =
    ((reply ≡ act_reply Accepted) × (joins old row ≡ true) × (new ≡ joined_by row old))
    ⊎ ((reply ≢ act_reply Accepted) × (new ≡ old))

-- hub and retailer stay as they were, with the retailer's key, and suppliers that were registered keep their rows
pub record KeepsRows (old new : RegisterRows) : Type 0 where
  pub parties : parties_of new ≡ parties_of old
  pub key : new.retailer_key ≡ old.retailer_key
  pub rows : (gln : List ℕ) (s : SupplierRow) → row_of old gln ≡ Some s → row_of new gln ≡ Some s
