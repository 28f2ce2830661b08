-- Shows that setting a row leaves the tables as they were if no row has its key.
use Rattle.std.proofs.Common.{◌&&◌, ◌||◌, ◌≡◌, Bool, cond, true, false, List, [], ◌∷◌, ap, ap₂, refl}
use Rattle.std.specs.List.{list_any}
use Rattle.hub_tables.specs.Change.{apply_all}
use Rattle.hub_parties.specs.KeyOrder.{replace}
use Rattle.hub_tables.specs.Rows.{same_hub, same_key, same_line, same_pallet, same_mail}
use Rattle.hub_tables.specs.Tables.{Tables}
use Rattle.hub_tables.specs.declared.change.Change.{Change}
use Rattle.hub_tables.specs.declared.change.Change.TheVariants.{SetHub, SetKey, SetLine, SetPallet, SetMail}
use Rattle.hub_store.specs.Calls.{have_places}

neither : (a b : Bool) → (a || b) ≡ false → (a ≡ false) × (b ≡ false)
neither true b h = absurd cc
neither false b h = (refl, h)

none_replaced : {X : Type 0} (at : X → Bool) (row : X) (xs : List X) → list_any at xs ≡ false → replace at row xs ≡ xs
none_replaced at row [] none = refl
none_replaced at row (x ∷ xs) none =
    let parts = neither (at x) (list_any at xs) none in
    ap₂ ◌∷◌ (ap (λ b. cond b row x) parts.0) (none_replaced at row xs parts.1)

first_none : (a : Bool) → (a && true) ≡ false → a ≡ false
first_none true h = h
first_none false h = refl

pub unplaced : (change : Change) (t : Tables) → have_places (change ∷ []) t ≡ false → apply_all (change ∷ []) t ≡ t
unplaced (SetHub row) t none =
    ap (λ rows. record t { hubs = rows })
    (none_replaced (same_hub row) row t.hubs (first_none (list_any (same_hub row) t.hubs) none))
unplaced (SetKey row) t none =
    ap (λ rows. record t { keys = rows })
    (none_replaced (same_key row) row t.keys (first_none (list_any (same_key row) t.keys) none))
unplaced (SetLine row) t none =
    ap (λ rows. record t { lines = rows })
    (none_replaced (same_line row) row t.lines (first_none (list_any (same_line row) t.lines) none))
unplaced (SetPallet row) t none =
    ap (λ rows. record t { pallets = rows })
    (none_replaced (same_pallet row) row t.pallets (first_none (list_any (same_pallet row) t.pallets) none))
unplaced (SetMail row) t none =
    ap (λ rows. record t { mail = rows })
    (none_replaced (same_mail row) row t.mail (first_none (list_any (same_mail row) t.mail) none))
unplaced change t none = absurd cc
