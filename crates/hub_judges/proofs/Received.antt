-- Shows that units are decided from their pallets as from the state that has them.
use Rattle.std.proofs.Common.{◌≡◌, ℕ, ◌+◌, Bool, true, false, cond, not, ◌&&◌, ◌||◌, ◌⊎◌, inl, inr, List, [], ◌∷◌, ◌++◌, length, map}
use Rattle.std.proofs.Common.{find, Option, Some, None, option_map, refl, sym, ◌∙◌, ap, ap₂, append_assoc, arith}
use Rattle.edi_base.proofs.Twice.{bytes_eq-sym}
use Rattle.edi_goods.specs.declared.receipt.Receipt.{Receipt}
use Rattle.edi_goods.specs.declared.receipt.ReceiptLine.{ReceiptLine}
use Rattle.edi_goods.specs.declared.receipt.ReceiptUnit.{ReceiptUnit}
use Rattle.hub_tables.specs.Cases.{arrival_number}
use Rattle.hub_tables.specs.Change.{apply, apply_all}
use Rattle.hub_parties.specs.KeyOrder.{replace}
use Rattle.hub_tables.specs.Rows.{same, same_pallet}
use Rattle.hub_tables.specs.State.{pallet_of, is_announced}
use Rattle.hub_tables.specs.Tables.{Tables}
use Rattle.hub_tables.specs.declared.cases.MailKind.TheVariants as kinds
use Rattle.hub_tables.specs.declared.change.Change.{Change}
use Rattle.hub_tables.specs.declared.change.Change.TheVariants.{SetPallet, ClearReceipts}
use Rattle.hub_tables.specs.declared.rows.PalletRow.{PalletRow}
use Rattle.hub_tables.proofs.Lists.{decide, same_is, same_if, all_always, all_found}
use Rattle.hub_rules.specs.Judging.{Judge, refuse_if, given, joined, goes_on, in_order}
use Rattle.hub_rules.specs.MailboxRules.{is_full, mail_entry}
use Rattle.hub_rules.specs.ReceiptRules.{gtins, new_receipt, arrival_by, cleared, judge_received, judge_new_receipt}
use Rattle.hub_rules.specs.declared.code.Code.TheVariants.{NoPallet, PalletReceived, MailboxFull}
use Rattle.hub_rules.specs.declared.incoming.IncomingMessage.{IncomingMessage}
use Rattle.hub_rules.specs.declared.verdict.Verdict.{Verdict}
use Rattle.hub_rules.specs.declared.verdict.Verdict.TheVariants.{Accept, Refuse}
use Rattle.hub_judges.specs.FromFacts.{no_sscc, and_sscc, received, receipts_from}

-- if neither the new row nor the replaced one passes, replacing does not change what is found
find_replace_out : {X : Type 0} (p at : X → Bool) (r : X) (xs : List X)
    → p r ≡ false
    → ((y : X) → at y ≡ true → p y ≡ false)
    → find p (replace at r xs) ≡ find p xs
find_replace_out p at r [] out all = refl
find_replace_out p at r (y ∷ ys) out all =
    let ih = find_replace_out p at r ys out all in
    elim (decide (at y)) [
      | inl e ↦ let py : p y ≡ false = all y e in grind (arith, e, out, py, ih)
      | inr e ↦ elim (decide (p y)) [ inl py ↦ grind (arith, e, py, ih) | inr py ↦ grind (arith, e, py, ih) ]
    ]

-- a row that is found and replaced is found in its new form
find_replace_in : {X : Type 0} (p at : X → Bool) (r : X) (xs : List X) (x : X)
    → p r ≡ true
    → ((y : X) → at y ≡ p y)
    → find p xs ≡ Some x
    → find p (replace at r xs) ≡ Some r
find_replace_in p at r [] x out all found = cc
find_replace_in p at r (y ∷ ys) x out all found =
    elim (decide (p y)) [
      | inl e ↦ let ay : at y ≡ true = all y ∙ e in grind (arith, e, ay, out)
      | inr e ↦
          let ay : at y ≡ false = all y ∙ e in
          let later : find p ys ≡ Some x = sym (ap (λ v. cond v (Some y) (find p ys)) e) ∙ found in
          let ih = find_replace_in p at r ys x out all later in
          grind (arith, e, ay, ih)
    ]

receipts_keep : (sscc : List ℕ) (lines : List ReceiptLine) (gtins : List (List ℕ)) (state : Tables)
    → (apply_all (map (new_receipt sscc lines) gtins) state).pallets ≡ state.pallets
receipts_keep sscc lines [] state = refl
receipts_keep sscc lines (gtin ∷ gtins) state = receipts_keep sscc lines gtins (apply (new_receipt sscc lines gtin) state)

sums_keep : (replaces : Bool) (sscc : List ℕ) (lines : List ReceiptLine) (gtins : List (List ℕ)) (state : Tables)
    → (apply_all (cleared replaces sscc ++ map (new_receipt sscc lines) gtins) state).pallets ≡ state.pallets
sums_keep true sscc lines gtins state = receipts_keep sscc lines gtins (apply (ClearReceipts sscc) state)
sums_keep false sscc lines gtins state = receipts_keep sscc lines gtins state

-- a pallet that is received
abbrev set_by : Bool → PalletRow → PalletRow
set_by replaces row = record row { received = arrival_number (arrival_by replaces) }

-- a unit that is received: its pallet, and the other pallets, which stay the same
module _ (replaces : Bool) (unit : ReceiptUnit) (state : Tables) (row : PalletRow) (found : pallet_of state unit.sscc ≡ Some row) where
  abbrev set : PalletRow
  set = set_by replaces row

  which : row.sscc ≡ unit.sscc
  which =
      same_is row.sscc unit.sscc (all_found (λ _. Unit {0}) (λ pallet. same pallet.sscc unit.sscc) state.pallets row
      (all_always (λ _. Unit {0}) (λ _. tt) state.pallets) found).1

  pallet_set : pallet_of (apply_all (received replaces row unit) state) unit.sscc ≡ Some set
  pallet_set =
      ap (find (λ pallet. same pallet.sscc unit.sscc))
      (sums_keep replaces unit.sscc unit.lines (gtins unit.lines) (apply (SetPallet set) state))
      ∙ find_replace_in (λ pallet. same pallet.sscc unit.sscc) (same_pallet set) set state.pallets row
      (same_if row.sscc unit.sscc which) (λ y. ap (same y.sscc) which) found

  pallet_kept : (sscc : List ℕ) → same unit.sscc sscc ≡ false →
      pallet_of (apply_all (received replaces row unit) state) sscc ≡ pallet_of state sscc
  pallet_kept sscc apart =
      ap (find (λ pallet. same pallet.sscc sscc)) (sums_keep replaces unit.sscc unit.lines (gtins unit.lines) (apply (SetPallet set) state))
      ∙ find_replace_out (λ pallet. same pallet.sscc sscc) (same_pallet set) set state.pallets
      (ap (λ v. same v sscc) which ∙ apart) (λ y at. ap (λ v. same v sscc) (same_is y.sscc row.sscc at ∙ which) ∙ apart)

-- a pallet after units of which one has its SSCC, or none
abbrev after_units : Bool → Bool → PalletRow → PalletRow
after_units replaces true row = set_by replaces row
after_units replaces false row = row

set_alike : (replaces came : Bool) (first : PalletRow)
    → set_by replaces (after_units replaces came first) ≡ set_by replaces first
set_alike replaces true first = refl
set_alike replaces false first = refl

-- if the advice does not replace, a pallet can be received once
taken_alike : (replaces came : Bool) (first : PalletRow)
    → (not replaces && not (is_announced (after_units replaces came first))) ≡ (not replaces && (came || not (is_announced first)))
taken_alike true came first = refl
taken_alike false true first = refl
taken_alike false false first = refl

-- the state after units with these SSCCs, compared with the pallets before them
abbrev IsAfter : Bool → (List ℕ → Option PalletRow) → (List ℕ → Bool) → Tables → Type 0
IsAfter replaces start came state =
    (sscc : List ℕ) → pallet_of state sscc ≡ option_map (after_units replaces (came sscc)) (start sscc)

module _ (replaces : Bool) (start : List ℕ → Option PalletRow) where
  -- one more unit, on a pallet as the earlier units left it
  after_one : (came : List ℕ → Bool) (unit : ReceiptUnit) (state : Tables) (first row : PalletRow)
      → IsAfter replaces start came state
      → start unit.sscc ≡ Some first
      → pallet_of state unit.sscc ≡ Some row
      → set_by replaces row ≡ set_by replaces first
      → IsAfter replaces start (and_sscc came unit.sscc) (apply_all (received replaces row unit) state)
  after_one came unit state first row is begun found alike sscc =
      let after : Tables = apply_all (received replaces row unit) state in
      let there : Bool → Option PalletRow → Option PalletRow = λ v pallet. option_map (after_units replaces v) pallet in
      elim (decide (same sscc unit.sscc)) [
        | inl e ↦
            ap (pallet_of after) (same_is sscc unit.sscc e)
            ∙ pallet_set replaces unit state row found
            ∙ ap Some alike
            ∙ sym (ap₂ there (ap (λ v. v || came sscc) e) (ap start (same_is sscc unit.sscc e) ∙ begun))
        | inr e ↦
            pallet_kept replaces unit state row found sscc (bytes_eq-sym unit.sscc sscc ∙ e)
            ∙ is sscc
            ∙ ap (λ v. there v (start sscc)) (sym (ap (λ v. v || came sscc) e))
      ]

  settled : (taken : Bool) (changes : List Change) (third : Judge) (state : Tables) (next : Verdict)
      → third (apply_all changes state) ≡ next
      → goes_on (refuse_if taken PalletReceived (Accept changes)) third state ≡ refuse_if taken PalletReceived (joined changes next)
  settled true changes third state next h = refl
  settled false changes third state next h = ap (joined changes) h

  -- a unit, then the decision on the rest
  module _ (came : List ℕ → Bool) (unit : ReceiptUnit) (rest : List ReceiptUnit) (state : Tables)
      (is : IsAfter replaces start came state)
      (ih : (later : List ℕ → Bool) (st : Tables) → IsAfter replaces start later st → in_order (judge_received replaces) rest st
      ≡ receipts_from replaces later rest (map (λ unit. start unit.sscc) rest)) where
    abbrev third : Judge
    third = in_order (judge_received replaces) rest

    abbrev next : Verdict
    next = receipts_from replaces (and_sscc came unit.sscc) rest (map (λ unit. start unit.sscc) rest)

    on_pallet : (first row : PalletRow) (taken : Bool)
        → start unit.sscc ≡ Some first
        → pallet_of state unit.sscc ≡ Some row
        → set_by replaces row ≡ set_by replaces first
        → goes_on (refuse_if taken PalletReceived (Accept (received replaces row unit))) third state
        ≡ refuse_if taken PalletReceived (joined (received replaces first unit) next)
    on_pallet first row taken begun found alike =
        let sums : List Change = cleared replaces unit.sscc ++ map (new_receipt unit.sscc unit.lines) (gtins unit.lines) in
        settled taken (received replaces row unit) third state next
        (ih (and_sscc came unit.sscc) (apply_all (received replaces row unit) state)
        (after_one came unit state first row is begun found alike))
        ∙ ap (λ pallet. refuse_if taken PalletReceived (joined (SetPallet pallet ∷ sums) next)) alike

    one : (first : Option PalletRow)
        → start unit.sscc ≡ first
        → pallet_of state unit.sscc ≡ option_map (after_units replaces (came unit.sscc)) first
        → goes_on
        (given (pallet_of state unit.sscc) NoPallet
        (λ row. refuse_if (not replaces && not (is_announced row)) PalletReceived (Accept (received replaces row unit))))
        third state
        ≡ receipts_from replaces came (unit ∷ rest) (first ∷ map (λ unit. start unit.sscc) rest)
    one None begun found =
        ap (λ pallet. goes_on
        (given pallet NoPallet
        (λ row. refuse_if (not replaces && not (is_announced row)) PalletReceived (Accept (received replaces row unit))))
        third state) found
    one (Some first) begun found =
        let row : PalletRow = after_units replaces (came unit.sscc) first in
        ap (λ pallet. goes_on
        (given pallet NoPallet
        (λ row. refuse_if (not replaces && not (is_announced row)) PalletReceived (Accept (received replaces row unit))))
        third state) found
        ∙ ap (λ taken. goes_on (refuse_if taken PalletReceived (Accept (received replaces row unit))) third state)
        (taken_alike replaces (came unit.sscc) first)
        ∙ on_pallet first row (not replaces && (came unit.sscc || not (is_announced first))) begun found
        (set_alike replaces (came unit.sscc) first)

  units_alike : (came : List ℕ → Bool) (units : List ReceiptUnit) (state : Tables)
      → IsAfter replaces start came state
      → in_order (judge_received replaces) units state ≡ receipts_from replaces came units (map (λ unit. start unit.sscc) units)
  units_alike came [] state is = refl
  units_alike came (unit ∷ rest) state is =
      one came unit rest state is (λ later st told. units_alike later rest st told) (start unit.sscc) refl (is unit.sscc)

-- at first each pallet is as it was
as_it_is : (replaces : Bool) (pallet : Option PalletRow) → pallet ≡ option_map (after_units replaces false) pallet
as_it_is replaces None = refl
as_it_is replaces (Some row) = refl

pub received_alike : (replaces : Bool) (units : List ReceiptUnit) (state : Tables) (pallets : List (Option PalletRow))
    → map (λ unit. pallet_of state unit.sscc) units ≡ pallets
    → in_order (judge_received replaces) units state ≡ receipts_from replaces no_sscc units pallets
received_alike replaces units state pallets told =
    units_alike replaces (pallet_of state) no_sscc units state (λ sscc. as_it_is replaces (pallet_of state sscc))
    ∙ ap (receipts_from replaces no_sscc units) told

joined_joined : (first second : List Change) (rest : Verdict) → joined first (joined second rest) ≡ joined (first ++ second) rest
joined_joined first second (Refuse code) = refl
joined_joined first second (Accept rest) = ap Accept (sym (append_assoc first second rest))

-- the code receives the next unit
pub unit_received : (replaces : Bool) (came later : List ℕ → Bool) (ahead units : List ReceiptUnit)
    (pallets rest : List (Option PalletRow)) (unit : ReceiptUnit) (row : PalletRow) (before after : List Change)
    → ahead ≡ unit ∷ units
    → pallets ≡ Some row ∷ rest
    → (not replaces && (came unit.sscc || not (is_announced row))) ≡ false
    → ((sscc : List ℕ) → later sscc ≡ and_sscc came unit.sscc sscc)
    → after ≡ before ++ received replaces row unit
    → joined before (receipts_from replaces came ahead pallets) ≡ joined after (receipts_from replaces later units rest)
unit_received replaces came later ahead units pallets rest unit row before after is is_row passes more put_on =
    let same_came : and_sscc came unit.sscc ≡ later = λ i sscc. sym (more sscc) i in
    let behind : Verdict = receipts_from replaces (and_sscc came unit.sscc) units rest in
    ap₂ (λ us pallets. joined before (receipts_from replaces came us pallets)) is is_row
    ∙ ap (λ taken. joined before (refuse_if taken PalletReceived (joined (received replaces row unit) behind))) passes
    ∙ joined_joined before (received replaces row unit) behind
    ∙ ap₂ (λ changes among. joined changes (receipts_from replaces among units rest)) (sym put_on) same_came

-- after the last unit
pub receipts_end : (replaces : Bool) (came : List ℕ → Bool) (units : List ReceiptUnit) (pallets : List (Option PalletRow))
    → (units ≡ []) ⊎ (pallets ≡ [])
    → receipts_from replaces came units pallets ≡ Accept []
receipts_end replaces came [] pallets ended = refl
receipts_end replaces came (unit ∷ units) [] ended = refl
receipts_end replaces came (unit ∷ units) (pallet ∷ pallets) ended = elim ended [ inl e ↦ cc | inr e ↦ cc ]

-- the decision on a new RECADV after its first change, if the mailbox has a number left
pub new_receipt_alike :
    (first : Change) (supplier : List ℕ) (incoming : IncomingMessage) (body : List ℕ) (receipt : Receipt) (state : Tables)
    (mails : ℕ) (pallets : List (Option PalletRow))
    → is_full mails ≡ false
    → length state.mail ≡ mails
    → map (λ unit. pallet_of state unit.sscc) receipt.units ≡ pallets
    → joined (first ∷ []) (judge_new_receipt supplier incoming body receipt state)
    ≡ joined (first ∷ mail_entry supplier (mails + 1) incoming kinds.Receipt receipt.number body ∷ [])
    (receipts_from receipt.replaces no_sscc receipt.units pallets)
new_receipt_alike first supplier incoming body receipt state mails pallets room counted told =
    let entry : ℕ → Change = λ n. mail_entry supplier (n + 1) incoming kinds.Receipt receipt.number body in
    let behind : ℕ → Verdict =
    λ n. joined (entry n ∷ []) (in_order (judge_received receipt.replaces) receipt.units (apply (entry n) state)) in
    ap (λ n. joined (first ∷ []) (refuse_if (is_full n) MailboxFull (behind n))) counted
    ∙ ap (λ full. joined (first ∷ []) (refuse_if full MailboxFull (behind mails))) room
    ∙ ap (λ rest. joined (first ∷ []) (joined (entry mails ∷ []) rest))
    (received_alike receipt.replaces receipt.units (apply (entry mails) state) pallets told)
    ∙ joined_joined (first ∷ []) (entry mails ∷ []) (receipts_from receipt.replaces no_sscc receipt.units pallets)
