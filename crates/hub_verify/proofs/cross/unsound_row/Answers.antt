use Rattle.std.proofs.Common.{◌≡◌, true}
use Rattle.std.specs.List.{list_all}
use Rattle.hub_sound.specs.Showing.{has_order, is_on_pallet, is_of_received, goes_on}
use Rattle.hub_tables.specs.Tables.{Tables}
use Rattle.hub_verify.specs.Cross.{PartiesFit, RowsFit}
use Rattle.hub_verify.proofs.Findings.{go_on_unsound, stop_unsound}
use Rattle.hub_verify.proofs.cross.unsound_row.Goals as goal

pub returns-in-Some : goal.returns-in-Some
returns-in-Some g c =
    stop_unsound g.S.AllRows.content g.S.AllRows.honest PartiesFit RowsFit c.args.store.now c.unsound_party.new.store
    c.in_ok-party.party c.in-Some.found c.in-Some.is c.in_ok-party.ensures

pub returns-in-Some-line : goal.returns-in-Some-line
returns-in-Some-line g c =
    go_on_unsound g.S.AllRows.content g.S.AllRows.honest PartiesFit RowsFit RowsFit c.args.store.now c.unsound_party.new.store
    c.unordered_line.new.store c.in_ok-party.party c.in_default.is (λ t p r. r) c.in_ok-party.ensures _
    (stop_unsound g.S.AllRows.content g.S.AllRows.honest (λ (t : Tables). list_all (has_order t) t.lines ≡ true) RowsFit
    c.unsound_party.new.store c.unordered_line.new.store c.in_ok-line.line c.in-Some-line.found c.in-Some-line.is
    c.in_ok-line.ensures)

pub returns-in-Some-content : goal.returns-in-Some-content
returns-in-Some-content g c =
    go_on_unsound g.S.AllRows.content g.S.AllRows.honest PartiesFit RowsFit RowsFit c.args.store.now c.unsound_party.new.store
    c.unplaced_content.new.store c.in_ok-party.party c.in_default.is (λ t p r. r) c.in_ok-party.ensures _
    (go_on_unsound g.S.AllRows.content g.S.AllRows.honest (λ (t : Tables). list_all (has_order t) t.lines ≡ true) RowsFit RowsFit
    c.unsound_party.new.store c.unordered_line.new.store c.unplaced_content.new.store c.in_ok-line.line c.in_default-line.is (λ t p
    r. r) c.in_ok-line.ensures _
    (stop_unsound g.S.AllRows.content g.S.AllRows.honest (λ (t : Tables). list_all (is_on_pallet t) t.contents ≡ true) RowsFit
    c.unordered_line.new.store c.unplaced_content.new.store c.in_ok-content.content c.in-Some-content.found c.in-Some-content.is
    c.in_ok-content.ensures))

pub returns-in-Some-receipt : goal.returns-in-Some-receipt
returns-in-Some-receipt g c =
    go_on_unsound g.S.AllRows.content g.S.AllRows.honest PartiesFit RowsFit RowsFit c.args.store.now c.unsound_party.new.store
    c.unreceived_receipt.new.store c.in_ok-party.party c.in_default.is (λ t p r. r) c.in_ok-party.ensures _
    (go_on_unsound g.S.AllRows.content g.S.AllRows.honest (λ (t : Tables). list_all (has_order t) t.lines ≡ true) RowsFit RowsFit
    c.unsound_party.new.store c.unordered_line.new.store c.unreceived_receipt.new.store c.in_ok-line.line c.in_default-line.is (λ t
    p r. r) c.in_ok-line.ensures _
    (go_on_unsound g.S.AllRows.content g.S.AllRows.honest (λ (t : Tables). list_all (is_on_pallet t) t.contents ≡ true) RowsFit
    RowsFit c.unordered_line.new.store c.unplaced_content.new.store c.unreceived_receipt.new.store c.in_ok-content.content
    c.in_default-content.is (λ t p r. r) c.in_ok-content.ensures _
    (stop_unsound g.S.AllRows.content g.S.AllRows.honest (λ (t : Tables). list_all (is_of_received t) t.receipts ≡ true) RowsFit
    c.unplaced_content.new.store c.unreceived_receipt.new.store c.in_ok-receipt.receipt c.in-Some-receipt.found
    c.in-Some-receipt.is c.in_ok-receipt.ensures)))

pub returns : goal.returns
returns g c =
    go_on_unsound g.S.AllRows.content g.S.AllRows.honest PartiesFit (λ (t : Tables). (λ (t : Tables). list_all (has_order t)
    t.lines ≡ true) t × (λ (t : Tables). (λ (t : Tables). list_all (is_on_pallet t) t.contents ≡ true) t × (λ (t : Tables). (λ (t :
    Tables). list_all (is_of_received t) t.receipts ≡ true) t × (λ (t : Tables). list_all (goes_on t) t.mail ≡ true) t) t) t)
    RowsFit c.args.store.now c.unsound_party.new.store c.lost_entry.new.store c.in_ok-party.party c.in_default.is (λ t a q. record
    { parties = a; orders = q.0; contents = q.1.0; receipts = q.1.1.0; mail = q.1.1.1 }) c.in_ok-party.ensures c.lost_entry.result
    (go_on_unsound g.S.AllRows.content g.S.AllRows.honest (λ (t : Tables). list_all (has_order t) t.lines ≡ true) (λ (t : Tables).
    (λ (t : Tables). list_all (is_on_pallet t) t.contents ≡ true) t × (λ (t : Tables). (λ (t : Tables). list_all (is_of_received t)
    t.receipts ≡ true) t × (λ (t : Tables). list_all (goes_on t) t.mail ≡ true) t) t) (λ (t : Tables). (λ (t : Tables). list_all
    (has_order t) t.lines ≡ true) t × (λ (t : Tables). (λ (t : Tables). list_all (is_on_pallet t) t.contents ≡ true) t × (λ (t :
    Tables). (λ (t : Tables). list_all (is_of_received t) t.receipts ≡ true) t × (λ (t : Tables). list_all (goes_on t) t.mail ≡
    true) t) t) t) c.unsound_party.new.store c.unordered_line.new.store c.lost_entry.new.store c.in_ok-line.line
    c.in_default-line.is (λ t p q. (p, q)) c.in_ok-line.ensures c.lost_entry.result
    (go_on_unsound g.S.AllRows.content g.S.AllRows.honest (λ (t : Tables). list_all (is_on_pallet t) t.contents ≡ true) (λ (t :
    Tables). (λ (t : Tables). list_all (is_of_received t) t.receipts ≡ true) t × (λ (t : Tables). list_all (goes_on t) t.mail ≡
    true) t) (λ (t : Tables). (λ (t : Tables). list_all (is_on_pallet t) t.contents ≡ true) t × (λ (t : Tables). (λ (t : Tables).
    list_all (is_of_received t) t.receipts ≡ true) t × (λ (t : Tables). list_all (goes_on t) t.mail ≡ true) t) t)
    c.unordered_line.new.store c.unplaced_content.new.store c.lost_entry.new.store c.in_ok-content.content c.in_default-content.is
    (λ t p q. (p, q)) c.in_ok-content.ensures c.lost_entry.result
    (go_on_unsound g.S.AllRows.content g.S.AllRows.honest (λ (t : Tables). list_all (is_of_received t) t.receipts ≡ true) (λ (t :
    Tables). list_all (goes_on t) t.mail ≡ true) (λ (t : Tables). (λ (t : Tables). list_all (is_of_received t) t.receipts ≡ true) t
    × (λ (t : Tables). list_all (goes_on t) t.mail ≡ true) t) c.unplaced_content.new.store c.unreceived_receipt.new.store
    c.lost_entry.new.store c.in_ok-receipt.receipt c.in_default-receipt.is (λ t p q. (p, q)) c.in_ok-receipt.ensures
    c.lost_entry.result
    c.lost_entry.ensures)))
