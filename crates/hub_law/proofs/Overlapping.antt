-- Shows by example that suppliers are not kept apart if one prefix begins another.
use Rattle.std.proofs.Common.{◌≡◌, true, false, [], ◌∷◌, codes, refl, arith}
use Rattle.std.specs.Fmt.{digits}
use Rattle.edi_envelope.specs.Interchange.{interchange_of, fault_of, contents_of, is_framed, is_row_of_messages, is_outside_set}
use Rattle.gs1_ids.specs.Overlap.{PrefixFree}
use Rattle.edi_orders.specs.Order.{order_of}
use Rattle.edi_goods.specs.Despatch.{despatch_of}
use Rattle.hub_parties.specs.Rows.{company_prefixes}
use Rattle.hub_tables.specs.Register.{suppliers_of}
use Rattle.hub_law.specs.Alone.{items}
use Rattle.hub_law.specs.Laws.{alone}
use Rattle.hub_law.specs.Machine.{shared_run, replies_to}
use Rattle.hub_law.specs.Opening.{interchange_in}
use Rattle.hub_law.specs.Overlap.{long_supplier, overlapping, both_announce, one_announces, advice_reply}

pub overlap : PrefixFree (company_prefixes (suppliers_of overlapping)) → ⊥
overlap free =
    let apart : true ≡ false = free 0 1 [] (omega arith) (omega arith) 0 [] (omega arith) 0 [] (omega arith) in
    cc

pub same_items : items long_supplier.gln overlapping both_announce ≡ items long_supplier.gln overlapping one_announces
unfolding interchange_in interchange_of fault_of contents_of is_framed is_row_of_messages is_outside_set order_of despatch_of digits
same_items = refl

pub both : replies_to long_supplier.gln both_announce (shared_run overlapping both_announce).0
    ≡ advice_reply true (codes "refused" ∷ codes "B12" ∷ []) ∷ []
unfolding interchange_in interchange_of fault_of contents_of is_framed is_row_of_messages is_outside_set order_of despatch_of digits
both = refl

pub one : replies_to long_supplier.gln one_announces (shared_run overlapping one_announces).0
    ≡ advice_reply false (codes "accepted" ∷ []) ∷ []
unfolding interchange_in interchange_of fault_of contents_of is_framed is_row_of_messages is_outside_set order_of despatch_of digits
one = refl

pub seen_alone : (alone long_supplier.gln (items long_supplier.gln overlapping both_announce) overlapping).0
    ≡ advice_reply false (codes "accepted" ∷ []) ∷ []
unfolding interchange_in interchange_of fault_of contents_of is_framed is_row_of_messages is_outside_set order_of despatch_of digits
seen_alone = refl
