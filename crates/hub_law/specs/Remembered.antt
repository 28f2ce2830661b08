-- Defines which rows remember accepted messages and cancellations.
use Rattle.std.specs.Prelude.{[], Option, Some, None}
use Rattle.edi_envelope.specs.declared.interchange.RawMessage.{RawMessage}
use Rattle.hub_parties.specs.declared.row.SupplierRow.{SupplierRow}
use Rattle.hub_tables.specs.Sets.{Has}
use Rattle.hub_tables.specs.Tables.{Tables}
use Rattle.hub_tables.specs.declared.cases.Side.TheVariants as sides
use Rattle.hub_tables.specs.declared.rows.RememberedRow.{RememberedRow}
use Rattle.hub_rules.specs.RepeatRules.{remembered}
use Rattle.hub_rules.specs.declared.cancel.Cancel.{Cancel}
use Rattle.hub_rules.specs.declared.incoming.IncomingMessage.{IncomingMessage}
use Rattle.hub_law.specs.CancelText.{cancel_text}
use Rattle.hub_law.specs.Messages.{named}

-- all that `t` remembers, `u` remembers too
abbrev pub StaysRemembered : Tables → Tables → Type 0
StaysRemembered t u = (row : RememberedRow) → Has t.remembered row → Has u.remembered row

-- the row that remembers a message of the supplier, or, if none is given, of the retailer for the supplier that it
-- names
abbrev pub row_of_message : Option SupplierRow → RawMessage → IncomingMessage → RememberedRow
row_of_message (Some s) message incoming =
    remembered (record {
      supplier = s.gln;
      side = sides.Supplier;
      control = incoming.control;
      message = incoming.message;
    }) incoming.content
row_of_message None message incoming =
    remembered (record {
      supplier = named message;
      side = sides.Retailer;
      control = incoming.control;
      message = incoming.message;
    }) incoming.content

-- the row that remembers a cancellation
abbrev pub row_of_cancel : Cancel → RememberedRow
row_of_cancel c =
    remembered (record { supplier = c.supplier; side = sides.Cancellation; control = c.reference; message = [] })
    (cancel_text c)
