-- Defines the machine that all suppliers share.
use Rattle.std.specs.Prelude.{ℕ, List, [], ◌∷◌, if◌then◌else◌, Option, Some, None}
use Rattle.hub_parties.specs.Rows.{RegisterRows, parties_of, row_of, role_of}
use Rattle.hub_parties.specs.declared.role.Role.{Role}
use Rattle.hub_parties.specs.declared.role.Role.TheVariants.{Retailer, Supplier}
use Rattle.hub_parties.specs.declared.row.SupplierRow.{SupplierRow}
use Rattle.hub_tables.specs.Register.{register_of}
use Rattle.hub_tables.specs.Rows.{same}
use Rattle.hub_tables.specs.Tables.{Tables, view}
use Rattle.hub_law.specs.InTurn.{single, followed_by}
use Rattle.hub_law.specs.Mark.{Mark, replied}
use Rattle.hub_law.specs.Replies.{denied}
use Rattle.hub_law.specs.Requests.{supplier_request, retailer_request}
use Rattle.hub_requests.specs.declared.reply.Reply.{Reply}
use Rattle.hub_requests.specs.declared.request.Input.{Input}

-- an input of a caller in this role, which its GLN and its key decide; `row` is that of the supplier with the GLN
abbrev pub step_as : RegisterRows → Option Role → Option SupplierRow → Input → Mark → Tables → Reply × Tables
step_as register (Some Supplier) (Some s) input mark t =
    supplier_request (view s.gln) (parties_of register) s input.moment mark input.request t
step_as register (Some Supplier) None input mark t = replied mark denied t
step_as register (Some Retailer) row input mark t = retailer_request register input.moment mark input.request t
step_as register None row input mark t = replied mark denied t

-- a step under a register
abbrev pub step_under : RegisterRows → Tables → Input → Mark → Reply × Tables
step_under register t input mark =
    step_as register (role_of register input.caller input.key) (row_of register input.caller) input mark t

-- a step under the register that the tables hold
abbrev pub shared_step : Tables → Input → Mark → Reply × Tables
shared_step t input mark = step_under (register_of t) t input mark

-- inputs in their order, each with its mark
abbrev pub Inputs : Type 0
Inputs = List (Input × Mark)

abbrev pub shared_run : Tables → Inputs → List Reply × Tables
shared_run t [] = ([], t)
shared_run t ((input, mark) ∷ inputs) =
    followed_by (single (shared_step t input mark)) (λ after. shared_run after inputs)

-- the replies to the inputs whose caller is the supplier
abbrev pub replies_to : List ℕ → Inputs → List Reply → List Reply
replies_to s [] replies = []
replies_to s ((input, mark) ∷ inputs) [] = []
replies_to s ((input, mark) ∷ inputs) (reply ∷ replies) =
    if same input.caller s then reply ∷ replies_to s inputs replies
    else replies_to s inputs replies
