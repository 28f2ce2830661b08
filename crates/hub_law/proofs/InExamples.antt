-- Defines the requests and the texts that the examples of the machine use.
use Rattle.std.proofs.Common.{ℕ, true, List, [], ◌∷◌, ◌++◌, codes}
use Rattle.std.specs.List.{flat_map}
use Rattle.hub_parties.specs.Rows.{RegisterRows}
use Rattle.hub_parties.specs.declared.row.SupplierRow.{SupplierRow}
use Rattle.hub_law.specs.Mark.{Mark, Whole}
use Rattle.hub_requests.specs.declared.reply.Outcome.TheVariants.{Done}
use Rattle.hub_requests.specs.declared.reply.Reply.{Reply}
use Rattle.hub_requests.specs.declared.request.Input.{Input}
use Rattle.hub_requests.specs.declared.request.Request.{Request}

abbrev pub retailer : List ℕ
retailer = codes "5412345000013"

abbrev pub beta : SupplierRow
beta = record { gln = codes "8712345000004"; prefixes = codes "8712345" ∷ []; key = codes "beta-key-1" }

abbrev pub register_with : List SupplierRow → RegisterRows
register_with suppliers = record {
  hub = codes "5412345000006";
  retailer = retailer;
  retailer_key = codes "retail-key";
  suppliers = suppliers;
}

-- each request at 2025-06-03 09:20:00
abbrev pub asked : Mark → List ℕ → List ℕ → Request → Input × Mark
asked mark caller key request = (record { moment = 1_748_942_400; caller = caller; key = key; request = request }, mark)

abbrev pub by_retailer : Request → Input × Mark
by_retailer = asked Whole retailer (codes "retail-key")

abbrev pub by : SupplierRow → Request → Input × Mark
by s = asked Whole s.gln s.key

-- lines, each ended by LF
abbrev pub lines : List (List ℕ) → List ℕ
lines texts = flat_map (λ text. text ++ 0x0A ∷ []) texts

abbrev pub refused : List (List ℕ) → Reply
refused texts = record { outcome = Done; refused = true; body = lines texts }
