-- Defines which bodies are valid cancellations, independently of how they are read.
use Rattle.std.specs.Prelude.{◌≡◌, ℕ, true, List, [], ◌∷◌, Some}
use Rattle.std.specs.List.{flat_map}
use Rattle.edi_envelope.specs.Limits.{is_reference}
use Rattle.edi_messages.specs.Values.{is_document_number}
use Rattle.gs1_ids.specs.Gln.{is_gln}
use Rattle.hub_law.specs.Widths.{line}
use Rattle.hub_law.specs.HubRules.declared.cancel.Cancel.{Cancel}
use Rattle.hub_texts.specs.Cancel.{positive}

-- five fields, each on its own line
abbrev pub five_lines : List ℕ → List ℕ → List ℕ → List ℕ → List ℕ → List ℕ
five_lines supplier reference order number quantity =
    flat_map (λ field. line (field ∷ [])) (supplier ∷ reference ∷ order ∷ number ∷ quantity ∷ [])

-- the body has five lines: the supplier, a GLN; the cancellation's own reference; the order number; the line number in
-- 1 to 6 digits; and the quantity in 1 to 9 digits. Neither number is zero.
pub record SaysCancel (body : List ℕ) (c : Cancel) : Type 0 where
  pub number : List ℕ
  pub quantity : List ℕ
  pub lines : body ≡ five_lines c.supplier c.reference c.order number quantity
  pub supplier : is_gln c.supplier ≡ true
  pub reference : is_reference c.reference ≡ true
  pub order : is_document_number c.order ≡ true
  pub is_line : positive 6 number ≡ Some c.line
  pub is_quantity : positive 9 quantity ≡ Some c.quantity
