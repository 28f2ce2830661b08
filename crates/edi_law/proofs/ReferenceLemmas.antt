-- Shows that what is read from references is what is valid in them.
use Rattle.std.proofs.Common.{◌≡◌, ℕ, List, [], Option, Some, None, ◌⊎◌, inl, inr, refl, sym, ap, subst, ◌∙◌}
use Rattle.std.specs.Prelude.{option_and_then, Decides}
use Rattle.std.proofs.lemmas.Bool.Decides.{Decides-or}
use Rattle.edi_segments.specs.declared.segment.Segment.{Segment}
use Rattle.edi_envelope.specs.Segments.{component}
use Rattle.edi_messages.specs.Parts.{only}
use Rattle.edi_messages.specs.References.{reference, order_named, order, line_named, group_line, has_line_or_none}
use Rattle.edi_messages.specs.Values.{is_document_number}
use Rattle.edi_law.specs.Parts.{HasNone, OfOnly}
use Rattle.edi_law.specs.References.{is_rff_on, NamesOrder, NamesLineOrNone, HeaderNames, NamesLine}
use Rattle.edi_law.specs.Values.{IsDocumentNumber, IsLineNumber}
use Rattle.edi_law.proofs.Deciding.{Says, Says-like, Says-if, Decides-is_some}
use Rattle.edi_law.proofs.LineLemmas.{Decides-nothing}
use Rattle.edi_law.proofs.PartLemmas.{Says-header, Says-only, Says-of_only, none_passes}
use Rattle.edi_law.proofs.ValueLemmas.{Decides-document_number, Says-line_number}

pub Says-order_named : (rff : Segment) → Says (order_named rff) (λ number. NamesOrder number rff)
Says-order_named rff =
    let bytes = component rff 0 1 in
    Says-like (order_named rff) (λ number. IsDocumentNumber bytes × (bytes ≡ number)) (λ number. NamesOrder number rff)
    (λ number h. record { number_is = h.1; right = subst IsDocumentNumber h.1 h.0 })
    (λ number h. (subst IsDocumentNumber (sym h.number_is) h.right, h.number_is))
    (Says-if (is_document_number bytes) (IsDocumentNumber bytes) bytes (Decides-document_number bytes))

pub Says-order : (message : List Segment) → Says (order message) (HeaderNames message)
Says-order message =
    Says-header _ (λ number header. OfOnly is_rff_on header (NamesOrder number))
    (Says-of_only is_rff_on order_named NamesOrder Says-order_named) message

pub Decides-line_or_none : (rff : Segment) → Decides (has_line_or_none rff) (NamesLineOrNone rff)
Decides-line_or_none rff =
    Decides-or _ _ (Decides-nothing (component rff 0 2))
    (Decides-is_some (line_named rff) (IsLineNumber (component rff 0 2)) (Says-line_number (component rff 0 2)))

Says-group_line : (group : List Segment) → Says (group_line group) (λ line. NamesLine group (Some line))
Says-group_line =
    Says-of_only is_rff_on line_named (λ line rff. IsLineNumber (component rff 0 2) line)
    (λ rff. Says-line_number (component rff 0 2))

-- if a group has no reference, or one that names at most one line, its line is the one that is named
line_or_none : (group : List Segment) (rff : Segment) → reference group ≡ Some rff → component rff 0 2 ≡ [] → group_line group ≡ None
line_or_none group rff there none = ap (option_and_then line_named) there ∙ rw none refl

no_reference : (group : List Segment) → HasNone is_rff_on group → group_line group ≡ None
no_reference group none = ap (λ found. option_and_then line_named (only found)) (none_passes is_rff_on group none)

pub group_line-from_NamesLine : (group : List Segment) (line : Option ℕ) → NamesLine group line → group_line group ≡ line
group_line-from_NamesLine group None (inl none) = no_reference group none
group_line-from_NamesLine group None (inr h) = line_or_none group h.segment ((Says-only is_rff_on group h.segment).1 h.is_only) h.is
group_line-from_NamesLine group (Some line) h = (Says-group_line group line).1 h

pub NamesLine-group_line : (group : List Segment)
    → HasNone is_rff_on group ⊎ OfOnly is_rff_on group NamesLineOrNone
    → NamesLine group (group_line group)
NamesLine-group_line group (inl none) = subst (NamesLine group) (sym (no_reference group none)) (inl none)
NamesLine-group_line group (inr h) =
    elim (h.is) [
      | inl none ↦ let line : NamesLine group None = inr (record { segment = h.segment; is_only = h.is_only; is = none }) in
          subst (NamesLine group) (sym (group_line-from_NamesLine group None line)) line
      | inr some ↦ let line : NamesLine group (Some some.0) = record { segment = h.segment; is_only = h.is_only; is = some.1 } in
          subst (NamesLine group) (sym (group_line-from_NamesLine group (Some some.0) line)) line
    ]
