-- Shows that what is read from a summary is what is valid in it.
use Rattle.std.proofs.Common.{◌≡◌, ◌≢◌, suc, true, false, not, List, [], ◌∷◌, ◌++◌, filter, inl, inr, refl, sym, ap, subst, ◌∙◌, arith}
use Rattle.std.specs.Prelude.{◌==◌, codes, Decides}
use Rattle.std.specs.List.{list_any}
use Rattle.std.proofs.lemmas.Bool.{cases_Bool, true≢false, ne_eqb, and_parts, and_from}
use Rattle.std.proofs.lemmas.Bool.Decides.{Decides-or}
use Rattle.std.proofs.lemmas.Slice.Eq.{bytes_eq-Decides}
use Rattle.edi_segments.specs.declared.segment.Segment.{Segment}
use Rattle.edi_envelope.specs.Segments.{component}
use Rattle.edi_messages.specs.Parts.{only}
use Rattle.edi_messages.specs.Summary.{behind_uns, is_summary, has_summary, line_count, is_control_of, is_controlled}
use Rattle.edi_law.specs.Parts.{HasNone, IsOnly, OfOnly}
use Rattle.edi_law.specs.Segments.{is_line_item, is_section_control, says}
use Rattle.edi_law.specs.Summary.{IsClosed, IsControlled, HasLine}
use Rattle.edi_law.specs.Values.{IsCount}
use Rattle.edi_law.proofs.Deciding.{Refutes}
use Rattle.edi_law.proofs.PartLemmas.{Decides-of_only, Decides-none}
use Rattle.edi_law.proofs.ValueLemmas.{Decides-count_of}

behind_there : (before after : List Segment) (uns : Segment)
    → HasNone is_section_control before
    → is_section_control uns ≡ true
    → behind_uns (before ++ (uns ∷ after)) ≡ after
behind_there [] after uns none is = rw is refl
behind_there (segment ∷ before) after uns none is = rw none.0 (behind_there before after uns none.1 is)

behind_only : (message : List Segment) (uns : Segment) (h : IsOnly is_section_control message uns) → behind_uns message ≡ h.after
behind_only message uns h = ap behind_uns h.place ∙ behind_there h.before h.after uns h.none_before h.is

abbrev SaysSummary : List Segment → Type 0
SaysSummary message = OfOnly is_section_control message (λ uns. component uns 0 0 ≡ codes "S")

Decides-one_summary : (message : List Segment) → Decides (is_summary (only (filter is_section_control message))) (SaysSummary message)
Decides-one_summary =
    Decides-of_only is_section_control is_summary (λ uns. component uns 0 0 ≡ codes "S") refl
    (λ uns. bytes_eq-Decides (component uns 0 0) (codes "S"))

closed_there : (message : List Segment) → SaysSummary message → not (list_any is_line_item (behind_uns message)) ≡ true → IsClosed message
closed_there message h e = record {
  uns = h.segment;
  is_only = h.is_only;
  summary = h.is;
  no_line_later =
      subst (HasNone is_line_item) (behind_only message h.segment h.is_only)
      ((Decides-none is_line_item (behind_uns message)).0 e);
}

none_behind : (message : List Segment) → IsClosed message → not (list_any is_line_item (behind_uns message)) ≡ true
none_behind message h =
    (Decides-none is_line_item (behind_uns message)).1
    (subst (HasNone is_line_item) (sym (behind_only message h.uns h.is_only)) h.no_line_later)

pub Decides-closed : (message : List Segment) → Decides (has_summary message) (IsClosed message)
Decides-closed message = (
  (λ e. let both = and_parts _ _ e in closed_there message ((Decides-one_summary message).0 both.0) both.1),
  (λ h. and_from _ _ ((Decides-one_summary message).1 (record { segment = h.uns; is_only = h.is_only; is = h.summary }))
      (none_behind message h)),
)

pub Decides-controlled : (message : List Segment) → Decides (is_controlled message) (IsControlled message)
Decides-controlled message =
    let count = line_count message in
    Decides-or _ _ (Decides-none (says (codes "CNT") (codes "2")) message)
    (Decides-of_only (says (codes "CNT") (codes "2")) (is_control_of count) (λ cnt. IsCount (component cnt 0 1) count) refl
    (λ cnt. Decides-count_of (component cnt 0 1) count) message)

-- a line
line_later : (segment : Segment) (message : List Segment) → HasLine message → HasLine (segment ∷ message)
line_later segment message h =
    record {
      before = segment ∷ h.before;
      lin = h.lin;
      after = h.after;
      place = ap (λ rest. segment ∷ rest) h.place;
      is_line = h.is_line;
    }

line_there : (message : List Segment) → (line_count message == 0) ≡ false → HasLine message
line_there [] e = absurd (true≢false e)
line_there (segment ∷ message) e =
    elim (cases_Bool (is_line_item segment)) [
      | inl is ↦ record { before = []; lin = segment; after = message; place = refl; is_line = is }
      | inr not_ ↦ line_later segment message (line_there message (sym (rw not_ refl) ∙ e))
    ]

counted : (before after : List Segment) (lin : Segment) → is_line_item lin ≡ true → line_count (before ++ (lin ∷ after)) ≢ 0
counted [] after lin is e = let none : suc (line_count after) ≡ 0 = sym (rw is refl) ∙ e in omega (arith, none)
counted (segment ∷ before) after lin is e =
    elim (cases_Bool (is_line_item segment)) [
      | inl here ↦ let none : suc (line_count (before ++ (lin ∷ after))) ≡ 0 = sym (rw here refl) ∙ e in omega (arith, none)
      | inr not_ ↦ counted before after lin is (sym (rw not_ refl) ∙ e)
    ]

pub Refutes-no_line : (message : List Segment) → Refutes (line_count message == 0) (HasLine message)
Refutes-no_line message = (
  line_there message,
  (λ h. ne_eqb (line_count message) 0 (λ e. counted h.before h.after h.lin h.is_line (ap line_count (sym h.place) ∙ e))),
)
