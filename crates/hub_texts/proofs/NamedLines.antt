-- Finds the line that a content names, among lines that rise by order number and line number.
use Rattle.std.proofs.Common.{◌≡◌, ℕ, false, ◌&&◌, ◌==◌, List, [], ◌∷◌, find, slice_get, Option, refl, sym, ap, ◌∙◌}
use Rattle.std.specs.List.{prefix_len}
use Rattle.std.specs.declared.cmp.Ordering.{Ordering}
use Rattle.std.specs.declared.cmp.Ordering.TheVariants.{Less}
use Rattle.std.specs.Ordering.{nat_cmp, ordering_then, is_eq, is_gt, is_lt}
use Rattle.std.specs.Cmp.{IsTotalOrder, both_tied}
use Rattle.std.proofs.lemmas.Cmp.{on_total, then_total, nat_cmp_total, nat_list_cmp_total}
use Rattle.std.proofs.lemmas.Map.Entries.{option_filter}
use Rattle.std.proofs.lemmas.Map.Text.{is_eq-slice_cmp}
use Rattle.hub_parties.specs.KeyOrder.{bytes_cmp, InOrder, Rises}
use Rattle.hub_tables.specs.Rows.{same}
use Rattle.hub_tables.specs.declared.rows.ContentRow.{ContentRow}
use Rattle.hub_tables.specs.declared.rows.LineRow.{LineRow}
use Rattle.hub_tables.proofs.Lists.{all_weaker}
use Rattle.hub_order_lines.specs.Book.{place_cmp}
use Rattle.hub_order_lines.proofs.ByNumber.{is_eq-nat_cmp, find-filter}
use Rattle.hub_order_lines.proofs.InOrder.{first_at, prefix_len-map}
use Rattle.hub_texts.specs.Articles.{precedes_named, line_of_content}

-- an order number and a line number
abbrev pub LinePlace : Type 0
LinePlace = List ℕ × ℕ

abbrev pub cmp_places : LinePlace → LinePlace → Ordering
cmp_places a b = ordering_then (bytes_cmp a.0 b.0) (nat_cmp a.1 b.1)

pub places_total : IsTotalOrder cmp_places
places_total = then_total (on_total (λ (p : LinePlace). p.0) nat_list_cmp_total) (on_total (λ (p : LinePlace). p.1) nat_cmp_total)

abbrev pub place_of : LineRow → LinePlace
place_of row = (row.number, row.line)

abbrev pub named_place : ContentRow → LinePlace
named_place content = (content.number, content.line)

pub in_order : (lines : List LineRow) → Rises place_cmp lines → InOrder (λ a b. cmp_places (place_of a) (place_of b)) lines
in_order [] rise = tt
in_order (row ∷ rows) rise = (
  all_weaker (λ later. place_cmp row later ≡ Less) (λ later. is_gt (place_cmp row later) ≡ false)
      (λ later less. ap is_gt less) rows rise.0,
  in_order rows rise.1,
)

-- what is at the position before which a search finds all smaller lines
pub named_at : (lines : List LineRow) (content : ContentRow) (n : ℕ)
    → Rises place_cmp lines
    → n ≡ prefix_len (precedes_named content) lines
    → (found : Option LineRow)
    → slice_get lines n ≡ found
    → line_of_content lines content ≡ option_filter (λ row. same row.number content.number && (row.line == content.line)) found
named_at lines content n rise is found at =
    find-filter (λ line. line.line == content.line) (λ line. same line.number content.number) lines
    ∙ sym (λ i. find (λ row. alike row i) lines)
    ∙ first_at places_total place_of (named_place content) (λ p. is_lt (cmp_places p (named_place content))) (λ p. refl)
    lines (in_order lines rise)
    ∙ (λ i. option_filter (λ row. alike row i)
    (slice_get lines (sym (prefix_len-map (λ p. is_lt (cmp_places p (named_place content))) place_of lines) i)))
    ∙ ap (λ k. option_filter (λ (row : LineRow). same row.number content.number && (row.line == content.line)) (slice_get lines k)) (sym is)
    ∙ ap (option_filter (λ (row : LineRow). same row.number content.number && (row.line == content.line))) at
  where
    alike : (row : LineRow)
        → is_eq (cmp_places (place_of row) (named_place content))
        ≡ (same row.number content.number && (row.line == content.line))
    alike row =
        sym (both_tied (same row.number content.number) (row.line == content.line) (bytes_cmp row.number content.number)
        (nat_cmp row.line content.line) (sym (is_eq-slice_cmp row.number content.number))
        (sym (is_eq-nat_cmp row.line content.line)))
