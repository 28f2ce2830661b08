-- Proves that in sound tables each content of a pallet names a line, and that the pieces of rows with the form of their
-- kind add up to little.
use Rattle.std.proofs.Common.{◌≡◌, ℕ, ◌+◌, ◌*◌, ◌≤◌, ◌<◌, ◌==◌, true, false, not, cond, ◌&&◌, ◌||◌}
use Rattle.std.proofs.Common.{List, [], ◌∷◌, filter, find, sum_by, option_map, Some, refl, sym, ap, ap₂, ◌∙◌, arith, nat_le}
use Rattle.std.specs.List.{AllByRecursion, list_any}
use Rattle.std.specs.Option.{is_some}
use Rattle.std.specs.declared.cmp.Ordering.TheVariants.{Less, Equal}
use Rattle.std.specs.Ordering.{nat_cmp, ordering_then}
use Rattle.std.proofs.lemmas.Bool.{and_parts, leb-true}
use Rattle.std.proofs.lemmas.Bool.Decides.{nat_tests}
use Rattle.std.proofs.lemmas.Cmp.{nat_list_cmp_total, tied_itself}
use Rattle.std.proofs.lemmas.List.Sums.{sum_by-cons}
use Rattle.edi_base.specs.Limits.{greatest}
use Rattle.hub_parties.specs.KeyOrder.{bytes_cmp, Rises}
use Rattle.hub_tables.specs.Rows.{same, content_cmp}
use Rattle.hub_tables.specs.State.{contents_of}
use Rattle.hub_tables.specs.Tables.{Tables}
use Rattle.hub_tables.specs.declared.rows.ContentRow.{ContentRow}
use Rattle.hub_tables.specs.declared.rows.LineRow.{LineRow}
use Rattle.hub_tables.proofs.Lists.{all_filter, all_passes, same_is}
use Rattle.gs1_ids.specs.Digits.{is_key}
use Rattle.hub_store.specs.Clean.{clean_content, is_within, is_number, is_line, is_quantity}
use Rattle.hub_rules.specs.Sound.{knows_line}
use Rattle.hub_tables.proofs.KeyOrder.{rises_filter}
use Rattle.hub_acts.specs.HubTexts.Articles.{article_among}

-- the line that a content names exists
there_is : (number : List ℕ) (n : ℕ) (lines : List LineRow)
    → list_any (λ line. same line.number number && (line.line == n)) lines ≡ true
    → is_some (option_map (λ (row : LineRow). row.gtin)
    (find (λ line. line.line == n) (filter (λ line. same line.number number) lines))) ≡ true
there_is number n [] h = h
there_is number n (line ∷ lines) h =
    elim (same line.number number) as
    (λ v. ((v && (line.line == n)) || list_any (λ line. same line.number number && (line.line == n)) lines) ≡ true
    → is_some (option_map (λ (row : LineRow). row.gtin) (find (λ line. line.line == n)
    (cond v (line ∷ filter (λ line. same line.number number) lines) (filter (λ line. same line.number number) lines)))) ≡ true) [
      | true ↦ λ here. elim (line.line == n) as
          (λ v. (v || list_any (λ line. same line.number number && (line.line == n)) lines) ≡ true
          → is_some (option_map (λ (row : LineRow). row.gtin)
          (cond v (Some line) (find (λ line. line.line == n) (filter (λ line. same line.number number) lines)))) ≡ true)
          [ true ↦ λ g. refl | false ↦ λ g. there_is number n lines g ] here
      | false ↦ λ later. there_is number n lines later
    ] h

pub all_named : (state : Tables) (contents : List ContentRow)
    → AllByRecursion (λ content. knows_line state content.number content.line ≡ true) contents
    → list_any (λ content. not (is_some (article_among state.lines content))) contents ≡ false
all_named state [] known = refl
all_named state (content ∷ contents) known =
    ap₂ (λ a b. not a || b) (there_is content.number content.line state.lines known.0) (all_named state contents known.1)

-- contents of one pallet rise by their places, which are few
abbrev Within : ContentRow → Type 0
Within content = (content.place ≤ 999_999) × (content.quantity ≤ 999_999_999)

after_place : (sscc : List ℕ) (a b : ContentRow) → a.sscc ≡ sscc → b.sscc ≡ sscc → content_cmp a b ≡ Less → a.place < b.place
after_place sscc a b one other less =
    let tied : bytes_cmp a.sscc b.sscc ≡ Equal = ap₂ bytes_cmp one other ∙ tied_itself nat_list_cmp_total sscc in
    let places : nat_cmp a.place b.place ≡ Less = sym (ap (λ o. ordering_then o (nat_cmp a.place b.place)) tied) ∙ less in
    grind (arith, nat_tests, places)

all_after : (sscc : List ℕ) (a : ContentRow) (contents : List ContentRow)
    → a.sscc ≡ sscc
    → AllByRecursion (λ content. content.sscc ≡ sscc) contents
    → AllByRecursion (λ later. content_cmp a later ≡ Less) contents
    → AllByRecursion (λ later. a.place < later.place) contents
all_after sscc a [] one others less = tt
all_after sscc a (later ∷ contents) one others less = (
  after_place sscc a later one others.0 less.0,
  all_after sscc a contents one others.1 less.1,
)

pub pieces_are_few : (sscc : List ℕ) (contents : List ContentRow) (p : ℕ)
    → p ≤ 999_999
    → AllByRecursion Within contents
    → AllByRecursion (λ content. content.sscc ≡ sscc) contents
    → Rises content_cmp contents
    → AllByRecursion (λ later. p < later.place) contents
    → sum_by (λ content. content.quantity) contents + p * 999_999_999 ≤ 999_999 * 999_999_999
pieces_are_few sscc [] p low within of_it rise after = omega arith
pieces_are_few sscc (content ∷ contents) p low within of_it rise after =
    let rest = pieces_are_few sscc contents content.place within.0.0 within.1 of_it.1 rise.1
    (all_after sscc content contents of_it.0 of_it.1 rise.0) in
    let all = sum_by-cons (λ (content : ContentRow). content.quantity) content contents in
    omega (arith, rest, all, within.0.1, after.0)

module _ (state : Tables) (sscc : List ℕ) where
  places_within : (contents : List ContentRow) → AllByRecursion (λ row. clean_content row ≡ true) contents → AllByRecursion Within contents
  places_within [] clean = tt
  places_within (content ∷ contents) clean =
      let key = and_parts (is_key 18 content.sscc) _ clean.0 in
      let place = and_parts (is_within 1 999_999 content.place) _ key.1 in
      let number = and_parts (is_number content.number) _ place.1 in
      let line = and_parts (is_line content.line) (is_quantity content.quantity) number.1 in
      let at = and_parts (nat_le 1 content.place) (nat_le content.place 999_999) place.0 in
      let pieces = and_parts (nat_le 1 content.quantity) (nat_le content.quantity greatest) line.1 in
      ((leb-true content.place 999_999 at.1, leb-true content.quantity greatest pieces.1), places_within contents clean.1)

  from_one : (contents : List ContentRow) → AllByRecursion (λ row. clean_content row ≡ true) contents →
      AllByRecursion (λ later. 0 < later.place) contents
  from_one [] clean = tt
  from_one (content ∷ contents) clean =
      let key = and_parts (is_key 18 content.sscc) _ clean.0 in
      let place = and_parts (is_within 1 999_999 content.place) _ key.1 in
      let at = and_parts (nat_le 1 content.place) (nat_le content.place 999_999) place.0 in
      (leb-true 1 content.place at.0, from_one contents clean.1)

  of_pallet : (contents : List ContentRow) → AllByRecursion (λ row. same row.sscc sscc ≡ true) contents →
      AllByRecursion (λ row. row.sscc ≡ sscc) contents
  of_pallet [] all = tt
  of_pallet (content ∷ contents) all = (same_is content.sscc sscc all.0, of_pallet contents all.1)

  -- the pieces of a pallet's contents are together below 64 bits
  pub pieces_fit : Rises content_cmp state.contents
      → AllByRecursion (λ row. clean_content row ≡ true) state.contents
      → sum_by (λ content. content.quantity) (contents_of state sscc) ≤ 999_999 * 999_999_999
  pieces_fit rise clean =
      let found = contents_of state sscc in
      let fine = all_filter (λ row. clean_content row ≡ true) (λ (content : ContentRow). same content.sscc sscc) state.contents clean in
      let few = pieces_are_few sscc found 0 (omega arith) (places_within found fine)
      (of_pallet found (all_passes (λ (content : ContentRow). same content.sscc sscc) state.contents))
      (rises_filter content_cmp (λ (content : ContentRow). same content.sscc sscc) state.contents rise) (from_one found fine) in
      omega (arith, few)

  -- each content of a pallet names a line
  pub all_named_of : AllByRecursion (λ content. knows_line state content.number content.line ≡ true) state.contents
      → list_any (λ content. not (is_some (article_among state.lines content))) (contents_of state sscc) ≡ false
  all_named_of known =
      all_named state (contents_of state sscc)
      (all_filter (λ (content : ContentRow). knows_line state content.number content.line ≡ true)
      (λ (content : ContentRow). same content.sscc sscc) state.contents known)
