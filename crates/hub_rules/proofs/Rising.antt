-- Shows that rows in key order rise strictly if no key occurs twice: those of one supplier, and those of all.
use Rattle.std.proofs.Common.{◌≡◌, ℕ, ◌+◌, ◌≤◌, nat_lt, Bool, true, false, cond, ◌&&◌, ◌||◌, ◌==◌, inl, inr, List, [], ◌∷◌}
use Rattle.std.proofs.Common.{filter, refl, sym, ◌∙◌, ap, ap₂, subst, arith}
use Rattle.std.specs.Bool.{⊤}
use Rattle.std.specs.List.{AllByRecursion, list_any}
use Rattle.std.specs.declared.cmp.Ordering.{Ordering}
use Rattle.std.specs.declared.cmp.Ordering.TheVariants.{Less, Equal, Greater}
use Rattle.std.specs.Ordering.{nat_cmp, is_gt, is_eq, ordering_then}
use Rattle.std.proofs.lemmas.Bool.{and_from, or_parts}
use Rattle.std.proofs.lemmas.Bool.Decides.{nat_tests}
use Rattle.std.proofs.lemmas.Map.Text.{is_eq-slice_cmp}
use Rattle.gs1_ids.specs.Sscc.{under_some}
use Rattle.gs1_ids.specs.Overlap.{PrefixFree}
use Rattle.hub_parties.specs.Rows.{company_prefixes}
use Rattle.hub_parties.specs.declared.row.SupplierRow.{SupplierRow}
use Rattle.hub_parties.specs.KeyOrder.{bytes_cmp, InOrder, Rises}
use Rattle.hub_tables.specs.Rows.{key_cmp, prefix_cmp}
use Rattle.hub_tables.specs.Rows.{same, order_cmp, line_cmp, advice_cmp, pallet_cmp, content_cmp, receipt_cmp, remembered_cmp, mail_cmp}
use Rattle.hub_tables.specs.Sets.{Rising}
use Rattle.hub_tables.specs.Tables.{Tables, Ordered, has_pallet, holds, view}
use Rattle.hub_tables.specs.declared.rows.MailRow.{MailRow}
use Rattle.hub_tables.proofs.Filters.{filter_again}
use Rattle.hub_tables.proofs.KeyOrder.{in_order_filter, rises_filter}
use Rattle.hub_tables.proofs.Lists.{decide, same_is, same_if, filter_none, all_weaker, all_always}
use Rattle.hub_tables.proofs.Members.{one_of, any_if}
use Rattle.hub_rules.specs.Laws.{PartiesRise}
use Rattle.hub_rules.specs.Sound.{Numbered, Single, same_order, same_line_number, same_advice, same_sscc, same_place}
use Rattle.hub_rules.specs.Sound.{same_gtin, same_reference, Kept, IsRooted, Rooted}
use Rattle.hub_rules.proofs.Prefixes.{owner}
use Rattle.hub_rules.proofs.Views.{ordered_view}

-- When keys compare as equal.
first_tied : (o p : Ordering) → ordering_then o p ≡ Equal → o ≡ Equal
first_tied Less p h = h
first_tied Equal p h = refl
first_tied Greater p h = h

then_tied : (o p : Ordering) → ordering_then o p ≡ Equal → p ≡ Equal
then_tied Less p h = cc
then_tied Equal p h = h
then_tied Greater p h = cc

text_tied : (a b : List ℕ) → bytes_cmp a b ≡ Equal → same a b ≡ true
text_tied a b h = sym (is_eq-slice_cmp a b) ∙ ap is_eq h

number_tied : (a b : ℕ) → nat_cmp a b ≡ Equal → (a == b) ≡ true
number_tied a b h =
    elim (decide (a == b)) [
      | inl e ↦ e
      | inr e ↦
          elim (decide (nat_lt a b)) [ inl k ↦ absurd (grind (arith, e, k, h)) | inr k ↦ absurd (grind (arith, e, k, h)) ]
    ]

only_less : (o : Ordering) → is_gt o ≡ false → (o ≡ Equal → ⊥) → o ≡ Less
only_less Less g ne = refl
only_less Equal g ne = absurd (ne refl)
only_less Greater g ne = cc

-- sorted rows, if rows that compare as equal have the same key and no key occurs twice
module _ {X : Type 0} (cmp : X → X → Ordering) (alike : X → X → Bool) (tied : (x y : X) → cmp x y ≡ Equal → alike x y ≡ true) where
  rises : (xs : List X) → InOrder cmp xs → Single alike xs → Rises cmp xs
  rises [] a b = tt
  rises (x ∷ xs) a b = (below xs a.0 b.0, rises xs a.1 b.1)
    where
      below : (ys : List X)
          → AllByRecursion (λ y. is_gt (cmp x y) ≡ false) ys
          → list_any (alike x) ys ≡ false
          → AllByRecursion (λ y. cmp x y ≡ Less) ys
      below [] c d = tt
      below (y ∷ ys) c d =
          let parts = or_parts (alike x y) (list_any (alike x) ys) d in
          (only_less (cmp x y) c.0 (λ e. let yes = tied x y e in (cc)), below ys c.1 parts.1)

-- sorted rows that rise within each part, if rows that compare as equal have the same part
module _ {X : Type 0} (cmp : X → X → Ordering) (part : X → List ℕ) (P : X → Type 0)
    (tied : (x y : X) → P x → P y → cmp x y ≡ Equal → part y ≡ part x) where
  rises_by_parts : (xs : List X)
      → InOrder cmp xs
      → AllByRecursion P xs
      → ((of : List ℕ) → Rises cmp (filter (λ x. same (part x) of) xs))
      → Rises cmp xs
  rises_by_parts [] a all f = tt
  rises_by_parts (x ∷ xs) a all f = (
    below xs a.0 all.1 (first (same (part x) (part x)) (same_if (part x) (part x) refl) (f (part x))),
    rises_by_parts xs a.1 all.1 (λ of. rest of (same (part x) of) (f of)),
  )
    where
      rest : (of : List ℕ) (v : Bool)
          → Rises cmp (cond v (x ∷ filter (λ y. same (part y) of) xs) (filter (λ y. same (part y) of) xs))
          → Rises cmp (filter (λ y. same (part y) of) xs)
      rest of true h = h.1
      rest of false h = h

      first : (v : Bool)
          → v ≡ true
          → Rises cmp (cond v (x ∷ filter (λ y. same (part y) (part x)) xs) (filter (λ y. same (part y) (part x)) xs))
          → AllByRecursion (λ y. cmp x y ≡ Less) (filter (λ y. same (part y) (part x)) xs)
      first true e h = h.0
      first false e h = cc

      below : (ys : List X)
          → AllByRecursion (λ y. is_gt (cmp x y) ≡ false) ys
          → AllByRecursion P ys
          → AllByRecursion (λ y. cmp x y ≡ Less) (filter (λ y. same (part y) (part x)) ys)
          → AllByRecursion (λ y. cmp x y ≡ Less) ys
      below [] c d e = tt
      below (y ∷ ys) c d e =
          elim (same (part y) (part x)) as (λ v. same (part y) (part x) ≡ v
          → AllByRecursion (λ y. cmp x y ≡ Less)
          (cond v (y ∷ filter (λ y. same (part y) (part x)) ys) (filter (λ y. same (part y) (part x)) ys))
          → AllByRecursion (λ y. cmp x y ≡ Less) (y ∷ ys)) [
            | true ↦ λ same_part g. (g.0, below ys c.1 d.1 g.1)
            | false ↦ λ other g. (
              only_less (cmp x y) c.0 (λ k. let yes = same_if (part y) (part x) (tied x y all.0 d.0 k) in (cc)),
              below ys c.1 d.1 g,
            )
          ] refl e

module _ {X : Type 0} (cmp : X → X → Ordering) (part : X → List ℕ) (tied : (x y : X) → cmp x y ≡ Equal → part y ≡ part x) where
  rises_by_part : (xs : List X) → InOrder cmp xs → ((of : List ℕ) → Rises cmp (filter (λ x. same (part x) of) xs)) → Rises cmp xs
  rises_by_part xs a f = rises_by_parts cmp part (λ x. ⊤) (λ x y _ _ e. tied x y e) xs a (all_always (λ x. ⊤) (λ x. tt) xs) f

numbered_far : (k n : ℕ) (ms : List MailRow) → k ≤ n → Numbered n ms → list_any (λ m. k == m.number) ms ≡ false
numbered_far k n [] h a = refl
numbered_far k n (m ∷ ms) h a =
    let other : (k == m.number) ≡ false = grind (arith, nat_tests, h, a.0) in
    ap₂ (λ v w. v || w) other (numbered_far k (n + 1) ms (omega (arith, h)) a.1)

numbered_single : (n : ℕ) (ms : List MailRow) → Numbered n ms → Single (λ a b. a.number == b.number) ms
numbered_single n [] a = tt
numbered_single n (m ∷ ms) a = (numbered_far m.number (n + 1) ms (omega (arith, a.0)) a.1, numbered_single (n + 1) ms a.1)

-- Rows with two texts as their key, and with a text and a number.
module _ (a b : List ℕ) (o : Ordering) (h : ordering_then (bytes_cmp a b) o ≡ Equal) where
  first_same : b ≡ a
  first_same = sym (same_is a b (text_tied a b (first_tied (bytes_cmp a b) o h)))

  rest_tied : o ≡ Equal
  rest_tied = then_tied (bytes_cmp a b) o h

-- the keys of the kinds that a supplier's rows may be of rise
pub record KindsRise (t : Tables) : Type 0 where
  pub orders : Rises order_cmp t.orders
  pub lines : Rises line_cmp t.lines
  pub advices : Rises advice_cmp t.advices
  pub pallets : Rises pallet_cmp t.pallets
  pub contents : Rises content_cmp t.contents
  pub receipts : Rises receipt_cmp t.receipts
  pub remembered : Rises remembered_cmp t.remembered
  pub mail : Rises mail_cmp t.mail

-- the sound rows of one supplier rise
pub kept_rises : (state : Tables) → Ordered state → Kept state → KindsRise state
kept_rises state ordered kept = record {
  orders =
      rises order_cmp same_order (λ x y h. text_tied x.number y.number (rest_tied x.supplier y.supplier _ h)) state.orders
      ordered.orders kept.orders;
  lines = rises line_cmp same_line_number (λ x y h.
      let rest = rest_tied x.supplier y.supplier _ h in
      and_from (same x.number y.number) (x.line == y.line)
      (text_tied x.number y.number (first_tied (bytes_cmp x.number y.number) _ rest))
      (number_tied x.line y.line (rest_tied x.number y.number _ rest))) state.lines ordered.lines kept.lines;
  advices =
      rises advice_cmp same_advice (λ x y h. text_tied x.number y.number (rest_tied x.supplier y.supplier _ h)) state.advices
      ordered.advices kept.advices;
  pallets = rises pallet_cmp same_sscc (λ x y h. text_tied x.sscc y.sscc h) state.pallets ordered.pallets kept.pallets;
  contents = rises_by_part content_cmp (λ c. c.sscc) (λ x y h. first_same x.sscc y.sscc _ h) state.contents ordered.contents
      (λ sscc. rises content_cmp same_place (λ x y h. number_tied x.place y.place (rest_tied x.sscc y.sscc _ h))
      (filter (λ c. same c.sscc sscc) state.contents)
      (in_order_filter content_cmp (λ c. same c.sscc sscc) state.contents ordered.contents) (kept.contents sscc));
  receipts = rises_by_part receipt_cmp (λ r. r.sscc) (λ x y h. first_same x.sscc y.sscc _ h) state.receipts ordered.receipts
      (λ sscc. rises receipt_cmp same_gtin (λ x y h. text_tied x.gtin y.gtin (rest_tied x.sscc y.sscc _ h))
      (filter (λ r. same r.sscc sscc) state.receipts)
      (in_order_filter receipt_cmp (λ r. same r.sscc sscc) state.receipts ordered.receipts) (kept.receipts sscc));
  remembered = rises remembered_cmp same_reference (λ x y h.
      let rest = rest_tied x.supplier y.supplier _ h in
      let last = then_tied (nat_cmp x.side y.side) _ rest in
      and_from (x.side == y.side) (same x.control y.control && same x.message y.message)
      (number_tied x.side y.side (first_tied (nat_cmp x.side y.side) _ rest))
      (and_from (same x.control y.control) (same x.message y.message)
      (text_tied x.control y.control (first_tied (bytes_cmp x.control y.control) _ last))
      (text_tied x.message y.message (rest_tied x.control y.control _ last)))) state.remembered ordered.remembered kept.remembered;
  mail =
      rises mail_cmp (λ a b. a.number == b.number)
      (λ x y h. number_tied x.number y.number (rest_tied x.supplier y.supplier _ h)) state.mail ordered.mail
      (numbered_single 0 state.mail kept.mail);
}

-- what a supplier sees of sorted tables rises, if it is sound
pub view_rises : (gln : List ℕ) (t : Tables) → Ordered t → Kept (view gln t) → KindsRise (view gln t)
view_rises gln t ordered kept = kept_rises (view gln t) (ordered_view gln t ordered) kept

-- the rows of one pallet are among those that its supplier sees
module _ {X : Type 0} (cmp : X → X → Ordering) (sscc : X → List ℕ) (t : Tables) (xs : List X) where
  rises_on_pallet : (of : List ℕ)
      → AllByRecursion (λ x. has_pallet t (sscc x) ≡ true) xs
      → ((gln : List ℕ) → Rises cmp (filter (λ x. holds gln t.pallets (sscc x)) xs))
      → Rises cmp (filter (λ x. same (sscc x) of) xs)
  rises_on_pallet of there f =
      elim (decide (has_pallet t of)) [
        | inl e ↦
            let pallet = one_of (λ p. same p.sscc of) t.pallets e in
            let gln = (pallet.0).supplier in
            let held : holds gln t.pallets of ≡ true =
            any_if (λ p. same p.supplier gln && same p.sscc of) t.pallets pallet.0 pallet.1
            (and_from (same gln gln) (same (pallet.0).sscc of) (same_if gln gln refl) pallet.2) in
            subst (Rises cmp) (filter_again (λ x. same (sscc x) of) (λ x. holds gln t.pallets (sscc x)) xs
            (λ x h. ap (holds gln t.pallets) (same_is (sscc x) of h) ∙ held))
            (rises_filter cmp (λ x. same (sscc x) of) (filter (λ x. holds gln t.pallets (sscc x)) xs) (f gln))
        | inr e ↦ subst (Rises cmp)
            (sym (filter_none (λ x. same (sscc x) of) xs
            (all_weaker (λ x. has_pallet t (sscc x) ≡ true) (λ x. same (sscc x) of ≡ false) (λ x h.
            elim (decide (same (sscc x) of)) [
              | inl k ↦ let one : has_pallet t (sscc x) ≡ has_pallet t of = ap (has_pallet t) (same_is (sscc x) of k) in
                  absurd (cc)
              | inr k ↦ k
            ]) xs there))) tt
      ]

-- the rows of all suppliers rise, if what each of them sees is sound
pub all_rise : (suppliers : List SupplierRow) (t : Tables)
    → PrefixFree (company_prefixes suppliers)
    → Rooted suppliers t
    → ((gln : List ℕ) → Kept (view gln t))
    → KindsRise t
all_rise suppliers t free rooted kept =
    let ordered = rooted.ordered in
    let seen : (gln : List ℕ) → KindsRise (view gln t) = λ gln. view_rises gln t ordered (kept gln) in
    record {
      orders =
          rises_by_part order_cmp (λ r. r.supplier) (λ x y h. first_same x.supplier y.supplier _ h) t.orders ordered.orders
          (λ gln. (seen gln).orders);
      lines =
          rises_by_part line_cmp (λ r. r.supplier) (λ x y h. first_same x.supplier y.supplier _ h) t.lines ordered.lines
          (λ gln. (seen gln).lines);
      advices =
          rises_by_part advice_cmp (λ r. r.supplier) (λ x y h. first_same x.supplier y.supplier _ h) t.advices ordered.advices
          (λ gln. (seen gln).advices);
      pallets = rises_by_parts pallet_cmp (λ r. r.supplier) (IsRooted suppliers) (λ x y one other h.
          owner suppliers free x.supplier one.supplier one.known y other
          (ap (λ v. under_some v one.supplier.prefixes) (sym (same_is x.sscc y.sscc (text_tied x.sscc y.sscc h)))
          ∙ one.is_under)) t.pallets ordered.pallets rooted.pallets (λ gln. (seen gln).pallets);
      contents = rises_by_part content_cmp (λ r. r.sscc) (λ x y h. first_same x.sscc y.sscc _ h) t.contents ordered.contents
          (λ sscc. rises_on_pallet content_cmp (λ r. r.sscc) t t.contents sscc rooted.contents (λ gln. (seen gln).contents));
      receipts = rises_by_part receipt_cmp (λ r. r.sscc) (λ x y h. first_same x.sscc y.sscc _ h) t.receipts ordered.receipts
          (λ sscc. rises_on_pallet receipt_cmp (λ r. r.sscc) t t.receipts sscc rooted.receipts (λ gln. (seen gln).receipts));
      remembered =
          rises_by_part remembered_cmp (λ r. r.supplier) (λ x y h. first_same x.supplier y.supplier _ h) t.remembered
          ordered.remembered (λ gln. (seen gln).remembered);
      mail =
          rises_by_part mail_cmp (λ r. r.supplier) (λ x y h. first_same x.supplier y.supplier _ h) t.mail ordered.mail
          (λ gln. (seen gln).mail);
    }

-- all kinds rise if those of the register do
pub rising_from : (t : Tables) → PartiesRise t → KindsRise t → Rising t
rising_from t parties kinds = record {
  hubs = parties.hubs;
  keys = parties.keys;
  prefixes = parties.prefixes;
  orders = kinds.orders;
  lines = kinds.lines;
  advices = kinds.advices;
  pallets = kinds.pallets;
  contents = kinds.contents;
  receipts = kinds.receipts;
  remembered = kinds.remembered;
  mail = kinds.mail;
}

pub parties_seen : (gln : List ℕ) (t : Tables) → PartiesRise t → PartiesRise (view gln t)
parties_seen gln t parties = record {
  hubs = tt;
  keys = rises_filter key_cmp (λ row. same row.supplier gln) t.keys parties.keys;
  prefixes = rises_filter prefix_cmp (λ row. same row.supplier gln) t.prefixes parties.prefixes;
}
