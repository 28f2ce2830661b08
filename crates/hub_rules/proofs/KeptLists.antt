-- Shows what inserting or replacing a row does to lists that are numbered, or in which no key occurs twice.
use Rattle.std.proofs.Common.{◌≡◌, ℕ, ◌+◌, ◌<◌, ◌≤◌, Bool, true, false, cond, not, ◌&&◌, ◌||◌, ◌==◌, inl, inr, List, []}
use Rattle.std.proofs.Common.{◌∷◌, ◌++◌, filter, find, Some, length, sum_by, refl, sym, ◌∙◌, ap, ap₂, subst, arith}
use Rattle.std.specs.List.{AllByRecursion, list_any}
use Rattle.std.specs.Ordering.{is_gt, ordering_then, nat_cmp}
use Rattle.std.specs.declared.cmp.Ordering.{Ordering}
use Rattle.std.specs.declared.cmp.Ordering.TheVariants.{Equal}
use Rattle.std.proofs.lemmas.Bool.{and_parts, or_parts, or_cases, or_left, or_right}
use Rattle.std.proofs.lemmas.Bool.Decides.{nat_tests}
use Rattle.std.proofs.lemmas.Cmp.{tied_itself, nat_list_cmp_total}
use Rattle.std.specs.Cmp.{IsTotalOrder}
use Rattle.edi_base.proofs.Twice.{bytes_eq-sym, nat_eq-sym}
use Rattle.hub_parties.specs.KeyOrder.{InOrder, put, replace, bytes_cmp}
use Rattle.hub_tables.specs.Rows.{same, content_cmp, receipt_cmp, mail_cmp, same_pallet}
use Rattle.hub_tables.specs.declared.rows.ContentRow.{ContentRow}
use Rattle.hub_tables.specs.declared.rows.MailRow.{MailRow}
use Rattle.hub_tables.specs.declared.rows.PalletRow.{PalletRow}
use Rattle.hub_tables.specs.declared.rows.ReceiptRow.{ReceiptRow}
use Rattle.hub_tables.specs.State.{is_announced}
use Rattle.hub_tables.proofs.KeyOrder.{any_put, filter_put_in, filter_put_out, sum_put, put_last}
use Rattle.hub_tables.proofs.KindOrders.{content_total, receipt_total}
use Rattle.hub_tables.proofs.Lists.{any_replaced, decide, same_is, same_if}
use Rattle.hub_rules.specs.Sound.{Numbered, Single, same_place, same_gtin, same_sscc}

-- A list with one more element.
module _ {X : Type 0} (cmp : X → X → Ordering) where
  -- an element with a key that none of them has
  pub single_put : (alike : X → X → Bool)
      → ((x y : X) → alike x y ≡ alike y x)
      → (xs : List X) (x : X)
      → Single alike xs
      → list_any (λ y. alike y x) xs ≡ false
      → Single alike (put cmp x xs)
  single_put alike turn [] x a h = (refl, tt)
  single_put alike turn (y ∷ ys) x a h =
      let parts = or_parts (alike y x) (list_any (λ y. alike y x) ys) h in
      elim (is_gt (cmp y x)) as (λ v. Single alike (cond v (x ∷ y ∷ ys) (y ∷ put cmp x ys))) [
        | true ↦ (turned (y ∷ ys) h, a)
        | false ↦ (any_put cmp (alike y) ys x ∙ ap₂ (λ v w. v || (w || false)) a.0 parts.0, single_put alike turn ys x a.1 parts.1)
      ]
    where
      turned : (zs : List X) → list_any (λ y. alike y x) zs ≡ false → list_any (alike x) zs ≡ false
      turned [] g = refl
      turned (z ∷ zs) g =
          let parts = or_parts (alike z x) (list_any (λ y. alike y x) zs) g in
          ap₂ (λ v w. v || w) (turn x z ∙ parts.0) (turned zs parts.1)

any_alike : {X : Type 0} (p q : X → Bool) (xs : List X) → ((x : X) → p x ≡ q x) → list_any p xs ≡ list_any q xs
any_alike p q [] f = refl
any_alike p q (x ∷ xs) f = ap₂ (λ v w. v || w) (f x) (any_alike p q xs f)

pub single_replace : {X : Type 0} (alike : X → X → Bool) (at : X → Bool) (r : X) (xs : List X)
    → ((y z : X) → at y ≡ true → alike r z ≡ alike y z)
    → ((y z : X) → at y ≡ true → alike z y ≡ alike z r)
    → Single alike xs
    → Single alike (replace at r xs)
single_replace alike at r [] left right a = tt
single_replace alike at r (x ∷ xs) left right a = (
  head ∙ any_replaced (alike x) at r xs (λ y e. right y x e) ∙ a.0,
  single_replace alike at r xs left right a.1,
)
  where
    head : list_any (alike (cond (at x) r x)) (replace at r xs) ≡ list_any (alike x) (replace at r xs)
    head =
        elim (at x) as
        (λ v. at x ≡ v → list_any (alike (cond v r x)) (replace at r xs) ≡ list_any (alike x) (replace at r xs))
        [ true ↦ λ e. any_alike (alike r) (alike x) (replace at r xs) (λ z. left x z e) | false ↦ λ e. refl ] refl

-- a greater number after the same first part of a key
after_number : (o : Ordering) (a b : ℕ) → o ≡ Equal → a < b → is_gt (ordering_then o (nat_cmp a b)) ≡ false
after_number o a b e h = ap (λ v. is_gt (ordering_then v (nat_cmp a b))) e ∙ grind (arith, nat_tests)

same_tied : (a b : List ℕ) → a ≡ b → bytes_cmp a b ≡ Equal
same_tied a b e = ap (bytes_cmp a) (sym e) ∙ tied_itself nat_list_cmp_total a

numbered_push : (n : ℕ) (ms : List MailRow) (m : MailRow) → Numbered n ms → m.number ≡ n + length ms + 1 → Numbered n (ms ++ m ∷ [])
numbered_push n [] m a h = (omega arith, tt)
numbered_push n (x ∷ xs) m a h = (a.0, numbered_push (n + 1) xs m a.1 (omega arith))

mail_before : (s : List ℕ) (n : ℕ) (ms : List MailRow) (m : MailRow)
    → Numbered n ms
    → AllByRecursion (λ x. x.supplier ≡ s) ms
    → m.supplier ≡ s
    → m.number ≡ n + length ms + 1
    → AllByRecursion (λ x. is_gt (mail_cmp x m) ≡ false) ms
mail_before s n [] m a own whose h = tt
mail_before s n (x ∷ xs) m a own whose h = (
  after_number (bytes_cmp x.supplier m.supplier) x.number m.number (same_tied x.supplier m.supplier (own.0 ∙ sym whose))
      (omega (arith, a.0, h)),
  mail_before s (n + 1) xs m a.1 own.1 whose (omega arith),
)

-- the supplier's next number comes last
pub numbered_put : (s : List ℕ) (ms : List MailRow) (m : MailRow)
    → Numbered 0 ms
    → AllByRecursion (λ x. x.supplier ≡ s) ms
    → m.supplier ≡ s
    → m.number ≡ length ms + 1
    → Numbered 0 (put mail_cmp m ms)
numbered_put s ms m a own whose h =
    subst (Numbered 0) (sym (put_last mail_cmp ms m (mail_before s 0 ms m a own whose (omega arith))))
    (numbered_push 0 ms m a (omega arith))

-- the total of the contents that pass a test, after one more
pub sent_more : (p : ContentRow → Bool) (cs : List ContentRow) (c : ContentRow)
    → InOrder content_cmp cs
    → p c ≡ true
    → sum_by (λ c. c.quantity) (filter p (put content_cmp c cs)) ≡ sum_by (λ c. c.quantity) (filter p cs) + c.quantity
sent_more p cs c ordered h =
    ap (sum_by (λ c. c.quantity)) (filter_put_in content_total p cs c ordered h)
    ∙ sum_put content_cmp (λ c. c.quantity) (filter p cs) c

pub sent_same : (p : ContentRow → Bool) (cs : List ContentRow) (c : ContentRow)
    → p c ≡ false
    → sum_by (λ c. c.quantity) (filter p (put content_cmp c cs)) ≡ sum_by (λ c. c.quantity) (filter p cs)
sent_same p cs c h = ap (sum_by (λ c. c.quantity)) (filter_put_out content_cmp p cs c h)

-- an element with a key that none of its group has, if keys within each group differ
module _ {X : Type 0} {cmp : X → X → Ordering} (total : IsTotalOrder cmp) (group : X → List ℕ) (alike : X → X → Bool)
    (turn : (x y : X) → alike x y ≡ alike y x) where
  grouped_put : (text : List ℕ) (xs : List X) (x : X)
      → InOrder cmp xs
      → Single alike (filter (λ y. same (group y) text) xs)
      → list_any (λ y. alike y x) (filter (λ y. same (group y) (group x)) xs) ≡ false
      → Single alike (filter (λ y. same (group y) text) (put cmp x xs))
  grouped_put text xs x ordered single fresh =
      elim (decide (same (group x) text)) [
        | inl e ↦
            let here : list_any (λ y. alike y x) (filter (λ y. same (group y) text) xs) ≡ false =
            subst (λ text. list_any (λ y. alike y x) (filter (λ y. same (group y) text) xs) ≡ false) (same_is (group x) text e) fresh in
            subst (Single alike) (sym (filter_put_in total (λ y. same (group y) text) xs x ordered e))
            (single_put cmp alike turn (filter (λ y. same (group y) text) xs) x single here)
        | inr e ↦ subst (Single alike) (sym (filter_put_out cmp (λ y. same (group y) text) xs x e)) single
      ]

-- a content at a place that no content of its pallet has
pub contents_put : (sscc : List ℕ) (cs : List ContentRow) (c : ContentRow)
    → InOrder content_cmp cs
    → Single same_place (filter (λ y. same y.sscc sscc) cs)
    → list_any (λ y. same_place y c) (filter (λ y. same y.sscc c.sscc) cs) ≡ false
    → Single same_place (filter (λ y. same y.sscc sscc) (put content_cmp c cs))
contents_put = grouped_put content_total (λ (c : ContentRow). c.sscc) same_place (λ x y. nat_eq-sym x.place y.place)

-- a receipt of an article that no receipt of its pallet has
pub receipts_put : (sscc : List ℕ) (rs : List ReceiptRow) (r : ReceiptRow)
    → InOrder receipt_cmp rs
    → Single same_gtin (filter (λ y. same y.sscc sscc) rs)
    → list_any (λ y. same_gtin y r) (filter (λ y. same y.sscc r.sscc) rs) ≡ false
    → Single same_gtin (filter (λ y. same y.sscc sscc) (put receipt_cmp r rs))
receipts_put = grouped_put receipt_total (λ (r : ReceiptRow). r.sscc) same_gtin (λ x y. bytes_eq-sym x.gtin y.gtin)

-- if all places on a pallet are below one, no content is at that place
pub none_at : (sscc : List ℕ) (n : ℕ) (cs : List ContentRow) (c : ContentRow)
    → c.place ≡ n + 1
    → AllByRecursion (λ y. same y.sscc sscc ≡ true → y.place ≤ n) cs
    → list_any (λ y. same_place y c) (filter (λ y. same y.sscc sscc) cs) ≡ false
none_at sscc n [] c next below = refl
none_at sscc n (y ∷ cs) c next below =
    elim (same y.sscc sscc) as (λ v. (v ≡ true → y.place ≤ n)
    → list_any (λ y. same_place y c) (cond v (y ∷ filter (λ y. same y.sscc sscc) cs) (filter (λ y. same y.sscc sscc) cs))
    ≡ false) [
      | true ↦ λ lower. let least = lower refl in
          ap₂ (λ v w. v || w) (differs y.place c.place (omega (arith, least, next))) (none_at sscc n cs c next below.1)
      | false ↦ λ lower. none_at sscc n cs c next below.1
    ] below.0
  where
    differs : (a b : ℕ) → a < b → (a == b) ≡ false
    differs a b h = grind (arith, nat_tests)

-- the pallet was received
abbrev pub is_received : PalletRow → Bool
is_received pallet = not (is_announced pallet)

pub received_more : (r : PalletRow) (ps : List PalletRow) (x : List ℕ)
    → is_received r ≡ true
    → list_any (λ p. same p.sscc x && is_received p) ps ≡ true
    → list_any (λ p. same p.sscc x && is_received p) (replace (same_pallet r) r ps) ≡ true
received_more r [] x now h = h
received_more r (p ∷ ps) x now h =
    elim (or_cases (same p.sscc x && is_received p) (list_any (λ p. same p.sscc x && is_received p) ps) h) [
      | inl e ↦
          or_left (kept (cond (same p.sscc r.sscc) r p)) (list_any kept (replace (same_pallet r) r ps))
          (elim (decide (same p.sscc r.sscc)) [
            | inl k ↦
                let here : same r.sscc x ≡ true =
                ap (λ v. same v x) (sym (same_is p.sscc r.sscc k)) ∙ (and_parts (same p.sscc x) (is_received p) e).0 in
                ap (λ v. kept (cond v r p)) k ∙ ap₂ (λ a b. a && b) here now
            | inr k ↦ ap (λ v. kept (cond v r p)) k ∙ e
          ])
      | inr e ↦ or_right (kept (cond (same p.sscc r.sscc) r p)) (list_any kept (replace (same_pallet r) r ps)) (received_more r ps x now e)
    ]
  where
    kept : PalletRow → Bool
    kept p = same p.sscc x && is_received p

pub received_now : (r : PalletRow) (ps : List PalletRow)
    → is_received r ≡ true
    → list_any (λ p. same p.sscc r.sscc) ps ≡ true
    → list_any (λ p. same p.sscc r.sscc && is_received p) (replace (same_pallet r) r ps) ≡ true
received_now r [] now h = h
received_now r (p ∷ ps) now h =
    elim (decide (same p.sscc r.sscc)) [
      | inl e ↦ let itself = same_if r.sscc r.sscc refl in grind (arith, e, itself, now)
      | inr e ↦ let ih = received_now r ps now (ap (λ v. v || list_any (λ p. same p.sscc r.sscc) ps) (sym e) ∙ h) in grind (arith, e, ih)
    ]

none_received : (x : List ℕ) (ps : List PalletRow)
    → list_any (λ q. same x q.sscc) ps ≡ false
    → list_any (λ q. same q.sscc x && is_received q) ps ≡ false
none_received x [] h = refl
none_received x (q ∷ qs) h =
    let apart = or_parts (same x q.sscc) (list_any (λ q. same x q.sscc) qs) h in
    ap₂ (λ v w. (v && is_received q) || w) (bytes_eq-sym q.sscc x ∙ apart.0) (none_received x qs apart.1)

-- the only pallet with the SSCC was not received, so no pallet with it was
pub found_unreceived : (x : List ℕ) (ps : List PalletRow) (p : PalletRow)
    → Single same_sscc ps
    → find (λ p. same p.sscc x) ps ≡ Some p
    → is_received p ≡ false
    → list_any (λ q. same q.sscc x && is_received q) ps ≡ false
found_unreceived x [] p single h new = refl
found_unreceived x (q ∷ qs) p single h new =
    elim (same q.sscc x) as (λ v. same q.sscc x ≡ v
    → cond v (Some q) (find (λ p. same p.sscc x) qs) ≡ Some p
    → ((v && is_received q) || list_any (λ q. same q.sscc x && is_received q) qs) ≡ false) [
      | true ↦ λ e f.
          let one : q ≡ p = cc in
          let rest = none_received x qs (subst (λ n. list_any (λ r. same n r.sscc) qs ≡ false) (same_is q.sscc x e) single.0) in
          ap₂ (λ v w. v || w) (ap is_received one ∙ new) rest
      | false ↦ λ e f. found_unreceived x qs p single.1 f new
    ] refl h
