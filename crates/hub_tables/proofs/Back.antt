-- Shows that if changes fit, the keys rise before each of them and after all.
use Rattle.std.proofs.Common.{◌≡◌, Bool, true, false, cond, List, [], ◌∷◌, refl, sym, ap, ◌∙◌}
use Rattle.std.specs.List.{AllByRecursion}
use Rattle.std.specs.Ordering.{is_gt}
use Rattle.std.specs.declared.cmp.Ordering.{Ordering}
use Rattle.std.specs.declared.cmp.Ordering.TheVariants.{Less}
use Rattle.hub_parties.specs.KeyOrder.{put, replace, Rises}
use Rattle.hub_tables.specs.Change.{apply, apply_all}
use Rattle.hub_tables.specs.Sets.{Rising, RisesAt, Fit, clears}
use Rattle.hub_tables.specs.Tables.{Tables}
use Rattle.hub_tables.specs.declared.change.Change.{Change}
use Rattle.hub_tables.specs.declared.change.Change.TheVariants.{ClearReceipts}
use Rattle.hub_tables.proofs.KeyOrder.{all_put_back}
use Rattle.hub_tables.proofs.KindOrders.{KindRelation, hubs_after, keys_after, prefixes_after, orders_after, lines_after, advices_after}
use Rattle.hub_tables.proofs.KindOrders.{pallets_after, contents_after, receipts_after, remembered_after, mail_after}

pub rises_put_back : {X : Type 0} (cmp : X → X → Ordering) (x : X) (ys : List X) → Rises cmp (put cmp x ys) → Rises cmp ys
rises_put_back cmp x [] h = tt
rises_put_back cmp x (y ∷ ys) h =
    elim (is_gt (cmp y x)) as (λ v. Rises cmp (cond v (x ∷ y ∷ ys) (y ∷ put cmp x ys)) → Rises cmp (y ∷ ys)) [
      | true ↦ λ g. g.1
      | false ↦ λ g. ((all_put_back cmp (λ z. cmp y z ≡ Less) ys x g.0).1, rises_put_back cmp x ys g.1)
    ] h

module _ {X : Type 0} (cmp : X → X → Ordering) (at : X → Bool) (r : X) (alike : (x y : X) →
    cmp (cond (at x) r x) (cond (at y) r y) ≡ cmp x y) where
  below_back : (x : X) (ys : List X) → AllByRecursion (λ z. cmp (cond (at x) r x) z ≡ Less) (replace at r ys) →
      AllByRecursion (λ z. cmp x z ≡ Less) ys
  below_back x [] h = tt
  below_back x (y ∷ ys) h = (sym (alike x y) ∙ h.0, below_back x ys h.1)

  pub rises_replace_back : (xs : List X) → Rises cmp (replace at r xs) → Rises cmp xs
  rises_replace_back [] h = tt
  rises_replace_back (x ∷ xs) h = (below_back x xs h.0, rises_replace_back xs h.1)

abbrev RisesBefore : (X : Type 0) → (X → X → Ordering) → List X → List X → Type 0
RisesBefore X cmp rows after = Rises cmp after → Rises cmp rows

rise_before : KindRelation RisesBefore
rise_before = record {
  stay = λ cmp rows h. h;
  add = λ cmp total rows r. rises_put_back cmp r rows;
  set = rises_replace_back;
}

-- before a change that deletes no rows
uncleared_back : (c : Change) (t : Tables) → clears c ≡ false → Rising (apply c t) → Rising t
uncleared_back c t none h = record {
  hubs = hubs_after rise_before c t h.hubs;
  keys = keys_after rise_before c t h.keys;
  prefixes = prefixes_after rise_before c t h.prefixes;
  orders = orders_after rise_before c t h.orders;
  lines = lines_after rise_before c t h.lines;
  advices = advices_after rise_before c t h.advices;
  pallets = pallets_after rise_before c t h.pallets;
  contents = contents_after rise_before c t h.contents;
  receipts = receipts_after rise_before c t (λ sscc e. let both : false ≡ true = sym none ∙ ap clears e in absurd (cc)) h.receipts;
  remembered = remembered_after rise_before c t h.remembered;
  mail = mail_after rise_before c t h.mail;
}

rising_back : (c : Change) (t : Tables) → RisesAt c t → Rising (apply c t) → Rising t
rising_back (ClearReceipts sscc) t at h = at
rising_back c t at h = uncleared_back c t refl h

-- before all changes
pub fit_before : (cs : List Change) (t : Tables) → Fit cs t → Rising t
fit_before [] t fit = fit
fit_before (c ∷ cs) t fit = rising_back c t fit.0 (fit_before cs (apply c t) fit.1)

-- after all changes
pub fit_after : (cs : List Change) (t : Tables) → Fit cs t → Rising (apply_all cs t)
fit_after [] t fit = fit
fit_after (c ∷ cs) t fit = fit_after cs (apply c t) fit.1

-- if the keys rise, they also do before a change that deletes rows
pub rises_at : (c : Change) (t : Tables) → Rising t → RisesAt c t
rises_at (ClearReceipts sscc) t rising = rising
rises_at _ t rising = tt

-- changes that delete no rows fit if the keys rise after all of them
pub fit_uncleared : (cs : List Change) (t : Tables) → AllByRecursion (λ c. clears c ≡ false) cs → Rising (apply_all cs t) → Fit cs t
fit_uncleared [] t none rising = rising
fit_uncleared (c ∷ cs) t none rising = (uncleared c none.0, fit_uncleared cs (apply c t) none.1 rising)
  where
    uncleared : (c : Change) → clears c ≡ false → RisesAt c t
    uncleared (ClearReceipts sscc) e = cc
    uncleared _ e = tt
