-- Shows each step and each run as one GLN sees it.
use Rattle.std.proofs.Common.{◌≡◌, ℕ, true, false, if◌then◌else◌, inl, inr, List, [], ◌∷◌, ◌++◌, Option, Some, None, refl, sym}
use Rattle.std.proofs.Common.{◌∙◌, ap, subst, append_assoc}
use Rattle.hub_parties.specs.Rows.{Parties, RegisterRows, supplier_row}
use Rattle.hub_parties.specs.declared.row.SupplierRow.{SupplierRow}
use Rattle.hub_tables.specs.Register.{suppliers_of, register_of, parties_in, row_at}
use Rattle.hub_tables.specs.Rows.{same}
use Rattle.hub_tables.specs.Tables.{Tables, view}
use Rattle.hub_tables.proofs.Enrolling.{own_row}
use Rattle.hub_tables.proofs.Lists.{decide, same_is}
use Rattle.hub_rules.specs.Laws.{SoundHub}
use Rattle.hub_rules.proofs.Joining.{joined_by}
use Rattle.hub_rules.proofs.Prefixes.{gln_found}
use Rattle.hub_law.specs.Alone.{Item, Own, own_request, own_step, fold, own_items, retailer_items, items_of_input, items}
use Rattle.hub_law.specs.Laws.{RunIsOwn, IsOther}
use Rattle.hub_law.specs.Machine.{Inputs, shared_step, shared_run, replies_to}
use Rattle.hub_law.specs.Mark.{Mark, replied}
use Rattle.hub_law.specs.Replies.{denied}
use Rattle.hub_law.specs.Requests.{retailer_request}
use Rattle.hub_requests.specs.declared.reply.Reply.{Reply}
use Rattle.hub_requests.specs.declared.request.Input.{Input}
use Rattle.hub_law.proofs.Callers.{step_by, items_by, is_retailers, step_is, items_are, retailer_asks}
use Rattle.hub_law.proofs.Going.{step_goes, parties_stay}
use Rattle.hub_law.proofs.Retailers.{Moves, still, retailer_moves}
use Rattle.hub_law.proofs.Steps.{unlike, supplier_alike}

-- items after others
fold_append : (parties : Parties) (gln : List ℕ) (first second : List Item) (state : Tables)
    → (fold parties gln (first ++ second) state).0
    ≡ (fold parties gln first state).0 ++ (fold parties gln second (fold parties gln first state).1).0
fold_append parties gln [] second state = refl
fold_append parties gln (item ∷ first) second state =
    let one = own_step parties gln item state in
    ap (λ replies. one.0 ++ replies) (fold_append parties gln first second one.1)
    ∙ sym (append_assoc one.0 (fold parties gln first one.1).0 (fold parties gln second (fold parties gln first one.1).1).0)

fold_append_after : (parties : Parties) (gln : List ℕ) (first second : List Item) (state : Tables)
    → (fold parties gln (first ++ second) state).1 ≡ (fold parties gln second (fold parties gln first state).1).1
fold_append_after parties gln [] second state = refl
fold_append_after parties gln (item ∷ first) second state = fold_append_after parties gln first second (own_step parties gln item state).1

-- after a step the GLN sees its items done; it gets a reply only to its own input, and exactly that reply
pub record SeesOneStep (gln : List ℕ) (t : Tables) (input : Input) (after : Reply × Tables) (items : List Item) : Type 0 where
  pub seen : view gln after.1 ≡ (fold (parties_in t) gln items (view gln t)).1
  pub told : same input.caller gln ≡ true → (fold (parties_in t) gln items (view gln t)).0 ≡ after.0 ∷ []
  pub silent : same input.caller gln ≡ false → (fold (parties_in t) gln items (view gln t)).0 ≡ []

module _ (gln : List ℕ) (input : Input) (mark : Mark) (t : Tables) (here : SoundHub t) where
  abbrev R : RegisterRows
  R = register_of t

  abbrev S : List SupplierRow
  S = suppliers_of t

  quiet : (after : Reply × Tables) (items : List Item)
      → same input.caller gln ≡ false
      → Moves (parties_in t) gln (view gln t) after.1 items
      → SeesOneStep gln t input after items
  quiet after items e moves = record {
    seen = moves.seen;
    told = λ matches. let both : true ≡ false = sym matches ∙ e in absurd (cc);
    silent = λ _. moves.silent;
  }

  -- its own input, by its row
  its_own : (o : Option SupplierRow)
      → row_at gln t ≡ o
      → same input.caller gln ≡ true
      → (after : Reply × Tables)
      → view gln after.1 ≡ (own_request (parties_in t) o input mark (view gln t)).1
      → after.0 ≡ (own_request (parties_in t) o input mark (view gln t)).0
      → SeesOneStep gln t input after (Own input mark ∷ [])
  its_own o known e after seen told =
      let row : o ≡ row_at gln (view gln t) = sym known ∙ sym (own_row gln t) in
      record {
        seen = seen ∙ ap (λ o. (own_request (parties_in t) o input mark (view gln t)).1) row;
        told = λ _. ap (λ reply. reply ∷ []) (sym (told ∙ ap (λ o. (own_request (parties_in t) o input mark (view gln t)).0) row));
        silent = λ differs. let both : true ≡ false = sym e ∙ differs in absurd (cc);
      }

  asks_itself : IsOther gln t
      → same input.caller gln ≡ true
      → (o : Option SupplierRow)
      → row_at gln t ≡ o
      → SeesOneStep gln t input (step_by R o input mark t) (items_by gln R o input mark)
  asks_itself other e (Some w) known =
      let whose : w.gln ≡ gln = gln_found S gln w known in
      let found : supplier_row S w.gln ≡ Some w = ap (supplier_row S) whose ∙ known in
      let alike = supplier_alike S here.register.right.prefixes_free (parties_in t) w found input mark t here.sound in
      subst (λ v. SeesOneStep gln t input (step_by R (Some w) input mark t) (if v then Own input mark ∷ [] else [])) (sym e)
      (its_own (Some w) known e (step_by R (Some w) input mark t)
      (subst (λ n. view n (step_by R (Some w) input mark t).1 ≡ (own_request (parties_in t) (Some w) input mark (view n t)).1)
      whose alike.apart.seen)
      (subst (λ n. (step_by R (Some w) input mark t).0 ≡ (own_request (parties_in t) (Some w) input mark (view n t)).0)
      whose alike.told))
  asks_itself other e None known =
      let is : input.caller ≡ gln = same_is input.caller gln e in
      elim (is_retailers R input) as (λ v. is_retailers R input ≡ v
      → SeesOneStep gln t input
      (if v then retailer_request R input.moment mark input.request t else replied mark denied t)
      (if v then retailer_items gln R input.moment mark input.request else own_items gln input mark)) [
        | true ↦ λ retailers. absurd (other (sym is ∙ sym (retailer_asks R input retailers)))
        | false ↦ λ _.
            subst (λ v. SeesOneStep gln t input (replied mark denied t) (if v then Own input mark ∷ [] else [])) (sym e)
            (its_own None known e (replied mark denied t) refl refl)
      ] refl

  anothers : same input.caller gln ≡ false
      → (o : Option SupplierRow)
      → supplier_row S input.caller ≡ o
      → Moves (parties_in t) gln (view gln t) (step_by R o input mark t).1 (items_by gln R o input mark)
  anothers e (Some w) h =
      let whose = gln_found S input.caller w h in
      let unseen = (supplier_alike S here.register.right.prefixes_free (parties_in t) w
      (ap (supplier_row S) whose ∙ h) input mark t here.sound).apart.unseen gln (unlike S input.caller w gln h e) in
      subst (λ v. Moves (parties_in t) gln (view gln t) (step_by R (Some w) input mark t).1
      (if v then Own input mark ∷ [] else [])) (sym e) (record { seen = unseen; silent = refl })
  anothers e None h =
      elim (is_retailers R input) as (λ v. Moves (parties_in t) gln (view gln t) (if v
      then retailer_request R input.moment mark input.request t
      else replied mark denied t).1
      (if v then retailer_items gln R input.moment mark input.request else own_items gln input mark)) [
        | true ↦ retailer_moves R here.register.right.prefixes_free gln input.moment mark input.request t here.sound refl
            (λ row may changes accepted. joined_by row t here may changes accepted)
        | false ↦ subst (λ v. Moves (parties_in t) gln (view gln t) t (if v then Own input mark ∷ [] else [])) (sym e)
            (still (parties_in t) gln t)
      ]

  by_its_row : IsOther gln t
      → SeesOneStep gln t input (step_by R (supplier_row S input.caller) input mark t)
      (items_by gln R (supplier_row S input.caller) input mark)
  by_its_row other =
      elim (decide (same input.caller gln)) [
        | inl e ↦
            let one : supplier_row S input.caller ≡ row_at gln t = ap (supplier_row S) (same_is input.caller gln e) in
            subst (λ o. SeesOneStep gln t input (step_by R o input mark t) (items_by gln R o input mark)) (sym one)
            (asks_itself other e (row_at gln t) refl)
        | inr e ↦ quiet _ _ e (anothers e (supplier_row S input.caller) refl)
      ]

  pub one_step : IsOther gln t → SeesOneStep gln t input (shared_step t input mark) (items_of_input gln t input mark)
  one_step other =
      subst (λ all. SeesOneStep gln t input (shared_step t input mark) all) (sym (items_are R input mark gln))
      (subst (λ after. SeesOneStep gln t input after (items_by gln R (supplier_row S input.caller) input mark))
      (sym (step_is R input mark t)) (by_its_row other))

-- the retailer stays the same
pub other_stays : (gln : List ℕ) (t after : Tables) → parties_in after ≡ parties_in t → IsOther gln t → IsOther gln after
other_stays gln t after parties other is = other (is ∙ ap (λ (p : Parties). p.retailer) parties)

pub whole_run : (gln : List ℕ) (inputs : Inputs) (t : Tables) → SoundHub t → IsOther gln t → RunIsOwn gln t inputs
whole_run gln [] t here other = record { seen = refl; told = refl }
whole_run gln (x ∷ xs) t here other =
    let one = one_step gln x.0 x.1 t here other in
    let after = shared_step t x.0 x.1 in
    let goes = step_goes t here x.0 x.1 in
    let parties = parties_stay t after.1 goes in
    let rest = whole_run gln xs after.1 goes.sound (other_stays gln t after.1 parties other) in
    let run : List Item → Tables → List Reply × Tables = fold (parties_in t) gln in
    let now = items_of_input gln t x.0 x.1 in
    let later = items gln after.1 xs in
    let state = view gln t in
    let replies = (shared_run after.1 xs).0 in
    let heard : (run later (run now state).1).0 ≡ replies_to gln xs replies =
    ap (λ rows. (run later rows).0) (sym one.seen)
    ∙ ap (λ p. (fold p gln later (view gln after.1)).0) (sym parties)
    ∙ sym rest.told in
    let all : (run (now ++ later) state).0 ≡ (run now state).0 ++ replies_to gln xs replies =
    fold_append (parties_in t) gln now later state ∙ ap (λ rest. (run now state).0 ++ rest) heard in
    record {
      seen = rest.seen
          ∙ ap (λ p. (fold p gln later (view gln after.1)).1) parties
          ∙ ap (λ rows. (run later rows).1) one.seen
          ∙ sym (fold_append_after (parties_in t) gln now later state);
      told = elim (decide (same x.0.caller gln)) [
        | inl e ↦ ap (λ v. if v then after.0 ∷ replies_to gln xs replies else replies_to gln xs replies) e
            ∙ sym (all ∙ ap (λ first. first ++ replies_to gln xs replies) (one.told e))
        | inr e ↦ ap (λ v. if v then after.0 ∷ replies_to gln xs replies else replies_to gln xs replies) e
            ∙ sym (all ∙ ap (λ first. first ++ replies_to gln xs replies) (one.silent e))
      ];
    }
